-- The faults of program texts, and which of several comes first.
use Rattle.std.specs.Prelude.{◌&&◌, ◌==◌, ◌||◌, Bool, List, None, Option, Some, [], cond, nat_lt, ℕ, ◌∷◌}
pub use Rattle.cyp_prog.specs.declared.fault.ProgFault.{ProgFault}
pub use Rattle.cyp_prog.specs.declared.fault.ProgKind.{ProgKind}
pub use Rattle.cyp_prog.specs.declared.fault.ProgKind.TheVariants.{BadByte, DuplicateName, Expected, NumberRange, TooLarge, UnknownName, WrongArity}

-- the kinds in order
abbrev pub kind_number : ProgKind → ℕ
kind_number BadByte = 1
kind_number Expected = 2
kind_number NumberRange = 3
kind_number UnknownName = 4
kind_number DuplicateName = 5
kind_number WrongArity = 6
kind_number TooLarge = 7

-- the lesser place comes first, and at one place the kind that stands first
abbrev pub comes_before : ProgFault → ProgFault → Bool
comes_before a b = nat_lt a.place b.place || ((a.place == b.place) && nat_lt (kind_number a.kind) (kind_number b.kind))

-- the earlier of a fault and another, if there is another
abbrev pub earlier : ProgFault → Option ProgFault → Option ProgFault
earlier a None = Some a
earlier a (Some b) = Some (cond (comes_before b a) b a)

-- the first of these faults
abbrev pub least_fault : List ProgFault → Option ProgFault
least_fault [] = None
least_fault (a ∷ fs) = earlier a (least_fault fs)

-- the sooner of two faults, if there are any
abbrev pub sooner : Option ProgFault → Option ProgFault → Option ProgFault
sooner None b = b
sooner (Some a) b = earlier a b

-- no fault where the test holds, else this one
abbrev pub unless : Bool → ProgKind → ℕ → List ProgFault
unless holds kind place = cond holds [] (record { kind = kind; place = place } ∷ [])
