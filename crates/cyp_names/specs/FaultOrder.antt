-- The least fault.
use Rattle.std.specs.Prelude.{Bool, List, None, Option, Some, [], cond, nat_lt, ◌&&◌, ◌==◌, ◌||◌, ◌∷◌}
use Rattle.cyp_lex.specs.FaultNumber.{fault_number}
use Rattle.cyp_lex.specs.declared.fault.Fault.{Fault}

-- at a lesser place, or at one place of the lesser number
abbrev pub is_before : Fault → Fault → Bool
is_before a b = nat_lt a.place b.place || ((a.place == b.place) && nat_lt (fault_number a.kind) (fault_number b.kind))

-- the fault, unless the other one is before it
abbrev pub lesser : Fault → Option Fault → Fault
lesser a None = a
lesser a (Some b) = cond (is_before b a) b a

-- the least of the faults, if there is one
abbrev pub least_fault : List Fault → Option Fault
least_fault [] = None
least_fault (a ∷ fs) = Some (lesser a (least_fault fs))
