-- Options that are something, and faults for want of something.
use Rattle.std.proofs.Common.{Bool, None, Option, Some, ap, false, is_none, is_some, refl, true, ℕ, ℤ, ◌∙◌, ◌≡◌}
use Rattle.std.proofs.lemmas.Bool.{false≢true}
use Rattle.cyp_heap.specs.Stores.{Store}
use Rattle.cyp_machine.specs.Faults.{is_whole, unless_there}
use Rattle.cyp_machine.specs.Steps.{addresses, has_all}
use Rattle.cyp_machine.specs.declared.cause.Cause.{Cause}

-- an option that is something is some value
pub value_of : {A : Type 0} (o : Option A) → is_some o ≡ true → (x : A) × (o ≡ Some x)
value_of None h = absurd (false≢true h)
value_of (Some x) h = (x, refl)

pub some_there : {A : Type 0} (o : Option A) (x : A) → o ≡ Some x → is_some o ≡ true
some_there None x h = cc
some_there (Some y) x h = refl

pub none_of : {A : Type 0} (o : Option A) → is_none o ≡ true → o ≡ None
none_of None h = refl
none_of (Some x) h = absurd (false≢true h)

-- an option is one value at most
pub same_some : {A : Type 0} (o : Option A) (x y : A) → o ≡ Some x → o ≡ Some y → x ≡ y
same_some o x y p q = cc

-- without a fault what is needed is there
pub there : (b : Bool) (c : Cause) → unless_there b c ≡ None → b ≡ true
there true c h = refl
there false c h = cc

pub no_fault : (b : Bool) (c : Cause) → b ≡ true → unless_there b c ≡ None
no_fault true c h = refl
no_fault false c h = absurd (false≢true h)

-- a block that is whole is there with its cells
pub whole_parts : (h : Store) (a : ℤ) (o : Option ℕ) → is_whole h a o ≡ true → (n : ℕ) × (o ≡ Some n) × (has_all h.cells (addresses a n) ≡ true)
whole_parts h a None w = absurd (false≢true w)
whole_parts h a (Some n) w = (n, refl, w)

pub whole_from : (h : Store) (a : ℤ) (o : Option ℕ) (n : ℕ) → o ≡ Some n → has_all h.cells (addresses a n) ≡ true → is_whole h a o ≡ true
whole_from h a o n e w = ap (is_whole h a) e ∙ w
