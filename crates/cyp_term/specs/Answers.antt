-- What a call answers: a value, the refusal that it names, or want of memory, which may come at any time.
use Rattle.std.specs.Prelude.{Bool, Err, None, Ok, Option, Result, Some, false, true, ◌≡◌}
use Rattle.cyp_term.specs.declared.fail.Fail.{Fail}
use Rattle.cyp_term.specs.declared.fail.Fail.TheVariants.{Named, NoMemory}

-- the refusal exactly where the test passes, and else this value
abbrev pub AnswersUnless : {A E : Type 0} → Bool → A → Result A E → Type 0
AnswersUnless refused x (Ok y) = (refused ≡ false) × (y ≡ x)
AnswersUnless refused x (Err e) = refused ≡ true

-- the refusal exactly where the test passes, and else this value, unless memory ran out
abbrev pub GivesUnless : {A E : Type 0} → Bool → A → Result A (Fail E) → Type 0
GivesUnless refused x (Ok y) = (refused ≡ false) × (y ≡ x)
GivesUnless refused x (Err (Named e)) = refused ≡ true
GivesUnless refused x (Err NoMemory) = Unit {0}

-- the value where there is one, and the refusal exactly where there is none, unless memory ran out
abbrev pub GivesWhere : {A E : Type 0} → Option A → Result A (Fail E) → Type 0
GivesWhere given (Ok y) = given ≡ Some y
GivesWhere given (Err (Named e)) = given ≡ None
GivesWhere given (Err NoMemory) = Unit {0}
