-- What one step of the walk over the positions of a match leaves.
use Rattle.std.specs.Prelude.{◌≡◌, ◌||◌, Bool, Err, Ok, Result, true}
use Rattle.std.specs.List.{list_any}
use Rattle.cyp_term.specs.Terms.{wide_lit, wide_subst, wide_term}
use Rattle.cyp_term.specs.declared.fail.Fail.{Fail}
use Rattle.cyp_term.specs.declared.fail.Fail.TheVariants.{Named, NoMemory}
use Rattle.cyp_unify.specs.Matches.{Walk}
use Rattle.cyp_unify.specs.declared.found.Mend.{Mend}

-- an offset in a binding, an equality or a store passes 2 ^ 32
abbrev pub wide_walk : Walk → Bool
wide_walk w = wide_subst w.by || list_any wide_lit w.need || list_any (λ (m : Mend). wide_term m.value) w.mends

-- what is found is as expected; it is refused only where an offset in that passes 2 ^ 32
abbrev pub Finds : {A E : Type 0} → Walk → Walk → Result A (Fail E) → Type 0
Finds expected found (Ok x) = found ≡ expected
Finds expected found (Err (Named e)) = wide_walk expected ≡ true
Finds expected found (Err NoMemory) = Unit {0}
