-- Variables of a union stay of sort Set where more are added.
use Rattle.std.proofs.Common.{◌≡◌, ◌<◌, ℕ, ◌+◌, List, [], ◌∷◌, ◌++◌, Bool, true, false, cond, drop, length, subst}
use Rattle.std.specs.List.{list_any}
use Rattle.cyp_term.specs.declared.term.Sort.TheVariants.{Int, Set}
use Rattle.cyp_term.specs.declared.term.Var.{Var}
use Rattle.cyp_term.specs.SetTermValue.{AllSets}
use Rattle.cyp_term.specs.Terms.{var_eq, with_all_new, with_new}
use Rattle.cyp_term.proofs.Turns.{drop_here}

AllSets_append : (vs ws : List Var) → AllSets vs → AllSets ws → AllSets (vs ++ ws)
AllSets_append [] ws h k = k
AllSets_append (v ∷ vs) ws h k = (h.0, AllSets_append vs ws h.1 k)

new_by : (t : Bool) (vs : List Var) (v : Var) → AllSets vs → v.sort ≡ Set → AllSets (cond t vs (vs ++ v ∷ []))
new_by true vs v h k = h
new_by false vs v h k = AllSets_append vs (v ∷ []) h (k, tt)

pub AllSets_with_new : (vs : List Var) (v : Var) → AllSets vs → v.sort ≡ Set → AllSets (with_new var_eq vs v)
AllSets_with_new vs v h k = new_by (list_any (var_eq v) vs) vs v h k

pub AllSets_with_all_new : (vs ws : List Var) → AllSets vs → AllSets ws → AllSets (with_all_new var_eq vs ws)
AllSets_with_all_new vs [] h k = h
AllSets_with_all_new vs (w ∷ ws) h k = AllSets_with_all_new (with_new var_eq vs w) ws (AllSets_with_new vs w h k.0) k.1

pub AllSets_rest : (vs : List Var) (i : ℕ) → i < length vs → AllSets (drop i vs) → AllSets (drop (i + 1) vs)
AllSets_rest vs i lt h = let d : Var = record { sort = Int; number = 0 } in (subst AllSets (drop_here vs i d lt) h).1
