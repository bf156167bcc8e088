-- A table of the variables that equations are solved for, or aren't.
use Rattle.std.proofs.Common.{◌≡◌, ◌∙◌, ◌||◌, ◌&&◌, ◌++◌, [], Bool, List, false, flat_map, not, true, ap, refl, sym}
use Rattle.std.proofs.lemmas.List.Folds.{list_any-append}
use Rattle.cyp_goal.proofs.Occurring.{alone, flat_alone}
use Rattle.cyp_goal.specs.Solving.{is_logical}
use Rattle.cyp_goal.specs.Turns.{HasVars, SameNames}
use Rattle.cyp_heap.specs.declared.goal.Goal.{Goal}
use Rattle.cyp_heap.specs.declared.goal.Node.{Node}
use Rattle.cyp_term.proofs.Equality.{Decides-var_eq}
use Rattle.cyp_term.proofs.Repeats.{any_without_repeats, with_all_new_append}
use Rattle.cyp_term.specs.Terms.{var_eq, var_in, with_all_new}
use Rattle.cyp_term.specs.declared.term.Var.{Var}

-- the table to which the variables were added has them
pub has_added : (old new vs : List Var) → old ≡ [] → new ≡ with_all_new var_eq old (flat_map alone vs) → HasVars new vs
has_added old new vs none added v =
    ap (var_in v) (added ∙ (λ i. with_all_new var_eq (none i) (flat_alone vs i))) ∙ any_without_repeats var_eq Decides-var_eq (var_eq v) vs

-- and so with two lists, one after the other
pub has_both : (old more new vs ws : List Var) → old ≡ [] → more ≡ with_all_new var_eq old (flat_map alone vs) → new ≡ with_all_new var_eq more (flat_map alone ws) → HasVars new (vs ++ ws)
has_both old more new vs ws none first second =
    has_added old new (vs ++ ws) none
    (second ∙ (λ i. with_all_new var_eq (first i) (flat_alone ws i)) ∙ (λ i. with_all_new var_eq (with_all_new var_eq old (flat_alone vs i)) ws) ∙ sym (with_all_new_append var_eq old vs ws)
    ∙ ap (with_all_new var_eq old) (sym (flat_alone (vs ++ ws))))

neither : (a b : Bool) → not (a || b) ≡ (not a && not b)
neither true b = refl
neither false b = refl

-- the variables that aren't known are the logical ones
pub logical_known : (g : Goal) (us : List Var) → HasVars us (g.program ++ g.exist) → (v : Var) → not (var_in v us) ≡ is_logical g v
logical_known g us has v = ap not (has v ∙ list_any-append (var_eq v) g.program g.exist) ∙ neither (var_in v g.program) (var_in v g.exist)

-- a turn doesn't change them
pub known_stay : (n m : Node) (us : List Var) → SameNames n m → HasVars us (n.goal.program ++ n.goal.exist) → HasVars us (m.goal.program ++ m.goal.exist)
known_stay n m us same has v = has v ∙ (λ i. var_in v (sym same.program i ++ sym same.exist i))

pub exist_stay : (n m : Node) (us : List Var) → SameNames n m → HasVars us n.goal.exist → HasVars us m.goal.exist
exist_stay n m us same has v = has v ∙ ap (var_in v) (sym same.exist)
