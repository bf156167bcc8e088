-- Pick is sound: the postcondition asks more than before.
use Rattle.std.proofs.Common.{sym, [], ◌∷◌, List, subst}
use Rattle.std.proofs.lemmas.Option.{same_Some}
use Rattle.cyp_heap.specs.declared.goal.Node.{Node}
use Rattle.cyp_kernel.proofs.Allowed.{taken_some, where_true_parts}
use Rattle.cyp_kernel.proofs.BodyRuns.{one_premise, same_post}
use Rattle.cyp_kernel.proofs.GoalFacts.{true_left}
use Rattle.cyp_kernel.specs.RuleLaws.{AllMeet, RuleLaw}
use Rattle.cyp_step.specs.Changes.{add_post, post_of}
use Rattle.cyp_step.specs.FlatRules.{equal_vars, first_exist}
use Rattle.cyp_step.specs.declared.rule.Rule.TheVariants.{ByPick}
use Rattle.cyp_term.specs.declared.term.Var.{Var}

pub by_pick : (v : Var) → RuleLaw (ByPick v)
by_pick v ps n ms bs names procs next k steady formed naming is callees all s h ns vs pre named m t le r =
    let a = taken_some (first_exist n.goal) _ ms is in
    let b = where_true_parts _ _ ms a.2 in
    let node : Node = add_post n (equal_vars a.0 v ∷ []) (post_of n) in
    let premise = one_premise ps names k node bs (subst (λ (xs : List Node). AllMeet ps names k xs bs) (sym (same_Some _ ms b.1)) all) in
    same_post n.preds node.goal n.goal s s t (λ p. (p.0, p.1, p.2, (true_left p.0 n.goal.pure_post (equal_vars a.0 v ∷ []) p.3.0, p.3.1, p.3.2)))
    (premise s h ns vs pre named m t le r)
