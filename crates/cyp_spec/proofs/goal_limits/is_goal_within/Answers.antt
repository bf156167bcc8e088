use Rattle.std.proofs.Common.{◌∙◌, List, ap, length, nat_le}
use Rattle.cyp_spec.specs.GoalLimits.{is_goal_with}
use Rattle.cyp_term.specs.Terms.{term_eq, var_eq, without_repeats}
use Rattle.cyp_term.specs.declared.term.Term.{Term}
use Rattle.cyp_term.specs.declared.term.Var.{Var}
use Rattle.cyp_spec.proofs.goal_limits.is_goal_within.Goals as goal

pub returns : goal.returns
returns c =
    let vars = c.as_slice-3.ensures.value ∙ c.in_ok-vars.ensures ∙ ap (λ (vs : List Var). without_repeats var_eq vs) (c.as_slice.ensures.value ∙ c.in_ok-all.ensures) in
    let few = c.in_ok-few.ensures ∙ ap (λ (ts : List Term). nat_le (length (without_repeats term_eq ts)) 32) (c.as_slice-2.ensures.value ∙ c.in_ok-terms.ensures) in
    c.is_within.ensures ∙ (λ i. is_goal_with c.args.goal.now (vars i) (few i))
