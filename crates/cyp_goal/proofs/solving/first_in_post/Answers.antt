use Rattle.std.proofs.Common.{◌∙◌, ap}
use Rattle.cyp_goal.proofs.SolvingTurns.{first_by_same}
use Rattle.cyp_goal.specs.SolvedSides.{solves}
use Rattle.cyp_goal.specs.Solving.{solved_any}
use Rattle.cyp_goal.specs.declared.equations.Unknowns.TheVariants.{Existential}
use Rattle.cyp_heap.specs.declared.goal.Node.{Node}
use Rattle.cyp_term.specs.Terms.{var_in}
use Rattle.cyp_goal.proofs.solving.first_in_post.Goals as goal

pub returns : goal.returns
returns c =
    let n = c.args.draft.now in
    let lits = c.as_slice.ensures ∙ ap (λ (m : Node). m.goal.pure_post) c.draft.view_is in
    first_by_same (solves (Existential c.args.exist)) (solved_any (λ v. var_in v n.goal.exist)) c.as_slice.result.now n.goal.pure_post c.first.result
    (ap solved_any (λ i v. c.requires v i)) lits c.first.ensures
