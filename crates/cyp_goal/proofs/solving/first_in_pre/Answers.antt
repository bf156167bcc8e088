use Rattle.std.proofs.Common.{◌∙◌, ap}
use Rattle.cyp_goal.proofs.KnownVars.{logical_known}
use Rattle.cyp_goal.proofs.SolvingTurns.{first_by_same}
use Rattle.cyp_goal.specs.SolvedSides.{solves}
use Rattle.cyp_goal.specs.Solving.{is_logical, solved_eq}
use Rattle.cyp_goal.specs.declared.equations.Unknowns.TheVariants.{Logical}
use Rattle.cyp_heap.specs.declared.goal.Node.{Node}
use Rattle.cyp_goal.proofs.solving.first_in_pre.Goals as goal

pub returns : goal.returns
returns c =
    let n = c.args.draft.now in
    let lits = c.as_slice.ensures ∙ ap (λ (m : Node). m.goal.pure_pre) c.draft.view_is in
    first_by_same (solves (Logical c.args.known)) (solved_eq (is_logical n.goal)) c.as_slice.result.now n.goal.pure_pre c.first.result
    (ap solved_eq (λ i v. logical_known n.goal c.args.known.now c.requires v i)) lits c.first.ensures
