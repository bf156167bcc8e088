use Rattle.std.proofs.Common.{◌≡◌, ◌-◌, length}
use Rattle.cyp_goal.specs.Solving.{solve_post}
use Rattle.cyp_goal.specs.Turns.{HasVars}
use Rattle.cyp_goal.proofs.solving.solve_post.Given as goal

abbrev pub invariant-loop-turn : goal.invariant-loop-turn
invariant-loop-turn l = record {
  turns : solve_post (length l.fn.draft.goal.pure_post - l._turn) l.draft ≡ solve_post (length l.fn.draft.goal.pure_post) l.fn.draft;
  known : HasVars l.exist l.draft.goal.exist;
}
