use Rattle.std.proofs.Common.{◌≡◌, ◌++◌, ◌-◌, length}
use Rattle.cyp_goal.specs.Solving.{solve_pre}
use Rattle.cyp_goal.specs.Turns.{HasVars}
use Rattle.cyp_goal.proofs.solving.solve_pre.Given as goal

abbrev pub invariant-loop-turn : goal.invariant-loop-turn
invariant-loop-turn l = record {
  turns : solve_pre (length l.fn.draft.goal.pure_pre - l._turn) l.draft ≡ solve_pre (length l.fn.draft.goal.pure_pre) l.fn.draft;
  known : HasVars l.known (l.draft.goal.program ++ l.draft.goal.exist);
}
