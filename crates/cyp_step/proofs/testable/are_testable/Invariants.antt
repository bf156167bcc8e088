use Rattle.std.proofs.Common.{◌≡◌, drop}
use Rattle.std.specs.List.{list_all}
use Rattle.cyp_pred.specs.declared.unfolded.Unfolded.{Unfolded}
use Rattle.cyp_step.specs.Unfolding.{is_testable}
use Rattle.cyp_step.proofs.testable.are_testable.Given as goal

abbrev pub invariant-loop-entry : goal.invariant-loop-entry
invariant-loop-entry l =
    list_all (λ (u : Unfolded). is_testable l.goal u.guard) (drop l.entry-index l.entries) ≡ list_all (λ (u : Unfolded). is_testable l.goal u.guard) l.entries
