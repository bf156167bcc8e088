use Rattle.cyp_tests_print.proofs.PrintedProofs.{with_part}
use Rattle.cyp_step.specs.declared.rule.Rule.TheVariants.{ByWrite}
use Rattle.cyp_tests_print.specs.PrintedExamples.{before, frame_proof}
use Rattle.cyp_tests_print.proofs.print.written.Goals as goal

pub returns : goal.returns
returns c =
    with_part c.in_ok-found.found c.in_ok-framed.framed c.in_ok-before.field-0 before (ByWrite 0) c.in_ok-parts.parts frame_proof
    c.in_ok-found.ensures c.in_ok-before.ensures c.in_ok-parts.ensures c.in_ok-framed.ensures
