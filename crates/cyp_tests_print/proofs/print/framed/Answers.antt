use Rattle.cyp_tests_print.proofs.PrintedProofs.{with_part}
use Rattle.cyp_step.specs.declared.rule.Rule.TheVariants.{ByFrame}
use Rattle.cyp_tests_print.specs.PrintedExamples.{end_proof, stored}
use Rattle.cyp_tests_print.proofs.print.framed.Goals as goal

pub returns : goal.returns
returns c =
    with_part c.in_ok-found.found c.in_ok-last.last c.in_ok-stored.field-0 stored (ByFrame 0) c.in_ok-parts.parts end_proof
    c.in_ok-found.ensures c.in_ok-stored.ensures c.in_ok-parts.ensures c.in_ok-last.ensures
