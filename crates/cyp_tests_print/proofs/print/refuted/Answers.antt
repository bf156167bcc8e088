use Rattle.cyp_tests_print.proofs.PrintedProofs.{without_part}
use Rattle.cyp_step.specs.declared.rule.Rule.TheVariants.{ByInconsistent}
use Rattle.cyp_tests_print.specs.PrintedExamples.{impossible}
use Rattle.cyp_tests_print.proofs.print.refuted.Goals as goal

pub returns : goal.returns
returns c = without_part c.in_ok-found.found c.in_ok-impossible.field-0 impossible ByInconsistent c.none.result c.in_ok-found.ensures c.in_ok-impossible.ensures c.none.ensures
