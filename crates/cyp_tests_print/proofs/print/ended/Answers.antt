use Rattle.cyp_tests_print.proofs.PrintedProofs.{without_part}
use Rattle.cyp_step.specs.declared.rule.Rule.TheVariants.{ByEmp}
use Rattle.cyp_tests_print.specs.PrintedExamples.{done}
use Rattle.cyp_tests_print.proofs.print.ended.Goals as goal

pub returns : goal.returns
returns c = without_part c.in_ok-found.found c.in_ok-done.field-0 done ByEmp c.none.result c.in_ok-found.ensures c.in_ok-done.ensures c.none.ensures
