use Rattle.std.proofs.Common.{subst, sym}
use Rattle.cyp_print.specs.Found.{IsFound}
use Rattle.cyp_tests_print.proofs.PrintedProofs.{error_found}
use Rattle.cyp_tests_print.proofs.print.text_of_error.Goals as goal

pub program_text-requires : goal.program_text-requires
program_text-requires c = subst IsFound (sym c.in_ok-found.ensures) error_found
