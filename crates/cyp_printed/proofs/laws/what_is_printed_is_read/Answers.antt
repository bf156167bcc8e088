use Rattle.cyp_printed.proofs.PrintedRead.{printed_is_read}
use Rattle.cyp_printed.proofs.laws.what_is_printed_is_read.Goals as goal

pub returns : goal.returns
returns g = printed_is_read
