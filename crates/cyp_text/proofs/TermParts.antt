-- Terms and parts of unions take a lexeme at least.
use Rattle.cyp_text.specs.ListReaders.{Consumes}
use Rattle.cyp_text.specs.TermReaders.{int_at, part_at}
use Rattle.cyp_text.proofs.Consumed.{consumes}
use Rattle.cyp_text.proofs.IntLaws.{int_reads}
use Rattle.cyp_text.proofs.SetLaws.{part_reads}

pub int_consumes : Consumes int_at
int_consumes = consumes int_reads

pub part_consumes : Consumes part_at
part_consumes = consumes part_reads
