-- Items behind their conjunction, parameters, clauses and predicates take a lexeme at least.
use Rattle.cyp_text.specs.BodyReaders.{later_item_at}
use Rattle.cyp_text.specs.ListReaders.{Consumes}
use Rattle.cyp_text.specs.TextReaders.{clause_at, param_at, pred_at}
use Rattle.cyp_text.proofs.Consumed.{consumes}
use Rattle.cyp_text.proofs.ItemLaws.{later_reads}
use Rattle.cyp_text.proofs.TextLaws.{clause_reads, param_reads, pred_reads}

pub later_consumes : Consumes later_item_at
later_consumes = consumes later_reads

pub param_consumes : Consumes param_at
param_consumes = consumes param_reads

pub clause_consumes : Consumes clause_at
clause_consumes = consumes clause_reads

pub pred_consumes : Consumes pred_at
pred_consumes = consumes pred_reads
