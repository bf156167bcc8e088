use Rattle.cyp_text.proofs.Decided.{one_tree, parsed}
use Rattle.cyp_spec.proofs.Exists.{some_reading}
use Rattle.cyp_spec.proofs.Unique.{one_reading}
use Rattle.cyp_spec.proofs.laws.a_text_has_one_reading.Goals as goal

pub returns : goal.returns
returns g = record { some = some_reading parsed; one = one_reading one_tree }
