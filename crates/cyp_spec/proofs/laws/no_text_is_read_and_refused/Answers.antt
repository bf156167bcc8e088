use Rattle.cyp_text.proofs.Decided.{one_tree}
use Rattle.cyp_spec.proofs.Unique.{read_not_refused}
use Rattle.cyp_spec.proofs.laws.no_text_is_read_and_refused.Goals as goal

pub returns : goal.returns
returns g = read_not_refused one_tree
