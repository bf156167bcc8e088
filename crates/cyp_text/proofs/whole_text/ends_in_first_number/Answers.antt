use Rattle.cyp_text.proofs.KindsRead.{no_number, number_result}
use Rattle.cyp_text.proofs.whole_text.ends_in_first_number.Goals as goal

pub returns-in-Number : goal.returns-in-Number
returns-in-Number c = number_result c.args.text.now c.args.before.now c.in-Number.field-0 c.in-len1-up.len_at_least c.in-Number.is c.allows_name.result c.allows_name.ensures

pub returns-in_default : goal.returns-in_default
returns-in_default c = no_number c.args.text.now c.args.before.now c.in-len1-up.len_at_least c.in_default.not-Number
