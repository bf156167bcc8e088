use Rattle.std.proofs.Common.{sym}
use Rattle.cyp_term.proofs.Equality.{Decides-var_eq}
use Rattle.cyp_term.specs.Terms.{var_eq}
use Rattle.cyp_goal.proofs.substitution.differ_vars.Goals as goal

pub returns : goal.returns
returns c = λ passed. sym ((c.few_differ.ensures.0 passed).1 var_eq Decides-var_eq)
