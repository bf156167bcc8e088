use Rattle.std.proofs.Common.{sym}
use Rattle.cyp_term.proofs.Equality.{Decides-term_eq}
use Rattle.cyp_term.specs.Terms.{term_eq}
use Rattle.cyp_goal.proofs.substitution.differ_terms.Goals as goal

pub returns : goal.returns
returns c = λ passed. sym ((c.few_differ.ensures.0 passed).1 term_eq Decides-term_eq)
