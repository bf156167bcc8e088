use Rattle.std.proofs.Common.{◌∙◌, ap}
use Rattle.cyp_term.proofs.Equality.{Decides-term_eq}
use Rattle.cyp_term.specs.Terms.{term_eq, without_repeats}
use Rattle.cyp_term.proofs.lit.SetTerm.applied_elems.Goals as goal

pub returns : goal.returns
returns c = (c.in_ok-elems.ensures.0, c.in_ok-each_once.ensures term_eq Decides-term_eq ∙ ap (without_repeats term_eq) c.in_ok-elems.ensures.1)
