use Rattle.std.proofs.Common.{◌∙◌, ap}
use Rattle.std.proofs.lemmas.Result.{IfOk-weaker}
use Rattle.cyp_term.proofs.Equality.{Decides-term_eq}
use Rattle.cyp_term.specs.Terms.{term_eq, without_repeats}
use Rattle.cyp_goal.proofs.numbering.renamed_elems.Goals as goal

pub returns-clause-elems : goal.returns-clause-elems
returns-clause-elems c = IfOk-weaker c.each_once.result _ _ (λ ts once. once term_eq Decides-term_eq ∙ ap (without_repeats term_eq) c.in_ok-renamed.ensures.renamed) c.each_once.ensures
