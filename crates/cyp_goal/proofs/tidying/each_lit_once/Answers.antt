use Rattle.std.proofs.Common.{◌∙◌, ap}
use Rattle.std.proofs.lemmas.Result.{IfOk-weaker}
use Rattle.cyp_goal.proofs.LitEquality.{Decides-lit_eq}
use Rattle.cyp_term.specs.Terms.{lit_eq, without_repeats}
use Rattle.cyp_goal.proofs.tidying.each_lit_once.Goals as goal

pub returns : goal.returns
returns c = IfOk-weaker c.each_once.result _ _ (λ ls once. once lit_eq Decides-lit_eq ∙ ap (without_repeats lit_eq) c.from_vec.ensures) c.each_once.ensures
