use Rattle.std.proofs.Common.{Ok, ap, sym, ◌∙◌}
use Rattle.cyp_spec.proofs.Judged.{tokens_said}
use Rattle.cyp_spec.proofs.read.read_spec.Goals as goal

pub returns : goal.returns
returns c =
    let kept = c.from_vec.ensures ∙ c.shrink_to_fit.ensures.items ∙ c.into_vec-fitted.ensures in
    let exact = c.in_ok-tokens.ensures.exact ∙ ap Ok (sym kept) in
    tokens_said c.args.text.now c.from_vec.result c.said.result c.if-text-gt-LONGEST.false exact c.said.ensures
