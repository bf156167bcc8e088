use Rattle.std.proofs.Common.{◌∙◌, ap, subst, sym}
use Rattle.std.proofs.lemmas.Result.{IfOk-weaker}
use Rattle.std.specs.List.{items_where_true}
use Rattle.cyp_term.proofs.FirstOnes.{as_many_told, ones_told}
use Rattle.cyp_term.proofs.KeptItems.{decided}
use Rattle.cyp_term.specs.Once.{IsOnce}
use Rattle.cyp_term.proofs.without_repeats.each_once.Goals as goal

pub returns-then-few_differ : goal.returns-then-few_differ
returns-then-few_differ g c = subst (λ xs. IsOnce xs xs) c.as_slice.ensures (c.few_differ.ensures.0 c.if-few_differ.true).1

pub chosen-requires : goal.chosen-requires
chosen-requires g c =
    as_many_told g.T.PartialEq.eq c.into_vec.result.items c.as_slice-2.result.now c.in_ok-news.news.items c.as_slice-3.result.now (c.as_slice-2.ensures ∙ sym c.into_vec.ensures) c.in_ok-news.ensures
    c.as_slice-3.ensures.value

pub returns : goal.returns
returns g c =
    let decides = decided g.T.PartialEq.eq g.met.T.Exact.exact g.met.T.Eq.laws.refl in
    IfOk-weaker c.chosen.result _ (IsOnce c.args.items)
    (λ xs is. ones_told g.T.PartialEq.eq c.args.items c.as_slice-2.result.now c.in_ok-news.news.items c.as_slice-3.result.now c.as_slice-2.ensures c.in_ok-news.ensures c.as_slice-3.ensures.value decides xs
    (is ∙ ap (items_where_true c.as_slice-3.result.now) c.into_vec.ensures)) c.chosen.ensures
