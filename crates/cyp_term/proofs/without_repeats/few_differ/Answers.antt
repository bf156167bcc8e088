use Rattle.std.proofs.Common.{◌≡◌, ◌∙◌, ap, arith, refl, sym, take}
use Rattle.std.proofs.lemmas.Bool.{false≢true}
use Rattle.std.proofs.lemmas.List.{take_all}
use Rattle.cyp_term.proofs.FirstOnes.{differ_more, once_by_each, repeat_shows}
use Rattle.cyp_term.proofs.KeptItems.{decided}
use Rattle.cyp_term.specs.Terms.{without_repeats}
use Rattle.cyp_term.proofs.without_repeats.few_differ.Goals as goal

pub loop-k-preserved : goal.loop-k-preserved
loop-k-preserved g c =
    differ_more g.T.PartialEq.eq c.args.items.now c.loop-k.k c.index-items-k.result c.loop-k.invariant c.loop-k-test.true c.index-items-k.is (sym c.is_among.ensures ∙ c.if-is_among.false)

pub returns : goal.returns
returns g c =
    let xs = c.args.items.now in
    let eq = g.T.PartialEq.eq in
    let all : take c.loop-k.k xs ≡ xs = take_all c.loop-k.k xs c.loop-k-test.false in
    (λ passed. (omega (arith), once_by_each eq (decided eq g.met.T.Exact.exact g.met.T.Eq.laws.refl) xs xs (sym (ap (without_repeats eq) (sym all) ∙ c.loop-k.invariant ∙ all))), λ k. refl)

pub returns-then-is_among : goal.returns-then-is_among
returns-then-is_among g c =
    let xs = c.args.items.now in
    let eq = g.T.PartialEq.eq in
    let decides = decided eq g.met.T.Exact.exact g.met.T.Eq.laws.refl in
    (λ e. absurd (false≢true e), λ k. absurd (repeat_shows eq xs c.loop-k.k c.index-items-k.result c.loop-k.invariant c.loop-k-test.true c.index-items-k.is (sym c.is_among.ensures ∙ c.if-is_among.true) (k.1 eq decides)))
