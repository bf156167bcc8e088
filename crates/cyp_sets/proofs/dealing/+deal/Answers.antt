use Rattle.std.proofs.Common.{◌≡◌, ◌+◌, ◌<◌, length, not, refl, sym, ap₂, subst, subst₂, ◌∙◌, IsTrue, arith}
use Rattle.std.proofs.Math.ListN.{set}
use Rattle.std.proofs.lemmas.Bool.{eqb-true, false≢true}
use Rattle.std.proofs.lemmas.Result.{IfOk-weaker}
use Rattle.cyp_sets.specs.Masks.{shows}
use Rattle.cyp_sets.specs.Dealing.{Deals, DealsFrom, integer}
use Rattle.cyp_sets.proofs.Deals.{deals_nothing, deals_taken, deals_put, no_way, deals_none, deals_here, deals_there, deals_either, taken_is, rest_is, showing, hiding, no_items, tested_is, put_back}
use Rattle.cyp_sets.proofs.dealing.+deal.Goals as goal

pub deal-returns-then-is_empty-clause-deals : goal.deal-returns-then-is_empty-clause-deals
deal-returns-then-is_empty-clause-deals t c =
    let none : length c.args.wants.now ≡ 0 = eqb-true (length c.args.wants.now) 0 (sym (c.if-is_empty.ensures {u = tt})) in
    (λ _. deals_nothing c.args.wants.now c.args.lists.now (no_items c.args.wants.now none) c.requires.listed, λ _. refl)

pub deal-returns-then-ways_to_show-eq0-clause-deals : goal.deal-returns-then-ways_to_show-eq0-clause-deals
deal-returns-then-ways_to_show-eq0-clause-deals t c =
    let ws = c.args.wants.now in
    let none = sym c.ways_to_show.ensures ∙ c.if-ways_to_show-eq0.true in (
      λ e. absurd (false≢true e),
      λ d. absurd (no_way ws c.as_slice-2.result.now c.hardest-place.result _ c.hardest-place.ensures none (subst (Deals ws) (sym c.as_slice-2.ensures) d)),
    )

pub deal-returns-clause-deals : goal.deal-returns-clause-deals
deal-returns-clause-deals t c =
    let ws = c.args.wants.now in
    let lists = c.args.lists.now in
    let k = c.hardest-place.result in
    let want = c.remove-want.result in
    let is = taken_is ws c.in_ok-rest.rest.items k want c.remove-want.ensures.value c.in_ok-rest.ensures.items in
    let left = rest_is ws c.in_ok-rest.rest.items c.remove-want.new.self.items c.as_slice-3.result.now k c.as_slice-3.ensures.value c.remove-want.ensures.items c.in_ok-rest.ensures.items in
    IfOk-weaker c.deal_from.result _ (λ b. (IsTrue b → Deals ws lists) × (Deals ws lists → IsTrue b))
    (λ b h. (
      λ e. deals_put ws lists k want c.hardest-place.ensures (subst₂ (λ w vs. DealsFrom 0 w vs lists) is left (h.0 e)),
      λ d. h.1 (subst₂ (λ w vs. DealsFrom 0 w vs lists) (sym is) (sym left) (deals_taken ws lists k want c.hardest-place.ensures d)),
    ))
    c.deal_from.ensures.deals

pub deal_from-returns-then-branch-clause-deals : goal.deal_from-returns-then-branch-clause-deals
deal_from-returns-then-branch-clause-deals t c =
    let lists = c.args.lists.now in
    let shown : c.in_ok-shown.shown ≡ showing c.args.place c.args.want lists =
    tested_is (λ n r. shows (integer n r) c.args.want) c.args.place lists c.as_slice.result.now c.index-as_slice-place.result c.as_slice-regions.result.now c.in_ok-shown.shown (omega arith) c.requires.few c.as_slice.ensures c.index-as_slice-place.is c.as_slice-regions.ensures c.in_ok-shown.ensures in (
      λ _. deals_here c.args.place c.args.want c.args.rest.now lists (omega arith) (subst (λ xs. Deals c.args.rest.now (set lists c.args.place xs)) shown (c.in_ok-deal_with.ensures.deals.0 c.if-branch.true)),
      λ _. refl,
    )

pub deal_from-returns-clause-deals : goal.deal_from-returns-clause-deals
deal_from-returns-clause-deals t c =
    let lists = c.args.lists.now in
    let place = c.args.place in
    let want = c.args.want in
    let rest = c.args.rest.now in
    let lt : place < length lists = omega (arith, c.len.ensures, c.if-place-len.false) in
    let shown : c.in_ok-shown.shown ≡ showing place want lists =
    tested_is (λ n r. shows (integer n r) want) place lists c.as_slice.result.now c.index-as_slice-place.result c.as_slice-regions.result.now c.in_ok-shown.shown lt c.requires.few c.as_slice.ensures c.index-as_slice-place.is c.as_slice-regions.ensures c.in_ok-shown.ensures in
    let others : c.in_ok-others.others ≡ hiding place want lists =
    tested_is (λ n r. not (shows (integer n r) want)) place lists c.as_slice.result.now c.index-as_slice-place.result c.as_slice-regions.result.now c.in_ok-others.others lt c.requires.few c.as_slice.ensures c.index-as_slice-place.is c.as_slice-regions.ensures c.in_ok-others.ensures in
    let fewer : set c.deal_with.new.lists place c.in_ok-others.others ≡ set lists place (hiding place want lists) = ap₂ (λ ls xs. set ls place xs) c.deal_with.ensures.same others in
    let none : Deals rest (set lists place (showing place want lists)) → ⊥ =
    λ d. false≢true (sym c.if-branch.false ∙ c.in_ok-deal_with.ensures.deals.1 (subst (λ xs. Deals rest (set lists place xs)) (sym shown) d)) in
    IfOk-weaker c.deal_past.result _ (λ b. (IsTrue b → DealsFrom place want rest lists) × (DealsFrom place want rest lists → IsTrue b))
    (λ b h. (
      λ e. deals_there place want rest lists lt (subst (DealsFrom (place + 1) want rest) fewer (h.0 e)),
      λ d. h.1 (subst (DealsFrom (place + 1) want rest) (sym fewer) (deals_either place want rest lists lt d none)),
    ))
    c.deal_past.ensures.deals

pub deal_past-returns-clause-same : goal.deal_past-returns-clause-same
deal_past-returns-clause-same t c =
    put_back c.args.lists.now c.set-all.new.self c.deal_from-dealt.new.lists c.set-regions.new.self c.args.place c.set-all.result c.args.regions c.set-all.ensures.old c.set-all.ensures.new c.deal_from-dealt.ensures.same c.set-regions.ensures.new

pub deal_with-returns-then-len-eq0-clause-deals : goal.deal_with-returns-then-len-eq0-clause-deals
deal_with-returns-then-len-eq0-clause-deals t c = (
  λ e. absurd (false≢true e),
  λ d. absurd (deals_none c.args.lists.now c.args.place c.args.regions c.requires.place c.args.wants.now (omega (arith, c.len.ensures)) d),
)

pub deal_with-returns-clause-same : goal.deal_with-returns-clause-same
deal_with-returns-clause-same t c =
    put_back c.args.lists.now c.set-all.new.self c.deal-dealt.new.lists c.set-regions.new.self c.args.place c.set-all.result c.args.regions c.set-all.ensures.old c.set-all.ensures.new c.deal-dealt.ensures.same c.set-regions.ensures.new
