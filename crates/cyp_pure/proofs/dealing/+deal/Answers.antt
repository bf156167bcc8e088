use Rattle.std.proofs.Common.{◌≡◌, ◌∙◌, ◌∷◌, [], ◌++◌, ◌+◌, ◌*◌, ◌-◌, ◌<◌, length, refl, sym, ap, arith}
use Rattle.std.proofs.lemmas.Bool.{false≢true}
use Rattle.std.proofs.lemmas.List.{length-append}
use Rattle.std.specs.Prelude.{◌↔◌, IsTrue}
use Rattle.cyp_diff.specs.Solving.{variables}
use Rattle.cyp_term.specs.Regions.{all_terms, class_by, regions_fit}
use Rattle.cyp_pure.specs.Dealing.{CanDeal}
use Rattle.cyp_pure.specs.Questions.{set_side}
use Rattle.cyp_pure.proofs.Alls.{ok_with}
use Rattle.cyp_pure.proofs.Asking.{few_variables}
use Rattle.cyp_pure.proofs.Choosing.{deal_less, none_left, none_more}
use Rattle.cyp_pure.proofs.Ending.{at_end}
use Rattle.cyp_pure.proofs.Solved.{ints_of, solved, unsolved}
use Rattle.cyp_pure.proofs.dealing.+deal.Goals as goal

pub deal-returns-then-len-question : goal.deal-returns-then-len-question
deal-returns-then-len-question t c =
    let ss = set_side c.args.question.now in
    ok_with c.regions_with.result (λ b. b ≡ regions_fit (class_by (all_terms ss) c.as_slice.result.now) ss) (λ b. IsTrue b ↔ CanDeal c.args.question.now c.args.dealing.now.classes)
    (λ b e.
    at_end c.args.question.now c.args.dealing.now c.requires.asked c.requires.dealt (sym c.len.ensures ∙ c.if-len-question.true) b c.requires.possible
    (e ∙ ap (λ ks. regions_fit (class_by (all_terms ss) ks) ss) c.as_slice.ensures))
    c.regions_with.ensures.test

pub deal-returns-then-branch : goal.deal-returns-then-branch
deal-returns-then-branch t c =
    let more : length c.args.dealing.now.classes < length c.args.question.now.terms.now = omega (arith, c.requires.dealt.few, c.len.ensures, c.if-len-question.false) in
    (λ e. deal_less c.args.question.now c.args.dealing.now.classes c.args.dealing.now.count more _ (c.in_ok-deal_next.ensures.0 c.if-branch.true), λ h. refl)

pub deal-loop-class-preserved : goal.deal-loop-class-preserved
deal-loop-class-preserved t c =
    none_more c.args.question.now c.args.dealing.now.classes c.args.dealing.now.count c.loop-class.class c.in_ok-deal_next.field-0 c.loop-class.invariant c.if-branch.false c.in_ok-deal_next.ensures.1

pub deal-returns : goal.deal-returns
deal-returns t c =
    let more : length c.args.dealing.now.classes < length c.args.question.now.terms.now = omega (arith, c.requires.dealt.few, c.len.ensures, c.if-len-question.false) in (
      λ e. absurd (false≢true e),
      λ h. absurd (none_left c.args.question.now c.args.dealing.now.classes c.args.dealing.now.count c.loop-class.class more c.requires.dealt.below c.loop-class.invariant c.loop-class-test.false h),
    )

pub deal_next-solve_with-requires-clause-few : goal.deal_next-solve_with-requires-clause-few
deal_next-solve_with-requires-clause-few t c =
    let few = few_variables c.args.question.now c.in_ok-next.next c.requires.asked c.in_ok-next.ensures.1.facts in
    omega (arith, few, ap (λ ls. length (variables (c.args.question.now.ints.now ++ ls))) c.as_slice.ensures)

pub deal_next-deal-requires : goal.deal_next-deal-requires
deal_next-deal-requires t c =
    let falls : 2 * (length c.args.question.now.terms.now - length c.in_ok-next.next.classes) + 1 < t =
    omega (arith, ap length c.in_ok-next.ensures.0, length-append c.args.dealing.now.classes (c.args.class ∷ []), c.decreases, c.requires.more) in (
      falls,
      (
        c.requires.asked,
        (
          c.in_ok-next.ensures.1,
          solved c.args.question.now.ints.now c.as_slice.result.now c.in_ok-next.next.facts c.in_ok-solve_with.field-0 c.in-Some.field-0 c.in_ok-solve_with.ensures c.in-Some.is c.as_slice.ensures,
        ),
      ),
    )

pub deal_next-returns : goal.deal_next-returns
deal_next-returns t c = (
  λ e. absurd (false≢true e),
  λ h.
      absurd (unsolved c.args.question.now.ints.now c.as_slice.result.now c.in_ok-next.next.facts c.in_ok-solve_with.field-0 c.in_ok-solve_with.ensures c.in-None.is c.as_slice.ensures
      (ints_of c.args.question.now c.in_ok-next.next (c.args.dealing.now.classes ++ c.args.class ∷ []) c.in_ok-next.ensures.1.facts c.in_ok-next.ensures.0 h)),
)
