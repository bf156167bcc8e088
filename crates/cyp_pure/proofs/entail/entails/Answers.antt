use Rattle.std.proofs.Common.{◌∙◌, true, false, refl, sym}
use Rattle.std.proofs.lemmas.Bool.{false≢true}
use Rattle.cyp_pure.proofs.Covering.{one_asked}
use Rattle.cyp_pure.proofs.Entailing.{entailed_from, entails_all, entails_among, entails_more}
use Rattle.cyp_pure.proofs.Saying.{among_at}
use Rattle.cyp_pure.proofs.entail.entails.Goals as goal

pub follows-requires-clause-asked : goal.follows-requires-clause-asked
follows-requires-clause-asked c =
    let p = c.in_ok-parted.ensures in
    one_asked c.args.a.now c.args.b.now c.in_ok-parted.parted.ints c.in_ok-parted.parted.sets c.lit-item.result c.requires p.sorts c.compares_ints-is_int.ensures.sorts
    (among_at c.args.b.now c.loop-lit.lit-index c.lit-item.result c.loop-lit-test.true c.lit-item.is) p.ints p.sets

pub returns-then-not-branch-clause-exact : goal.returns-then-not-branch-clause-exact
returns-then-not-branch-clause-exact c = (
  λ e. absurd (false≢true e),
  λ h.
      sym c.if-not-branch.true
      ∙ c.in_ok-follows.ensures.1 (entails_among c.args.a.now c.args.b.now c.loop-lit.lit-index c.lit-item.result c.loop-lit-test.true c.lit-item.is h),
)

pub returns-then-not-branch-clause-test : goal.returns-then-not-branch-clause-test
returns-then-not-branch-clause-test c = entailed_from c.args.a.now c.args.b.now false (returns-then-not-branch-clause-exact c)

pub loop-lit-preserved : goal.loop-lit-preserved
loop-lit-preserved c =
    entails_more c.args.a.now c.args.b.now c.loop-lit.lit-index c.lit-item.result c.loop-lit.invariant c.loop-lit-test.true c.lit-item.is (c.in_ok-follows.ensures.0 c.if-not-branch.false)

pub returns-clause-exact : goal.returns-clause-exact
returns-clause-exact c = (λ e. entails_all c.args.a.now c.args.b.now c.loop-lit.lit-index c.loop-lit.invariant c.loop-lit-test.false, λ h. refl)

pub returns-clause-test : goal.returns-clause-test
returns-clause-test c = entailed_from c.args.a.now c.args.b.now true (returns-clause-exact c)
