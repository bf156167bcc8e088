use Rattle.std.proofs.Common.{◌∙◌, ◌++◌, length, refl, ap, arith}
use Rattle.std.specs.List.{zip}
use Rattle.cyp_pure.specs.Dealing.{ties}
use Rattle.cyp_pure.proofs.Tying.{tied_all, tied_more}
use Rattle.cyp_pure.proofs.dealing.tied.Goals as goal

pub loop-k-preserved : goal.loop-k-preserved
loop-k-preserved c =
    tied_more c.args.dealing.now.facts c.loop-k.facts.items c.push.new.self.items c.args.terms.now c.as_slice-classes.result.now c.args.term c.args.class c.loop-k.k c.index-terms-k.result _ 0 c.tie.result c.loop-k.invariant
    (omega (arith, c.loop-k-test.true, c.requires, ap length c.as_slice-classes.ensures)) c.loop-k-test.true c.index-terms-k.is refl c.tie.ensures c.in_ok-push.ensures.items

pub returns : goal.returns
returns c =
    c.from_vec.ensures
    ∙ tied_all c.args.dealing.now.facts c.loop-k.facts.items c.args.terms.now c.as_slice-classes.result.now c.args.term c.args.class c.loop-k.k c.loop-k.invariant c.loop-k-test.false
    ∙ ap (λ ks. c.args.dealing.now.facts ++ ties c.args.term c.args.class (zip c.args.terms.now ks)) c.as_slice-classes.ensures
