use Rattle.cyp_term.specs.Terms.{term_eq}
use Rattle.cyp_pure.proofs.Adding.{added_one}
use Rattle.cyp_pure.proofs.seen.add_terms.Goals as goal

pub loop-term-preserved : goal.loop-term-preserved
loop-term-preserved c =
    added_one term_eq c.args.more.now c.args.terms.now.items c.loop-term.terms.items c.add_term.new.terms.items c.loop-term.term-index c.term-item.result c.loop-term.invariant c.loop-term-test.true c.term-item.is c.in_ok-add_term.ensures
