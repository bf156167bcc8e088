use Rattle.std.proofs.Common.{arith}
use Rattle.cyp_spec.proofs.DistinctCounts.{too_many}
use Rattle.cyp_term.specs.Terms.{term_eq}
use Rattle.cyp_spec.proofs.elements.are_few.Goals as goal

pub returns-then-len-most : goal.returns-then-len-most
returns-then-len-most c =
    too_many term_eq c.args.terms.now c.loop-term.term-index c.term-item.result c.loop-term.found.items c.add_new.new.found.items c.args.most c.loop-term-test.true c.term-item.is
    c.in_ok-add_new.ensures c.loop-term.invariant.made (omega (arith, c.if-len-most.true, c.len.ensures))
