use Rattle.cyp_term.specs.Terms.{lit_elements, term_eq}
use Rattle.cyp_pure.proofs.Adding.{added_part}
use Rattle.cyp_pure.proofs.limits.add_all_elements.Goals as goal

pub loop-lit-preserved : goal.loop-lit-preserved
loop-lit-preserved c =
    added_part term_eq lit_elements c.args.lits.now c.args.terms.now.items c.loop-lit.terms.items c.add_elements.new.terms.items c.loop-lit.lit-index c.lit-item.result c.loop-lit.invariant c.loop-lit-test.true c.lit-item.is c.in_ok-add_elements.ensures
