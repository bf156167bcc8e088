use Rattle.cyp_term.specs.Regions.{elem_terms}
use Rattle.cyp_term.specs.Terms.{term_eq}
use Rattle.cyp_sets.proofs.Gathered.{lits_more}
use Rattle.cyp_sets.proofs.gathering.with_all_terms.Goals as goal

pub loop-lit-preserved : goal.loop-lit-preserved
loop-lit-preserved c =
    lits_more term_eq elem_terms c.args.lits.now c.args.terms.items c.loop-lit.terms.items c.in_ok-terms.terms.items c.loop-lit.lit-index c.lit-item.result c.loop-lit.invariant c.loop-lit-test.true c.lit-item.is c.in_ok-terms.ensures
