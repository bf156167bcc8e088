use Rattle.std.proofs.Common.{◌∙◌, ap}
use Rattle.cyp_term.specs.Terms.{term_eq, with_all_new}
use Rattle.cyp_pure.proofs.Adding.{added_ok}
use Rattle.cyp_pure.proofs.Sides.{elements_compared}
use Rattle.cyp_pure.proofs.seen.add_elements.Goals as goal

pub returns-in_ok-add_terms-in-Same : goal.returns-in_ok-add_terms-in-Same
returns-in_ok-add_terms-in-Same c =
    rw (elements_compared c.args.lit.now c.in-Same.a c.in-Same.b c.in-Same.is)
    (added_ok term_eq c.args.terms.now.items c.add_terms-in-Same.new.terms.items c.add_terms-in-Same-2.new.terms.items c.in-Same.a.elems c.in-Same.b.elems c.add_terms-in-Same-2.result
    (c.in_ok-add_terms-in-Same.ensures ∙ ap (with_all_new term_eq c.args.terms.now.items) c.elems-in-Same.ensures) (rw (← c.elems-in-Same-2.ensures) c.add_terms-in-Same-2.ensures))
