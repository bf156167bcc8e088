use Rattle.std.proofs.Common.{◌∙◌}
use Rattle.cyp_term.specs.Terms.{lit_elements, lit_vars, term_eq, var_eq}
use Rattle.cyp_pure.proofs.Counts.{fits_is, seen_both}
use Rattle.cyp_pure.proofs.limits.fits.Goals as goal

pub returns : goal.returns
returns c =
    fits_is c.args.a.now c.args.b.now c.as_slice.result.now c.as_slice-2.result.now c.all_fit.result
    (c.as_slice.ensures.value ∙ seen_both var_eq lit_vars c.args.a.now c.args.b.now c.new-vars.result.items c.add_all_vars.new.vars.items c.add_all_vars-2.new.vars.items c.new-vars.ensures.items c.in_ok-add_all_vars.ensures c.in_ok-add_all_vars-2.ensures)
    (c.as_slice-2.ensures.value ∙ seen_both term_eq lit_elements c.args.a.now c.args.b.now c.new-terms.result.items c.add_all_elements.new.terms.items c.add_all_elements-2.new.terms.items c.new-terms.ensures.items c.in_ok-add_all_elements.ensures c.in_ok-add_all_elements-2.ensures)
    c.if-a-gt-MOST_LEFT.false c.if-b-gt-MOST_RIGHT.false c.all_fit.ensures
