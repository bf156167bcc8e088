use Rattle.std.proofs.Common.{◌∙◌, ap, sym}
use Rattle.cyp_goal.proofs.FewTerms.{few_two, two_elements}
use Rattle.cyp_goal.specs.Counting.{with_all_few}
use Rattle.cyp_goal.proofs.elements.LitHasElements.add_elements.Goals as goal

pub returns-in_ok-add_terms-in-Same-2 : goal.returns-in_ok-add_terms-in-Same-2
returns-in_ok-add_terms-in-Same-2 c =
    let old = c.args.found.now.items in
    let mid = c.add_terms.new.found.items in
    few_two old mid c.add_terms-in-Same.new.found.items c.in-Same.a.elems c.in-Same.b.elems (c.in_ok-add_terms-in-Same.ensures ∙ ap (with_all_few old) c.elems.ensures)
    (c.in_ok-add_terms-in-Same-2.ensures ∙ ap (with_all_few mid) c.elems-in-Same.ensures)
    ∙ ap (with_all_few old) (sym (two_elements c.args.self.now c.in-Same.a c.in-Same.b c.in-Same.is))
