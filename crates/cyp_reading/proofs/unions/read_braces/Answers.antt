use Rattle.std.proofs.Common.{List, ap, flat_map, map, subst, sym, ◌∙◌, ◌∷◌, ◌≡◌}
use Rattle.cyp_reading.proofs.UnionsRead.{two_added, union_sets}
use Rattle.cyp_term.specs.SetTermValue.{AllSets}
use Rattle.cyp_term.specs.Terms.{term_eq, var_eq, with_all_new}
use Rattle.cyp_term.specs.declared.term.Var.{Var}
use Rattle.cyp_names.specs.ReadTerms.{part_elems, part_vars, read_int, read_union}
use Rattle.cyp_text.specs.declared.tree.PartTree.TheVariants.{Braces}
use Rattle.cyp_reading.proofs.unions.read_braces.Goals.{After-from_vec-2}
use Rattle.cyp_reading.proofs.unions.read_braces.Goals as goal

vars_are : (c : After-from_vec-2) → c.from_vec.result ≡ (read_union c.args.scope.now c.args.parts.now).vars
vars_are c =
    c.from_vec.ensures ∙ c.in_ok-add_vars.ensures
    ∙ ap (λ (vs : List Var). with_all_new var_eq vs (flat_map (part_vars c.args.scope.now) c.args.parts.now)) c.new-vars.ensures.items

pub new-requires : goal.new-requires
new-requires c =
    subst (λ (vs : List Var). AllSets vs) (sym (vars_are (goal.at.new-requires c).After-from_vec-2)) (union_sets c.args.scope.now c.args.parts.now c.requires.parts)

pub returns : goal.returns
returns c =
    let sc = c.args.scope.now in
    let us = c.args.parts.now in
    let elems_are : c.from_vec-2.result ≡ (read_union sc (Braces 0 c.args.terms.now ∷ us)).elems =
    c.from_vec-2.ensures
    ∙ two_added term_eq c.new-elems.result.items c.add_terms.new.elems.items c.add_elems.new.elems.items (map (read_int sc) c.args.terms.now) (flat_map (part_elems sc) us) c.new-elems.ensures.items
    c.in_ok-add_terms.ensures c.in_ok-add_elems.ensures in
    c.new.ensures ∙ (λ i. record { vars = vars_are (goal.at.returns c).After-from_vec-2 i; elems = elems_are i })
