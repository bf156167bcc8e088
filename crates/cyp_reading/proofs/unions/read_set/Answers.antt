use Rattle.std.proofs.Common.{List, ap, flat_map, subst, sym, ◌∙◌, ◌∷◌, ◌≡◌}
use Rattle.std.proofs.lemmas.List.Elements.{All-cons}
use Rattle.cyp_reading.specs.Readable.{PartReadable}
use Rattle.cyp_reading.proofs.UnionsRead.{two_added, union_sets}
use Rattle.cyp_term.specs.SetTermValue.{AllSets}
use Rattle.cyp_term.specs.Terms.{term_eq, var_eq, with_all_new}
use Rattle.cyp_term.specs.declared.term.Var.{Var}
use Rattle.cyp_names.specs.ReadTerms.{part_elems, part_vars, read_set}
use Rattle.cyp_text.specs.declared.tree.PartTree.{PartTree}
use Rattle.cyp_reading.proofs.unions.read_set.Goals.{After-from_vec-2}
use Rattle.cyp_reading.proofs.unions.read_set.Goals as goal

vars_are : (c : After-from_vec-2) → c.from_vec.result ≡ (read_set c.args.scope.now c.args.tree.now).vars
vars_are c =
    let sc = c.args.scope.now in
    let u = c.args.tree.now in
    c.from_vec.ensures
    ∙ two_added var_eq c.new-vars.result.items c.add_part_var.new.vars.items c.add_vars.new.vars.items (part_vars sc u.first) (flat_map (part_vars sc) u.others) c.new-vars.ensures.items c.in_ok-add_part_var.ensures
    (c.in_ok-add_vars.ensures ∙ ap (λ (us : List PartTree). with_all_new var_eq c.add_part_var.new.vars.items (flat_map (part_vars sc) us)) c.as_slice.ensures)

pub new-requires : goal.new-requires
new-requires c =
    let sc = c.args.scope.now in
    let u = c.args.tree.now in
    subst (λ (vs : List Var). AllSets vs) (sym (vars_are (goal.at.new-requires c).After-from_vec-2))
    (union_sets sc (u.first ∷ u.others) (All-cons (PartReadable sc) u.first u.others c.requires.readable.0 c.requires.readable.1))

pub returns : goal.returns
returns c =
    let sc = c.args.scope.now in
    let u = c.args.tree.now in
    let elems_are : c.from_vec-2.result ≡ (read_set sc u).elems =
    c.from_vec-2.ensures
    ∙ two_added term_eq c.new-elems.result.items c.add_part_elems.new.elems.items c.add_elems.new.elems.items (part_elems sc u.first) (flat_map (part_elems sc) u.others) c.new-elems.ensures.items c.in_ok-add_part_elems.ensures
    (c.in_ok-add_elems.ensures ∙ ap (λ (us : List PartTree). with_all_new term_eq c.add_part_elems.new.elems.items (flat_map (part_elems sc) us)) c.as_slice-2.ensures) in
    c.new.ensures ∙ (λ i. record { vars = vars_are (goal.at.returns c).After-from_vec-2 i; elems = elems_are i })
