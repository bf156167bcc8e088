use Rattle.std.proofs.Common.{List, [], flat_map, subst, sym, ◌∙◌, ◌∷◌, ◌≡◌}
use Rattle.std.proofs.lemmas.List.Elements.{All-cons}
use Rattle.cyp_reading.specs.Readable.{PartReadable}
use Rattle.cyp_reading.proofs.UnionsRead.{three_added, two_added, union_sets}
use Rattle.cyp_term.specs.SetTermValue.{AllSets}
use Rattle.cyp_term.specs.Terms.{term_eq, var_eq}
use Rattle.cyp_term.specs.declared.term.Var.{Var}
use Rattle.cyp_names.specs.ReadTerms.{part_elems, part_vars, read_union, var_named}
use Rattle.cyp_text.specs.declared.tree.PartTree.TheVariants.{PartName}
use Rattle.cyp_reading.proofs.unions.read_named.Goals.{After-from_vec-2}
use Rattle.cyp_reading.proofs.unions.read_named.Goals as goal

vars_are : (c : After-from_vec-2) → c.from_vec.result ≡ (read_union c.args.scope.now (PartName c.args.name.now ∷ c.args.part.now ∷ c.args.parts.now)).vars
vars_are c =
    let sc = c.args.scope.now in
    c.from_vec.ensures
    ∙ three_added var_eq c.new-vars.result.items c.add_name.new.vars.items c.add_part_var.new.vars.items c.add_vars.new.vars.items (var_named sc c.args.name.now.text ∷ []) (part_vars sc c.args.part.now)
    (flat_map (part_vars sc) c.args.parts.now) c.new-vars.ensures.items c.in_ok-add_name.ensures c.in_ok-add_part_var.ensures c.in_ok-add_vars.ensures

pub new-requires : goal.new-requires
new-requires c =
    let sc = c.args.scope.now in
    let u = c.args.part.now in
    let us = c.args.parts.now in
    subst (λ (vs : List Var). AllSets vs) (sym (vars_are (goal.at.new-requires c).After-from_vec-2)) (union_sets sc (PartName c.args.name.now ∷ u ∷ us)
    (All-cons (PartReadable sc) (PartName c.args.name.now) (u ∷ us) c.requires.name (All-cons (PartReadable sc) u us c.requires.part c.requires.parts)))

pub returns : goal.returns
returns c =
    let sc = c.args.scope.now in
    let u = c.args.part.now in
    let us = c.args.parts.now in
    let elems_are : c.from_vec-2.result ≡ (read_union sc (PartName c.args.name.now ∷ u ∷ us)).elems =
    c.from_vec-2.ensures
    ∙ two_added term_eq c.new-elems.result.items c.add_part_elems.new.elems.items c.add_elems.new.elems.items (part_elems sc u) (flat_map (part_elems sc) us) c.new-elems.ensures.items
    c.in_ok-add_part_elems.ensures c.in_ok-add_elems.ensures in
    c.new.ensures ∙ (λ i. record { vars = vars_are (goal.at.returns c).After-from_vec-2 i; elems = elems_are i })
