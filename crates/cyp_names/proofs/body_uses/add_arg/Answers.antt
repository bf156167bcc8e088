use Rattle.std.proofs.Common.{◌++◌, ◌∙◌, ◌∷◌, ap}
use Rattle.std.proofs.lemmas.Result.{on_ok_weaker}
use Rattle.cyp_names.proofs.EachKind.{braces_added, term_added, union_added}
use Rattle.cyp_names.specs.Orders.{parts_in}
use Rattle.cyp_text.specs.declared.tree.PartTree.TheVariants.{PartName}
use Rattle.cyp_names.proofs.body_uses.add_arg.Goals as goal

pub returns-in-TermArg : goal.returns-in-TermArg
returns-in-TermArg c =
    on_ok_weaker c.add_term_arg.result
    (λ is. term_added (parts_in c.args.order) c.args.sort c.args.arg.now c.args.uses.now.items c.add_term_arg.new.uses.items c.in-TermArg.term
    c.in-TermArg.is is)
    c.add_term_arg.ensures

pub returns-in-BracesArg : goal.returns-in-BracesArg
returns-in-BracesArg c =
    on_ok_weaker c.add_union.result
    (λ is. braces_added (parts_in c.args.order) c.args.sort c.args.arg.now c.args.uses.now.items c.add_union.new.uses.items c.in-BracesArg.place
    c.in-BracesArg.terms c.in-BracesArg.parts c.in-BracesArg.is is)
    c.add_union.ensures

pub returns-in-UnionArg : goal.returns-in-UnionArg
returns-in-UnionArg c =
    on_ok_weaker c.add_union-in-UnionArg.result
    (λ is. union_added (parts_in c.args.order) c.args.sort c.args.arg.now c.args.uses.now.items c.add_union-in-UnionArg.new.uses.items
    c.in-UnionArg.name c.in-UnionArg.second c.in-UnionArg.parts c.in-UnionArg.is
    (is ∙ ap (λ p. c.args.uses.now.items ++ parts_in c.args.order (PartName c.in-UnionArg.name ∷ p ∷ c.in-UnionArg.parts)) c.get.ensures))
    c.add_union-in-UnionArg.ensures
