use Rattle.std.proofs.Common.{ap, sym, ◌∙◌}
use Rattle.std.specs.Str.{bytes_eq}
use Rattle.cyp_lex.specs.declared.ident.Ident.{Ident}
use Rattle.cyp_names.proofs.SeenUses.{declared_here}
use Rattle.cyp_names.proofs.repeats.is_declared.Goals as goal

pub returns-then-is_same_name : goal.returns-then-is_same_name
returns-then-is_same_name g c =
    declared_here g.T.Declares.declared (λ (i : Ident). bytes_eq i.text c.args.name.now.text) c.args.items.now c.loop-item.item-index c.item-item.result _
    c.loop-item-test.true c.item-item.is
    (ap (λ (i : Ident). bytes_eq i.text c.args.name.now.text) (sym c.name.ensures) ∙ sym c.is_same_name.ensures ∙ c.if-is_same_name.true) c.loop-item.invariant
