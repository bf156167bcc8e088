use Rattle.std.proofs.Common.{Some, ap, sym, ◌∙◌}
use Rattle.std.specs.Str.{bytes_eq}
use Rattle.cyp_lex.specs.declared.ident.Ident.{Ident}
use Rattle.cyp_names.proofs.SeenUses.{known_here}
use Rattle.cyp_term.specs.declared.term.Sort.{Sort}
use Rattle.cyp_names.proofs.sorts.known_sort.Goals as goal

pub returns-then-is_same_name : goal.returns-then-is_same_name
returns-then-is_same_name c =
    ap (λ (s : Sort). Some s) c.sort.ensures
    ∙ known_here c.args.uses.now c.loop-used.used-index c.used-item.result c.args.name.now.text _ c.loop-used-test.true c.used-item.is
    (ap (λ (i : Ident). bytes_eq i.text c.args.name.now.text) (sym c.name.ensures) ∙ sym c.is_same_name.ensures ∙ c.if-is_same_name.true) c.loop-used.invariant
