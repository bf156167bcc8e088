use Rattle.std.proofs.Common.{◌≡◌, drop, map}
use Rattle.std.specs.List.{list_any}
use Rattle.std.specs.Str.{bytes_eq}
use Rattle.cyp_lex.specs.declared.ident.Ident.{Ident}
use Rattle.cyp_names.proofs.repeats.is_declared.Given as goal

abbrev pub invariant-loop-item : goal.invariant-loop-item
invariant-loop-item g l =
    list_any (λ (i : Ident). bytes_eq i.text l.name.text) (map g.T.Declares.declared (drop l.item-index l.items))
    ≡ list_any (λ (i : Ident). bytes_eq i.text l.name.text) (map g.T.Declares.declared l.items)
