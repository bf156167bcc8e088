use Rattle.std.proofs.Common.{◌≡◌, ◌++◌, drop, map}
use Rattle.std.specs.List.{list_any}
use Rattle.cyp_term.specs.Images.{brought}
use Rattle.cyp_term.specs.Terms.{apply_term, wide_term}
use Rattle.cyp_term.proofs.lit.SetTerm.brought.Given as goal

abbrev pub invariant-loop-elem : goal.invariant-loop-elem
invariant-loop-elem l =
    record {
      elems : l.elems.items ++ map (apply_term l.by) (drop l.elem-index l.elem-items) ≡ brought l.by l.self;
      narrow : list_any wide_term (brought l.by l.self) ≡ list_any wide_term (map (apply_term l.by) (drop l.elem-index l.elem-items));
    }
