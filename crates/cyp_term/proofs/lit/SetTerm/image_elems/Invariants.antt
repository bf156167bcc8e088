use Rattle.std.proofs.Common.{◌≡◌, ◌++◌, drop}
use Rattle.std.specs.List.{list_any}
use Rattle.cyp_term.specs.Images.{image_elems}
use Rattle.cyp_term.specs.Terms.{wide_term}
use Rattle.cyp_term.proofs.lit.SetTerm.image_elems.Given as goal

abbrev pub invariant-loop-var : goal.invariant-loop-var
invariant-loop-var l =
    record {
      elems : l.elems.items ++ image_elems l.by (drop l.var-index l.var-items) ≡ image_elems l.by l.self.vars;
      narrow : list_any wide_term (image_elems l.by l.self.vars) ≡ list_any wide_term (image_elems l.by (drop l.var-index l.var-items));
    }
