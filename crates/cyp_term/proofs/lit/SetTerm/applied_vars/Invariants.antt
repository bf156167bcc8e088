use Rattle.std.proofs.Common.{◌≡◌, drop}
use Rattle.cyp_term.specs.Images.{image_vars}
use Rattle.cyp_term.specs.SetTermValue.{AllSets}
use Rattle.cyp_term.specs.Terms.{var_eq, with_all_new, without_repeats}
use Rattle.cyp_term.proofs.lit.SetTerm.applied_vars.Given as goal

abbrev pub invariant-loop-var : goal.invariant-loop-var
invariant-loop-var l =
    record {
      vars : with_all_new var_eq l.vars.items (image_vars l.by (drop l.var-index l.var-items)) ≡ without_repeats var_eq (image_vars l.by l.self.vars);
      made : AllSets l.vars.items;
      left : AllSets (drop l.var-index l.var-items);
    }
