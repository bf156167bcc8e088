use Rattle.std.proofs.Common.{◌≡◌, drop, map}
use Rattle.cyp_goal.specs.Named.{named}
use Rattle.cyp_term.specs.SetTermValue.{AllSets}
use Rattle.cyp_term.specs.Terms.{var_eq, with_all_new, without_repeats}
use Rattle.cyp_goal.proofs.numbering.renamed_vars.Given as goal

abbrev pub invariant-loop-var : goal.invariant-loop-var
invariant-loop-var l = record {
  same : with_all_new var_eq l.renamed.items (map (named l.names) (drop l.var-index l.vars)) ≡ without_repeats var_eq (map (named l.names) l.vars);
  sorts : AllSets l.renamed.items;
}
