use Rattle.std.proofs.Common.{◌≡◌, [], take}
use Rattle.cyp_term.specs.Images.{image_elems, image_vars}
use Rattle.cyp_goal.proofs.substitution.unbound.Given as goal

abbrev pub invariant-loop-var : goal.invariant-loop-var
invariant-loop-var l = record {
  vars : image_vars l.by (take l.var-index l.vars) ≡ take l.var-index l.vars;
  elems : image_elems l.by (take l.var-index l.vars) ≡ [];
}
