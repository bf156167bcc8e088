use Rattle.std.proofs.Common.{◌≡◌, drop}
use Rattle.cyp_term.specs.Terms.{int_image}
use Rattle.cyp_term.proofs.subst.Subst.image.Given as goal

abbrev pub invariant-loop-bind : goal.invariant-loop-bind
invariant-loop-bind l = int_image l.self.ints l.var ≡ int_image (drop l.bind-index l.bind-items) l.var
