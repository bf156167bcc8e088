use Rattle.std.proofs.Common.{◌≡◌, drop}
use Rattle.cyp_term.specs.Terms.{set_image}
use Rattle.cyp_term.proofs.subst.Subst.set_image.Given as goal

abbrev pub invariant-loop-bind : goal.invariant-loop-bind
invariant-loop-bind l = set_image l.self.sets l.var ≡ set_image (drop l.bind-index l.bind-items) l.var
