use Rattle.std.proofs.Common.{ap, arith}
use Rattle.cyp_memo.specs.Places.{held_in}
use Rattle.cyp_memo.proofs.Held.{held-place}
use Rattle.cyp_memo.proofs.memo.Memo.place.Goals as goal

pub invariant_of-self : goal.invariant_of-self
invariant_of-self g c = omega (arith, c.self.invariant, ap held_in c.in_ok-add_place.ensures.placed, held-place c.self.inside.places.entries c.args.node)
