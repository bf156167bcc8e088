use Rattle.std.proofs.Common.{subst, List, ℕ, reverse}
use Rattle.cyp_tree.specs.Choosing.{derived_at, Rebuilds, made_of}
use Rattle.cyp_tree.proofs.Rebuilding.{joined}
use Rattle.cyp_tree.proofs.arena.Arena.rebuilt.Goals as goal

pub loop-way-preserved : goal.loop-way-preserved
loop-way-preserved g c =
    joined c.args.self.now.places.items c.args.self.now.ways.items (derived_at c.args.self.now.root c.args.self.now.places.items c.args.self.now.ways.items 0) c.pop.new.self.items c.in-Some.way
    c.loop-way.made.items c.join.new.made.items
    (subst (λ (order : List ℕ). Rebuilds c.args.self.now.places.items c.args.self.now.ways.items (derived_at c.args.self.now.root c.args.self.now.places.items c.args.self.now.ways.items 0) (reverse order) (made_of c.loop-way.made.items))
    c.in-Some.ensures.items c.loop-way.invariant)
    c.in_ok-join.ensures
