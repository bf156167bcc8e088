use Rattle.std.proofs.Common.{◌≡◌, refl, Some}
use Rattle.std.specs.List.{slice_get}
use Rattle.std.proofs.lemmas.Option.{slice_get_read}
use Rattle.cyp_tree.specs.Choosing.{derived_at}
use Rattle.cyp_tree.proofs.Rebuilding.{Turned, turned, way_there}
use Rattle.cyp_tree.proofs.arena.Arena.taken_ways.Goals as goal

pub loop-at-preserved : goal.loop-at-preserved
loop-at-preserved g c =
    let way : slice_get c.args.self.now.ways.items c.taken_way-way.result ≡ Some c.index.result.now =
    slice_get_read _ _ _ _ refl (way_there c.args.self.now.root c.args.self.now.places.items c.args.self.now.ways.items c.args.self.now.marks c.requires.arena c.in-Some.at c.taken_way-way.result c.taken_way-way.ensures) c.index.ensures
    in
    let t : Turned c.args.self.now.root c.args.self.now.places.items c.args.self.now.ways.items c.args.self.now.marks c.requires.arena (derived_at c.args.self.now.root c.args.self.now.places.items c.args.self.now.ways.items 0) c.push-in-Some.new.self.items c.push_run.new.numbers.items c.loop-at.pending.items =
    turned c.args.self.now.root c.args.self.now.places.items c.args.self.now.ways.items c.args.self.now.marks c.requires.arena (derived_at c.args.self.now.root c.args.self.now.places.items c.args.self.now.ways.items 0) c.loop-at.order.items c.loop-at.pending.items c.pop.new.self.items
    c.push-in-Some.new.self.items c.push_run.new.numbers.items c.in-Some.at c.taken_way-way.result c.index.result.now c.in-Some.ensures.items c.loop-at.invariant.solved c.loop-at.invariant.rebuilds c.taken_way-way.ensures way
    c.in_ok-push-2.ensures.items c.in_ok-push_run.ensures
    in
    record { solved = t.solved; rebuilds = t.rebuilds }

pub loop-at-smaller : goal.loop-at-smaller
loop-at-smaller g c =
    let way : slice_get c.args.self.now.ways.items c.taken_way-way.result ≡ Some c.index.result.now =
    slice_get_read _ _ _ _ refl (way_there c.args.self.now.root c.args.self.now.places.items c.args.self.now.ways.items c.args.self.now.marks c.requires.arena c.in-Some.at c.taken_way-way.result c.taken_way-way.ensures) c.index.ensures
    in
    (turned c.args.self.now.root c.args.self.now.places.items c.args.self.now.ways.items c.args.self.now.marks c.requires.arena (derived_at c.args.self.now.root c.args.self.now.places.items c.args.self.now.ways.items 0) c.loop-at.order.items c.loop-at.pending.items c.pop.new.self.items
    c.push-in-Some.new.self.items c.push_run.new.numbers.items c.in-Some.at c.taken_way-way.result c.index.result.now c.in-Some.ensures.items c.loop-at.invariant.solved c.loop-at.invariant.rebuilds c.taken_way-way.ensures way
    c.in_ok-push-2.ensures.items c.in_ok-push_run.ensures).smaller
