use Rattle.std.proofs.Common.{refl, ◌∙◌, ap, ◌≤◌, arith}
use Rattle.cyp_space.specs.Alts.{premises_in}
use Rattle.cyp_tree.specs.Sizes.{size}
use Rattle.cyp_tree.proofs.LiveLeaf.{grown_size}
use Rattle.cyp_search.proofs.FrontierGrowth.{frontier_grafted}
use Rattle.cyp_search.proofs.frontier.put_moves.Goals as goal

pub returns-then-grown-limit : goal.returns-then-grown-limit
returns-then-grown-limit g c =
    let t = c.args.frontier.now.tree in
    (refl, omega (arith, c.if-grown-limit.true, c.count-first.ensures.value, c.count_of_premises.ensures.value ∙ ap premises_in c.alts.ensures.value, grown_size t c.args.leaf c.args.moves.now c.count-first.ensures.numbered c.requires.live))

pub graft-requires-clause-few : goal.graft-requires-clause-few
graft-requires-clause-few g c =
    let t = c.args.frontier.now.tree in
    omega (arith, c.if-grown-limit.false, c.requires.limit, c.count-first.ensures.value, c.count_of_premises.ensures.value ∙ ap premises_in c.alts.ensures.value, grown_size t c.args.leaf c.args.moves.now c.count-first.ensures.numbered c.requires.live)

pub push_from-requires-clause-below : goal.push_from-requires-clause-below
push_from-requires-clause-below g c =
    let t = c.args.frontier.now.tree in
    omega (arith, c.count-first.ensures.value, ap size c.in_ok-graft.ensures.grown, grown_size t c.args.leaf c.args.moves.now c.count-first.ensures.numbered c.requires.live)

pub push_from-requires-clause-frontier : goal.push_from-requires-clause-frontier
push_from-requires-clause-frontier g c =
    frontier_grafted (g.S.Space.weight_of c.args.space.now) c.args.frontier.now.tree c.graft.new.self c.args.leaf c.count-first.result c.args.moves.now c.args.frontier.now.queue.entries c.requires.ready
    c.count-first.ensures.value c.in_ok-graft.ensures.grown

pub returns : goal.returns
returns g c =
    let t = c.args.frontier.now.tree in
    let count = c.count_of_premises.ensures.value ∙ ap premises_in c.alts.ensures.value in
    let fits : size c.graft.new.self ≤ c.args.limit =
    omega (arith, c.if-grown-limit.false, c.count-first.ensures.value, count, ap size c.in_ok-graft.ensures.grown, grown_size t c.args.leaf c.args.moves.now c.count-first.ensures.numbered c.requires.live)
    in
    (c.in_ok-graft.ensures.grown, fits, c.in_ok-push_from.ensures)
