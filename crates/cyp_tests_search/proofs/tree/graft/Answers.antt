use Rattle.std.proofs.Common.{◌≡◌, ◌∙◌, ap, arith}
use Rattle.cyp_space.specs.Alts.{premises_in}
use Rattle.cyp_tree.specs.Places.{IsLive}
use Rattle.cyp_tree.proofs.LiveLeaf.{grown_size}
use Rattle.cyp_tests_search.proofs.tree.graft.Goals as goal

pub graft-requires-clause-live : goal.graft-requires-clause-live
graft-requires-clause-live c = c.alive.ensures.0 c.if-alive.true

pub graft-requires-clause-few : goal.graft-requires-clause-few
graft-requires-clause-few c =
    let live : IsLive c.args.tree.now c.args.leaf = c.alive.ensures.0 c.if-alive.true in
    omega (
      arith,
      grown_size c.args.tree.now c.args.leaf c.args.moves.now c.count-count.ensures.numbered live,
      c.count-count.ensures.value,
      c.count_of_premises-more.ensures.value ∙ ap premises_in c.alts.ensures.value,
    )
