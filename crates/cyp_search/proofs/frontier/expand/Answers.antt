use Rattle.std.proofs.Common.{◌≡◌, subst, List, Option, None}
use Rattle.std.proofs.lemmas.Result.{IfOk-weaker}
use Rattle.cyp_space.specs.Alts.{AltOf}
use Rattle.cyp_tree.specs.Trees.{Moving}
use Rattle.cyp_tree.specs.Places.{IsLive}
use Rattle.cyp_queue.specs.declared.entry.Entry.{Entry}
use Rattle.cyp_queue.specs.Entries.{PopsAlive}
use Rattle.cyp_search.specs.Expansions.{Puts}
use Rattle.cyp_search.proofs.EntryLists.{popped}
use Rattle.cyp_search.proofs.FrontierGrowth.{ready_popped}
use Rattle.cyp_search.proofs.Expanding.{none_taken, next_at, stays, expands_put}
use Rattle.cyp_search.proofs.frontier.expand.Goals as goal

pub returns-in_default : goal.returns-in_default
returns-in_default g c =
    let space : Moving g.row.S-Rule.Denot g.row.S-Node.Denot = record { moves = g.S.Space.moves_of c.args.space.now; weight = g.S.Space.weight_of c.args.space.now } in
    let t = c.args.frontier.now.tree in
    let es = c.args.frontier.now.queue.entries in
    let after = c.pop_alive.new.self.entries in
    let none : c.pop_alive.result ≡ None = none_taken c.pop_alive.result c.in_default.not-Some in
    stays space t c.args.limit es after after c.requires.frontier (subst (λ (o : Option Entry). PopsAlive (IsLive t) es o after) none c.pop_alive.ensures.popped)

pub node-requires : goal.node-requires
node-requires g c =
    let t = c.args.frontier.now.tree in
    let es = c.args.frontier.now.queue.entries in
    let p = popped (IsLive t) es c.in-Some.entry c.pop_alive.new.self.entries c.requires.frontier.ordered c.in-Some.ensures.popped in
    c.requires.frontier.below c.in-Some.entry p.there

pub put_moves-requires-clause-live : goal.put_moves-requires-clause-live
put_moves-requires-clause-live g c =
    let t = c.args.frontier.now.tree in
    let p = popped (IsLive t) c.args.frontier.now.queue.entries c.in-Some.entry c.pop_alive.new.self.entries c.requires.frontier.ordered c.in-Some.ensures.popped in
    p.alive

pub put_moves-requires-clause-ready : goal.put_moves-requires-clause-ready
put_moves-requires-clause-ready g c =
    ready_popped (g.S.Space.weight_of c.args.space.now) c.args.frontier.now.tree c.args.frontier.now.queue.entries c.pop_alive.new.self.entries c.in-Some.entry c.requires.frontier c.in-Some.ensures.popped

pub returns : goal.returns
returns g c =
    let space : Moving g.row.S-Rule.Denot g.row.S-Node.Denot = record { moves = g.S.Space.moves_of c.args.space.now; weight = g.S.Space.weight_of c.args.space.now } in
    let t = c.args.frontier.now.tree in
    let leaf = c.in-Some.entry.leaf in
    let node = c.node.result.now in
    let new = c.put_moves.new.frontier.tree in
    let es = c.put_moves.new.frontier.queue.entries in
    let is = next_at space t c.args.frontier.now.queue.entries c.pop_alive.new.self.entries c.in-Some.entry c.node.ensures.0 node c.requires.frontier c.in-Some.ensures.popped c.node.ensures.1 in
    IfOk-weaker c.put_moves.result _ _
    (λ b p. expands_put space t leaf node is c.args.limit new es b (subst (λ (ms : List (AltOf g.row.S-Rule.Denot g.row.S-Node.Denot)). Puts space.weight c.args.limit leaf ms t new es b) c.in_ok-moves.ensures p))
    c.put_moves.ensures
