use Rattle.std.proofs.Common.{◌≡◌, sym, ◌∙◌, ap, subst, ℕ, ◌+◌, List}
use Rattle.std.proofs.lemmas.Result.{on_ok_weaker}
use Rattle.cyp_tree.specs.Places.{HasPlace}
use Rattle.cyp_tree.proofs.OnePlace.{one_place}
use Rattle.cyp_queue.specs.declared.entry.Entry.{Entry}
use Rattle.cyp_queue.specs.Entries.{put_entry}
use Rattle.cyp_search.specs.Frontiers.{IsFrontier}
use Rattle.cyp_search.proofs.FrontierGrowth.{frontier_put}
use Rattle.cyp_search.proofs.frontier.push_node.Goals as goal

pub returns : goal.returns
returns g c =
    let weight = g.S.Space.weight_of c.args.space.now in
    let t = c.args.tree.now in
    let k = c.args.number in
    let one : (c.node.ensures.0 ≡ c.cost.result) × (c.node.result.now ≡ c.cost.ensures.value.0) =
    one_place t k c.node.ensures.0 c.cost.result c.node.result.now c.cost.ensures.value.0 c.requires.frontier.numbered c.node.ensures.1 c.cost.ensures.value.1
    in
    let place : HasPlace t k c.cost.result c.node.result.now = subst (λ (b : ℕ). HasPlace t k b c.node.result.now) one.0 c.node.ensures.1 in
    let same : c.weight-weight.result ≡ weight c.node.result.now = c.weight-weight.ensures.value ∙ ap weight c.get.ensures in
    on_ok_weaker c.push.result
    (λ e. subst (λ (es : List Entry). IsFrontier weight t (k + 1) es)
    (ap (λ (b : ℕ). put_entry (record { priority = c.cost.result + b; leaf = k }) c.args.queue.now.entries) (sym same) ∙ sym e)
    (frontier_put weight t k c.args.queue.now.entries c.cost.result c.node.result.now c.requires.frontier place))
    c.push.ensures.entries
