use Rattle.std.proofs.Common.{List, ap, subst, sym, ◌∙◌}
use Rattle.std.specs.List.{All}
use Rattle.cyp_heap.specs.Chunks.{without}
use Rattle.cyp_heap.specs.declared.chunk.Chunk.{Chunk}
use Rattle.cyp_heap.specs.declared.goal.Goal.{Goal}
use Rattle.cyp_step.proofs.OpenedNodes.{its_card, other_cards}
use Rattle.cyp_step.specs.UnfoldParts.{HasCard}
use Rattle.cyp_step.proofs.opening.open_link.Goals as goal

pub measure-requires-clause-card : goal.measure-requires-clause-card
measure-requires-clause-card c = its_card c.args.node.now c.args.place c.args.inst.now c.requires.at c.goal.ensures.keeps

pub measure-requires-clause-cards : goal.measure-requires-clause-cards
measure-requires-clause-cards c =
    subst (λ (cs : List Chunk). All HasCard cs) (sym (c.in_ok-others.ensures ∙ ap (λ (g : Goal). without g.pre.chunks c.args.place) c.goal.ensures.goal))
    (other_cards c.args.node.now c.args.place c.args.inst.now c.requires.at c.goal.ensures.keeps)
