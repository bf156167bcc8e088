use Rattle.std.proofs.Common.{◌∙◌}
use Rattle.cyp_step.proofs.SameNodes.{same_more}
use Rattle.cyp_step.proofs.steps.are_nodes_of.Goals as goal

pub loop-place-preserved : goal.loop-place-preserved
loop-place-preserved c =
    same_more c.args.forms.now c.args.nodes.now c.loop-place.place c.index-forms-place.result c.index-nodes-place.result c.loop-place-test.true c.index-forms-place.is
    c.index-nodes-place.is c.if-forms-nodes.false c.loop-place.invariant (c.has_node.ensures.0 c.if-not-has_node.false ∙ c.get.ensures)
