use Rattle.std.proofs.Common.{◌∙◌, subst, sym}
use Rattle.cyp_goal.proofs.Finished.{ints_in_table, keeps_node, sets_in_table}
use Rattle.cyp_heap.specs.Keeps.{KeepsNode}
use Rattle.cyp_goal.proofs.normal_form.numbered.Goals as goal

pub is_within_limits-requires-clause-ints : goal.is_within_limits-requires-clause-ints
is_within_limits-requires-clause-ints c =
    ints_in_table c.args.draft c.in_ok-draft.draft c.in_ok-draft.ensures.renamed c.requires c.in_ok-draft.ensures.sorted c.add_node_vars.new.table c.add_node_vars.ensures

pub is_within_limits-requires-clause-sets : goal.is_within_limits-requires-clause-sets
is_within_limits-requires-clause-sets c =
    sets_in_table c.args.draft c.in_ok-draft.draft c.in_ok-draft.ensures.renamed c.requires c.in_ok-draft.ensures.sorted c.add_node_vars.new.table c.add_node_vars.ensures

pub new-node-requires : goal.new-node-requires
new-node-requires c =
    subst KeepsNode (sym c.draft-2.view_is)
    (keeps_node c.args.draft c.in_ok-draft.draft c.in_ok-draft.ensures.renamed c.requires c.in_ok-draft.ensures.sorted
    (sym c.in_ok-is_within_limits.ensures ∙ c.if-not-branch.false))
