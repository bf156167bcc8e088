use Rattle.std.proofs.Common.{◌∙◌, ap}
use Rattle.std.specs.List.{flat_map}
use Rattle.cyp_goal.proofs.Occurring.{added_item}
use Rattle.cyp_heap.specs.declared.goal.Link.{Link}
use Rattle.cyp_term.specs.Terms.{term_vars, var_eq, with_all_new}
use Rattle.cyp_goal.proofs.pruning.add_tuples.Goals as goal

pub loop-link-preserved : goal.loop-link-preserved
loop-link-preserved c =
    added_item (λ (k : Link). flat_map term_vars k.tuple) c.args.links.now c.loop-link.link-index c.link-item.result c.loop-link.table c.add_all.new.table _ c.loop-link.invariant c.loop-link-test.true c.link-item.is
    (c.add_all.ensures ∙ ap (λ ts. with_all_new var_eq c.loop-link.table (flat_map term_vars ts)) c.as_slice.ensures)
