use Rattle.std.proofs.Common.{◌∙◌, ap}
use Rattle.cyp_goal.proofs.Occurring.{added_two}
use Rattle.cyp_heap.specs.Chunks.{chunks_vars}
use Rattle.cyp_term.specs.Terms.{lits_vars, var_eq, with_all_new}
use Rattle.cyp_goal.proofs.pruning.add_post.Goals as goal

pub returns : goal.returns
returns c =
    added_two c.args.table.now c.add_all.new.table c.add_all-2.new.table (chunks_vars c.args.goal.now.post.chunks) (lits_vars c.args.goal.now.pure_post)
    (c.add_all.ensures ∙ ap (λ cs. with_all_new var_eq c.args.table.now (chunks_vars cs)) c.chunks.ensures.chunks)
    (c.add_all-2.ensures ∙ ap (λ ls. with_all_new var_eq c.add_all.new.table (lits_vars ls)) c.as_slice.ensures)
