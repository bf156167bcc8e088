use Rattle.std.proofs.Common.{◌∙◌, ◌++◌, ap}
use Rattle.cyp_goal.proofs.Occurring.{added_two}
use Rattle.cyp_heap.specs.Chunks.{chunks_vars}
use Rattle.cyp_heap.specs.Goals.{tuple_vars}
use Rattle.cyp_term.specs.Terms.{lits_vars, var_eq, with_all_new}
use Rattle.cyp_goal.proofs.pruning.add_used.Goals as goal

pub returns : goal.returns
returns c =
    let g = c.args.goal.now in
    let old = c.args.table.now in
    let first = c.add_all.ensures ∙ ap (λ cs. with_all_new var_eq old (chunks_vars cs)) c.chunks.ensures.chunks in
    let second = added_two old c.add_all.new.table c.add_all-2.new.table (chunks_vars g.pre.chunks) (chunks_vars g.post.chunks) first
    (c.add_all-2.ensures ∙ ap (λ cs. with_all_new var_eq c.add_all.new.table (chunks_vars cs)) c.chunks-2.ensures.chunks) in
    let third = added_two old c.add_all-2.new.table c.add_all-3.new.table (chunks_vars g.pre.chunks ++ chunks_vars g.post.chunks) (lits_vars g.pure_pre) second
    (c.add_all-3.ensures ∙ ap (λ ls. with_all_new var_eq c.add_all-2.new.table (lits_vars ls)) c.as_slice.ensures) in
    let fourth = added_two old c.add_all-3.new.table c.add_all-4.new.table (chunks_vars g.pre.chunks ++ chunks_vars g.post.chunks ++ lits_vars g.pure_pre) (lits_vars g.pure_post) third
    (c.add_all-4.ensures ∙ ap (λ ls. with_all_new var_eq c.add_all-3.new.table (lits_vars ls)) c.as_slice-2.ensures) in
    added_two old c.add_all-4.new.table c.add_tuples.new.table (chunks_vars g.pre.chunks ++ chunks_vars g.post.chunks ++ lits_vars g.pure_pre ++ lits_vars g.pure_post) (tuple_vars c.args.links.now) fourth
    c.add_tuples.ensures
