use Rattle.std.proofs.Common.{◌∙◌, List, ap, length}
use Rattle.std.specs.List.{flat_map}
use Rattle.cyp_goal.proofs.Occurring.{alone}
use Rattle.cyp_goal.proofs.Spreading.{live_at_first}
use Rattle.cyp_goal.specs.Pruning.{live_vars, spread_times}
use Rattle.cyp_heap.specs.Chunks.{chunks_vars}
use Rattle.cyp_heap.specs.Goals.{tuple_vars}
use Rattle.cyp_term.specs.Terms.{lits_vars, var_eq, with_all_new}
use Rattle.cyp_term.specs.declared.term.Var.{Var}
use Rattle.cyp_goal.proofs.pruning.add_live.Goals as goal

pub returns : goal.returns
returns c =
    let s = c.draft.inside in
    let g = s.goal in
    let first = live_at_first c.args.live.now c.add_all.new.table c.add_all-2.new.table c.add_all-3.new.table c.add_all-4.new.table c.add_tuples.new.table g.program (chunks_vars g.pre.chunks)
    (chunks_vars g.post.chunks) (lits_vars g.pure_post) (tuple_vars s.links) c.requires
    (c.add_all.ensures ∙ ap (λ (vs : List Var). with_all_new var_eq c.args.live.now (flat_map alone vs)) c.as_slice.ensures)
    (c.add_all-2.ensures ∙ ap (λ cs. with_all_new var_eq c.add_all.new.table (chunks_vars cs)) c.chunks.ensures.chunks)
    (c.add_all-3.ensures ∙ ap (λ cs. with_all_new var_eq c.add_all-2.new.table (chunks_vars cs)) c.chunks-2.ensures.chunks)
    (c.add_all-4.ensures ∙ ap (λ ls. with_all_new var_eq c.add_all-3.new.table (lits_vars ls)) c.as_slice-2.ensures)
    (c.add_tuples.ensures ∙ ap (λ ks. with_all_new var_eq c.add_all-4.new.table (tuple_vars ks)) c.as_slice-3.ensures) in
    c.spread_all.ensures ∙ (λ i. spread_times (length (c.as_slice-4.ensures i)) (c.as_slice-4.ensures i) (first i)) ∙ ap live_vars c.draft.view_is
