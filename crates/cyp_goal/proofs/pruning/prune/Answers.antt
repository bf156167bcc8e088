use Rattle.std.proofs.Common.{◌∙◌, ◌++◌, List, ap, not, sym}
use Rattle.std.specs.List.{filter}
use Rattle.cyp_goal.proofs.PruneTables.{pruned_by_tables}
use Rattle.cyp_goal.specs.Pruning.{live_vars, prune}
use Rattle.cyp_heap.specs.Chunks.{chunks_vars}
use Rattle.cyp_heap.specs.Goals.{tuple_vars}
use Rattle.cyp_heap.specs.declared.goal.Node.{Node}
use Rattle.cyp_term.specs.Terms.{lits_vars, var_eq, var_in, with_all_new}
use Rattle.cyp_term.specs.declared.term.Var.{Var}
use Rattle.cyp_goal.proofs.pruning.prune.Goals as goal

pub returns : goal.returns
returns c =
    let s = c.draft.inside in
    let n : Node = record { preds = s.preds; goal = s.goal; links = s.links } in
    let shown : List Var = chunks_vars s.goal.pre.chunks ++ chunks_vars s.goal.post.chunks ++ lits_vars c.keep_live.result ++ lits_vars s.goal.pure_post in
    let used = c.add_used.new.table in
    let late = c.add_post.new.table in
    pruned_by_tables n c.add_live.new.live used late c.add_others-2.new.dropped c.keep_vars.result c.keep_vars-2.result c.keep_live.result c.in_ok-links.links
    (c.add_live.ensures ∙ ap live_vars (sym c.draft.view_is)) c.keep_live.ensures (c.add_used.ensures ∙ (λ i. with_all_new var_eq (c.new-used.ensures i) (shown ++ tuple_vars (c.as_slice.ensures i))))
    (c.add_post.ensures ∙ ap (λ vs. with_all_new var_eq vs (chunks_vars s.goal.post.chunks ++ lits_vars s.goal.pure_post)) c.new-late.ensures)
    (c.add_others-2.ensures
    ∙ (λ i. with_all_new var_eq (c.add_others.ensures i) (filter (λ (v : Var). not (var_in v late)) (c.as_slice-3.ensures i)))
    ∙ (λ i. with_all_new var_eq (with_all_new var_eq (c.new-dropped.ensures i) (filter (λ (v : Var). not (var_in v used)) (c.as_slice-2.ensures i))) (filter (λ (v : Var). not (var_in v late)) s.goal.exist)))
    c.keep_vars.ensures c.keep_vars-2.ensures c.in_ok-links.ensures
    ∙ ap prune c.draft.view_is
