use Rattle.std.proofs.Common.{◌∙◌, List, ap}
use Rattle.std.specs.List.{flat_map}
use Rattle.cyp_goal.proofs.Occurring.{alone}
use Rattle.cyp_goal.proofs.Spreading.{node_in_parts}
use Rattle.cyp_goal.specs.Named.{link_vars}
use Rattle.cyp_heap.specs.Chunks.{chunks_vars}
use Rattle.cyp_heap.specs.Goals.{node_vars}
use Rattle.cyp_term.specs.Terms.{lits_vars, var_eq, with_all_new}
use Rattle.cyp_term.specs.declared.term.Var.{Var}
use Rattle.cyp_goal.proofs.numbering.add_node_vars.Goals as goal

pub returns : goal.returns
returns c =
    let s = c.draft.inside in
    let g = s.goal in
    node_in_parts c.args.table.now c.add_all.new.table c.add_all-2.new.table c.add_all-3.new.table c.add_all-4.new.table c.add_all-5.new.table c.add_links.new.table g.program (chunks_vars g.pre.chunks)
    (chunks_vars g.post.chunks) (lits_vars g.pure_pre) (lits_vars g.pure_post) (flat_map link_vars s.links) c.requires
    (c.add_all.ensures ∙ ap (λ (vs : List Var). with_all_new var_eq c.args.table.now (flat_map alone vs)) c.as_slice.ensures)
    (c.add_all-2.ensures ∙ ap (λ cs. with_all_new var_eq c.add_all.new.table (chunks_vars cs)) c.chunks.ensures.chunks)
    (c.add_all-3.ensures ∙ ap (λ cs. with_all_new var_eq c.add_all-2.new.table (chunks_vars cs)) c.chunks-2.ensures.chunks)
    (c.add_all-4.ensures ∙ ap (λ ls. with_all_new var_eq c.add_all-3.new.table (lits_vars ls)) c.as_slice-2.ensures)
    (c.add_all-5.ensures ∙ ap (λ ls. with_all_new var_eq c.add_all-4.new.table (lits_vars ls)) c.as_slice-3.ensures)
    (c.add_links.ensures ∙ ap (λ ks. with_all_new var_eq c.add_all-5.new.table (flat_map link_vars ks)) c.as_slice-4.ensures)
    ∙ ap node_vars c.draft.view_is
