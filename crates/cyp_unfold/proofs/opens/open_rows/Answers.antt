use Rattle.std.proofs.Common.{IfOk, List, ap, length, map, subst, sym, ◌∙◌, ◌≡◌, ◌≤◌}
use Rattle.cyp_heap.specs.declared.chunk.Chunk.{Chunk}
use Rattle.cyp_heap.specs.declared.goal.Goal.{Goal}
use Rattle.cyp_step.proofs.FlatFits.{few_chunks}
use Rattle.cyp_step.specs.Rows.{rows}
use Rattle.cyp_step.specs.declared.rule.Rule.TheVariants.{ByOpen}
use Rattle.cyp_unfold.specs.UnfoldRows.{openable}
use Rattle.cyp_unfold.proofs.opens.open_rows.Goals as goal

pub openings-requires : goal.openings-requires
openings-requires c =
    subst (λ (cs : List Chunk). length cs ≤ 16) (sym c.chunks.ensures.chunks) (few_chunks c.args.node.now c.goal.result.now c.goal.ensures.keeps c.goal.ensures.goal)

pub returns : goal.returns
returns c =
    subst (λ ws. IfOk c.rows_of.result (λ rs. rs ≡ ws))
    (ap (rows c.args.node.now)
    (c.in_ok-rules.ensures ∙ ap (λ (cs : List Chunk). map ByOpen (openable c.args.limit 0 cs)) (c.chunks.ensures.chunks ∙ ap (λ (g : Goal). g.pre.chunks) c.goal.ensures.goal)))
    c.rows_of.ensures
