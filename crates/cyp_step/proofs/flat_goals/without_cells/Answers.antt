use Rattle.std.proofs.Common.{◌∙◌, ◌≤◌, Some, None, Option, option_map, ap, le_trans, length, pos, refl, subst, sym}
use Rattle.cyp_heap.specs.declared.chunk.Heap.{Heap}
use Rattle.cyp_step.proofs.CellsTaken.{cell_missing, cell_taken, length-without, same_block}
use Rattle.cyp_step.specs.FlatRules.{first_place, is_written_at, without_cells}
use Rattle.cyp_term.specs.Terms.{plus}
use Rattle.cyp_step.proofs.flat_goals.without_cells.Goals as goal

pub loop-more-preserved : goal.loop-more-preserved
loop-more-preserved c =
    let rest = c.remove-cell.ensures.rest in
    let cs = c.loop-more.heap.chunks in
    let found = c.in_ok-place.ensures.place ∙ ap (first_place (is_written_at (plus c.at-at.result (pos c.loop-more.more))) 0) c.chunks.ensures.chunks in (
      ap (without_cells _) rest
          ∙ cell_taken c.at-at.result c.loop-more.more c.size-more-end.result cs _ c.loop-more.invariant.0 c.in_ok-place.place (Some c.in_ok-place.place) c.loop-more-test.true found refl,
      subst (λ ds. length ds ≤ 16) (sym rest) (le_trans (length-without cs c.in_ok-place.place) c.loop-more.invariant.1),
    )

pub returns-in_err-place : goal.returns-in_err-place
returns-in_err-place c =
    ap (λ (o : Option Heap). option_map (λ (h : Heap). h.chunks) o) c.from_residual.ensures
    ∙ cell_missing c.at-at.result c.loop-more.more c.size-more-end.result c.loop-more.heap.chunks _ c.loop-more.invariant.0 None c.loop-more-test.true
    (c.in_err-place.ensures.place ∙ ap (first_place (is_written_at (plus c.at-at.result (pos c.loop-more.more))) 0) c.chunks.ensures.chunks) refl
    ∙ same_block c.args.heap.chunks c.at-at.result c.args.block.at c.size-more-end.result c.args.block.size c.at-at.ensures c.size-more-end.ensures
