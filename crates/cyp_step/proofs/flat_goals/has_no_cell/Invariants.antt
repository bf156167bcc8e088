use Rattle.std.proofs.Common.{◌≡◌, drop}
use Rattle.std.specs.List.{list_any}
use Rattle.cyp_step.specs.FlatRules.{is_cell_at}
use Rattle.cyp_step.proofs.flat_goals.has_no_cell.Given as goal

abbrev pub invariant-loop-chunk : goal.invariant-loop-chunk
invariant-loop-chunk l = list_any (is_cell_at l.goal l.at) (drop l.chunk-index l.chunks) ≡ list_any (is_cell_at l.goal l.at) l.chunks
