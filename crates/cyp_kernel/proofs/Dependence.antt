-- A side of a goal depends on its variables alone.
use Rattle.std.proofs.Common.{◌++◌}
use Rattle.cyp_goal.proofs.EachVar.{Each, first, second}
use Rattle.cyp_goal.proofs.Live.{among_in}
use Rattle.cyp_heap.specs.Chunks.{chunks_vars}
use Rattle.cyp_kernel.proofs.AgreeVars.{AgreeAt, side_by_vars}
use Rattle.cyp_kernel.specs.Dependence.{SideDependsOnVars}
use Rattle.cyp_term.specs.Terms.{lits_vars}

pub side_depends_on_vars : SideDependsOnVars
side_depends_on_vars preds s t ls cs h ns sorted agree holds =
    let each : Each (AgreeAt s t) (lits_vars ls ++ chunks_vars cs) = λ v k. agree v (among_in v (lits_vars ls ++ chunks_vars cs) k) in
    side_by_vars s t preds ls cs h ns sorted.lits sorted.chunks
    (first (AgreeAt s t) (lits_vars ls) (chunks_vars cs) each) (second (AgreeAt s t) (lits_vars ls) (chunks_vars cs) each) holds
