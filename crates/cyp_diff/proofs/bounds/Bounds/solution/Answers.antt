use Rattle.std.proofs.Common.{rules, w64, FitsSigned, subst, ◌∙◌}
use Rattle.cyp_diff.specs.Solution.{Solves}
use Rattle.cyp_diff.proofs.Solving.{solution_step, all_solved}
use Rattle.cyp_diff.proofs.bounds.Bounds.solution.Goals as goal

pub loop-row-preserved : goal.loop-row-preserved
loop-row-preserved c =
    let fits : FitsSigned w64 c.least_of.result = search rules in
    solution_step c.deref-row-items.result.now c.loop-row.xs.items c.push.new.self.items c.loop-row.row-index c.least_of.result c.loop-row.invariant c.loop-row-test.true fits
    c.least_of.ensures c.in_ok-push.ensures.items

pub returns : goal.returns
returns c =
    subst (λ rows. Solves rows c.from_vec.result) c.self.view_is
    (all_solved c.self.inside.rows.items c.deref-row-items.result.now c.from_vec.result c.loop-row.row-index c.self.invariant c.deref-row-items.ensures.value c.loop-row-test.false (c.from_vec.ensures ∙ c.loop-row.invariant))
