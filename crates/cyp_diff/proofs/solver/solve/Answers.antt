use Rattle.std.proofs.Common.{ap₂, ◌∙◌}
use Rattle.cyp_diff.specs.Solution.{at}
use Rattle.cyp_diff.specs.Solving.{values_from}
use Rattle.cyp_diff.proofs.Answering.{solved_some, solved_none}
use Rattle.cyp_diff.proofs.solver.solve.Goals as goal

pub returns-in-Some : goal.returns-in-Some
returns-in-Some c =
    solved_some c.args.lits.now c.in_ok-vars.vars c.in_ok-xs.field-0 c.in-Some.xs c.in_ok-values_of-in-Some.field-0 c.requires.ints c.in_ok-vars.ensures c.in_ok-xs.ensures c.in-Some.is
    (c.in_ok-values_of-in-Some.ensures ∙ ap₂ (λ ys vs. values_from (at ys) vs 1) c.as_slice-in-Some.ensures c.as_slice.ensures)

pub returns : goal.returns
returns c = solved_none c.args.lits.now c.in_ok-vars.vars c.in_ok-xs.field-0 c.requires.ints c.in_ok-vars.ensures c.in_ok-xs.ensures c.in-None.is
