use Rattle.std.proofs.Common.{◌≡◌, take, true}
use Rattle.std.specs.List.{list_all}
use Rattle.std.specs.Option.{is_none}
use Rattle.cyp_goal.specs.SolvedSides.{solves}
use Rattle.cyp_term.specs.declared.lit.Lit.{Lit}
use Rattle.cyp_goal.proofs.equations.Unknowns.first.Given as goal

abbrev pub invariant-loop-place : goal.invariant-loop-place
invariant-loop-place l = list_all (λ (m : Lit). is_none (solves l.self m)) (take l.place l.lits) ≡ true
