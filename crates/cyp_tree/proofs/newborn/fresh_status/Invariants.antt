use Rattle.std.proofs.Common.{◌≡◌, drop}
use Rattle.cyp_tree.specs.declared.mark.Mark.TheVariants.{Solved}
use Rattle.cyp_tree.specs.Statuses.{either}
use Rattle.cyp_tree.specs.Enlarged.{fresh_status}
use Rattle.cyp_tree.proofs.newborn.fresh_status.Given as goal

abbrev pub invariant-loop-alt : goal.invariant-loop-alt
invariant-loop-alt g l = record { rest : either l.status (fresh_status (drop l.alt-index l.alts)) ≡ fresh_status l.alts; unsolved : l.status ≡ Solved → ⊥ }
