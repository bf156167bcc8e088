use Rattle.std.proofs.Common.{◌≡◌, ◌+◌, ℕ, ℤ, length, take}
use Rattle.std.specs.Prelude.{◌↔◌}
use Rattle.std.specs.List.{All}
use Rattle.cyp_diff.specs.Distances.{Meets}
use Rattle.cyp_diff.specs.Gaps.{Apart, IsGap}
use Rattle.cyp_diff.specs.Places.{Holds}
use Rattle.cyp_diff.proofs.system.integers_of.Given as goal

abbrev pub invariant-loop-lit : goal.invariant-loop-lit
invariant-loop-lit l = record {
  places : length l.bounds ≡ length l.vars + 1;
  gaps : All (IsGap (length l.bounds)) l.gaps.items;
  means : (x : ℕ → ℤ) → (Meets x l.bounds × All (Apart x) l.gaps.items) ↔ All (Holds l.vars x) (take l.lit-index l.lits);
}
