-- Bounds and gaps that say what literals say.
use Rattle.std.specs.Prelude.{◌≡◌, ℕ, ℤ, pos, ◌+ℤ◌, ◌≤ℤ◌, ◌↔◌, Bool, true, false, List, length, ◌+◌, Option, Some, None}
use Rattle.std.specs.List.{All}
use Rattle.cyp_term.specs.declared.lit.Lit.{Lit}
use Rattle.cyp_term.specs.declared.term.Term.{Term}
use Rattle.cyp_term.specs.declared.term.Var.{Var}
use Rattle.cyp_diff.specs.declared.gaps.Gap.{Gap}
use Rattle.cyp_diff.specs.Distances.{Meets, Within}
use Rattle.cyp_diff.specs.Gaps.{Apart, IsGap}
use Rattle.cyp_diff.specs.Solution.{IsLow, at}
use Rattle.cyp_diff.specs.Places.{Holds, level}

-- true: the bound was added; false: no integers meet it
abbrev pub AtMostMeans : ℕ → ℕ → ℤ → List (List ℤ) → List (List ℤ) → Bool → Type 0
AtMostMeans i j c old new true = (x : ℕ → ℤ) → Meets x new ↔ (Meets x old × Within x i j c)
AtMostMeans i j c old new false = (x : ℕ → ℤ) → Meets x old → Within x i j c → ⊥

-- 0 or 1
pub record IsBit (z : ℤ) : Type 0 where
  pub least : pos 0 ≤ℤ z
  pub most : z ≤ℤ pos 1

-- the same of: the level of the first term, plus a number, is at most that of the second
abbrev pub LeMeans : List Var → Term → Term → ℤ → List (List ℤ) → List (List ℤ) → Bool → Type 0
LeMeans vs a b less old new true = (x : ℕ → ℤ) → Meets x new ↔ (Meets x old × ((level vs x a +ℤ less) ≤ℤ level vs x b))
LeMeans vs a b less old new false = (x : ℕ → ℤ) → Meets x old → (level vs x a +ℤ less) ≤ℤ level vs x b → ⊥

-- the same of: the levels are equal
abbrev pub EqMeans : List Var → Term → Term → List (List ℤ) → List (List ℤ) → Bool → Type 0
EqMeans vs a b old new true = (x : ℕ → ℤ) → Meets x new ↔ (Meets x old × (level vs x a ≡ level vs x b))
EqMeans vs a b old new false = (x : ℕ → ℤ) → Meets x old → level vs x a ≡ level vs x b → ⊥

-- the gap is avoided exactly where the levels aren't equal
abbrev pub GapMeans : List Var → Term → Term → Gap → Type 0
GapMeans vs a b g = (x : ℕ → ℤ) → Apart x g ↔ (level vs x a ≡ level vs x b → ⊥)

-- true: bounds and gaps say what they said, and the literal; false: no integers meet the bounds and the literal
abbrev pub LitMeans : List Var → Lit → List (List ℤ) → List Gap → List (List ℤ) → List Gap → Bool → Type 0
LitMeans vs l old gaps new more true =
    (length new ≡ length old) × All (IsGap (length new)) more
    × ((x : ℕ → ℤ) → (Meets x new × All (Apart x) more) ↔ ((Meets x old × All (Apart x) gaps) × Holds vs x l))
LitMeans vs l old gaps new more false = (x : ℕ → ℤ) → Meets x old → Holds vs x l → ⊥

-- None: no integers at the places make the literals hold; else these do, and each is at most 0 and at least -2^40
abbrev pub SystemMeans : List Var → List Lit → Option (List ℤ) → Type 0
SystemMeans vs ls None = (x : ℕ → ℤ) → All (Holds vs x) ls → ⊥
SystemMeans vs ls (Some xs) = (length xs ≡ length vs + 1) × All IsLow xs × All (Holds vs (at xs)) ls
