-- The answer of a best-first search with a budget and a limit of nodes.
use Rattle.std.specs.Prelude.{◌≡◌, ℕ, zero, suc, ◌<◌, ◌==◌, nat_le, Bool, true, false, Option, Some, None}
use Rattle.cyp_tree.specs.declared.mark.Mark.{Mark}
use Rattle.cyp_tree.specs.declared.mark.Mark.TheVariants.{Undecided, Solved, Failed}
use Rattle.cyp_tree.specs.Trees.{Tree, Leaf, Moving}
use Rattle.cyp_tree.specs.Statuses.{status}
use Rattle.cyp_tree.specs.Sizes.{size, depth}
use Rattle.cyp_tree.specs.Derivations.{Derivation, chosen_derivation}
use Rattle.cyp_tree.specs.Growing.{expand_next}
use Rattle.cyp_search.specs.Stages.{stage}

-- a derivation, or that there is none, or that the search came to a limit
pub data PlainVerdict (R N : Type 0) : Type 0 where
  Found : Derivation R N → PlainVerdict R N
  NoneFound : PlainVerdict R N
  Spent : PlainVerdict R N

-- with the number of expansions, and the nodes and the depth of the tree after them
pub record PlainReport (R N : Type 0) : Type 0 where
  pub verdict : PlainVerdict R N
  pub expansions : ℕ
  pub nodes : ℕ
  pub depth : ℕ

-- found with the derivation where there is one, and else spent
abbrev pub found_or_spent : {R N : Type 0} → Option (Derivation R N) → PlainVerdict R N
found_or_spent None = Spent
found_or_spent (Some d) = Found d

-- ---- the answer as that of the least stage that ends the search

-- what ends a search at a stage, tried in this order: a solved root, a failed root, the budget, and more nodes at the next stage than fit
abbrev pub ending_by : {R N : Type 0} → Mark → Bool → Bool → Option (Derivation R N) → Option (PlainVerdict R N)
ending_by Solved spent fits d = Some (found_or_spent d)
ending_by Failed spent fits d = Some NoneFound
ending_by Undecided true fits d = Some Spent
ending_by Undecided false true d = None
ending_by Undecided false false d = Some Spent

-- the verdict where the search ends at the stage after k expansions, and nothing where it goes on from there
abbrev pub ending : {R N : Type 0} → Moving R N → ℕ → ℕ → N → ℕ → Option (PlainVerdict R N)
ending space budget limit root k =
    ending_by (status (stage space root k)) (k == budget) (nat_le (size (stage space root (suc k))) limit) (chosen_derivation (stage space root k))

-- the report with this verdict of the tree after k expansions
abbrev pub report_of : {R N : Type 0} → PlainVerdict R N → ℕ → Tree R N → PlainReport R N
report_of v k t = record { verdict = v; expansions = k; nodes = size t; depth = depth t }

-- the report is that of the least stage that ends the search
abbrev pub IsReport : {R N : Type 0} → Moving R N → ℕ → ℕ → N → PlainReport R N → Type 0
IsReport {R} {N} space budget limit root r =
    (k : ℕ) × (v : PlainVerdict R N) × (ending space budget limit root k ≡ Some v) × ((j : ℕ) → j < k → ending space budget limit root j ≡ None)
    × (r ≡ report_of v k (stage space root k))

-- ---- the same, computed along the stages

-- the verdict by the status of the last tree: its derivation if solved, none if failed, spent if still open
abbrev pub verdict_at : {R N : Type 0} → Mark → Option (Derivation R N) → PlainVerdict R N
verdict_at Solved d = found_or_spent d
verdict_at Failed d = NoneFound
verdict_at Undecided d = Spent

-- the report of a search that ends with the tree after k expansions
abbrev pub report_at : {R N : Type 0} → ℕ → Tree R N → PlainReport R N
report_at k t = report_of (verdict_at (status t) (chosen_derivation t)) k t

-- from the tree after k expansions on, with this many left
abbrev pub report_from : {R N : Type 0} → Moving R N → ℕ → ℕ → ℕ → Tree R N → PlainReport R N
report_from space limit zero k t = report_at k t
report_from space limit (suc left) k t = elim (status t) [
  | Solved ↦ report_at k t
  | Failed ↦ report_at k t
  | Undecided ↦ let u : Tree _ _ = expand_next space t in elim (nat_le (size u) limit) [
    | false ↦ report_at k t
    | true ↦ report_from space limit left (suc k) u
  ]
]

-- the report of a search with this budget and this limit of nodes
abbrev pub report : {R N : Type 0} → Moving R N → ℕ → ℕ → N → PlainReport R N
report space budget limit root = report_from space limit budget 0 (Leaf 0 root)

-- law: the report that is computed is that of the least stage that ends the search
abbrev pub ReportLaw : (R N : Type 0) → Type 0
ReportLaw R N = (space : Moving R N) (budget limit : ℕ) (root : N) → IsReport space budget limit root (report space budget limit root)

-- law: a search has one report
abbrev pub OneReportLaw : (R N : Type 0) → Type 0
OneReportLaw R N =
    (space : Moving R N) (budget limit : ℕ) (root : N) (r s : PlainReport R N) → IsReport space budget limit root r → IsReport space budget limit root s → r ≡ s
