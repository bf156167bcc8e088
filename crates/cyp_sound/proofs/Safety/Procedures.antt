-- The procedures of a derivation's called companions, and what is asked of them in runs of fewer than k steps.
use Rattle.cyp_heap.specs.declared.goal.Goal.{Goal}
use Rattle.cyp_heap.specs.declared.pred.Preds.{Preds}
use Rattle.cyp_kernel.specs.Companions.{Proof, Proofs, called_count, calls, is_called}
use Rattle.cyp_kernel.specs.Meets.{ProcedureMeets}
use Rattle.cyp_prog.specs.Programs.{Body, Procedure}
use Rattle.cyp_tree.specs.Derivations.{Derived, More, NoMore}
use Rattle.std.proofs.Common.{refl, true, false}
use Rattle.std.specs.Prelude.{◌+◌, Bool, IsTrue, List, Some, cond, length, slice_get, slice_index, suc, ◌≡◌, ℕ}

-- the program has these procedures from this number on
abbrev pub HasFrom : List Procedure → ℕ → List Procedure → Type 0
HasFrom ps k qs = (i : ℕ) (q : Procedure) → slice_get qs i ≡ Some q → slice_get ps (k + i) ≡ Some q

abbrev mutual
  -- the procedures of the called companions, numbered from `next` on, meet their goals in runs of fewer than k steps
  pub ProceduresMeet : List Procedure → ℕ → ℕ → Proof → Type 0
  ProceduresMeet ps k next (Derived n r ds) =
      (IsTrue (is_called n r ds) → ProcedureMeets ps n.preds n.goal next k) × AllProceduresMeet ps k (cond (is_called n r ds) (suc next) next) ds

  pub AllProceduresMeet : List Procedure → ℕ → ℕ → Proofs → Type 0
  AllProceduresMeet ps k next NoMore = Unit {0}
  AllProceduresMeet ps k next (More d ds) = ProceduresMeet ps k next d × AllProceduresMeet ps k (next + called_count d) ds

-- each companion that the derivation calls has a procedure, which meets the companion's goal in runs of fewer than k steps
pub record CompanionsMeet (ps : List Procedure) (preds : Preds) (k : ℕ) (goals : List Goal) (procs : List ℕ) (d : Proof) : Type 0 where
  pub as_many : length procs ≡ length goals
  pub meet : (i : ℕ) (g : Goal) → slice_get goals i ≡ Some g → IsTrue (calls i d) → ProcedureMeets ps preds g (slice_index procs i) k

-- ---- a place that is called, or isn't

-- what is known of the procedures from a number on: a called place takes the first number
module _ (P : ℕ → Type 0) (next : ℕ) where
  pub at_called : (t : Bool) → t ≡ true → P (cond t (suc next) next) → P (suc next)
  at_called true e h = h
  at_called false e h = cc

  pub at_uncalled : (t : Bool) → t ≡ false → P (cond t (suc next) next) → P next
  at_uncalled true e h = cc
  at_uncalled false e h = h

  pub at_either : (t : Bool) → (t ≡ true → P (suc next)) → (t ≡ false → P next) → P (cond t (suc next) next)
  at_either true p q = p refl
  at_either false p q = q refl

-- one of two bodies
pub chosen : (P : Body → Type 0) (t : Bool) (a b : Body) → (t ≡ true → P a) → (t ≡ false → P b) → P (elim t [ true ↦ a | false ↦ b ])
chosen P true a b p q = p refl
chosen P false a b p q = q refl
