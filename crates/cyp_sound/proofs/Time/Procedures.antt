-- What is asked of the procedures of a derivation's called companions for the bound, in runs of fewer than k steps.
use Rattle.cyp_heap.specs.declared.pred.Preds.{Preds}
use Rattle.cyp_kernel.specs.Companions.{Proof, Proofs, called_count, calls, is_called}
use Rattle.cyp_prog.specs.Programs.{Procedure}
use Rattle.cyp_sound.proofs.Time.KeepsTime.{ProcedureKeepsTime}
use Rattle.cyp_sound.proofs.Time.KnownCompanions.{own_companion}
use Rattle.cyp_sound.proofs.Time.Measures.{Companion}
use Rattle.cyp_tree.specs.Derivations.{Derived, More, NoMore}
use Rattle.std.specs.Prelude.{◌+◌, IsTrue, List, Some, cond, length, slice_get, slice_index, suc, ◌≡◌, ℕ}

abbrev mutual
  -- the procedures of the called companions, numbered from `next` on, keep to their time in runs of fewer than k steps
  pub ProceduresKeepTime : List Procedure → ℕ → ℕ → Proof → Type 0
  ProceduresKeepTime ps k next (Derived n r ds) =
      (IsTrue (is_called n r ds) → ProcedureKeepsTime ps n.preds (own_companion n r) next k) × AllProceduresKeepTime ps k (cond (is_called n r ds) (suc next) next) ds

  pub AllProceduresKeepTime : List Procedure → ℕ → ℕ → Proofs → Type 0
  AllProceduresKeepTime ps k next NoMore = Unit {0}
  AllProceduresKeepTime ps k next (More d ds) = ProceduresKeepTime ps k next d × AllProceduresKeepTime ps k (next + called_count d) ds

-- each companion that the derivation calls has a procedure that keeps to its time in runs of fewer than k steps
pub record CompanionsKeepTime (ps : List Procedure) (preds : Preds) (k : ℕ) (cs : List Companion) (procs : List ℕ) (d : Proof) : Type 0 where
  pub as_many : length procs ≡ length cs
  pub keep : (i : ℕ) (c : Companion) → slice_get cs i ≡ Some c → IsTrue (calls i d) → ProcedureKeepsTime ps preds c (slice_index procs i) k
