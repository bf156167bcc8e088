-- The body at the place of a called companion keeps to its time.
use Rattle.cyp_heap.specs.Stores.{Store, cell_count, no_store}
use Rattle.cyp_heap.specs.declared.chunk.Chunk.TheVariants.{Inst}
use Rattle.cyp_heap.specs.declared.chunk.InstOf.{InstOf}
use Rattle.cyp_heap.specs.declared.goal.Node.{Node}
use Rattle.cyp_kernel.specs.Bound.{bound, longest}
use Rattle.cyp_kernel.specs.Meets.{ProcedureMeets}
use Rattle.cyp_kernel.specs.Naming.{Names, expr_of}
use Rattle.cyp_kernel.specs.SteadyLaws.{IsSteadyNode}
use Rattle.cyp_machine.specs.Allocations.{RunAllocates}
use Rattle.cyp_machine.specs.States.{State, start as begin}
use Rattle.cyp_machine.specs.Values.{Values}
use Rattle.cyp_prog.specs.Programs.{End, Invoking, Procedure, Then}
use Rattle.cyp_sound.proofs.Safety.CalledBody.{passed_values, with_nothing}
use Rattle.cyp_sound.proofs.Time.CallTime.{at_start, call_in_time}
use Rattle.cyp_sound.proofs.Time.Growth.{grown_call}
use Rattle.cyp_sound.proofs.Time.KeepsTime.{BodyKeepsTime, KeepsTime, ProcedureKeepsTime, grown}
use Rattle.cyp_sound.proofs.Time.KnownCompanions.{companion_by}
use Rattle.cyp_sound.proofs.Time.Levels.{below_is_lower, levels_length}
use Rattle.cyp_sound.proofs.Time.Measures.{Companion, call_measure, measure_at, numbers_of}
use Rattle.cyp_sound.proofs.Time.OpenedMeasures.{opened_is_lower, opened_within}
use Rattle.cyp_sound.proofs.Time.Plain.{IsPlain}
use Rattle.cyp_step.specs.Changes.{pre_of}
use Rattle.cyp_step.specs.Unfolding.{open_link}
use Rattle.cyp_term.specs.Terms.{var_term}
use Rattle.std.proofs.Common.{◌≡◌, sym, ◌∙◌, ℕ, zero, suc, ◌+◌, ◌<◌, ◌≤◌, length, List, [], ◌∷◌, map, Some, arith}
use Rattle.std.specs.Prelude.{slice_get}

-- nothing runs at the end of a body
pub end_in_time : (ps : List Procedure) (start : List ℕ) (k z : ℕ) (h : Store) (vs : Values) → KeepsTime ps k h vs End z start
end_in_time ps start k z h vs zero c t l r = at_start ps start 0 z c r.1
end_in_time ps start k z h vs (suc m) c t l r = absurd r.0.1

pub called_in_time : (ps : List Procedure) (n : Node) (i : ℕ) (j : InstOf) (names : Names) (p k : ℕ) (start : List ℕ) → slice_get (pre_of n) i ≡ Some (Inst j) → length n.links < 4 → IsSteadyNode n → IsPlain n
    → ProcedureMeets ps n.preds n.goal p k → ProcedureKeepsTime ps n.preds (companion_by n (open_link n i j ∷ [])) p k
    → BodyKeepsTime ps n names k start (Then (Invoking p (map (λ v. expr_of names (var_term v)) n.goal.program)) End)
called_in_time ps n i j names p k start at room steady plain safe timed s h ns vs z pre named place =
    call_in_time ps start p n.preds n.goal s h h no_store (with_nothing h) k z place.cells (safe s h ns pre) takes vs (map (λ v. expr_of names (var_term v)) n.goal.program) End
    (passed_values names vs s n.goal.program named) (λ g large y a b c d e. end_in_time ps start k y large vs)
  where
    one : (a z : ℕ) → suc a ≤ z → 1 ≤ z
    one a z l = omega arith

    more : (a z : ℕ) → suc a ≤ z → suc a ≤ suc z
    more a z l = omega arith

    most : (a b d : ℕ) → a ≤ b → b ≤ d → a ≤ d
    most a b d p q = omega arith

    wider : (z x : ℕ) → x ≤ z → x ≤ suc z
    wider z x l = omega arith

    takes : (m e : ℕ) (t : State) → m < k → RunAllocates ps m e (begin ps p (map s.number n.goal.program) h) t → suc (suc z + m + e) ≤ grown ps start z
    takes m e t l r =
        let c : Companion = companion_by n (open_link n i j ∷ []) in
        let in_bound = timed s h ns (suc z) pre (more (cell_count h) z place.cells) (λ v a b. let w = place.cards v b in (w.0, w.1, wider z w.0 w.2)) m e t l r in
        let lower =
        below_is_lower z (call_measure s c) (measure_at s n.links) start (levels_length c.ends (numbers_of s c.own) ∙ sym place.long)
        (opened_within n i j s z at steady plain (one (cell_count h) z place.cells) place.cards) (opened_is_lower n i j s room plain) place.below in
        most (suc (suc z + m + e)) (bound (suc (longest ps)) (call_measure s c) (suc z)) (grown ps start z) in_bound (grown_call ps start (call_measure s c) z lower)
