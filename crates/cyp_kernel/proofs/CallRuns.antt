-- A call in a part of the heap: the procedure's run beside the rest, and then what follows.
use Rattle.std.proofs.Common.{◌≡◌, refl, sym, ap, ◌∙◌, ℕ, zero, suc, ◌+◌, ◌<◌, ◌≤◌, inl, inr, true, List, [], ◌∷◌, map, Some, arith, subst}
use Rattle.std.specs.Prelude.{slice_get}
use Rattle.std.proofs.lemmas.Bool.{both_ways}
use Rattle.cyp_heap.specs.Stores.{IsUnion, Store}
use Rattle.cyp_heap.specs.declared.goal.Goal.{Goal}
use Rattle.cyp_heap.specs.declared.pred.Preds.{Preds}
use Rattle.cyp_kernel.proofs.BodyRuns.{begun_run}
use Rattle.cyp_kernel.proofs.GuardTests.{GoesRight}
use Rattle.cyp_kernel.specs.Correct.{MeetsPost}
use Rattle.cyp_kernel.specs.Meets.{MeetsSoFar}
use Rattle.cyp_machine.proofs.Calls.{call}
use Rattle.cyp_machine.proofs.FramedRuns.{framing, last_beside}
use Rattle.cyp_machine.specs.Allocations.{allocated}
use Rattle.cyp_machine.specs.Framing.{RunsSafely}
use Rattle.cyp_machine.specs.Parts.{IsInCall, IsPastCall, callee, frame, state}
use Rattle.cyp_machine.specs.Runs.{Run}
use Rattle.cyp_machine.specs.States.{State, entry_body, frames_ended, has_ended, start}
use Rattle.cyp_machine.specs.Values.{Values, expr_value, params_from}
use Rattle.cyp_prog.specs.Programs.{Body, End, Invoking, Procedure, Then}
use Rattle.cyp_prog.specs.declared.stmt.Expr.{Expr}
use Rattle.cyp_term.specs.Meaning.{Assignment}

-- the procedure goes right in the part, in fewer than k steps
module _ (ps : List Procedure) (p : ℕ) (preds : Preds) (inner : Goal) (u : Assignment) (h part extra : Store) (union : IsUnion h part extra) (k : ℕ)
    (works : (m : ℕ) (t : State) → m < k → Run ps m (start ps p (map u.number inner.program) part) t → MeetsSoFar preds inner u t) where
  -- what follows goes right from each heap of the procedure's postcondition beside the rest
  module _ (outer : Goal) (s : Assignment) (vs : Values) (es : List Expr) (b : Body) (args : map (expr_value vs) es ≡ map u.number inner.program)
      (after : (g large : Store) → MeetsPost preds inner u g → IsUnion large g extra → GoesRight ps preds outer s large vs k b) where
    module _ (q : Procedure) (known : slice_get ps p ≡ Some q) where
      abbrev small : State
      small = state part (callee vs es q ∷ [])

      abbrev large : State
      large = state h (callee vs es q ∷ [])

      same_start : small ≡ start ps p (map u.number inner.program) part
      same_start = let at = sym known in λ i. record { store = part; frames = record { values = params_from 1 (args i); rest = entry_body (at i) } ∷ [] }

      goes : (m : ℕ) (t : State) → m < k → Run ps m small t → MeetsSoFar preds inner u t
      goes m t l r = works m t l (subst (λ (x : State). Run ps m x t) same_start r)

      below : (m j : ℕ) → m < k → j ≤ m → j < k
      below m j l e = omega arith

      safe : (m : ℕ) → m < k → RunsSafely ps m small
      safe m l j t e r = (goes j t (below m j l e) r).no_fault

      in_call : (m c : ℕ) (t : State) → m < k → IsInCall ps m c h (callee vs es q) (frame vs b ∷ []) t → MeetsSoFar preds outer s t
      in_call m c t l i =
          let framed = framing ps m extra large small (union, refl) (safe m l) in
          record { no_fault = i.4 ∙ framed.0 m (state i.0 i.1) (itself m) i.3.0; meets_post = λ e. absurd (both_ways (has_ended t) i.5 e) }
        where
          itself : (m : ℕ) → m ≤ m
          itself m = omega arith

      past_call : (m c : ℕ) (t : State) → m < k → IsPastCall ps m c h (callee vs es q) (frame vs b ∷ []) t → MeetsSoFar preds outer s t
      past_call m c t l i =
          let framed = framing ps m extra large small (union, refl) (safe m l) in
          let ended : State = state i.6 (frame i.7 End ∷ []) in
          let d = framed.1 i.0 ended (first m i.0 i.1 i.2) i.8.0 in
          let last = last_beside ps extra i.0 large small ended d.0 d.2 in
          let over : has_ended d.0 ≡ true = ap frames_ended (sym last.1) in
          after d.0.store i.6 ((goes i.0 d.0 (below m i.0 l (first m i.0 i.1 i.2)) d.1).meets_post over) last.0 i.1 t (second m i.0 i.1 i.2 l) i.9.0
        where
          first : (m j i : ℕ) → suc (j + i) ≡ m → j ≤ m
          first m j i e = omega arith

          second : (m j i : ℕ) → suc (j + i) ≡ m → m < k → i ≤ k
          second m j i e l = omega arith

    pub call_right : GoesRight ps preds outer s h vs k (Then (Invoking p es) b)
    call_right zero t l r = begun_run preds outer s h vs (Invoking p es) b t refl r
    call_right (suc m) t l r =
        let q : Procedure = r.1.0 in
        elim (call ps m (allocated ps (suc m) (state h (frame vs (Then (Invoking p es) b) ∷ [])) t r) h vs p es b [] t q r.1.1 (r, refl)) [
          | inl i ↦ in_call q r.1.1 m _ t (less m l) i
          | inr i ↦ past_call q r.1.1 m _ t (less m l) i
        ]
      where
        less : (m : ℕ) → suc m ≤ k → m < k
        less m l = omega arith
