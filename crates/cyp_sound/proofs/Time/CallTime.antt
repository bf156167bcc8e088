-- A call keeps to its time: the procedure's run beside the rest, the return, and then what follows.
use Rattle.cyp_heap.specs.Stores.{IsUnion, Store, cell_count}
use Rattle.cyp_heap.specs.declared.goal.Goal.{Goal}
use Rattle.cyp_heap.specs.declared.pred.Preds.{Preds}
use Rattle.cyp_kernel.specs.Bound.{body_length, times}
use Rattle.cyp_kernel.specs.Correct.{MeetsPost}
use Rattle.cyp_kernel.specs.Meets.{MeetsSoFar}
use Rattle.cyp_machine.proofs.Allocated.{cells as cells_law}
use Rattle.cyp_machine.proofs.Calls.{call}
use Rattle.cyp_machine.proofs.FramedRuns.{framing, last_beside}
use Rattle.cyp_machine.specs.Allocations.{RunAllocates}
use Rattle.cyp_machine.specs.Framing.{RunsSafely}
use Rattle.cyp_machine.specs.Parts.{IsInCall, IsPastCall, callee, frame, state}
use Rattle.cyp_machine.specs.Runs.{Run}
use Rattle.cyp_machine.specs.States.{State, entry_body, frames_ended, has_ended, start}
use Rattle.cyp_machine.specs.Values.{Values, expr_value, params_from}
use Rattle.cyp_prog.specs.Programs.{Body, End, Invoking, Procedure, Then}
use Rattle.cyp_prog.specs.declared.stmt.Expr.{Expr}
use Rattle.cyp_sound.proofs.Time.Growth.{later_in_time, times_above}
use Rattle.cyp_sound.proofs.Time.KeepsTime.{KeepsTime, grown}
use Rattle.cyp_term.specs.Meaning.{Assignment}
use Rattle.std.proofs.Common.{◌≡◌, refl, sym, ap, ◌∙◌, ℕ, zero, suc, ◌+◌, ◌<◌, ◌≤◌, inl, inr, true, List, [], ◌∷◌, map, Some, arith, subst}
use Rattle.std.specs.Prelude.{slice_get}

-- the function applied so many times
abbrev so_often : ℕ → (ℕ → ℕ) → ℕ → ℕ
so_often k g y = times k g y

-- before its first step a run has allocated nothing
pub at_start : (ps : List Procedure) (start : List ℕ) (n z c : ℕ) → 0 ≡ c → z + 0 + c ≤ times n (grown ps start) z
at_start ps start n z c e = less z c (times n (grown ps start) z) e (times_above ps start n z)
  where
    less : (z c t : ℕ) → 0 ≡ c → z ≤ t → z + 0 + c ≤ t
    less z c t e l = omega arith

-- the procedure goes right in the part and keeps to its time there
module _ (ps : List Procedure) (began : List ℕ) (p : ℕ) (preds : Preds) (inner : Goal) (u : Assignment) (h part extra : Store) (union : IsUnion h part extra) (k z : ℕ) (some : suc (cell_count h) ≤ z)
    (works : (m : ℕ) (t : State) → m < k → Run ps m (start ps p (map u.number inner.program) part) t → MeetsSoFar preds inner u t)
    (times : (m e : ℕ) (t : State) → m < k → RunAllocates ps m e (start ps p (map u.number inner.program) part) t → suc (suc z + m + e) ≤ grown ps began z)
    (vs : Values) (es : List Expr) (b : Body) (args : map (expr_value vs) es ≡ map u.number inner.program)
    (after : (g large : Store) (y : ℕ) → suc (cell_count large) ≤ y → z ≤ y → y ≤ grown ps began z → MeetsPost preds inner u g → IsUnion large g extra → KeepsTime ps k large vs b y began) where
  module _ (q : Procedure) (known : slice_get ps p ≡ Some q) where
    abbrev small : State
    small = state part (callee vs es q ∷ [])

    abbrev large : State
    large = state h (callee vs es q ∷ [])

    same_start : small ≡ start ps p (map u.number inner.program) part
    same_start = let at = sym known in λ i. record { store = part; frames = record { values = params_from 1 (args i); rest = entry_body (at i) } ∷ [] }

    goes : (m : ℕ) (t : State) → m < k → Run ps m small t → MeetsSoFar preds inner u t
    goes m t l r = works m t l (subst (λ (x : State). Run ps m x t) same_start r)

    takes : (m e : ℕ) (t : State) → m < k → RunAllocates ps m e small t → suc (suc z + m + e) ≤ grown ps began z
    takes m e t l r = times m e t l (subst (λ (x : State). RunAllocates ps m e x t) same_start r)

    below : (m j : ℕ) → m < k → j ≤ m → j < k
    below m j l e = omega arith

    safe : (m : ℕ) → m < k → RunsSafely ps m small
    safe m l j t e r = (goes j t (below m j l e) r).no_fault

    itself : (m : ℕ) → m ≤ m
    itself m = omega arith

    in_call : (m c : ℕ) (t : State) → m < k → IsInCall ps m c h (callee vs es q) (frame vs b ∷ []) t → z + suc m + c ≤ so_often (1 + body_length b) (grown ps began) z
    in_call m c t l i =
        let framed = framing ps m extra large small (union, refl) (safe m l) in
        let own = framed.1 m (state i.0 i.1) (itself m) i.3.0 in
        later_in_time ps began 1 (body_length b) z (grown ps began z) (z + suc m + c) (itself 1) (itself (grown ps began z))
        (less z m c (grown ps began z) (so_often (body_length b) (grown ps began) (grown ps began z)) (takes m c own.0 l (own.1, own.3 ∙ i.3.1)) (times_above ps began (body_length b) (grown ps began z)))
      where
        less : (z m c g t : ℕ) → suc (suc z + m + c) ≤ g → g ≤ t → z + suc m + c ≤ t
        less z m c g t p q = omega arith

    past_call : (m c : ℕ) (t : State) → m < k → IsPastCall ps m c h (callee vs es q) (frame vs b ∷ []) t → z + suc m + c ≤ so_often (1 + body_length b) (grown ps began) z
    past_call m c t l i =
        let framed = framing ps m extra large small (union, refl) (safe m l) in
        let ended : State = state i.6 (frame i.7 End ∷ []) in
        let d = framed.1 i.0 ended (first m i.0 i.1 i.2) i.8.0 in
        let last = last_beside ps extra i.0 large small ended d.0 d.2 in
        let over : has_ended d.0 ≡ true = ap frames_ended (sym last.1) in
        let less_k : i.0 < k = below m i.0 l (first m i.0 i.1 i.2) in
        let y : ℕ = suc (suc z + i.0 + i.3) in
        let taken : y ≤ grown ps began z = takes i.0 i.3 d.0 less_k (d.1, d.3 ∙ i.8.1) in
        let cells = subst (λ (x : ℕ). cell_count i.6 ≤ cell_count h + x) i.8.1 (cells_law ps i.0 large ended i.8.0) in
        let rest = after d.0.store i.6 y (room (cell_count i.6) (cell_count h) i.3 z i.0 cells some) (later z i.0 i.3) taken ((goes i.0 d.0 less_k d.1).meets_post over) last.0 i.1 i.4 t (second m i.0 i.1 i.2 l) i.9 in
        later_in_time ps began 1 (body_length b) z y (z + suc m + c) (itself 1) taken
        (sum z m c i.0 i.1 i.3 i.4 (so_often (body_length b) (grown ps began) y) i.2 i.5 rest)
      where
        first : (m j i : ℕ) → suc (j + i) ≡ m → j ≤ m
        first m j i e = omega arith

        second : (m j i : ℕ) → suc (j + i) ≡ m → m < k → i ≤ k
        second m j i e l = omega arith

        room : (a b d z j : ℕ) → a ≤ b + d → suc b ≤ z → suc a ≤ suc (suc z + j + d)
        room a b d z j p q = omega arith

        later : (z j d : ℕ) → z ≤ suc (suc z + j + d)
        later z j d = omega arith

        sum : (z m c j i d e t : ℕ) → suc (j + i) ≡ m → d + e ≡ c → suc (suc z + j + d) + i + e ≤ t → z + suc m + c ≤ t
        sum z m c j i d e t p q l = omega arith

  pub call_in_time : KeepsTime ps k h vs (Then (Invoking p es) b) z began
  call_in_time zero c t l r = at_start ps began (1 + body_length b) z c r.1
  call_in_time (suc m) c t l r =
      let q : Procedure = r.0.1.0 in
      elim (call ps m c h vs p es b [] t q r.0.1.1 r) [
        | inl i ↦ in_call q r.0.1.1 m c t (less m l) i
        | inr i ↦ past_call q r.0.1.1 m c t (less m l) i
      ]
    where
      less : (m : ℕ) → suc m ≤ k → m < k
      less m l = omega arith
