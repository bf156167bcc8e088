-- A call's run is its own, or that to its end and then the rest of the caller.
use Rattle.std.proofs.Common.{[], ◌+◌, ◌++◌, List, ap, arith, inl, inr, refl, slice_get, subst, suc, sym, zero, ℕ, ◌∙◌, ◌∷◌, ◌≡◌, ◌⊎◌}
use Rattle.cyp_heap.specs.Stores.{Store}
use Rattle.cyp_machine.proofs.Followed.{followed-end}
use Rattle.cyp_machine.proofs.InnerRuns.{inner}
use Rattle.cyp_machine.proofs.Joined.{begun, counted, plus_zero}
use Rattle.cyp_machine.proofs.Options.{same_some}
use Rattle.cyp_machine.specs.Allocations.{RunAllocates, allocated}
use Rattle.cyp_machine.specs.Faults.{fault}
use Rattle.cyp_machine.specs.Parts.{CallLaw, IsInCall, IsInside, IsPast, IsPastCall, callee, frame, state, with_rest}
use Rattle.cyp_machine.specs.States.{Frame, State, has_ended}
use Rattle.cyp_machine.specs.Values.{Values}
use Rattle.cyp_prog.specs.Programs.{Body, End, Procedure}

rest_end : (below : List Frame) (f : Frame) (fs : List Frame) → with_rest End below f fs ≡ (f ∷ fs) ++ below
rest_end below f [] = ap (λ (a : Body). frame f.values a ∷ below) (followed-end f.rest)
rest_end below f (g ∷ gs) = ap (λ (ks : List Frame). f ∷ ks) (rest_end below g gs)

module _ (ps : List Procedure) (n c : ℕ) (h : Store) (f caller : Frame) (below : List Frame) (t : State) where
  abbrev InOrPast : Type 0
  InOrPast = IsInCall ps n c h f (caller ∷ below) t ⊎ IsPastCall ps n c h f (caller ∷ below) t

  none_left : (m k : ℕ) → m + 0 ≡ k → m ≡ k
  none_left m k e = omega arith

  one_left : (m k : ℕ) → m + suc k ≡ n → suc (m + k) ≡ n
  one_left m k e = omega arith

  drop_zero : (d x e : ℕ) → 0 + x ≡ e → d + e ≡ c → d + x ≡ c
  drop_zero d x e p q = omega arith

  -- the callee at its end: it is still the callee's run, or the first of the steps left is the return
  at_end : (m k : ℕ) → m + k ≡ n → (d e : ℕ) → d + e ≡ c → (g : Store) (ws : Values)
      → RunAllocates ps m d (state h (f ∷ [])) (state g (frame ws End ∷ [])) → RunAllocates ps k e (state g (frame ws End ∷ caller ∷ below)) t → InOrPast
  at_end m zero steps d e cells g ws r q = inl (
    g,
    frame ws End ∷ [],
    sym q.0,
    counted ps m n d c (state h (f ∷ [])) (state g (frame ws End ∷ [])) (none_left m n steps)
        (none_left d c (ap (λ (x : ℕ). d + x) q.1 ∙ cells)) r,
    ap fault (sym q.0),
    ap has_ended (sym q.0),
  )
  at_end m (suc k) steps d e cells g ws r q =
      let x : ℕ = allocated ps k q.0.0 t q.0.2 in
      inr (m, k, one_left m k steps, d, x, drop_zero d x e q.1 cells, g, ws, r, begun ps k x q.0.0 (state g (caller ∷ below)) t q.0.1 (q.0.2, refl))

  by_end : IsInside ps n c h f [] End (caller ∷ below) t ⊎ IsPast ps n c h f [] End (caller ∷ below) t → InOrPast
  by_end (inl i) = inl (i.0, i.1 ∷ i.2, i.3 ∙ ap (state i.0) (rest_end (caller ∷ below) i.1 i.2), i.4, i.6, i.7)
  by_end (inr p) = at_end p.0 p.1 p.2 p.3 p.4 p.5 p.6 p.7 p.8 p.9

  -- a body above its caller
  pub above_caller : RunAllocates ps n c (state h (f ∷ caller ∷ below)) t → InOrPast
  above_caller r =
      by_end (inner ps End (caller ∷ below) n c h f [] t
      (subst (λ (fs : List Frame). RunAllocates ps n c (state h fs) t) (sym (rest_end (caller ∷ below) f [])) r))

pub call : CallLaw
call ps n c h vs p es rest below t q known r =
    let same : r.0.1.0 ≡ q = same_some (slice_get ps p) r.0.1.0 q r.0.1.1 known in
    let begin : r.0.0 ≡ state h (callee vs es q ∷ frame vs rest ∷ below) = r.0.1.2 ∙ ap (λ (d : Procedure). state h (callee vs es d ∷ frame vs rest ∷ below)) same in
    above_caller ps n c h (callee vs es q) (frame vs rest) below t
    (begun ps n c r.0.0 (state h (callee vs es q ∷ frame vs rest ∷ below)) t begin (r.0.2, sym (plus_zero (allocated ps n r.0.0 t r.0.2)) ∙ r.1))
