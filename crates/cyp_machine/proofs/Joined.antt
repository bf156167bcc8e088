-- Runs join and split.
use Rattle.std.proofs.Common.{◌+◌, List, ap, arith, refl, subst, suc, sym, zero, ℕ, ◌∙◌, ◌≡◌}
use Rattle.cyp_machine.specs.Allocations.{RunAllocates, allocated, frames_allocate}
use Rattle.cyp_machine.specs.Parts.{JoinLaw, SplitLaw}
use Rattle.cyp_machine.specs.States.{State}
use Rattle.cyp_machine.specs.Steps.{Step}
use Rattle.cyp_prog.specs.Programs.{Procedure}

pub plus_suc : (m n : ℕ) → suc m + n ≡ suc (m + n)
plus_suc m n = omega arith

pub plus_zero : (n : ℕ) → 0 + n ≡ n
plus_zero n = omega arith

pub add_up : (f x d c : ℕ) → f + x ≡ c → f + (x + d) ≡ c + d
add_up f x d c e = omega arith

pub add_parts : (f d e x c : ℕ) → d + e ≡ x → f + x ≡ c → f + d + e ≡ c
add_parts f d e x c p q = omega arith

module _ (ps : List Procedure) where
  -- no step
  pub none_made : (s : State) → RunAllocates ps 0 0 s s
  none_made s = (refl, refl)

  -- one step before a run
  pub stepped : (n c : ℕ) (s u t : State) → Step ps s u → RunAllocates ps n c u t → RunAllocates ps (suc n) (frames_allocate s.frames + c) s t
  stepped n c s u t st r = ((u, st, r.0), ap (λ (k : ℕ). frames_allocate s.frames + k) r.1)

  -- the same run under other names
  pub counted : (m n c d : ℕ) (s t : State) → m ≡ n → c ≡ d → RunAllocates ps m c s t → RunAllocates ps n d s t
  counted m n c d s t e f r = subst (λ (k : ℕ). RunAllocates ps k d s t) e (subst (λ (k : ℕ). RunAllocates ps m k s t) f r)

  pub begun : (n c : ℕ) (s u t : State) → s ≡ u → RunAllocates ps n c s t → RunAllocates ps n c u t
  begun n c s u t e r = subst (λ (x : State). RunAllocates ps n c x t) e r

pub join : JoinLaw
join ps zero n c d s t u r q =
    counted ps n (0 + n) d (c + d) s u (sym (plus_zero n)) (sym (plus_zero d) ∙ ap (λ (k : ℕ). k + d) r.1) (begun ps n d t s u (sym r.0) q)
join ps (suc m) n c d s t u r q =
    let x : ℕ = allocated ps m r.0.0 t r.0.2 in
    counted ps (suc (m + n)) (suc m + n) (frames_allocate s.frames + (x + d)) (c + d) s u (sym (plus_suc m n)) (add_up (frames_allocate s.frames) x d c r.1)
    (stepped ps (m + n) (x + d) s r.0.0 u r.0.1 (join ps m n x d r.0.0 t u (r.0.2, refl) q))

pub split : SplitLaw
split ps zero n c s u r = (s, 0, c, plus_zero c, none_made ps s, counted ps (0 + n) n c c s u (plus_zero n) refl r)
split ps (suc m) n c s u r =
    let q : RunAllocates ps (suc (m + n)) c s u = counted ps (suc m + n) (suc (m + n)) c c s u (plus_suc m n) refl r in
    let x : ℕ = allocated ps (m + n) q.0.0 u q.0.2 in
    let more = split ps m n x q.0.0 u (q.0.2, refl) in (
      more.0,
      frames_allocate s.frames + more.1,
      more.2,
      add_parts (frames_allocate s.frames) more.1 more.2 x c more.3 q.1,
      stepped ps m more.1 s q.0.0 more.0 q.0.1 more.4,
      more.5,
    )
