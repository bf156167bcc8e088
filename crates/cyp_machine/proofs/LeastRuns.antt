-- Runs with the least allocation.
use Rattle.std.proofs.Common.{[], IsSome, IsTrue, List, None, arith, refl, subst, suc, sym, true, zero, ℕ, ◌∙◌, ◌∷◌, ◌≡◌, ◌≤◌, ◌⊎◌}
use Rattle.std.proofs.lemmas.Bool.{false≢true}
use Rattle.cyp_heap.specs.Stores.{Store}
use Rattle.cyp_machine.proofs.Going.{least_is_a_step}
use Rattle.cyp_machine.proofs.Halted.{halted_has_no_step}
use Rattle.cyp_machine.proofs.Least.{least_is_one}
use Rattle.cyp_machine.specs.Faults.{body_fault, fault, frames_fault}
use Rattle.cyp_machine.specs.LeastRunLaws.{HaltedIsLongest, LeastRunIsARun, LeastRunsMeet}
use Rattle.cyp_machine.specs.Runs.{RunBy}
use Rattle.cyp_machine.specs.States.{Frame, State, frames_ended, has_ended, is_end}
use Rattle.cyp_machine.specs.Steps.{StepBy, least_pick}
use Rattle.cyp_prog.specs.Programs.{Body, End, Procedure, Then}

module _ (ps : List Procedure) where
  -- what is behind the first step of one run is behind the first step of the other
  behind_step : (n : ℕ) (s a b t : State) → StepBy least_pick ps s a → StepBy least_pick ps s b → RunBy least_pick ps n b t → RunBy least_pick ps n a t
  behind_step n s a b t p q run = subst (λ (v : State). RunBy least_pick ps n v t) (least_is_one ps s b a q p) run

  runs_meet : (n : ℕ) (s t u : State) → RunBy least_pick ps n s t → RunBy least_pick ps n s u → t ≡ u
  runs_meet zero s t u p q = sym p ∙ q
  runs_meet (suc n) s t u p q = runs_meet n p.0 t u p.2 (behind_step n s p.0 q.0 u p.1 q.1 q.2)

  no_longer : (m n : ℕ) (s t u : State) → ((v : State) → StepBy least_pick ps t v → ⊥) → RunBy least_pick ps m s t → RunBy least_pick ps n s u → n ≤ m
  no_longer m zero s t u stuck p q = omega arith
  no_longer zero (suc n) s t u stuck p q = absurd (stuck q.0 (subst (λ (v : State). StepBy least_pick ps v q.0) p q.1))
  no_longer (suc m) (suc n) s t u stuck p q =
      let e : n ≤ m = no_longer m n p.0 t u stuck p.2 (behind_step n s p.0 q.0 u p.1 q.1 q.2) in omega arith

  -- a run and one step more
  pub run_extended : (n : ℕ) (s t u : State) → RunBy least_pick ps n s t → StepBy least_pick ps t u → RunBy least_pick ps (suc n) s u
  run_extended zero s t u p st = (u, subst (λ (v : State). StepBy least_pick ps v u) (sym p) st, refl)
  run_extended (suc n) s t u p st = (p.0, p.1, run_extended n p.0 t u p.2 st)

pub least_runs_meet : LeastRunsMeet
least_runs_meet ps n s t u p q = runs_meet ps n s t u p q

pub halted_is_longest : HaltedIsLongest
halted_is_longest ps m n s t u h p q = no_longer ps m n s t u (λ v st. halted_has_no_step ps t v h (least_is_a_step ps t v st)) p q

pub least_run_is_a_run : LeastRunIsARun
least_run_is_a_run ps zero s t p = p
least_run_is_a_run ps (suc n) s t p = (p.0, least_is_a_step ps s p.0 p.1, least_run_is_a_run ps n p.0 t p.2)

-- ---- where runs halt

abbrev IsHalted : State → Type 0
IsHalted t = IsTrue (has_ended t) ⊎ IsSome (fault t)

-- two runs from one state that halt are of one length and end in one state
pub halts_once : (ps : List Procedure) (m n : ℕ) (s t u : State) → IsHalted t → IsHalted u → RunBy least_pick ps m s t → RunBy least_pick ps n s u → (m ≡ n) × (t ≡ u)
halts_once ps m n s t u h k p q =
    let upper : n ≤ m = halted_is_longest ps m n s t u h p q in
    let lower : m ≤ n = halted_is_longest ps n m s u t k q p in
    let same : m ≡ n = omega arith in
    (same, runs_meet ps n s t u (subst (λ (j : ℕ). RunBy least_pick ps j s t) same p) q)

ended_frames : (fs : List Frame) (h : Store) → frames_ended fs ≡ true → frames_fault h fs ≡ None
ended_frames [] h e = absurd (false≢true e)
ended_frames (f ∷ []) h e = ended_body f.rest e
  where
    ended_body : (b : Body) → is_end b ≡ true → body_fault h f.values b ≡ None
    ended_body End e = refl
    ended_body (Then s b) e = absurd (false≢true e)
ended_frames (f ∷ g ∷ fs) h e = absurd (false≢true e)

-- a state that has ended has no fault
pub ended_has_no_fault : (t : State) → IsTrue (has_ended t) → fault t ≡ None
ended_has_no_fault t e = ended_frames t.frames t.store e
