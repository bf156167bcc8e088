-- The run of an input has one output.
use Rattle.std.proofs.Common.{Bool, IsTrue, None, Option, Some, ap, arith, false, inl, inr, refl, subst, suc, sym, true, zero, ℕ, ◌+◌, ◌∙◌, ◌≡◌, ◌≤◌, ◌<◌, ◌⊎◌}
use Rattle.std.proofs.lemmas.Bool.{false≢true}
use Rattle.std.proofs.lemmas.Option.{none-some, same_Some}
use Rattle.cyp_machine.proofs.Going.{run_goes_on}
use Rattle.cyp_machine.proofs.LeastRuns.{ended_has_no_fault, halted_is_longest, halts_once, least_run_is_a_run, least_runs_meet, run_extended}
use Rattle.cyp_machine.proofs.Options.{some_there}
use Rattle.cyp_machine.specs.Closed.{IsClosed}
use Rattle.cyp_machine.specs.Faults.{fault}
use Rattle.cyp_machine.specs.RunInput.{RunInput}
use Rattle.cyp_machine.specs.States.{State, has_ended}
use Rattle.cyp_machine.specs.Steps.{StepBy, least_pick}
use Rattle.cyp_machine.specs.declared.cause.Cause.{Cause}
use Rattle.cyp_top.specs.Lines.{Output}
use Rattle.cyp_top.specs.RunOutput.{Ends, Faults, IsRunOutput, LeastRun, Spends, ended_output, faulted_output, first_state, spent_output}

-- ---- one output at most

module _ (i : RunInput) (fuel : ℕ) where
  ends_once : (a b : Output) → Ends i fuel a → Ends i fuel b → a ≡ b
  ends_once a b x y =
      let same = halts_once i.program x.steps y.steps (first_state i) x.state y.state (inl x.ended) (inl y.ended) x.run y.run in
      x.said ∙ ap (λ (k : ℕ). ended_output k x.state.store) same.0 ∙ ap (λ (t : State). ended_output y.steps t.store) same.1 ∙ sym y.said

  faults_once : (a b : Output) → Faults i fuel a → Faults i fuel b → a ≡ b
  faults_once a b x y =
      let same = halts_once i.program x.steps y.steps (first_state i) x.state y.state
      (inr (some_there (fault x.state) x.cause x.faulted)) (inr (some_there (fault y.state) y.cause y.faulted)) x.run y.run in
      let cause : x.cause ≡ y.cause = same_Some x.cause y.cause (sym x.faulted ∙ ap fault same.1 ∙ y.faulted) in
      x.said ∙ ap (λ (c : Cause). faulted_output c (suc x.steps)) cause ∙ ap (λ (k : ℕ). faulted_output y.cause (suc k)) same.0 ∙ sym y.said

  ends_no_fault : (a b : Output) → Ends i fuel a → Faults i fuel b → ⊥
  ends_no_fault a b x y =
      let same = halts_once i.program x.steps y.steps (first_state i) x.state y.state
      (inl x.ended) (inr (some_there (fault y.state) y.cause y.faulted)) x.run y.run in
      none-some y.cause (sym (ended_has_no_fault x.state x.ended) ∙ ap fault same.1 ∙ y.faulted)

  ends_not_spent : (a b : Output) → Ends i fuel a → Spends i fuel b → ⊥
  ends_not_spent a b x y =
      let within : x.steps ≤ fuel = x.within in
      let past : fuel ≤ x.steps = halted_is_longest i.program x.steps fuel (first_state i) x.state y.state (inl x.ended) x.run y.run in
      let steps : x.steps ≡ fuel = omega arith in
      let same = least_runs_meet i.program fuel (first_state i) x.state y.state (subst (λ (k : ℕ). LeastRun i k x.state) steps x.run) y.run in
      false≢true (sym y.going ∙ sym (ap has_ended same) ∙ x.ended)

  faults_not_spent : (a b : Output) → Faults i fuel a → Spends i fuel b → ⊥
  faults_not_spent a b x y =
      let within : x.steps < fuel = x.within in
      let past : fuel ≤ x.steps =
      halted_is_longest i.program x.steps fuel (first_state i) x.state y.state (inr (some_there (fault x.state) x.cause x.faulted)) x.run y.run in
      omega arith

  pub one_run_output : (a b : Output) → IsRunOutput i fuel a → IsRunOutput i fuel b → a ≡ b
  one_run_output a b (inl x) (inl y) = ends_once a b x y
  one_run_output a b (inl x) (inr (inl y)) = absurd (ends_no_fault a b x y)
  one_run_output a b (inl x) (inr (inr y)) = absurd (ends_not_spent a b x y)
  one_run_output a b (inr (inl x)) (inl y) = absurd (ends_no_fault b a y x)
  one_run_output a b (inr (inl x)) (inr (inl y)) = faults_once a b x y
  one_run_output a b (inr (inl x)) (inr (inr y)) = absurd (faults_not_spent a b x y)
  one_run_output a b (inr (inr x)) (inl y) = absurd (ends_not_spent b a y x)
  one_run_output a b (inr (inr x)) (inr (inl y)) = absurd (faults_not_spent b a y x)
  one_run_output a b (inr (inr x)) (inr (inr y)) = x.said ∙ sym y.said

-- ---- an output

module _ (i : RunInput) (closed : IsClosed i.program) where
  -- a fault or a step
  abbrev Onward : State → Type 0
  Onward t = ((c : Cause) × (fault t ≡ Some c)) ⊎ ((u : State) × StepBy least_pick i.program t u)

  onward_by : (k : ℕ) (t : State) → LeastRun i k t → has_ended t ≡ false → (o : Option Cause) → fault t ≡ o → Onward t
  onward_by k t run e (Some c) f = inl (c, f)
  onward_by k t run e None f =
      inr (run_goes_on i.program i.entry i.args i.store k t closed (least_run_is_a_run i.program k (first_state i) t run) e f).1

  -- a state has ended, or it goes on
  abbrev Either : State → Type 0
  Either t = IsTrue (has_ended t) ⊎ ((has_ended t ≡ false) × Onward t)

  either_by : (k : ℕ) (t : State) → LeastRun i k t → (b : Bool) → has_ended t ≡ b → Either t
  either_by k t run true e = inl e
  either_by k t run false e = inr (e, onward_by k t run e (fault t) refl)

  either : (k : ℕ) (t : State) → LeastRun i k t → Either t
  either k t run = either_by k t run (has_ended t) refl

  module _ (fuel : ℕ) where
    abbrev HasOutput : Type 0
    HasOutput = (o : Output) × IsRunOutput i fuel o

    ended : (k : ℕ) (t : State) → k ≤ fuel → LeastRun i k t → IsTrue (has_ended t) → HasOutput
    ended k t within run e = (ended_output k t.store, inl (record { steps = k; state = t; within = within; run = run; ended = e; said = refl }))

    faulted : (k : ℕ) (t : State) (c : Cause) → k < fuel → LeastRun i k t → fault t ≡ Some c → HasOutput
    faulted k t c within run f =
        (faulted_output c (suc k), inr (inl (record { steps = k; state = t; cause = c; within = within; run = run; faulted = f; said = refl })))

    spent : (t : State) → LeastRun i fuel t → has_ended t ≡ false → HasOutput
    spent t run e = (spent_output, inr (inr (record { state = t; run = run; going = e; said = refl })))

    -- with so many steps left behind a run
    run_from : (left k : ℕ) (t : State) → left + k ≡ fuel → LeastRun i k t → HasOutput
    run_from zero k t sum run = elim (either k t run) [
      | inl e ↦ ended k t (omega arith) run e
      | inr g ↦ let all : k ≡ fuel = omega arith in spent t (subst (λ (j : ℕ). LeastRun i j t) all run) g.0
    ]
    run_from (suc left) k t sum run = elim (either k t run) [
      | inl e ↦ ended k t (omega arith) run e
      | inr g ↦ elim (g.1) [
        | inl c ↦ faulted k t c.0 (omega arith) run c.1
        | inr u ↦ run_from left (suc k) u.0 (omega arith) (run_extended i.program k (first_state i) t u.0 run u.1)
      ]
    ]

    pub some_run_output : (o : Output) × IsRunOutput i fuel o
    some_run_output = run_from fuel 0 (first_state i) (omega arith) refl
