-- A state of a run that has neither ended nor a fault has a next step.
use Rattle.std.proofs.Common.{[], ◌<◌, Bool, List, None, Some, ap, arith, false, inl, inr, is_some, length, ltb-true, pos, refl, replicate, slice_get, suc, sym, true, zero, ℕ, ℤ, ◌∙◌, ◌∷◌, ◌≡◌, ◌≤◌}
use Rattle.std.proofs.lemmas.Bool.{and_parts, false≢true}
use Rattle.std.proofs.lemmas.List.{length-replicate}
use Rattle.std.proofs.lemmas.Option.{slice_get_cases}
use Rattle.std.specs.FinMap.{get}
use Rattle.std.specs.List.{list_all}
use Rattle.std.specs.Prelude.{nat_lt}
use Rattle.cyp_heap.specs.Stores.{Store}
use Rattle.cyp_machine.proofs.Effects.{Calls, Effect, Goes, after, effect}
use Rattle.cyp_machine.proofs.FreeBases.{least_free, zeros_zero}
use Rattle.cyp_machine.proofs.Kept.{run_kept, start_kept}
use Rattle.cyp_machine.proofs.Options.{there, value_of, whole_parts}
use Rattle.cyp_machine.specs.Closed.{IsClosed, calls_below, statement_calls_below}
use Rattle.cyp_machine.specs.Faults.{body_fault, frames_fault, is_whole, statement_fault}
use Rattle.cyp_machine.specs.Laws.{LeastIsAStep, RunGoesOn}
use Rattle.cyp_machine.specs.Runs.{Run}
use Rattle.cyp_machine.specs.States.{Frame, State, frames_ended, start}
use Rattle.cyp_machine.specs.Steps.{BodyStep, FramesStep, StatementStep, any_pick, least_pick}
use Rattle.cyp_machine.specs.Values.{Values, expr_value}
use Rattle.cyp_machine.specs.declared.cause.Cause.TheVariants.{FreeMissing, ReadMissing, WriteMissing}
use Rattle.cyp_prog.specs.Programs.{Body, Choosing, End, Failing, Giving, Invoking, Loading, Procedure, Statement, Storing, Taking, Then}

-- ---- some body is running, and the running bodies call what is there

module _ (ps : List Procedure) where
  abbrev are_closed : List Frame → Bool
  are_closed fs = list_all (λ (f : Frame). calls_below (length ps) f.rest) fs

  abbrev is_running : List Frame → Bool
  is_running [] = false
  is_running (f ∷ fs) = true

  after_runs : (e : Effect) (b : Body) (fs : List Frame) → is_running (after e b fs).frames ≡ true
  after_runs (Goes g vs x) b fs = refl
  after_runs (Calls g f vs) b fs = refl

  body_runs : (x : Body) (h : Store) (vs : Values) (below : List Frame) (t : State) → BodyStep any_pick ps h vs x below t → is_running t.frames ≡ true
  body_runs End h vs [] t st = absurd st
  body_runs End h vs (f ∷ below) t st = ap (λ (s : State). is_running s.frames) st
  body_runs (Then s x) h vs below t st =
      let e = effect ps s h vs x below t st in
      ap (λ (u : State). is_running u.frames) e.1 ∙ after_runs e.0 x below

  run_runs : (n : ℕ) (s t : State) → Run ps n s t → is_running s.frames ≡ true → is_running t.frames ≡ true
  run_runs zero s t run r = ap (λ (u : State). is_running u.frames) (sym run) ∙ r
  run_runs (suc n) s t run r = run_runs n run.0 t run.2 (step_runs s.frames s.store run.0 run.1)
    where
      step_runs : (fs : List Frame) (h : Store) (t : State) → FramesStep any_pick ps h fs t → is_running t.frames ≡ true
      step_runs [] h t st = absurd st
      step_runs (f ∷ fs) h t st = body_runs f.rest h f.values fs t st

  run_closed : IsClosed ps → (p : ℕ) (args : List ℤ) (h : Store) (n : ℕ) (s : State) → Run ps n (start ps p args h) s → are_closed s.frames ≡ true
  run_closed closed p args h n s run =
      run_kept (calls_below (length ps)) (statement_calls_below (length ps)) refl (λ s b. refl) (λ c a b h. and_parts (calls_below (length ps) a) (calls_below (length ps) b) h) ps closed n (start ps p args h) s run
      (start_kept (calls_below (length ps)) (statement_calls_below (length ps)) refl (λ s b. refl) (λ c a b h. and_parts (calls_below (length ps) a) (calls_below (length ps) b) h) ps closed p args h)

-- ---- such bodies go on

called : (ps : List Procedure) (p : ℕ) → nat_lt p (length ps) ≡ true → (q : Procedure) × (slice_get ps p ≡ Some q)
called ps p l = elim ((slice_get_cases ps p).1) [
  | inl c ↦ (c.0, c.2)
  | inr c ↦ let below : p < length ps = ltb-true p (length ps) l in let past : length ps ≤ p = c.0 in absurd (omega arith)
]

module _ (ps : List Procedure) where
  statement_goes : (s : Statement) (h : Store) (vs : Values) (rest : Body) (below : List Frame)
      → statement_calls_below (length ps) s ≡ true → statement_fault h vs s ≡ None → (t : State) × StatementStep least_pick ps s h vs rest below t
  statement_goes (Loading v e) h vs rest below c f =
      let z = value_of (get h.cells (expr_value vs e)) (there (is_some (get h.cells (expr_value vs e))) ReadMissing f) in
      (_, (z.0, z.1, refl))
  statement_goes (Storing a e) h vs rest below c f =
      (_, (there (is_some (get h.cells (expr_value vs a))) WriteMissing f, refl))
  statement_goes (Taking v n) h vs rest below c f =
      let a = least_free h n in
      (_, (a.0, replicate n (pos 0), length-replicate n (pos 0), a.1, (a.2, zeros_zero n), refl))
  statement_goes (Giving e) h vs rest below c f =
      let w = whole_parts h (expr_value vs e) (get h.blocks (expr_value vs e)) (there (is_whole h (expr_value vs e) (get h.blocks (expr_value vs e))) FreeMissing f) in
      (_, (w.0, w.1, w.2, refl))
  statement_goes (Invoking p es) h vs rest below c f = let q = called ps p c in (_, (q.0, q.1, refl))
  statement_goes (Choosing q x y) h vs rest below c f = (_, refl)
  statement_goes Failing h vs rest below c f = cc

  body_goes : (x : Body) (h : Store) (vs : Values) (below : List Frame)
      → calls_below (length ps) x ≡ true → frames_ended (record { values = vs; rest = x } ∷ below) ≡ false → body_fault h vs x ≡ None
      → (t : State) × BodyStep least_pick ps h vs x below t
  body_goes End h vs [] c e f = absurd (false≢true (sym e))
  body_goes End h vs (g ∷ below) c e f = (_, refl)
  body_goes (Then s x) h vs below c e f = statement_goes s h vs x below (and_parts (statement_calls_below (length ps) s) (calls_below (length ps) x) c).0 f

  frames_go : (fs : List Frame) (h : Store) → is_running ps fs ≡ true → are_closed ps fs ≡ true → frames_ended fs ≡ false → frames_fault h fs ≡ None
      → (t : State) × FramesStep least_pick ps h fs t
  frames_go [] h r c e f = absurd (false≢true r)
  frames_go (g ∷ fs) h r c e f = body_goes g.rest h g.values fs (and_parts (calls_below (length ps) g.rest) (are_closed ps fs) c).0 e f

  -- ---- the least allocation is one that may be taken

  statement_least : (s : Statement) (h : Store) (vs : Values) (rest : Body) (below : List Frame) (t : State)
      → StatementStep least_pick ps s h vs rest below t → StatementStep any_pick ps s h vs rest below t
  statement_least (Loading v e) h vs rest below t st = st
  statement_least (Storing a e) h vs rest below t st = st
  statement_least (Taking v n) h vs rest below t st = (st.0, st.1, st.2, st.3, tt, st.5)
  statement_least (Giving e) h vs rest below t st = st
  statement_least (Invoking p es) h vs rest below t st = st
  statement_least (Choosing q x y) h vs rest below t st = st
  statement_least Failing h vs rest below t st = st

  body_least : (x : Body) (h : Store) (vs : Values) (below : List Frame) (t : State) → BodyStep least_pick ps h vs x below t → BodyStep any_pick ps h vs x below t
  body_least End h vs [] t st = st
  body_least End h vs (g ∷ below) t st = st
  body_least (Then s x) h vs below t st = statement_least s h vs x below t st

  frames_least : (fs : List Frame) (h : Store) (t : State) → FramesStep least_pick ps h fs t → FramesStep any_pick ps h fs t
  frames_least [] h t st = st
  frames_least (f ∷ fs) h t st = body_least f.rest h f.values fs t st

pub least_is_a_step : LeastIsAStep
least_is_a_step ps s t st = frames_least ps s.frames s.store t st

pub run_goes_on : RunGoesOn
run_goes_on ps p args h n s closed run e f =
    let next = frames_go ps s.frames s.store (run_runs ps n (start ps p args h) s run refl) (run_closed ps closed p args h n s run) e f in
    ((next.0, least_is_a_step ps s next.0 next.1), next)
