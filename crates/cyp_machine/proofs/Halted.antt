-- A state that has ended, or whose next step faults, has no next step.
use Rattle.std.proofs.Common.{[], IsSome, List, None, Option, Some, false, inl, inr, is_some, refl, sym, ℤ, ◌∙◌, ◌∷◌, ◌≡◌}
use Rattle.std.proofs.lemmas.Bool.{false≢true}
use Rattle.std.specs.FinMap.{get}
use Rattle.cyp_heap.specs.Stores.{Store}
use Rattle.cyp_machine.proofs.Options.{no_fault, some_there, whole_from}
use Rattle.cyp_machine.specs.Faults.{body_fault, frames_fault, is_whole, statement_fault}
use Rattle.cyp_machine.specs.Laws.{HaltedHasNoStep}
use Rattle.cyp_machine.specs.States.{Frame, State, frames_ended}
use Rattle.cyp_machine.specs.Steps.{BodyStep, FramesStep, StatementStep, any_pick}
use Rattle.cyp_machine.specs.Values.{Values, expr_value}
use Rattle.cyp_machine.specs.declared.cause.Cause.TheVariants.{FreeMissing, ReadMissing, WriteMissing}
use Rattle.cyp_prog.specs.Programs.{Body, Choosing, End, Failing, Giving, Invoking, Loading, Procedure, Statement, Storing, Taking, Then}

-- ---- a step has no fault

module _ (ps : List Procedure) where
  statement_steps : (s : Statement) (h : Store) (vs : Values) (rest : Body) (below : List Frame) (t : State) → StatementStep any_pick ps s h vs rest below t → statement_fault h vs s ≡ None
  statement_steps (Loading v e) h vs rest below t st = no_fault (is_some (get h.cells (expr_value vs e))) ReadMissing (some_there (get h.cells (expr_value vs e)) st.0 st.1)
  statement_steps (Storing a e) h vs rest below t st = no_fault (is_some (get h.cells (expr_value vs a))) WriteMissing st.0
  statement_steps (Taking v n) h vs rest below t st = refl
  statement_steps (Giving e) h vs rest below t st =
      let a : ℤ = expr_value vs e in
      no_fault (is_whole h a (get h.blocks a)) FreeMissing (whole_from h a (get h.blocks a) st.0 st.1 st.2)
  statement_steps (Invoking p es) h vs rest below t st = refl
  statement_steps (Choosing c x y) h vs rest below t st = refl
  statement_steps Failing h vs rest below t st = absurd st

  body_steps : (x : Body) (h : Store) (vs : Values) (below : List Frame) (t : State) → BodyStep any_pick ps h vs x below t
      → (frames_ended (record { values = vs; rest = x } ∷ below) ≡ false) × (body_fault h vs x ≡ None)
  body_steps End h vs [] t st = absurd st
  body_steps End h vs (f ∷ below) t st = (refl, refl)
  body_steps (Then s x) h vs [] t st = (refl, statement_steps s h vs x [] t st)
  body_steps (Then s x) h vs (f ∷ below) t st = (refl, statement_steps s h vs x (f ∷ below) t st)

  frames_step : (fs : List Frame) (h : Store) (t : State) → FramesStep any_pick ps h fs t → (frames_ended fs ≡ false) × (frames_fault h fs ≡ None)
  frames_step [] h t st = absurd st
  frames_step (f ∷ fs) h t st = body_steps f.rest h f.values fs t st

no_cause : {A : Type 0} (o : Option A) → IsSome o → o ≡ None → ⊥
no_cause None s e = absurd (false≢true s)
no_cause (Some x) s e = cc

pub halted_has_no_step : HaltedHasNoStep
halted_has_no_step ps s t (inl e) st = false≢true (sym (frames_step ps s.frames s.store t st).0 ∙ e)
halted_has_no_step ps s t (inr f) st = no_cause (frames_fault s.store s.frames) f (frames_step ps s.frames s.store t st).1
