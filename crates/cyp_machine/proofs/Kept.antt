-- A test that holds of all statements of a program holds of all that its runs come to.
use Rattle.std.proofs.Common.{[], Bool, List, None, Option, Some, cond, false, map, refl, slice_get, subst, suc, sym, true, zero, ℕ, ℤ, ◌∙◌, ◌∷◌, ◌≡◌}
use Rattle.std.proofs.lemmas.Bool.{and_from, and_parts}
use Rattle.std.specs.List.{list_all}
use Rattle.std.specs.Prelude.{◌&&◌}
use Rattle.cyp_heap.specs.Stores.{Store}
use Rattle.cyp_machine.specs.Runs.{Run}
use Rattle.cyp_machine.specs.States.{Frame, State, entry_body, start}
use Rattle.cyp_machine.specs.Steps.{Becomes, BodyStep, FramesStep, StatementStep, any_pick, followed_by}
use Rattle.cyp_machine.specs.Values.{Values, expr_value, params_from, test_value}
use Rattle.cyp_prog.specs.Programs.{Body, Choosing, End, Failing, Giving, Invoking, Loading, Procedure, Statement, Storing, Taking, Then}
use Rattle.cyp_prog.specs.declared.stmt.Test.{Test}

-- the test of a body is that of its statements, and that of a conditional the one of its blocks
module _ (body : Body → Bool) (one : Statement → Bool)
    (at_end : body End ≡ true) (at_then : (s : Statement) (b : Body) → body (Then s b) ≡ (one s && body b))
    (at_choice : (c : Test) (a b : Body) → one (Choosing c a b) ≡ true → (body a ≡ true) × (body b ≡ true)) where
  pub then_parts : (s : Statement) (b : Body) → body (Then s b) ≡ true → (one s ≡ true) × (body b ≡ true)
  then_parts s b p = and_parts (one s) (body b) (sym (at_then s b) ∙ p)

  kept-followed : (a b : Body) → body a ≡ true → body b ≡ true → body (followed_by a b) ≡ true
  kept-followed End b p q = q
  kept-followed (Then s a) b p q =
      let parts = then_parts s a p in
      at_then s (followed_by a b) ∙ and_from (one s) (body (followed_by a b)) parts.0 (kept-followed a b parts.1 q)

  kept-chosen : (t : Bool) (a b : Body) → (body a ≡ true) × (body b ≡ true) → body (cond t a b) ≡ true
  kept-chosen true a b p = p.0
  kept-chosen false a b p = p.1

  abbrev pub all_kept : List Procedure → Bool
  all_kept qs = list_all (λ (q : Procedure). body q.body) qs

  abbrev pub frames_kept : List Frame → Bool
  frames_kept fs = list_all (λ (f : Frame). body f.rest) fs

  kept-called : (qs : List Procedure) (p : ℕ) (q : Procedure) → all_kept qs ≡ true → slice_get qs p ≡ Some q → body q.body ≡ true
  kept-called [] p q c e = cc
  kept-called (r ∷ qs) zero q c e =
      let same : r ≡ q = cc in
      subst (λ (a : Procedure). body a.body ≡ true) same (and_parts (body r.body) (all_kept qs) c).0
  kept-called (r ∷ qs) (suc p) q c e = kept-called qs p q (and_parts (body r.body) (all_kept qs) c).1 e

  became : (t : State) (h : Store) (vs : Values) (rest : Body) (below : List Frame) → Becomes t h vs rest below
      → body rest ≡ true → frames_kept below ≡ true → frames_kept t.frames ≡ true
  became t h vs rest below e r b = subst (λ (s : State). frames_kept s.frames ≡ true) (sym e) (and_from (body rest) (frames_kept below) r b)

  module _ (ps : List Procedure) (all : all_kept ps ≡ true) where
    statement_kept : (s : Statement) (h : Store) (vs : Values) (rest : Body) (below : List Frame) (t : State) → StatementStep any_pick ps s h vs rest below t
        → one s ≡ true → body rest ≡ true → frames_kept below ≡ true → frames_kept t.frames ≡ true
    statement_kept (Loading v e) h vs rest below t st c r b = became t _ _ rest below st.2 r b
    statement_kept (Storing a e) h vs rest below t st c r b = became t _ _ rest below st.1 r b
    statement_kept (Taking v k) h vs rest below t st c r b = became t _ _ rest below st.5 r b
    statement_kept (Giving e) h vs rest below t st c r b = became t _ _ rest below st.3 r b
    statement_kept (Invoking p es) h vs rest below t st c r b =
        became t h (params_from 1 (map (expr_value vs) es)) st.0.body (record { values = vs; rest = rest } ∷ below) st.2
        (kept-called ps p st.0 all st.1) (and_from (body rest) (frames_kept below) r b)
    statement_kept (Choosing q x y) h vs rest below t st c r b =
        became t h vs (followed_by (cond (test_value vs q) x y) rest) below st
        (kept-followed (cond (test_value vs q) x y) rest (kept-chosen (test_value vs q) x y (at_choice q x y c)) r) b
    statement_kept Failing h vs rest below t st c r b = absurd st

    body_kept : (x : Body) (h : Store) (vs : Values) (below : List Frame) (t : State) → BodyStep any_pick ps h vs x below t
        → body x ≡ true → frames_kept below ≡ true → frames_kept t.frames ≡ true
    body_kept End h vs [] t st c b = absurd st
    body_kept End h vs (f ∷ below) t st c b = subst (λ (s : State). frames_kept s.frames ≡ true) (sym st) b
    body_kept (Then s x) h vs below t st c b =
        let parts = then_parts s x c in
        statement_kept s h vs x below t st parts.0 parts.1 b

    -- a step keeps the test, and so do a run and the beginning of a procedure
    pub step_kept : (fs : List Frame) (h : Store) (t : State) → FramesStep any_pick ps h fs t → frames_kept fs ≡ true → frames_kept t.frames ≡ true
    step_kept [] h t st r = absurd st
    step_kept (f ∷ fs) h t st r =
        let parts = and_parts (body f.rest) (frames_kept fs) r in
        body_kept f.rest h f.values fs t st parts.0 parts.1

    pub run_kept : (n : ℕ) (s t : State) → Run ps n s t → frames_kept s.frames ≡ true → frames_kept t.frames ≡ true
    run_kept zero s t run r = subst (λ (u : State). frames_kept u.frames ≡ true) run r
    run_kept (suc n) s t run r = run_kept n run.0 t run.2 (step_kept s.frames s.store run.0 run.1 r)

    entry_kept : (o : Option Procedure) → ((q : Procedure) → o ≡ Some q → body q.body ≡ true) → body (entry_body o) ≡ true
    entry_kept None c = at_end
    entry_kept (Some q) c = c q refl

    pub start_kept : (p : ℕ) (args : List ℤ) (h : Store) → frames_kept (start ps p args h).frames ≡ true
    start_kept p args h = and_from (body (entry_body (slice_get ps p))) true (entry_kept (slice_get ps p) (λ q e. kept-called ps p q all e)) refl
