-- The cells of a run are those of its first heap and those that it has allocated.
use Rattle.std.proofs.Common.{[], ◌*◌, ◌+◌, List, arith, leb-true, refl, subst, suc, sym, true, zero, ℕ, ◌∷◌, ◌≡◌, ◌≤◌}
use Rattle.std.proofs.lemmas.Bool.{and_parts}
use Rattle.std.specs.FinMap.{len}
use Rattle.cyp_heap.specs.Stores.{Store, cell_count}
use Rattle.cyp_machine.proofs.Counts.{change_count, insert_all_count, remove_all_count}
use Rattle.cyp_machine.proofs.Kept.{run_kept, start_kept, step_kept}
use Rattle.cyp_machine.specs.Allocations.{AllocatedLaw, AllocatesWithin, CellsLaw, FramesWithin, HeapLaw, StartLaw, allocated, allocates_within, body_allocates, frames_allocate, statement_allocates, statement_within}
use Rattle.cyp_machine.specs.Runs.{Run}
use Rattle.cyp_machine.specs.States.{Frame, State, start}
use Rattle.cyp_machine.specs.Steps.{Becomes, BodyStep, FramesStep, StatementStep, addresses, any_pick, insert_all}
use Rattle.cyp_machine.specs.Values.{Values, expr_value}
use Rattle.cyp_prog.specs.Programs.{Body, Choosing, End, Failing, Giving, Invoking, Loading, Procedure, Statement, Storing, Taking, Then}

-- ---- a step

module _ (ps : List Procedure) where
  -- the state has the cells of the heap that it came to
  came : (t : State) (g : Store) (vs : Values) (rest : Body) (below : List Frame) (n : ℕ) → Becomes t g vs rest below → cell_count g ≤ n → cell_count t.store ≤ n
  came t g vs rest below n e l = subst (λ (s : State). cell_count s.store ≤ n) (sym e) l

  none_new : (n k : ℕ) → k ≤ n → k ≤ n + 0
  none_new n k l = omega arith

  statement_cells : (s : Statement) (h : Store) (vs : Values) (rest : Body) (below : List Frame) (t : State) → StatementStep any_pick ps s h vs rest below t
      → cell_count t.store ≤ cell_count h + statement_allocates s
  statement_cells (Loading v e) h vs rest below t st = came t h _ rest below _ st.2 (omega arith)
  statement_cells (Storing a e) h vs rest below t st =
      came t _ vs rest below _ st.1 (none_new (cell_count h) _ (change_count h.cells (expr_value vs a) (expr_value vs e) st.0))
  statement_cells (Taking v n) h vs rest below t st =
      came t _ _ rest below _ st.5 (subst (λ (k : ℕ). len (insert_all h.cells st.0 st.1) ≤ cell_count h + k) st.2 (insert_all_count h.cells st.0 st.1))
  statement_cells (Giving e) h vs rest below t st =
      came t _ vs rest below _ st.3 (none_new (cell_count h) _ (remove_all_count h.cells (addresses (expr_value vs e) st.0)))
  statement_cells (Invoking p es) h vs rest below t st = came t h _ st.0.body _ _ st.2 (omega arith)
  statement_cells (Choosing c x y) h vs rest below t st = came t h vs _ below _ st (omega arith)
  statement_cells Failing h vs rest below t st = absurd st

  body_cells : (x : Body) (h : Store) (vs : Values) (below : List Frame) (t : State) → BodyStep any_pick ps h vs x below t → cell_count t.store ≤ cell_count h + body_allocates x
  body_cells End h vs [] t st = absurd st
  body_cells End h vs (f ∷ below) t st = subst (λ (s : State). cell_count s.store ≤ cell_count h + 0) (sym st) (omega arith)
  body_cells (Then s x) h vs below t st = statement_cells s h vs x below t st

  frames_cells : (fs : List Frame) (h : Store) (t : State) → FramesStep any_pick ps h fs t → cell_count t.store ≤ cell_count h + frames_allocate fs
  frames_cells [] h t st = absurd st
  frames_cells (f ∷ fs) h t st = body_cells f.rest h f.values fs t st

-- ---- a run

pub cells : CellsLaw
cells ps zero s t run = subst (λ (u : State). cell_count u.store ≤ cell_count s.store + 0) run (omega arith)
cells ps (suc n) s t run =
    let one : cell_count run.0.store ≤ cell_count s.store + frames_allocate s.frames = frames_cells ps s.frames s.store run.0 run.1 in
    let more : cell_count t.store ≤ cell_count run.0.store + allocated ps n run.0 t run.2 = cells ps n run.0 t run.2 in
    omega arith

-- ---- allocations of at most k cells

module _ (k : ℕ) where
  statement_few : (s : Statement) → statement_within k s ≡ true → statement_allocates s ≤ k
  statement_few (Taking v n) w = leb-true n k w
  statement_few (Loading v e) w = omega arith
  statement_few (Storing a e) w = omega arith
  statement_few (Giving e) w = omega arith
  statement_few (Invoking p es) w = omega arith
  statement_few (Choosing c a b) w = omega arith
  statement_few Failing w = omega arith

  body_few : (b : Body) → allocates_within k b ≡ true → body_allocates b ≤ k
  body_few End w = omega arith
  body_few (Then s b) w = statement_few s (and_parts (statement_within k s) (allocates_within k b) w).0

  frames_few : (fs : List Frame) → FramesWithin k fs → frames_allocate fs ≤ k
  frames_few [] w = omega arith
  frames_few (f ∷ fs) w = body_few f.rest (and_parts (allocates_within k f.rest) _ w).0

  next_within : (ps : List Procedure) → AllocatesWithin k ps → (fs : List Frame) (h : Store) (t : State) → FramesStep any_pick ps h fs t → FramesWithin k fs → FramesWithin k t.frames
  next_within ps w = step_kept (allocates_within k) (statement_within k) refl (λ s b. refl) (λ c a b h. and_parts (allocates_within k a) (allocates_within k b) h) ps w

  one_step_more : (n : ℕ) → suc n * k ≡ n * k + k
  one_step_more n = omega arith

  few : (ps : List Procedure) → AllocatesWithin k ps → (n : ℕ) (s t : State) → FramesWithin k s.frames → (run : Run ps n s t) → allocated ps n s t run ≤ n * k
  few ps w zero s t f run = omega arith
  few ps w (suc n) s t f run =
      let one : frames_allocate s.frames ≤ k = frames_few s.frames f in
      let more : allocated ps n run.0 t run.2 ≤ n * k = few ps w n run.0 t (next_within ps w s.frames s.store run.0 run.1 f) run.2 in
      let sum : suc n * k ≡ n * k + k = one_step_more n in
      omega arith

pub allocated_within : AllocatedLaw
allocated_within k ps n s t w f run =
    (few k ps w n s t f run, run_kept (allocates_within k) (statement_within k) refl (λ s b. refl) (λ c a b h. and_parts (allocates_within k a) (allocates_within k b) h) ps w n s t run f)

pub start_within : StartLaw
start_within k ps p args h w = start_kept (allocates_within k) (statement_within k) refl (λ s b. refl) (λ c a b h. and_parts (allocates_within k a) (allocates_within k b) h) ps w p args h

pub heap_within : HeapLaw
heap_within k ps p args h n t w run =
    let had : cell_count t.store ≤ cell_count h + allocated ps n (start ps p args h) t run = cells ps n (start ps p args h) t run in
    let new : allocated ps n (start ps p args h) t run ≤ n * k = few k ps w n (start ps p args h) t (start_within k ps p args h w) run in
    omega arith
