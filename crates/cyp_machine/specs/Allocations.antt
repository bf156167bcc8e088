-- How many cells runs allocate.
use Rattle.std.specs.List.{list_all}
use Rattle.std.specs.Prelude.{[], ◌&&◌, ◌*◌, ◌+◌, Bool, IsTrue, List, nat_le, suc, true, zero, ℕ, ℤ, ◌∷◌, ◌≡◌, ◌≤◌}
use Rattle.cyp_heap.specs.Stores.{Store, cell_count}
use Rattle.cyp_machine.specs.Runs.{Run}
use Rattle.cyp_machine.specs.States.{Frame, State, start}
use Rattle.cyp_prog.specs.Programs.{Body, Choosing, End, Failing, Giving, Invoking, Loading, Procedure, Statement, Storing, Taking, Then}

-- ---- of a step and a run

-- how many cells the statement allocates
abbrev pub statement_allocates : Statement → ℕ
statement_allocates (Taking v n) = n
statement_allocates _ = 0

-- how many cells the first statement of the body allocates
abbrev pub body_allocates : Body → ℕ
body_allocates End = 0
body_allocates (Then s b) = statement_allocates s

-- how many cells the first of the running bodies allocates next
abbrev pub frames_allocate : List Frame → ℕ
frames_allocate [] = 0
frames_allocate (f ∷ below) = body_allocates f.rest

-- how many cells all steps of the run allocate
abbrev pub allocated : (ps : List Procedure) (n : ℕ) (s t : State) → Run ps n s t → ℕ
allocated ps zero s t run = 0
allocated ps (suc n) s t run = frames_allocate s.frames + allocated ps n run.0 t run.2

-- a run of n steps that allocates c cells
abbrev pub RunAllocates : List Procedure → ℕ → ℕ → State → State → Type 0
RunAllocates ps n c s t = (run : Run ps n s t) × (allocated ps n s t run ≡ c)

-- ---- programs whose allocations are of few cells

abbrev mutual
  -- each allocation in the body is of at most k cells
  pub allocates_within : ℕ → Body → Bool
  allocates_within k End = true
  allocates_within k (Then s b) = statement_within k s && allocates_within k b

  pub statement_within : ℕ → Statement → Bool
  statement_within k (Loading v e) = true
  statement_within k (Storing a e) = true
  statement_within k (Taking v n) = nat_le n k
  statement_within k (Giving e) = true
  statement_within k (Invoking p es) = true
  statement_within k (Choosing c a b) = allocates_within k a && allocates_within k b
  statement_within k Failing = true

-- each allocation in a procedure of the program is of at most k cells
abbrev pub AllocatesWithin : ℕ → List Procedure → Type 0
AllocatesWithin k ps = IsTrue (list_all (λ (q : Procedure). allocates_within k q.body) ps)

-- each allocation in what is left of the running bodies is of at most k cells
abbrev pub FramesWithin : ℕ → List Frame → Type 0
FramesWithin k fs = IsTrue (list_all (λ (f : Frame). allocates_within k f.rest) fs)

-- ---- laws

-- behind a run there are at most the cells that were there before it and those that it has allocated
abbrev pub CellsLaw : Type 0
CellsLaw = (ps : List Procedure) (n : ℕ) (s t : State) (run : Run ps n s t) → cell_count t.store ≤ cell_count s.store + allocated ps n s t run

-- a run of bodies and programs whose allocations are of at most k cells allocates at most k for each step, and leads to such bodies
abbrev pub AllocatedLaw : Type 0
AllocatedLaw = (k : ℕ) (ps : List Procedure) (n : ℕ) (s t : State) → AllocatesWithin k ps → FramesWithin k s.frames
    → (run : Run ps n s t) → (allocated ps n s t run ≤ n * k) × FramesWithin k t.frames

-- such a program begins with such a body
abbrev pub StartLaw : Type 0
StartLaw = (k : ℕ) (ps : List Procedure) (p : ℕ) (args : List ℤ) (h : Store) → AllocatesWithin k ps → FramesWithin k (start ps p args h).frames

-- a run of such a program has at most the cells of its first heap and k for each step
abbrev pub HeapLaw : Type 0
HeapLaw = (k : ℕ) (ps : List Procedure) (p : ℕ) (args : List ℤ) (h : Store) (n : ℕ) (t : State) → AllocatesWithin k ps
    → Run ps n (start ps p args h) t → cell_count t.store ≤ cell_count h + n * k
