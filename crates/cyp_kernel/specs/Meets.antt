-- What it is for a body to meet a goal, in runs of at most so many steps.
use Rattle.std.specs.Prelude.{IsTrue, [], List, None, map, ◌<◌, ◌≡◌, ◌≤◌, ◌∷◌, ℕ}
use Rattle.cyp_heap.specs.Assertions.{SideHolds}
use Rattle.cyp_heap.specs.Stores.{Store}
use Rattle.cyp_heap.specs.declared.goal.Goal.{Goal}
use Rattle.cyp_heap.specs.declared.pred.Preds.{Preds}
use Rattle.cyp_kernel.specs.Correct.{MeetsPost}
use Rattle.cyp_kernel.specs.Naming.{Names, name_of}
use Rattle.cyp_machine.specs.Faults.{fault}
use Rattle.cyp_machine.specs.Runs.{Run}
use Rattle.cyp_machine.specs.States.{State, has_ended, start}
use Rattle.cyp_machine.specs.Values.{Values, lookup}
use Rattle.cyp_prog.specs.Programs.{Body, Procedure}
use Rattle.cyp_term.specs.Meaning.{Assignment}
use Rattle.cyp_term.specs.Terms.{var_in}
use Rattle.cyp_term.specs.declared.term.Var.{Var}

-- ---- names

-- the names are those of the program variables in order, and each is below the next new one
pub record IsNaming (names : Names) (program : List Var) (next : ℕ) : Type 0 where
  pub keys : map (λ (p : Var × ℕ). p.0) names ≡ program
  pub below : (v : Var) → IsTrue (var_in v program) → name_of names v < next

-- the variable of the program that stands for a program variable has its value
abbrev pub AreNamed : Names → Values → Assignment → List Var → Type 0
AreNamed names vs s program = (v : Var) → IsTrue (var_in v program) → lookup vs (name_of names v) ≡ s.number v

-- ---- bodies

-- the body runs alone in the heap, its variables having these values
abbrev pub body_state : Store → Values → Body → State
body_state h vs b = record { store = h; frames = record { values = vs; rest = b } ∷ [] }

-- the next step is no fault, and a run that has ended has come to a heap of the postcondition
pub record MeetsSoFar (preds : Preds) (g : Goal) (s : Assignment) (t : State) : Type 0 where
  pub no_fault : fault t ≡ None
  pub meets_post : IsTrue (has_ended t) → MeetsPost preds g s t.store

-- each run of at most k steps of the body from a heap of the precondition, under these names, goes right
abbrev pub BodyMeets : List Procedure → Preds → Goal → Names → ℕ → Body → Type 0
BodyMeets ps preds g names k b =
    (s : Assignment) (h : Store) (ns : List ℕ) (vs : Values) → SideHolds preds s g.pure_pre g.pre.chunks h ns → AreNamed names vs s g.program
    → (m : ℕ) (t : State) → m ≤ k → Run ps m (body_state h vs b) t → MeetsSoFar preds g s t

-- each run of fewer than k steps of the procedure on the values of the program variables, from a heap of the precondition, goes right
abbrev pub ProcedureMeets : List Procedure → Preds → Goal → ℕ → ℕ → Type 0
ProcedureMeets ps preds g p k =
    (s : Assignment) (h : Store) (ns : List ℕ) → SideHolds preds s g.pure_pre g.pre.chunks h ns
    → (m : ℕ) (t : State) → m < k → Run ps m (start ps p (map s.number g.program) h) t → MeetsSoFar preds g s t
