-- A program does what its specification says.
use Rattle.std.specs.Prelude.{[], IsTrue, List, None, Option, Some, false, map, suc, ℕ, ◌≡◌, ◌≤◌}
use Rattle.std.specs.List.{list_any}
use Rattle.cyp_goal.specs.Normal.{Renaming, normal}
use Rattle.cyp_heap.specs.Assertions.{SideHolds}
use Rattle.cyp_heap.specs.Stores.{Store, cell_count}
use Rattle.cyp_heap.specs.declared.goal.Goal.{Goal}
use Rattle.cyp_heap.specs.declared.goal.Node.{Node}
use Rattle.cyp_heap.specs.declared.pred.Preds.{Preds}
use Rattle.cyp_kernel.specs.Bound.{measure, step_bound}
use Rattle.cyp_machine.specs.Faults.{fault}
use Rattle.cyp_machine.specs.Runs.{Run}
use Rattle.cyp_machine.specs.States.{State, has_ended, start}
use Rattle.cyp_prog.specs.Programs.{Procedure}
use Rattle.cyp_term.specs.Meaning.{Assignment, SameMembers}
use Rattle.cyp_term.specs.Terms.{var_eq}
use Rattle.cyp_term.specs.declared.term.Sort.{Sort}
use Rattle.cyp_term.specs.declared.term.Sort.TheVariants.{Card, Int, Set}
use Rattle.cyp_term.specs.declared.term.Var.{Var}

-- ---- parameters

-- the goal as it was written, without companions
abbrev pub unlinked : Preds → Goal → Node
unlinked preds g = record { preds = preds; goal = g; links = [] }

-- what the program variables of a normal form were called, and none where there is no normal form
abbrev pub old_names : Option Renaming → List Var
old_names None = []
old_names (Some r) = r.old

-- the program variables that the normal form keeps, in order: the parameters of the main procedure
abbrev pub kept_params : Preds → Goal → List Var
kept_params preds g = old_names (normal (unlinked preds g))

-- ---- postconditions

-- the assignments agree at the variable: at its number, or at its members where it is a set
abbrev pub AgreeBy : Sort → Assignment → Assignment → Var → Type 0
AgreeBy Int s t v = s.number v ≡ t.number v
AgreeBy Card s t v = s.number v ≡ t.number v
AgreeBy Set s t v = SameMembers (s.members v) (t.members v)

-- the same values of all variables but these
abbrev pub AgreeBeside : List Var → Assignment → Assignment → Type 0
AgreeBeside vs s t = (v : Var) → list_any (var_eq v) vs ≡ false → AgreeBy v.sort s t v

-- the heap is one of the postcondition for some values of the existentials and the same values of all other variables
abbrev pub MeetsPost : Preds → Goal → Assignment → Store → Type 0
MeetsPost preds g s h = (t : Assignment) × (ns : List ℕ) × AgreeBeside g.exist s t × SideHolds preds t g.pure_post g.post.chunks h ns

-- ---- runs

-- what is asked of the state that a run of n steps has come to, from a heap of the precondition
pub record RunsRight (ps : List Procedure) (preds : Preds) (g : Goal) (lead : Option ℕ) (s : Assignment) (h : Store) (ns : List ℕ) (n : ℕ) (t : State) : Type 0 where
  -- the next step is no fault
  pub no_fault : fault t ≡ None
  -- the run is within the bound at the measure of the precondition's instances
  pub in_time : n ≤ step_bound ps (measure lead ns) (suc (cell_count h))
  -- where the run has ended, the heap meets the postcondition
  pub meets_post : IsTrue (has_ended t) → MeetsPost preds g s t.store

-- each run of the main procedure from each heap of the precondition, the parameters being the values of the program variables that
-- the normal form keeps
abbrev pub IsCorrect : List Procedure → Preds → Goal → Option ℕ → Type 0
IsCorrect ps preds g lead =
    (s : Assignment) (h : Store) (ns : List ℕ) → SideHolds preds s g.pure_pre g.pre.chunks h ns
    → (n : ℕ) (t : State) → Run ps n (start ps 0 (map s.number (kept_params preds g)) h) t
    → RunsRight ps preds g lead s h ns n t
