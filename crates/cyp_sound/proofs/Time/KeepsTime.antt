-- What it is for a body to keep to its time. The number of a run is one more than its steps and the cells that it has had.
use Rattle.cyp_heap.specs.Assertions.{SideHolds}
use Rattle.cyp_heap.specs.Goals.{goal_vars}
use Rattle.cyp_heap.specs.Stores.{Store, cell_count}
use Rattle.cyp_heap.specs.declared.goal.Link.{Link}
use Rattle.cyp_heap.specs.declared.goal.Node.{Node}
use Rattle.cyp_heap.specs.declared.pred.Preds.{Preds}
use Rattle.cyp_kernel.specs.Bound.{body_length, bound, longest, times}
use Rattle.cyp_kernel.specs.Laws.{greatest_below}
use Rattle.cyp_kernel.specs.Meets.{AreNamed, body_state}
use Rattle.cyp_kernel.specs.Naming.{Names}
use Rattle.cyp_machine.specs.Allocations.{RunAllocates}
use Rattle.cyp_machine.specs.States.{State, start}
use Rattle.cyp_machine.specs.Values.{Values}
use Rattle.cyp_prog.specs.Programs.{Body, Procedure}
use Rattle.cyp_sound.proofs.Time.Measures.{Companion, IsWithin, LexAtMost, call_measure, measure_at}
use Rattle.cyp_term.specs.Meaning.{Assignment}
use Rattle.cyp_term.specs.Terms.{sort_eq, term_vars, var_in}
use Rattle.cyp_term.specs.declared.term.Sort.TheVariants.{Card}
use Rattle.cyp_term.specs.declared.term.Var.{Var}
use Rattle.std.specs.List.{flat_map}
use Rattle.std.specs.Prelude.{◌++◌, ◌+◌, IsTrue, List, length, map, max, suc, ℕ, ◌<◌, ◌≡◌, ◌≤◌}

-- what a statement may add to the number z in a procedure that began at this measure: nine, or all that a call comes to
abbrev pub grown : List Procedure → List ℕ → ℕ → ℕ
grown ps start z = max (z + 9) (greatest_below (bound (suc (longest ps))) start z)

-- each cardinality is a natural number of at most z
abbrev pub CardsWithin : ℕ → Assignment → Type 0
CardsWithin z s = (v : Var) → IsTrue (sort_eq v.sort Card) → IsWithin z (s.number v)

-- a run stands below these companions with number z, in a procedure that began at this measure
pub record AtPlace (links : List Link) (s : Assignment) (h : Store) (z : ℕ) (start : List ℕ) : Type 0 where
  pub cells : suc (cell_count h) ≤ z
  pub cards : CardsWithin z s
  pub below : LexAtMost (measure_at s links) start
  pub long : length start ≡ 68

-- each run of at most k steps of the body keeps to the time that its statements have
abbrev pub KeepsTime : List Procedure → ℕ → Store → Values → Body → ℕ → List ℕ → Type 0
KeepsTime ps k h vs b z start =
    (m c : ℕ) (t : State) → m ≤ k → RunAllocates ps m c (body_state h vs b) t → z + m + c ≤ times (body_length b) (grown ps start) z

-- the same from each heap of the precondition, below companions whose measure is at most the one that the procedure began at
abbrev pub BodyKeepsTime : List Procedure → Node → Names → ℕ → List ℕ → Body → Type 0
BodyKeepsTime ps n names k start b =
    (s : Assignment) (h : Store) (ns : List ℕ) (vs : Values) (z : ℕ) → SideHolds n.preds s n.goal.pure_pre n.goal.pre.chunks h ns → AreNamed names vs s n.goal.program
    → AtPlace n.links s h z start → KeepsTime ps k h vs b z start

-- each run of fewer than k steps of the companion's procedure, and its return, keep within the bound at the measure of the call
abbrev pub ProcedureKeepsTime : List Procedure → Preds → Companion → ℕ → ℕ → Type 0
ProcedureKeepsTime ps preds c p k =
    (u : Assignment) (h : Store) (ns : List ℕ) (z : ℕ) → SideHolds preds u c.goal.pure_pre c.goal.pre.chunks h ns → suc (cell_count h) ≤ z
    → ((v : Var) → IsTrue (var_in v (goal_vars c.goal ++ flat_map term_vars c.own)) → IsTrue (sort_eq v.sort Card) → IsWithin z (u.number v))
    → (m e : ℕ) (t : State) → m < k → RunAllocates ps m e (start ps p (map u.number c.goal.program) h) t
    → suc (z + m + e) ≤ bound (suc (longest ps)) (call_measure u c) z
