-- What the normal form of a node keeps of its meaning.
use Rattle.std.specs.Prelude.{IsTrue, List, Some, is_none, map, not, ◌++◌, ◌≡◌, ℕ}
use Rattle.std.specs.List.{list_all}
use Rattle.cyp_goal.specs.Normal.{Renaming, normal, solve, tidy_node}
use Rattle.cyp_goal.specs.Numbering.{renumber}
use Rattle.cyp_goal.specs.Pruning.{prune}
use Rattle.cyp_goal.specs.Raw.{is_sorted}
use Rattle.cyp_heap.specs.Assertions.{SideHolds}
use Rattle.cyp_heap.specs.Chunks.{chunks_vars, insts}
use Rattle.cyp_heap.specs.Formed.{IsFormed, is_card_var}
use Rattle.cyp_heap.specs.Goals.{node_vars}
use Rattle.cyp_heap.specs.Stores.{Store}
use Rattle.cyp_heap.specs.declared.chunk.InstOf.{InstOf}
use Rattle.cyp_heap.specs.declared.goal.Goal.{Goal}
use Rattle.cyp_heap.specs.declared.goal.Node.{Node}
use Rattle.cyp_heap.specs.declared.pred.Preds.{Preds}
use Rattle.cyp_kernel.specs.Correct.{MeetsPost, unlinked}
use Rattle.cyp_term.specs.Meaning.{Assignment}
use Rattle.cyp_term.specs.Terms.{lits_vars, var_in}
use Rattle.cyp_term.specs.declared.term.Var.{Var}

-- the precondition of the node holds in the assignment and the heap, at these heights of its instances
abbrev pub MeetsPre : Node → Assignment → Store → List ℕ → Type 0
MeetsPre n s h ns = SideHolds n.preds s n.goal.pure_pre n.goal.pre.chunks h ns

-- where the first node's precondition holds so does the second's, and each heap of the second's postcondition is one of the first's
abbrev pub KeepsMeaning : Node → Node → Type 0
KeepsMeaning n m =
    (s : Assignment) (h : Store) (ns : List ℕ) → MeetsPre n s h ns
    → MeetsPre m s h ns × ((k : Store) → MeetsPost m.preds m.goal s k → MeetsPost n.preds n.goal s k)

-- the same for a node under new names, at an assignment that gives its program variables the values of the old ones
abbrev pub KeepsRenamed : Node → Renaming → Type 0
KeepsRenamed n r =
    (s : Assignment) (h : Store) (ns : List ℕ) → MeetsPre n s h ns
    → (u : Assignment) × MeetsPre r.node u h ns × (map u.number r.node.goal.program ≡ map s.number r.old)
    × ((k : Store) → MeetsPost r.node.preds r.node.goal u k → MeetsPost n.preds n.goal s k)

-- what the normal form asks of a node so that it keeps the meaning
pub record IsReady (n : Node) : Type 0 where
  -- each variable has the sort of its place
  pub sorted : IsTrue (is_sorted n)
  -- no existential stands in the precondition
  pub exist_apart : IsTrue (list_all (λ v. not (var_in v (lits_vars n.goal.pure_pre ++ chunks_vars n.goal.pre.chunks))) n.goal.exist)
  -- each instance of the precondition has a cardinality, and none of the postcondition has one
  pub pre_cards : IsTrue (list_all (λ (i : InstOf). is_card_var i.card) (insts n.goal.pre.chunks))
  pub post_cards : IsTrue (list_all (λ (i : InstOf). is_none i.card) (insts n.goal.post.chunks))

-- ---- the steps

-- solving equations keeps the meaning
abbrev pub SolvingKeeps : Type 0
SolvingKeeps = (n m : Node) → IsReady n → solve n ≡ Some m → KeepsMeaning n m

-- tidying keeps the meaning of every node
abbrev pub TidyingKeeps : Type 0
TidyingKeeps = (n : Node) → KeepsMeaning n (tidy_node n)

-- pruning keeps the meaning of every node
abbrev pub PruningKeeps : Type 0
PruningKeeps = (n : Node) → KeepsMeaning n (prune n)

-- new numbers keep the meaning of a sorted node whose existentials all stand in it
abbrev pub NumberingKeeps : Type 0
NumberingKeeps =
    (n : Node) → IsTrue (is_sorted n) → IsTrue (list_all (λ v. var_in v (node_vars n)) n.goal.exist)
    → KeepsRenamed n (record { node = renumber n; old = n.goal.program })

-- ---- the whole

-- the normal form keeps the meaning
abbrev pub NormalKeeps : Type 0
NormalKeeps = (n : Node) (r : Renaming) → IsReady n → normal n ≡ Some r → KeepsRenamed n r

-- the normal form has what was asked of the node
abbrev pub NormalIsReady : Type 0
NormalIsReady = (n : Node) (r : Renaming) → IsReady n → normal n ≡ Some r → IsReady r.node

-- each program variable that is left was one
abbrev pub OldAreProgram : Type 0
OldAreProgram = (n : Node) (r : Renaming) → IsTrue (is_sorted n) → normal n ≡ Some r → (v : Var) → IsTrue (var_in v r.old) → IsTrue (var_in v n.goal.program)

-- the node of a formed goal has what is asked, where its variables have the sorts of their places
abbrev pub FormedIsReady : Type 0
FormedIsReady = (preds : Preds) (g : Goal) → IsFormed preds g → IsTrue (is_sorted (unlinked preds g)) → IsReady (unlinked preds g)

-- without the sorts of places solving may lose the meaning of the node of a formed goal
abbrev pub SortsAreNeeded : Type 0
SortsAreNeeded = (preds : Preds) × (g : Goal) × (m : Node) × IsFormed preds g × (solve (unlinked preds g) ≡ Some m) × ¬ KeepsMeaning (unlinked preds g) m
