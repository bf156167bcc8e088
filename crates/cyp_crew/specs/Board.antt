-- What a board of a crew stands for: a search and the journal of what the crew has done of it.
use Rattle.std.specs.Prelude.{◌≡◌, IsTrue, ℕ, ◌+◌, ◌≤◌, List, [], ◌∷◌, ◌++◌, length, slice_get, Option, Some}
use Rattle.std.specs.List.{Contains}
use Rattle.cyp_space.specs.Alts.{AltOf}
use Rattle.cyp_tree.specs.declared.mark.Mark.{Mark}
use Rattle.cyp_tree.specs.declared.mark.Mark.TheVariants.{Undecided}
use Rattle.cyp_tree.specs.Trees.{Tree, Leaf, Grown, Alts, NoAlt, AltThen, Parts, NoPart, PartThen}
use Rattle.cyp_tree.specs.Statuses.{alts_status}
use Rattle.cyp_tree.specs.Sizes.{size}
use Rattle.cyp_tree.specs.Live.{Waiting}
use Rattle.cyp_search.specs.Stages.{stage}
use Rattle.cyp_crew.specs.declared.event.Event.{Event}
use Rattle.cyp_crew.specs.Crews.{Task, Outstanding, Crew}
use Rattle.cyp_crew.specs.Claims.{crew_leaves, is_free}
use Rattle.cyp_crew.specs.Journals.{commits_in, LeadsTo}

-- a node of a tree with its number, its priority, which is the cost of its path and its weight, and its status
pub record MarkedNode (N : Type 0) : Type 0 where
  pub number : ℕ
  pub node : N
  pub priority : ℕ
  pub status : Mark

abbrev mutual
  -- the nodes of a tree, where the path to it has this cost
  pub marks : {R N : Type 0} → (N → ℕ) → ℕ → Tree R N → List (MarkedNode N)
  marks weight c (Leaf k n) = record { number = k; node = n; priority = c + weight n; status = Undecided } ∷ []
  marks weight c (Grown k n as') = record { number = k; node = n; priority = c + weight n; status = alts_status as' } ∷ alts_marks weight c as'

  pub alts_marks : {R N : Type 0} → (N → ℕ) → ℕ → Alts R N → List (MarkedNode N)
  alts_marks weight c NoAlt = []
  alts_marks weight c (AltThen r d ps as') = parts_marks weight (c + d) ps ++ alts_marks weight c as'

  pub parts_marks : {R N : Type 0} → (N → ℕ) → ℕ → Parts R N → List (MarkedNode N)
  parts_marks weight c NoPart = []
  parts_marks weight c (PartThen t ps) = marks weight c t ++ parts_marks weight c ps

-- a node's place in a memo, with its moves where they are known
pub record Place (R N : Type 0) : Type 0 where
  pub node : N
  pub moves : Option (List (AltOf R N))

-- an entry of an order: the number of a leaf, and its priority
pub record Entry : Type 0 where
  pub priority : ℕ
  pub leaf : ℕ

-- what a board has: its journal, its outstanding claims, its tree and the nodes of it by their numbers, its memo, the order in which it looks for
-- the leaf to commit, the order in which it looks for a leaf to claim, and for how many entries more that order and the journal have room
pub record PlainBoard (R N : Type 0) : Type 0 where
  pub journal : List Event
  pub claims : List (Outstanding N)
  pub tree : Tree R N
  pub nodes : List (MarkedNode N)
  pub memo : List (Place R N)
  pub to_commit : List Entry
  pub to_claim : List Entry
  pub claim_room : ℕ
  pub journal_room : ℕ

-- the entry of a leaf
abbrev pub entry_of : {N : Type 0} → Waiting N → Entry
entry_of w = record { priority = w.priority; leaf = w.number }

module _ {R N : Type 0} (t : Task R N) (vs : List Event) (b : PlainBoard R N) where
  -- the stage after as many expansions as the journal has commits
  abbrev pub board_stage : Tree R N
  board_stage = stage t.space t.root (commits_in vs)

  -- the nodes of that stage
  abbrev pub stage_marks : List (MarkedNode N)
  stage_marks = marks t.space.weight 0 board_stage

  -- the journal is the stored one, it is a journal that leads to this state, and the claims are the outstanding ones
  pub record HasJournal (c : Crew N) : Type 0 where
    pub stored : b.journal ≡ vs
    pub allowed : LeadsTo t vs c
    pub claims : b.claims ≡ c.outstanding

  -- the tree is the stage, and its nodes stand at their numbers with their priorities and statuses
  pub record HasTree : Type 0 where
    pub tree : b.tree ≡ board_stage
    pub counted : length b.nodes ≡ size board_stage
    pub marked : (m : MarkedNode N) → Contains stage_marks m → slice_get b.nodes m.number ≡ Some m

  -- each node has at most one place, and moves, which are those of the space, exactly where it is published
  pub record HasMemo (c : Crew N) : Type 0 where
    pub one_place : (i j : ℕ) (p q : Place R N) → slice_get b.memo i ≡ Some p → slice_get b.memo j ≡ Some q → p.node ≡ q.node → i ≡ j
    pub published : (n : N) → Contains c.published n → Contains b.memo (record { node = n; moves = Some (t.space.moves n) })
    pub known : (n : N) (m : List (AltOf R N)) → Contains b.memo (record { node = n; moves = Some m }) → Contains c.published n × (m ≡ t.space.moves n)

  -- the entry has the number and the priority of a node of the stage
  abbrev pub IsRight : Entry → Type 0
  IsRight e = (m : MarkedNode N) × Contains stage_marks m × (m.number ≡ e.leaf) × (m.priority ≡ e.priority)

  -- each live leaf is in the order of commits, each that is neither published nor claimed is in the order of claims, and all entries are right
  pub record HasOrders (c : Crew N) : Type 0 where
    pub live : (w : Waiting N) → Contains (crew_leaves t c) w → Contains b.to_commit (entry_of w)
    pub free : (w : Waiting N) → Contains (crew_leaves t c) w → IsTrue (is_free t c w) → Contains b.to_claim (entry_of w)
    pub commits_right : (e : Entry) → Contains b.to_commit e → IsRight e
    pub claims_right : (e : Entry) → Contains b.to_claim e → IsRight e

  -- each claimed node has a place in the memo, and there is room for an entry and an event more per outstanding claim
  pub record HasRoom (c : Crew N) : Type 0 where
    pub placed : (o : Outstanding N) → Contains c.outstanding o → (m : Option (List (AltOf R N))) × Contains b.memo (record { node = o.node; moves = m })
    pub entries : length c.outstanding ≤ b.claim_room
    pub events : length c.outstanding ≤ b.journal_room

  -- the board stands for the search and the journal
  pub record StandsFor : Type 0 where
    pub state : Crew N
    pub journal : HasJournal state
    pub tree : HasTree
    pub memo : HasMemo state
    pub orders : HasOrders state
    pub room : HasRoom state

-- the root's node, as that of the first stage
abbrev pub root_mark : {R N : Type 0} → Task R N → MarkedNode N
root_mark t = record { number = 0; node = t.root; priority = 0 + t.space.weight t.root; status = Undecided }

-- the board of a search that nothing was done of
abbrev pub fresh_board : {R N : Type 0} → Task R N → PlainBoard R N
fresh_board t = record {
  journal = [];
  claims = [];
  tree = Leaf 0 t.root;
  nodes = root_mark t ∷ [];
  memo = [];
  to_commit = record { priority = 0 + t.space.weight t.root; leaf = 0 } ∷ [];
  to_claim = record { priority = 0 + t.space.weight t.root; leaf = 0 } ∷ [];
  claim_room = 0;
  journal_room = 0;
}
