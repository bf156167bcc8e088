-- One step of a program: a relation between states.
use Rattle.std.specs.Prelude.{[], ◌+ℤ◌, ◌<ℤ◌, Bool, IsTrue, List, None, Some, cond, is_none, is_some, length, map, pos, slice_get, suc, zero, ℕ, ℤ, ◌∷◌, ◌≡◌, ◌≤ℤ◌}
use Rattle.std.specs.FinMap.{FinMap, get, insert, remove}
use Rattle.std.specs.List.{list_all}
use Rattle.std.specs.Ordering.{int_cmp, int_eq}
use Rattle.cyp_heap.specs.Stores.{Store}
use Rattle.cyp_machine.specs.States.{Frame, State}
use Rattle.cyp_machine.specs.Values.{Values, expr_value, params_from, test_value}
use Rattle.cyp_prog.specs.Programs.{Body, Choosing, End, Failing, Giving, Invoking, Loading, Procedure, Statement, Storing, Taking, Then}

-- ---- blocks of cells

-- this many addresses from the first on
abbrev pub addresses : ℤ → ℕ → List ℤ
addresses a zero = []
addresses a (suc n) = a ∷ addresses (a +ℤ pos 1) n

-- the cells with these values at the addresses from this one on
abbrev pub insert_all : FinMap int_cmp ℤ → ℤ → List ℤ → FinMap int_cmp ℤ
insert_all m a [] = m
insert_all m a (z ∷ zs) = insert (insert_all m (a +ℤ pos 1) zs) a z

-- the cells without those at these addresses
abbrev pub remove_all : FinMap int_cmp ℤ → List ℤ → FinMap int_cmp ℤ
remove_all m [] = m
remove_all m (a ∷ as') = remove (remove_all m as') a

-- each of the addresses has a cell
abbrev pub has_all : FinMap int_cmp ℤ → List ℤ → Bool
has_all m as' = list_all (λ z. is_some (get m z)) as'

-- none of the addresses has a cell
abbrev pub has_none : FinMap int_cmp ℤ → List ℤ → Bool
has_none m as' = list_all (λ z. is_none (get m z)) as'

-- a block of this size may begin here: a positive base, none of these cells is there and no block has this base
abbrev pub IsFree : Store → ℤ → ℕ → Type 0
IsFree h a n = (pos 0 <ℤ a) × IsTrue (has_none h.cells (addresses a n)) × (get h.blocks a ≡ None)

-- ---- allocations

-- which base and contents an allocation of this size may take, of those that are free
abbrev pub Picks : Type 1
Picks = Store → ℕ → ℤ → List ℤ → Type 0

-- any base and any contents
abbrev pub any_pick : Picks
any_pick h n a zs = Unit {0}

-- the least free base, and zeros
abbrev pub least_pick : Picks
least_pick h n a zs = ((b : ℤ) → IsFree h b n → a ≤ℤ b) × IsTrue (list_all (int_eq (pos 0)) zs)

-- ---- steps

-- one body after another
abbrev pub followed_by : Body → Body → Body
followed_by End b = b
followed_by (Then s a) b = Then s (followed_by a b)

-- this is the state with the heap, and with the running body of these variables and this rest above its callers
abbrev pub Becomes : State → Store → Values → Body → List Frame → Type 0
Becomes t h vs rest below = t ≡ record { store = h; frames = record { values = vs; rest = rest } ∷ below }

-- the statement leads to the state from the heap and the variables, with this rest above the callers
abbrev pub StatementStep : Picks → List Procedure → Statement → Store → Values → Body → List Frame → State → Type 0
-- a read binds the content of a cell that is there
StatementStep picks ps (Loading v e) h vs rest below t =
    (z : ℤ) × (get h.cells (expr_value vs e) ≡ Some z) × Becomes t h ((v, z) ∷ vs) rest below
-- a write changes the content of a cell that is there
StatementStep picks ps (Storing a e) h vs rest below t =
    IsTrue (is_some (get h.cells (expr_value vs a)))
    × Becomes t (record { cells = insert h.cells (expr_value vs a) (expr_value vs e); blocks = h.blocks }) vs rest below
-- an allocation makes a block and its cells at a free base that may be picked, and binds the base
StatementStep picks ps (Taking v n) h vs rest below t =
    (a : ℤ) × (zs : List ℤ) × (length zs ≡ n) × IsFree h a n × picks h n a zs
    × Becomes t (record { cells = insert_all h.cells a zs; blocks = insert h.blocks a n }) ((v, a) ∷ vs) rest below
-- a deallocation removes a block that is there, and its cells, which are all there
StatementStep picks ps (Giving e) h vs rest below t =
    (n : ℕ) × (get h.blocks (expr_value vs e) ≡ Some n)
    × IsTrue (has_all h.cells (addresses (expr_value vs e) n))
    × Becomes t (record { cells = remove_all h.cells (addresses (expr_value vs e) n); blocks = remove h.blocks (expr_value vs e) }) vs rest below
-- a call begins the procedure's body above the caller's rest
StatementStep picks ps (Invoking p es) h vs rest below t =
    (q : Procedure) × (slice_get ps p ≡ Some q)
    × Becomes t h (params_from 1 (map (expr_value vs) es)) q.body (record { values = vs; rest = rest } ∷ below)
-- a test chooses the block that goes on
StatementStep picks ps (Choosing c a b) h vs rest below t =
    Becomes t h vs (followed_by (cond (test_value vs c) a b) rest) below
StatementStep picks ps Failing h vs rest below t = ⊥

-- what is left of the running body leads to the state: its first statement, or the return to its caller where it is at its end
abbrev pub BodyStep : Picks → List Procedure → Store → Values → Body → List Frame → State → Type 0
BodyStep picks ps h vs End [] t = ⊥
BodyStep picks ps h vs End (f ∷ below) t = t ≡ record { store = h; frames = f ∷ below }
BodyStep picks ps h vs (Then s rest) below t = StatementStep picks ps s h vs rest below t

-- the first of the running bodies makes the step
abbrev pub FramesStep : Picks → List Procedure → Store → List Frame → State → Type 0
FramesStep picks ps h [] t = ⊥
FramesStep picks ps h (f ∷ below) t = BodyStep picks ps h f.values f.rest below t

-- one step, where allocations take what may be picked
abbrev pub StepBy : Picks → List Procedure → State → State → Type 0
StepBy picks ps s t = FramesStep picks ps s.store s.frames t

-- one step: an allocation takes any free base and any contents
abbrev pub Step : List Procedure → State → State → Type 0
Step ps s t = StepBy any_pick ps s t
