-- What an instance of a predicate means: the values of its arguments, the clause that holds, and its height.
use Rattle.std.specs.Prelude.{Some, [], List, map, max, slice_get, suc, zero, ℕ, ℤ, ◌∷◌, ◌≡◌}
use Rattle.cyp_heap.specs.Stores.{IsBlock, IsCell, IsUnion, Store, no_store}
use Rattle.cyp_heap.specs.declared.chunk.Arg.{Arg}
use Rattle.cyp_heap.specs.declared.chunk.Arg.TheVariants.{Int as IntArg, Set as SetArg}
use Rattle.cyp_heap.specs.declared.chunk.Chunk.{Chunk}
use Rattle.cyp_heap.specs.declared.chunk.Chunk.TheVariants.{Block, Cell, Inst}
use Rattle.cyp_heap.specs.declared.pred.Clause.{Clause}
use Rattle.cyp_heap.specs.declared.pred.Pred.{Pred}
use Rattle.cyp_heap.specs.declared.pred.Preds.{Preds}
use Rattle.cyp_term.specs.Meaning.{AllTrue, Assignment, SameMembers, Truth, set_value, value}
use Rattle.cyp_term.specs.declared.term.Sort.{Sort}
use Rattle.cyp_term.specs.declared.term.Sort.TheVariants.{Int, Set}

-- the value of an argument: a number, or a finite set by a list of its members
pub data ArgValue : Type 0 where
  Number : ℤ → ArgValue
  Members : List ℤ → ArgValue

-- an integer term gives its number, a set term its members
abbrev pub arg_value : Assignment → Arg → ArgValue
arg_value s (IntArg t) = Number (value s t)
arg_value s (SetArg u) = Members (set_value s u)

-- which heaps the instances stand for: a predicate's place, the values of the arguments, the heap and the height
abbrev pub Instances : Type 1
Instances = ℕ → List ArgValue → Store → ℕ → Type 0

-- the heap is the union of the heaps of the chunks; the numbers are the heights of the instances in order
abbrev pub ChunksHold : Instances → Assignment → List Chunk → Store → List ℕ → Type 0
ChunksHold inst s [] h ns = (h ≡ no_store) × (ns ≡ [])
ChunksHold inst s (Inst i ∷ cs) h ns =
    (a : Store) × (b : Store) × (n : ℕ) × (rest : List ℕ) × (ns ≡ n ∷ rest) × IsUnion h a b × inst i.pred (map (arg_value s) i.args) a n × ChunksHold inst s cs b rest
ChunksHold inst s (Block k ∷ cs) h ns =
    (a : Store) × (b : Store) × IsUnion h a b × IsBlock a (value s k.at) k.size × ChunksHold inst s cs b ns
ChunksHold inst s (Cell k ∷ cs) h ns =
    (a : Store) × (b : Store) × IsUnion h a b × IsCell a (value s k.at) (value s k.content) × ChunksHold inst s cs b ns

-- the greatest of the numbers, and 0 where there is none
abbrev pub greatest : List ℕ → ℕ
greatest [] = 0
greatest (n ∷ ns) = max n (greatest ns)

-- one more than the greatest height of the instances below, and 0 where there is none
abbrev pub height_above : List ℕ → ℕ
height_above [] = 0
height_above (n ∷ ns) = suc (greatest (n ∷ ns))

-- the assignment gives the parameters the values of the arguments, sets by their members. Each sort is numbered from its own
-- first number on
abbrev pub ParamsAre : Assignment → ℕ → ℕ → List Sort → List ArgValue → Type 0
ParamsAre s ints sets [] [] = Unit {0}
ParamsAre s ints sets (Int ∷ ps) (Number z ∷ vs) = (s.number (record { sort = Int; number = ints }) ≡ z) × ParamsAre s (suc ints) sets ps vs
ParamsAre s ints sets (Set ∷ ps) (Members zs ∷ vs) =
    SameMembers (s.members (record { sort = Set; number = sets })) zs × ParamsAre s ints (suc sets) ps vs
ParamsAre s ints sets _ _ = ⊥

-- one clause of the predicate holds for some values of its own variables, at the height above those of its instances
abbrev pub ClauseHolds : Instances → Pred → List ArgValue → Store → ℕ → Type 0
ClauseHolds inst p args h n =
    (k : ℕ) × (c : Clause) × (s : Assignment) × (ns : List ℕ) × (slice_get p.clauses k ≡ Some c) × ParamsAre s 0 0 p.params args
    × Truth s c.guard × AllTrue s c.lits × ChunksHold inst s c.heap.chunks h ns × (n ≡ height_above ns)

-- the instance holds at this height, which is below the bound. After Cypress's cardinalities
abbrev pub HoldsBelow : Preds → ℕ → Instances
HoldsBelow preds zero p args h n = ⊥
HoldsBelow preds (suc bound) p args h n = (q : Pred) × (slice_get preds.list p ≡ Some q) × ClauseHolds (HoldsBelow preds bound) q args h n

-- the instance holds in the heap at this height, its sub-instances at heights below it
abbrev pub InstanceHolds : Preds → Instances
InstanceHolds preds p args h n = HoldsBelow preds (suc n) p args h n
