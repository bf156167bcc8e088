-- Laws of instances: their heights and bounds, their clauses' guards, and sets as arguments.
use Rattle.std.specs.Prelude.{Some, List, map, [], ◌<◌, ◌≡◌, ◌≤◌, ◌↔◌, slice_get, ◌∷◌, ℕ}
use Rattle.cyp_heap.specs.Assertions.{SideHolds}
use Rattle.cyp_heap.specs.Chunks.{apply_chunk}
use Rattle.cyp_heap.specs.Instances.{ArgValue, ChunksHold, HoldsBelow, InstanceHolds, Members, Number}
use Rattle.cyp_heap.specs.PredsFormed.{IsFormedPreds}
use Rattle.cyp_heap.specs.Stores.{Store, cell_count}
use Rattle.cyp_heap.specs.declared.chunk.Chunk.{Chunk}
use Rattle.cyp_heap.specs.declared.pred.Clause.{Clause}
use Rattle.cyp_heap.specs.declared.pred.Pred.{Pred}
use Rattle.cyp_heap.specs.declared.pred.Preds.{Preds}
use Rattle.cyp_term.specs.Meaning.{Assignment, SameMembers, Truth, under}
use Rattle.cyp_term.specs.declared.lit.Lit.{Lit}
use Rattle.cyp_term.specs.declared.subst.Subst.{Subst}

-- an instance's height is at most the number of cells of its heap
abbrev pub HeightLaw : Type 0
HeightLaw = (preds : Preds) → IsFormedPreds preds → (p : ℕ) (args : List ArgValue) (h : Store) (n : ℕ) → InstanceHolds preds p args h n → n ≤ cell_count h

-- each of the numbers with which a side of a goal holds is at most the number of cells of the heap
abbrev pub SideHeightsLaw : Type 0
SideHeightsLaw =
    (preds : Preds) → IsFormedPreds preds → (s : Assignment) (lits : List Lit) (chunks : List Chunk) (h : Store) (ns : List ℕ) → SideHolds preds s lits chunks h ns
    → (k n : ℕ) → slice_get ns k ≡ Some n → n ≤ cell_count h

-- one clause of an instance's predicate at most has a true guard
abbrev pub GuardsLaw : Type 0
GuardsLaw =
    (preds : Preds) → IsFormedPreds preds → (p i j : ℕ) (q : Pred) (c d : Clause) (s : Assignment) → slice_get preds.list p ≡ Some q
    → slice_get q.clauses i ≡ Some c → slice_get q.clauses j ≡ Some d → Truth s c.guard → Truth s d.guard → i ≡ j

-- a number is the same, a set has the same members
abbrev pub SameArgValue : ArgValue → ArgValue → Type 0
SameArgValue (Number x) (Number y) = x ≡ y
SameArgValue (Members xs) (Members ys) = SameMembers xs ys
SameArgValue _ _ = ⊥

-- there are as many of both, and they are the same at each place
abbrev pub SameArgValues : List ArgValue → List ArgValue → Type 0
SameArgValues [] [] = Unit {0}
SameArgValues (x ∷ xs) (y ∷ ys) = SameArgValue x y × SameArgValues xs ys
SameArgValues _ _ = ⊥

-- what an instance means doesn't depend on how its set arguments are listed
abbrev pub ListingLaw : Type 0
ListingLaw =
    (preds : Preds) (p : ℕ) (xs ys : List ArgValue) (h : Store) (n : ℕ) → SameArgValues xs ys → InstanceHolds preds p xs h n ↔ InstanceHolds preds p ys h n

-- an instance that holds at a height below one bound does so below each bound that its height is below
abbrev pub BoundLaw : Type 0
BoundLaw =
    (preds : Preds) (a b p : ℕ) (args : List ArgValue) (h : Store) (n : ℕ) → HoldsBelow preds a p args h n → n < b → HoldsBelow preds b p args h n

-- chunks after a substitution hold exactly where the chunks hold of the values that the substitution gives their variables
abbrev pub ApplyChunksLaw : Type 0
ApplyChunksLaw =
    (preds : Preds) (by : Subst) (s : Assignment) (cs : List Chunk) (h : Store) (ns : List ℕ)
    → ChunksHold (InstanceHolds preds) s (map (apply_chunk by) cs) h ns ↔ ChunksHold (InstanceHolds preds) (under by s) cs h ns
