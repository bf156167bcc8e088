-- Heights of instances are below the number of cells.
use Rattle.std.proofs.Common.{◌≡◌, refl, sym, ap, ◌∙◌, ◌⊎◌, inl, inr, ℕ, zero, suc, ◌+◌, ◌≤◌, Bool, true, not, List, [], ◌∷◌, length, Some, arith, IsTrue}
use Rattle.std.specs.Prelude.{max, slice_get}
use Rattle.std.specs.List.{list_all, list_any}
use Rattle.std.proofs.lemmas.Bool.{false≢true, and_parts, or_cases}
use Rattle.std.proofs.lemmas.Option.{none-some, same_Some}
use Rattle.cyp_heap.specs.Chunks.{insts, is_inst}
use Rattle.cyp_heap.specs.Instances.{ArgValue, ChunksHold, HoldsBelow, InstanceHolds, Instances, greatest, height_above}
use Rattle.cyp_heap.specs.Laws.{HeightLaw, SideHeightsLaw}
use Rattle.cyp_heap.specs.PredsFormed.{all_clauses, is_cell, is_productive}
use Rattle.cyp_heap.specs.Stores.{Store, cell_count}
use Rattle.cyp_heap.specs.declared.chunk.Chunk.{Chunk}
use Rattle.cyp_heap.specs.declared.chunk.Chunk.TheVariants.{Block, Cell, Inst}
use Rattle.cyp_heap.specs.declared.pred.Clause.{Clause}
use Rattle.cyp_heap.specs.declared.pred.Pred.{Pred}
use Rattle.cyp_heap.specs.declared.pred.Preds.{Preds}
use Rattle.cyp_term.specs.Meaning.{Assignment}
use Rattle.cyp_heap.proofs.CellCounts.{cell_one, union_count}

-- ---- what holds of each clause

pub passes_at : {A : Type 0} (p : A → Bool) (xs : List A) (i : ℕ) (x : A) → slice_get xs i ≡ Some x → IsTrue (list_all p xs) → IsTrue (p x)
passes_at p [] i x e h = absurd (none-some x e)
passes_at p (y ∷ ys) zero x e h = ap p (sym (same_Some y x e)) ∙ (and_parts (p y) (list_all p ys) h).0
passes_at p (y ∷ ys) (suc i) x e h = passes_at p ys i x e (and_parts (p y) (list_all p ys) h).1

-- what each clause passes is passed by the clause at this place
pub clause_passes : (test : Pred → Clause → Bool) (preds : Preds) → IsTrue (all_clauses test preds)
    → (p k : ℕ) (q : Pred) (c : Clause) → slice_get preds.list p ≡ Some q → slice_get q.clauses k ≡ Some c → IsTrue (test q c)
clause_passes test preds h p k q c e f =
    passes_at (test q) q.clauses k c f (passes_at (λ (r : Pred). list_all (test r) r.clauses) preds.list p q e h)

-- ---- numbers

abbrev pub cells : List Chunk → ℕ
cells [] = 0
cells (Inst i ∷ cs) = cells cs
cells (Block k ∷ cs) = cells cs
cells (Cell k ∷ cs) = suc (cells cs)

-- a chunk that is a cell makes one cell at least
pub some_cell : (cs : List Chunk) → list_any is_cell cs ≡ true → 1 ≤ cells cs
some_cell [] h = absurd (false≢true h)
some_cell (Inst i ∷ cs) h = some_cell cs h
some_cell (Block k ∷ cs) h = some_cell cs h
some_cell (Cell k ∷ cs) h = omega arith

-- without a chunk that is an instance there are no instances
no_insts : (cs : List Chunk) → not (list_any is_inst cs) ≡ true → length (insts cs) ≡ 0
no_insts [] h = refl
no_insts (Inst i ∷ cs) h = absurd (false≢true h)
no_insts (Block k ∷ cs) h = no_insts cs h
no_insts (Cell k ∷ cs) h = no_insts cs h

at_most_sum : (m n x y c z : ℕ) → m ≤ x → n + c ≤ y → z ≡ x + y → max m n + c ≤ z
at_most_sum m n x y c z p q e = omega arith

at_most_second : (g c x y z : ℕ) → g + c ≤ y → z ≡ x + y → g + c ≤ z
at_most_second g c x y z p e = omega arith

one_more : (g c x y z : ℕ) → g + c ≤ y → x ≡ 1 → z ≡ x + y → g + suc c ≤ z
one_more g c x y z p f e = omega arith

module _ (inst : Instances) (s : Assignment) where
  -- each instance has one number
  pub one_each : (cs : List Chunk) (h : Store) (ns : List ℕ) → ChunksHold inst s cs h ns → length ns ≡ length (insts cs)
  one_each [] h ns k = ap length k.1
  one_each (Inst i ∷ cs) h ns k = let p : length k.3 ≡ length (insts cs) = one_each cs k.1 k.3 k.7 in ap length k.4 ∙ ap suc p
  one_each (Block b ∷ cs) h ns k = one_each cs k.1 ns k.4
  one_each (Cell c ∷ cs) h ns k = one_each cs k.1 ns k.4

  -- where each instance is at most as high as it has cells, the greatest height and the cells beside are at most all cells
  pub greatest_and_cells : ((p : ℕ) (xs : List ArgValue) (a : Store) (m : ℕ) → inst p xs a m → m ≤ cell_count a)
      → (cs : List Chunk) (h : Store) (ns : List ℕ) → ChunksHold inst s cs h ns → greatest ns + cells cs ≤ cell_count h
  greatest_and_cells low [] h ns k = let p : greatest ns ≡ 0 = ap greatest k.1 in omega arith
  greatest_and_cells low (Inst i ∷ cs) h ns k =
      let p : greatest ns ≡ max k.2 (greatest k.3) = ap greatest k.4 in
      let q : max k.2 (greatest k.3) + cells cs ≤ cell_count h =
      at_most_sum k.2 (greatest k.3) (cell_count k.0) (cell_count k.1) (cells cs) (cell_count h) (low i.pred _ k.0 k.2 k.6) (greatest_and_cells low cs k.1 k.3 k.7)
      (union_count h k.0 k.1 k.5)
      in omega arith
  greatest_and_cells low (Block b ∷ cs) h ns k =
      at_most_second (greatest ns) (cells cs) (cell_count k.0) (cell_count k.1) (cell_count h) (greatest_and_cells low cs k.1 ns k.4) (union_count h k.0 k.1 k.2)
  greatest_and_cells low (Cell c ∷ cs) h ns k =
      one_more (greatest ns) (cells cs) (cell_count k.0) (cell_count k.1) (cell_count h) (greatest_and_cells low cs k.1 ns k.4) (cell_one k.0 _ _ k.3)
      (union_count h k.0 k.1 k.2)

  above_cells : (low : (p : ℕ) (xs : List ArgValue) (a : Store) (m : ℕ) → inst p xs a m → m ≤ cell_count a)
      (c : Clause) (h : Store) (ns : List ℕ) → ChunksHold inst s c.heap.chunks h ns
      → (not (list_any is_inst c.heap.chunks) ≡ true) ⊎ (list_any is_cell c.heap.chunks ≡ true) → height_above ns ≤ cell_count h
  above_cells low c h [] k e = omega arith
  above_cells low c h (n ∷ ns) k (inr e) =
      let p : greatest (n ∷ ns) + cells c.heap.chunks ≤ cell_count h = greatest_and_cells low c.heap.chunks h (n ∷ ns) k in
      let q : 1 ≤ cells c.heap.chunks = some_cell c.heap.chunks e in omega arith
  above_cells low c h (n ∷ ns) k (inl e) =
      let p : suc (length ns) ≡ length (insts c.heap.chunks) = one_each c.heap.chunks h (n ∷ ns) k in
      let q : length (insts c.heap.chunks) ≡ 0 = no_insts c.heap.chunks e in absurd (omega arith)

-- the height above the instances of a productive clause is at most the number of cells
pub clause_height : (inst : Instances) (s : Assignment) → ((p : ℕ) (xs : List ArgValue) (a : Store) (m : ℕ) → inst p xs a m → m ≤ cell_count a)
    → (c : Clause) (h : Store) (ns : List ℕ) → IsTrue (is_productive c) → ChunksHold inst s c.heap.chunks h ns → height_above ns ≤ cell_count h
clause_height inst s low c h ns e k =
    above_cells inst s low c h ns k (or_cases (not (list_any is_inst c.heap.chunks)) (list_any is_cell c.heap.chunks) e)

pub low_below : (preds : Preds) → IsTrue (all_clauses (λ q c. is_productive c) preds) → (bound p : ℕ) (args : List ArgValue) (h : Store) (n : ℕ)
    → HoldsBelow preds bound p args h n → n ≤ cell_count h
low_below preds e zero p args h n k = absurd k
low_below preds e (suc bound) p args h n k =
    let c : Clause = k.2.1 in
    let q : height_above k.2.3 ≤ cell_count h =
    clause_height (HoldsBelow preds bound) k.2.2 (low_below preds e bound) c h k.2.3
    (clause_passes (λ q d. is_productive d) preds e p k.2.0 k.0 c k.1 k.2.4) k.2.8
    in
    let r : n ≡ height_above k.2.3 = k.2.9 in omega arith

pub height_law : HeightLaw
height_law preds f p args h n k = low_below preds f.productive (suc n) p args h n k

at_most_greatest : (ns : List ℕ) (k n : ℕ) → slice_get ns k ≡ Some n → n ≤ greatest ns
at_most_greatest [] k n e = absurd (none-some n e)
at_most_greatest (m ∷ ms) zero n e = let p : m ≡ n = same_Some m n e in omega arith
at_most_greatest (m ∷ ms) (suc k) n e = let p : n ≤ greatest ms = at_most_greatest ms k n e in omega arith

pub side_heights_law : SideHeightsLaw
side_heights_law preds f s lits chunks h ns d k n e =
    let p : greatest ns + cells chunks ≤ cell_count h = greatest_and_cells (InstanceHolds preds) s (height_law preds f) chunks h ns d.1 in
    let q : n ≤ greatest ns = at_most_greatest ns k n e in omega arith
