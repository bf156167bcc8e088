-- One cell of a heap: read, and written.
use Rattle.std.proofs.Common.{◌≡◌, refl, sym, ap, ◌∙◌, ℕ, zero, suc, Bool, true, false, cond, List, [], ◌∷◌, ℤ, Option, Some, subst}
use Rattle.std.specs.Prelude.{slice_get, slice_set}
use Rattle.std.specs.Ordering.{int_cmp, eq_by_cmp}
use Rattle.std.specs.Cmp.{int_cmp_total}
use Rattle.std.specs.FinMap.{FinMap, get, insert, empty, get-insert, same_map, int_cmp-IsAntisymmetric}
use Rattle.std.proofs.lemmas.Option.{none-some, same_Some}
use Rattle.cyp_heap.proofs.Unions.{union_insert, union_left}
use Rattle.cyp_heap.specs.Assertions.{CardsAre}
use Rattle.cyp_heap.specs.Instances.{ChunksHold, Instances}
use Rattle.cyp_heap.specs.Stores.{IsCell, IsUnion, Store}
use Rattle.cyp_heap.specs.declared.chunk.CellAt.{CellAt}
use Rattle.cyp_heap.specs.declared.chunk.Chunk.{Chunk}
use Rattle.cyp_heap.specs.declared.chunk.Chunk.TheVariants.{Block, Cell, Inst}
use Rattle.cyp_kernel.proofs.HeapParts.{OneHolds, get_single, map_union_sym, union_sym}
use Rattle.cyp_machine.proofs.Options.{some_there}
use Rattle.cyp_term.specs.Meaning.{Assignment, value}
use Rattle.cyp_term.specs.declared.term.Term.{Term}

-- ---- an entry written twice

module _ {A : Type 0} where
  abbrev no_entries : FinMap int_cmp A
  no_entries = empty

  drop_inner : (v w : A) (t : Bool) (o : Option A) → cond t (Some w) (cond t (Some v) o) ≡ cond t (Some w) o
  drop_inner v w true o = refl
  drop_inner v w false o = refl

  twice_at : (k : ℤ) (v w : A) (q : ℤ) → get (insert (insert no_entries k v) k w) q ≡ get (insert no_entries k w) q
  twice_at k v w q =
      get-insert int_cmp_total (insert no_entries k v) k w q
      ∙ ap (λ (o : Option A). cond (eq_by_cmp int_cmp q k) (Some w) o) (get-insert int_cmp_total no_entries k v q)
      ∙ drop_inner v w (eq_by_cmp int_cmp q k) (get no_entries q)
      ∙ sym (get-insert int_cmp_total no_entries k w q)

  insert_twice : (k : ℤ) (v w : A) → insert (insert no_entries k v) k w ≡ insert no_entries k w
  insert_twice k v w = same_map int_cmp_total int_cmp-IsAntisymmetric (insert (insert no_entries k v) k w) (insert no_entries k w) (twice_at k v w)

-- the heap with this value in the cell
abbrev pub written : Store → ℤ → ℤ → Store
written h at w = record { cells = insert h.cells at w; blocks = h.blocks }

written_left : (h a b : Store) (at v w : ℤ) → IsUnion h a b → get a.cells at ≡ Some v → IsUnion (written h at w) (written a at w) b
written_left h a b at v w u e =
    (union_insert h.cells a.cells b.cells u.0 at w (union_left h.cells a.cells b.cells u.0 at (some_there (get a.cells at) v e)).0, u.1)

written_right : (h a b : Store) (at v w : ℤ) → IsUnion h a b → get b.cells at ≡ Some v → IsUnion (written h at w) a (written b at w)
written_right h a b at v w u e = union_sym (written h at w) (written b at w) a (written_left h b a at v w (union_sym h a b u) e)

cell_in : (a : Store) (at v : ℤ) → IsCell a at v → get a.cells at ≡ Some v
cell_in a at v c = ap (λ (m : FinMap int_cmp ℤ). get m at) c.1 ∙ get_single at v

module _ (inst : Instances) (s : Assignment) where
  -- ---- the cell's heap, where the first chunk is a cell
  first_cell : (j c : CellAt) (a : Store) → Some (Cell j) ≡ Some (Cell c) → IsCell a (value s j.at) (value s j.content) → IsCell a (value s c.at) (value s c.content)
  first_cell j c a e k = subst (λ (d : Chunk). OneHolds inst s d a) (same_Some (Cell j) (Cell c) e) k

  in_right_part : (h a b : Store) (at v : ℤ) → IsUnion h a b → get b.cells at ≡ Some v → get h.cells at ≡ Some v
  in_right_part h a b at v u e = (union_left h.cells b.cells a.cells (map_union_sym h.cells a.cells b.cells u.0) at (some_there (get b.cells at) v e)).1 ∙ e

  -- the cell of a chunk is in the heap
  pub cell_there : (cs : List Chunk) (i : ℕ) (c : CellAt) (h : Store) (ns : List ℕ) → slice_get cs i ≡ Some (Cell c) → ChunksHold inst s cs h ns
      → get h.cells (value s c.at) ≡ Some (value s c.content)
  cell_there [] i c h ns e k = absurd (none-some (Cell c) e)
  cell_there (Inst j ∷ cs) zero c h ns e k = cc
  cell_there (Block j ∷ cs) zero c h ns e k = cc
  cell_there (Cell j ∷ cs) zero c h ns e k =
      let v = cell_in k.0 (value s c.at) (value s c.content) (first_cell j c k.0 e k.3) in
      (union_left h.cells k.0.cells k.1.cells k.2.0 (value s c.at) (some_there (get k.0.cells (value s c.at)) (value s c.content) v)).1 ∙ v
  cell_there (Inst j ∷ cs) (suc i) c h ns e k = in_right_part h k.0 k.1 (value s c.at) (value s c.content) k.5 (cell_there cs i c k.1 k.3 e k.7)
  cell_there (Block j ∷ cs) (suc i) c h ns e k = in_right_part h k.0 k.1 (value s c.at) (value s c.content) k.2 (cell_there cs i c k.1 ns e k.4)
  cell_there (Cell j ∷ cs) (suc i) c h ns e k = in_right_part h k.0 k.1 (value s c.at) (value s c.content) k.2 (cell_there cs i c k.1 ns e k.4)

  -- the cell's chunk gets what is written
  pub write_cell : (cs : List Chunk) (i : ℕ) (c : CellAt) (x : Term) (h : Store) (ns : List ℕ) → slice_get cs i ≡ Some (Cell c) → ChunksHold inst s cs h ns
      → ChunksHold inst s (slice_set cs i (Cell (record { at = c.at; content = x }))) (written h (value s c.at) (value s x)) ns
  write_cell [] i c x h ns e k = absurd (none-some (Cell c) e)
  write_cell (Inst j ∷ cs) zero c x h ns e k = cc
  write_cell (Block j ∷ cs) zero c x h ns e k = cc
  write_cell (Cell j ∷ cs) zero c x h ns e k =
      let o = first_cell j c k.0 e k.3 in
      let v = cell_in k.0 (value s c.at) (value s c.content) o in (
        written k.0 (value s c.at) (value s x),
        k.1,
        written_left h k.0 k.1 (value s c.at) (value s c.content) (value s x) k.2 v,
        (o.0, ap (λ (m : FinMap int_cmp ℤ). insert m (value s c.at) (value s x)) o.1 ∙ insert_twice (value s c.at) (value s c.content) (value s x), o.2),
        k.4,
      )
  write_cell (Inst j ∷ cs) (suc i) c x h ns e k = (
    k.0,
    written k.1 (value s c.at) (value s x),
    k.2,
    k.3,
    k.4,
    written_right h k.0 k.1 (value s c.at) (value s c.content) (value s x) k.5 (cell_there cs i c k.1 k.3 e k.7),
    k.6,
    write_cell cs i c x k.1 k.3 e k.7,
  )
  write_cell (Block j ∷ cs) (suc i) c x h ns e k = (
    k.0,
    written k.1 (value s c.at) (value s x),
    written_right h k.0 k.1 (value s c.at) (value s c.content) (value s x) k.2 (cell_there cs i c k.1 ns e k.4),
    k.3,
    write_cell cs i c x k.1 ns e k.4,
  )
  write_cell (Cell j ∷ cs) (suc i) c x h ns e k = (
    k.0,
    written k.1 (value s c.at) (value s x),
    written_right h k.0 k.1 (value s c.at) (value s c.content) (value s x) k.2 (cell_there cs i c k.1 ns e k.4),
    k.3,
    write_cell cs i c x k.1 ns e k.4,
  )

  -- a content of the same value in its place
  pub same_content : (cs : List Chunk) (i : ℕ) (c : CellAt) (x : Term) (h : Store) (ns : List ℕ) → slice_get cs i ≡ Some (Cell c) → value s c.content ≡ value s x
      → ChunksHold inst s cs h ns → ChunksHold inst s (slice_set cs i (Cell (record { at = c.at; content = x }))) h ns
  same_content [] i c x h ns e v k = absurd (none-some (Cell c) e)
  same_content (Inst j ∷ cs) zero c x h ns e v k = cc
  same_content (Block j ∷ cs) zero c x h ns e v k = cc
  same_content (Cell j ∷ cs) zero c x h ns e v k = (k.0, k.1, k.2, subst (λ (z : ℤ). IsCell k.0 (value s c.at) z) v (first_cell j c k.0 e k.3), k.4)
  same_content (Inst j ∷ cs) (suc i) c x h ns e v k = (k.0, k.1, k.2, k.3, k.4, k.5, k.6, same_content cs i c x k.1 k.3 e v k.7)
  same_content (Block j ∷ cs) (suc i) c x h ns e v k = (k.0, k.1, k.2, k.3, same_content cs i c x k.1 ns e v k.4)
  same_content (Cell j ∷ cs) (suc i) c x h ns e v k = (k.0, k.1, k.2, k.3, same_content cs i c x k.1 ns e v k.4)

  -- a cell in a cell's place leaves the cardinalities as they are
  pub cards_set : (cs : List Chunk) (i : ℕ) (c d : CellAt) (ns : List ℕ) → slice_get cs i ≡ Some (Cell c) → CardsAre s cs ns → CardsAre s (slice_set cs i (Cell d)) ns
  cards_set [] i c d ns e k = absurd (none-some (Cell c) e)
  cards_set (Inst j ∷ cs) zero c d ns e k = cc
  cards_set (Block j ∷ cs) zero c d ns e k = k
  cards_set (Cell j ∷ cs) zero c d ns e k = k
  cards_set (Inst j ∷ cs) (suc i) c d [] e k = absurd k
  cards_set (Inst j ∷ cs) (suc i) c d (n ∷ ns) e k = (k.0, cards_set cs i c d ns e k.1)
  cards_set (Block j ∷ cs) (suc i) c d ns e k = cards_set cs i c d ns e k
  cards_set (Cell j ∷ cs) (suc i) c d ns e k = cards_set cs i c d ns e k
