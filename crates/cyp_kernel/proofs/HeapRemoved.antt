-- Cells and blocks taken from a heap.
use Rattle.std.proofs.Common.{◌≡◌, refl, sym, ap, ◌∙◌, ℕ, zero, suc, ◌+◌, inl, inr, Bool, true, false, cond, List, [], ◌∷◌, map, ℤ, pos, ◌+ℤ◌, Option, Some, None, arith, subst}
use Rattle.std.specs.Prelude.{is_some, slice_get}
use Rattle.std.specs.Ordering.{int_cmp, eq_by_cmp}
use Rattle.std.specs.Cmp.{int_cmp_total}
use Rattle.std.specs.FinMap.{FinMap, get, insert, remove, empty, get-empty, get-insert, get-remove, same_map, int_cmp-IsAntisymmetric}
use Rattle.std.proofs.lemmas.Bool.{and_from, cond-false, cond-true, false≢true}
use Rattle.std.proofs.lemmas.Int.{ints}
use Rattle.std.proofs.lemmas.Option.{none-some, same_Some}
use Rattle.cyp_heap.proofs.Unions.{tied, union_left}
use Rattle.cyp_heap.specs.Assertions.{CardsAre}
use Rattle.cyp_heap.specs.Chunks.{without}
use Rattle.cyp_heap.specs.Instances.{ChunksHold, Instances}
use Rattle.cyp_heap.specs.Stores.{IsDisjointUnion, Store}
use Rattle.cyp_heap.specs.declared.chunk.CellAt.{CellAt}
use Rattle.cyp_heap.specs.declared.chunk.Chunk.{Chunk}
use Rattle.cyp_heap.specs.declared.chunk.Chunk.TheVariants.{Block, Cell, Inst}
use Rattle.cyp_kernel.proofs.Allowed.{taken_some}
use Rattle.cyp_kernel.proofs.ChunkOrder.{place_out}
use Rattle.cyp_kernel.proofs.HeapParts.{get_single, map_union_sym, union_with_none}
use Rattle.cyp_kernel.proofs.Offsets.{plus-zero}
use Rattle.cyp_machine.proofs.CellUnions.{all_in_union}
use Rattle.cyp_machine.proofs.Options.{some_there}
use Rattle.cyp_machine.specs.Steps.{addresses, has_all, remove_all}
use Rattle.cyp_step.specs.FlatRules.{block_cells, cells_from, first_place, is_written_at, without_cells}
use Rattle.cyp_term.proofs.Equality.{Decides-term_eq}
use Rattle.cyp_term.specs.Meaning.{Assignment, base_value, value}
use Rattle.cyp_term.specs.declared.term.Term.{Term}

-- ---- maps

module _ {A : Type 0} where
  drop_swap : (a b : Bool) (o : Option A) → cond a None (cond b None o) ≡ cond b None (cond a None o)
  drop_swap true true o = refl
  drop_swap true false o = refl
  drop_swap false true o = refl
  drop_swap false false o = refl

  removed_twice : (m : FinMap int_cmp A) (w z q : ℤ) → get (remove (remove m w) z) q ≡ cond (eq_by_cmp int_cmp q z) None (cond (eq_by_cmp int_cmp q w) None (get m q))
  removed_twice m w z q = get-remove int_cmp_total (remove m w) z q ∙ ap (λ (o : Option A). cond (eq_by_cmp int_cmp q z) None o) (get-remove int_cmp_total m w q)

  remove_swap : (m : FinMap int_cmp A) (w z : ℤ) → remove (remove m w) z ≡ remove (remove m z) w
  remove_swap m w z =
      same_map int_cmp_total int_cmp-IsAntisymmetric (remove (remove m w) z) (remove (remove m z) w)
      (λ q. removed_twice m w z q ∙ drop_swap (eq_by_cmp int_cmp q z) (eq_by_cmp int_cmp q w) (get m q) ∙ sym (removed_twice m z w q))

  abbrev no_entries : FinMap int_cmp A
  no_entries = empty

  module _ (all b : FinMap int_cmp A) (z : ℤ) (v : A) (u : IsDisjointUnion all (insert no_entries z v) b) where
    removed_here : (q : ℤ) → eq_by_cmp int_cmp q z ≡ true → get (remove all z) q ≡ get b q
    removed_here q e =
        get-remove int_cmp_total all z q ∙ cond-true (eq_by_cmp int_cmp q z) None (get all q) e
        ∙ sym (ap (get b) (tied q z e) ∙ (union_left all (insert no_entries z v) b u z (some_there (get (insert no_entries z v) z) v (get_single z v))).0)

    not_single : (q : ℤ) → eq_by_cmp int_cmp q z ≡ false → get (insert no_entries z v) q ≡ None
    not_single q e = get-insert int_cmp_total no_entries z v q ∙ cond-false (eq_by_cmp int_cmp q z) (Some v) (get no_entries q) e ∙ get-empty int_cmp q

    removed_there : (q : ℤ) → eq_by_cmp int_cmp q z ≡ false → get (remove all z) q ≡ get b q
    removed_there q e =
        get-remove int_cmp_total all z q ∙ cond-false (eq_by_cmp int_cmp q z) None (get all q) e
        ∙ elim (u q) [ inl p ↦ p.1 | inr p ↦ p.1 ∙ not_single q e ∙ sym p.0 ]

    removed_by : (q : ℤ) (t : Bool) → eq_by_cmp int_cmp q z ≡ t → get (remove all z) q ≡ get b q
    removed_by q true e = removed_here q e
    removed_by q false e = removed_there q e

    -- without a single entry the rest is left
    pub remove_single : remove all z ≡ b
    remove_single = same_map int_cmp_total int_cmp-IsAntisymmetric (remove all z) b (λ q. removed_by q (eq_by_cmp int_cmp q z) refl)

remove_all-remove : (m : FinMap int_cmp ℤ) (z : ℤ) (zs : List ℤ) → remove (remove_all m zs) z ≡ remove_all (remove m z) zs
remove_all-remove m z [] = refl
remove_all-remove m z (w ∷ zs) = remove_swap (remove_all m zs) w z ∙ ap (λ (n : FinMap int_cmp ℤ). remove n w) (remove_all-remove m z zs)

-- ---- the first chunk that passes a test

-- the place, counted from k on, is that of a chunk that passes
abbrev IsFound : (Chunk → Bool) → ℕ → List Chunk → ℕ → Type 0
IsFound p k cs j = (i : ℕ) × (k + i ≡ j) × (c : Chunk) × (slice_get cs i ≡ Some c) × (p c ≡ true)

found_later : (p : Chunk → Bool) (k : ℕ) (d : Chunk) (cs : List Chunk) (j : ℕ) → IsFound p (suc k) cs j → IsFound p k (d ∷ cs) j
found_later p k d cs j h = (suc h.0, count k h.0 j h.1, h.2, h.3, h.4)
  where
    count : (k i j : ℕ) → suc k + i ≡ j → k + suc i ≡ j
    count k i j e = omega arith

found_by : (p : Chunk → Bool) (k : ℕ) (d : Chunk) (cs : List Chunk) (j : ℕ) (b : Bool) → p d ≡ b → (first_place p (suc k) cs ≡ Some j → IsFound p (suc k) cs j)
    → elim b [ true ↦ Some k | false ↦ first_place p (suc k) cs ] ≡ Some j → IsFound p k (d ∷ cs) j
found_by p k d cs j true e more h = (0, count k j (same_Some k j h), d, refl, e)
  where
    count : (k j : ℕ) → k ≡ j → k + 0 ≡ j
    count k j e = omega arith
found_by p k d cs j false e more h = found_later p k d cs j (more h)

found : (p : Chunk → Bool) (k : ℕ) (cs : List Chunk) (j : ℕ) → first_place p k cs ≡ Some j → IsFound p k cs j
found p k [] j h = absurd (none-some j h)
found p k (d ∷ cs) j h = found_by p k d cs j (p d) refl (found p (suc k) cs j) h

written_cell : (t : Term) (c : Chunk) → is_written_at t c ≡ true → (d : CellAt) × (c ≡ Cell d) × (t ≡ d.at)
written_cell t (Inst i) h = absurd (false≢true h)
written_cell t (Block b) h = absurd (false≢true h)
written_cell t (Cell d) h = (d, refl, (Decides-term_eq t d.at).0 h)

-- the first cell that is written at the address
pub found_cell : (t : Term) (cs : List Chunk) (j : ℕ) → first_place (is_written_at t) 0 cs ≡ Some j → (d : CellAt) × (slice_get cs j ≡ Some (Cell d)) × (t ≡ d.at)
found_cell t cs j h =
    let f = found (is_written_at t) 0 cs j h in
    let w = written_cell t f.2 f.4 in
    (w.0, subst (λ (i : ℕ). slice_get cs i ≡ Some (Cell w.0)) (plus_none f.0 j f.1) (f.3 ∙ ap (λ (c : Chunk). Some c) w.1), w.2)
  where
    plus_none : (i j : ℕ) → 0 + i ≡ j → i ≡ j
    plus_none i j e = omega arith

-- ---- cells taken from chunks

-- the heap without the cells at these addresses
abbrev pub without_at : Store → List ℤ → Store
without_at h zs = record { cells = remove_all h.cells zs; blocks = h.blocks }

module _ (inst : Instances) (s : Assignment) where
  -- the cells are there, and the other chunks hold without them
  pub record CellsOut (ts : List Term) (ds : List Chunk) (h : Store) : Type 0 where
    pub there : has_all h.cells (map (value s) ts) ≡ true
    pub heights : List ℕ
    pub holds : ChunksHold inst s ds (without_at h (map (value s) ts)) heights
    pub cards : CardsAre s ds heights

  one_out : (t : Term) (ts : List Term) (cs ds : List Chunk) (h : Store) (ns : List ℕ) (j : ℕ) → first_place (is_written_at t) 0 cs ≡ Some j
      → ((b : Store) (ms : List ℕ) → ChunksHold inst s (without cs j) b ms → CardsAre s (without cs j) ms → CellsOut ts ds b)
      → ChunksHold inst s cs h ns → CardsAre s cs ns → CellsOut (t ∷ ts) ds h
  one_out t ts cs ds h ns j e more k l =
      let c = found_cell t cs j e in
      let out = place_out inst s cs j (Cell c.0) h c.1 (ns, k, l) in
      let z : ℤ = value s c.0.at in
      let zs : List ℤ = map (value s) ts in
      let rest = more out.rest out.others.0 out.others.1 out.others.2 in
      let single : IsDisjointUnion h.cells (insert empty z (value s c.0.content)) out.rest.cells = subst (λ (m : FinMap int_cmp ℤ). IsDisjointUnion h.cells m out.rest.cells) out.one.1 out.union.0 in
      let here : is_some (get h.cells z) ≡ true =
      let one = some_there (get out.part.cells z) (value s c.0.content) (ap (λ (m : FinMap int_cmp ℤ). get m z) out.one.1 ∙ get_single z (value s c.0.content)) in
      ap is_some (union_left h.cells out.part.cells out.rest.cells out.union.0 z one).1 ∙ one in
      let cells : remove_all out.rest.cells zs ≡ remove (remove_all h.cells zs) z =
      sym (remove_all-remove h.cells z zs ∙ ap (λ (m : FinMap int_cmp ℤ). remove_all m zs) (remove_single h.cells out.rest.cells z (value s c.0.content) single)) in
      let no_block : IsDisjointUnion h.blocks empty out.rest.blocks = subst (λ (m : FinMap int_cmp ℕ). IsDisjointUnion h.blocks m out.rest.blocks) out.one.2 out.union.1 in
      let blocks : out.rest.blocks ≡ h.blocks = sym (union_with_none h.blocks out.rest.blocks no_block) in
      let same : value s t ≡ z = ap (value s) c.2 in
      let all : has_all h.cells (z ∷ zs) ≡ true =
      and_from (is_some (get h.cells z)) (has_all h.cells zs) here (all_in_union h.cells out.rest.cells out.part.cells (map_union_sym h.cells out.part.cells out.rest.cells out.union.0) zs rest.there) in
      record {
        there = subst (λ (y : ℤ). has_all h.cells (y ∷ zs) ≡ true) (sym same) all;
        heights = rest.heights;
        holds =
            subst (λ (y : ℤ). ChunksHold inst s ds (without_at h (y ∷ zs)) rest.heights) (sym same)
            (subst (λ (a : Store). ChunksHold inst s ds a rest.heights) (λ i. record { cells = cells i; blocks = blocks i }) rest.holds);
        cards = rest.cards;
      }

  pub cells_out : (ts : List Term) (cs ds : List Chunk) (h : Store) (ns : List ℕ) → without_cells ts cs ≡ Some ds → ChunksHold inst s cs h ns → CardsAre s cs ns → CellsOut ts ds h
  cells_out [] cs ds h ns e k l =
      let same : cs ≡ ds = same_Some cs ds e in
      record { there = refl; heights = ns; holds = subst (λ (xs : List Chunk). ChunksHold inst s xs h ns) same k; cards = subst (λ (xs : List Chunk). CardsAre s xs ns) same l }
  cells_out (t ∷ ts) cs ds h ns e k l =
      let a = taken_some (first_place (is_written_at t) 0 cs) (λ j. without_cells ts (without cs j)) ds e in
      one_out t ts cs ds h ns a.0 a.1 (λ b ms o c. cells_out ts (without cs a.0) ds b ms a.2 o c) k l

-- ---- the addresses of a block's cells

next_address : (v : ℤ) (j : ℕ) → (v +ℤ pos j) +ℤ pos 1 ≡ v +ℤ pos (suc j)
next_address v j = omega (arith, ints)

address_at : (b o : ℤ) (j : ℕ) → b +ℤ (o +ℤ pos j) ≡ (b +ℤ o) +ℤ pos j
address_at b o j = omega (arith, ints)

addresses_from : (s : Assignment) (t : Term) (j n : ℕ) → map (value s) (cells_from t j n) ≡ addresses (value s t +ℤ pos j) n
addresses_from s t j zero = refl
addresses_from s t j (suc n) =
    (λ i. address_at (base_value s t.base) t.offset j i ∷ addresses_from s t (suc j) n i)
    ∙ ap (λ (z : ℤ). (value s t +ℤ pos j) ∷ addresses z n) (sym (next_address (value s t) j))

pub addresses_of : (s : Assignment) (t : Term) (n : ℕ) → map (value s) (block_cells t n) ≡ addresses (value s t) n
addresses_of s t n = addresses_from s t 0 n ∙ ap (λ (z : ℤ). addresses z n) (plus-zero (value s t))
