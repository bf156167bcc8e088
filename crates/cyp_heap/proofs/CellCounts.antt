-- How many cells there are in a union of heaps, in a cell and in a block.
use Rattle.std.proofs.Common.{◌≡◌, refl, sym, ap, ◌∙◌, ◌⊎◌, inl, inr, ℕ, zero, suc, ◌+◌, ◌-◌, Bool, true, cond, ◌||◌, List, [], ◌∷◌, map, length, ℤ, Option, None, arith}
use Rattle.std.specs.Prelude.{is_some}
use Rattle.std.specs.List.{list_any}
use Rattle.std.specs.Ordering.{int_cmp, eq_by_cmp}
use Rattle.std.specs.Cmp.{int_cmp_total}
use Rattle.std.specs.FinMap.{FinMap, empty, entries, get, len, remove, get-empty, len-empty, len-entries, len-insert, len-remove, empty_of_len, contains_key-keys, same_map, int_cmp-IsAntisymmetric}
use Rattle.std.proofs.lemmas.Cmp.{eq_by_cmp_equiv}
use Rattle.cyp_heap.specs.Stores.{IsCell, IsDisjointUnion, IsUnion, Store, cell_count, no_store}
use Rattle.cyp_heap.proofs.Unions.{some_or_none, union_left, union_remove}

one_less : (n r : ℕ) → (n ≡ 0 → ⊥) → r ≡ n - 1 → suc r ≡ n
one_less zero r h e = absurd (h refl)
one_less (suc n) r h e = omega arith

joined_len : (k x y z w : ℕ) → suc x ≡ y → suc z ≡ suc k → (z ≡ k → x ≡ k + w) → y ≡ suc k + w
joined_len k x y z w e f g = let i : x ≡ k + w = g (omega arith) in omega arith

module _ {A : Type 0} where
  -- ---- a map with a key

  not_empty : (m : FinMap int_cmp A) (k : ℤ) → is_some (get m k) ≡ true → len m ≡ 0 → ⊥
  not_empty m k h e = some_or_none (get m k) (ap (λ (x : FinMap int_cmp A). get x k) (empty_of_len m e) ∙ get-empty int_cmp k) h

  -- an entry removed is one entry less
  removed_len : (m : FinMap int_cmp A) (k : ℤ) → is_some (get m k) ≡ true → suc (len (remove m k)) ≡ len m
  removed_len m k h =
      one_less (len m) (len (remove m k)) (not_empty m k h) (len-remove int_cmp_total m k ∙ ap (λ (b : Bool). cond b (len m - 1) (len m)) h)

  key_of : (m : FinMap int_cmp A) (es : List (ℤ × A)) (k : ℕ) → entries m ≡ es → len m ≡ suc k → (q : ℤ) × (is_some (get m q) ≡ true)
  key_of m [] k e n = absurd (let z : len m ≡ 0 = len-entries m ∙ ap length e in omega arith)
  key_of m (x ∷ es) k e n = (
    x.0,
    contains_key-keys m x.0 ∙ ap (λ (ys : List (ℤ × A)). list_any (eq_by_cmp int_cmp x.0) (map (λ y. y.0) ys)) e
        ∙ ap (λ (b : Bool). b || list_any (eq_by_cmp int_cmp x.0) (map (λ y. y.0) es)) ((eq_by_cmp_equiv int_cmp_total).refl x.0),
  )

  -- ---- a union

  second_at : (all a b : FinMap int_cmp A) (q : ℤ) → get a q ≡ None → ((get a q ≡ None) × (get all q ≡ get b q)) ⊎ ((get b q ≡ None) × (get all q ≡ get a q)) → get all q ≡ get b q
  second_at all a b q e (inl h) = h.1
  second_at all a b q e (inr h) = h.1 ∙ e ∙ sym h.0

  -- what is the union of an empty map and another is the other
  union_empty : (all a b : FinMap int_cmp A) → a ≡ empty → IsDisjointUnion all a b → all ≡ b
  union_empty all a b e u =
      same_map int_cmp_total int_cmp-IsAntisymmetric all b
      (λ q. second_at all a b q (ap (λ (x : FinMap int_cmp A). get x q) e ∙ get-empty int_cmp q) (u q))

  union_len : (k : ℕ) (all a b : FinMap int_cmp A) → len a ≡ k → IsDisjointUnion all a b → len all ≡ k + len b
  union_len zero all a b e u = let p : len all ≡ len b = ap len (union_empty all a b (empty_of_len a e) u) in omega arith
  union_len (suc k) all a b e u =
      let key : (q : ℤ) × (is_some (get a q) ≡ true) = key_of a (entries a) k refl e in
      let at = union_left all a b u key.0 key.1 in
      joined_len k (len (remove all key.0)) (len all) (len (remove a key.0)) (len b)
      (removed_len all key.0 (ap is_some at.1 ∙ key.1))
      (removed_len a key.0 key.1 ∙ e)
      (λ f. union_len k (remove all key.0) (remove a key.0) b f (union_remove all a b u key.0 at.0))

-- a union has the cells of both parts
pub union_count : (h a b : Store) → IsUnion h a b → cell_count h ≡ cell_count a + cell_count b
union_count h a b u = union_len (len a.cells) h.cells a.cells b.cells refl u.0

pub none_count : (h : Store) → h ≡ no_store → cell_count h ≡ 0
none_count h e = ap cell_count e ∙ len-empty int_cmp ℤ

-- one cell is one
pub cell_one : (h : Store) (at v : ℤ) → IsCell h at v → cell_count h ≡ 1
cell_one h at v c =
    ap len c.1 ∙ len-insert int_cmp_total empty at v ∙ ap (λ (o : Option ℤ). cond (is_some o) (len (empty {X = ℤ} {R = int_cmp})) (len (empty {X = ℤ} {R = int_cmp}) + 1)) (get-empty int_cmp at)
    ∙ ap (λ (n : ℕ). n + 1) (len-empty int_cmp ℤ)
