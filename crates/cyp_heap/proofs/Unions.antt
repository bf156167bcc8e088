-- Disjoint unions of maps: what is in a part, and an entry removed.
use Rattle.std.proofs.Common.{◌≡◌, refl, sym, ap, ◌∙◌, ◌⊎◌, inl, inr, Bool, true, false, cond, ℤ, Option, Some, None}
use Rattle.std.specs.Prelude.{is_some}
use Rattle.std.specs.Ordering.{int_cmp, eq_by_cmp, is_eq}
use Rattle.std.specs.Cmp.{int_cmp_total}
use Rattle.std.specs.FinMap.{FinMap, empty, get, insert, remove, get-empty, get-insert, get-remove, int_cmp-IsAntisymmetric}
use Rattle.std.proofs.lemmas.Bool.{false≢true}
use Rattle.std.specs.declared.cmp.Ordering.{Ordering}
use Rattle.std.specs.declared.cmp.Ordering.TheVariants.{Less, Equal, Greater}
use Rattle.cyp_heap.specs.Stores.{IsDisjointUnion, IsUnion, Store, no_store}

pub some_or_none : {A : Type 0} (o : Option A) → o ≡ None → is_some o ≡ true → ⊥
some_or_none None e h = false≢true h
some_or_none (Some x) e h = cc

tie_equal : (o : Ordering) → is_eq o ≡ true → o ≡ Equal
tie_equal Less h = absurd (false≢true h)
tie_equal Equal h = refl
tie_equal Greater h = absurd (false≢true h)

pub tied : (z k : ℤ) → eq_by_cmp int_cmp z k ≡ true → z ≡ k
tied z k h = int_cmp-IsAntisymmetric z k (tie_equal (int_cmp z k) h)

module _ {A : Type 0} where
  get_remove_true : (m : FinMap int_cmp A) (k z : ℤ) → eq_by_cmp int_cmp z k ≡ true → get (remove m k) z ≡ None
  get_remove_true m k z e = get-remove int_cmp_total m k z ∙ ap (λ (t : Bool). cond t None (get m z)) e

  get_remove_false : (m : FinMap int_cmp A) (k z : ℤ) → eq_by_cmp int_cmp z k ≡ false → get (remove m k) z ≡ get m z
  get_remove_false m k z e = get-remove int_cmp_total m k z ∙ ap (λ (t : Bool). cond t None (get m z)) e

  -- what is in the first part is not in the second
  pub union_left : (all a b : FinMap int_cmp A) → IsDisjointUnion all a b → (k : ℤ) → is_some (get a k) ≡ true → (get b k ≡ None) × (get all k ≡ get a k)
  union_left all a b u k h = elim (u k) [ inl p ↦ absurd (some_or_none (get a k) p.0 h) | inr p ↦ p ]

  get_insert_true : (m : FinMap int_cmp A) (k z : ℤ) (v : A) → eq_by_cmp int_cmp z k ≡ true → get (insert m k v) z ≡ Some v
  get_insert_true m k z v e = get-insert int_cmp_total m k v z ∙ ap (λ (t : Bool). cond t (Some v) (get m z)) e

  get_insert_false : (m : FinMap int_cmp A) (k z : ℤ) (v : A) → eq_by_cmp int_cmp z k ≡ false → get (insert m k v) z ≡ get m z
  get_insert_false m k z v e = get-insert int_cmp_total m k v z ∙ ap (λ (t : Bool). cond t (Some v) (get m z)) e

  kept_at : (all a b new_all new_a : FinMap int_cmp A) (z : ℤ) → get new_all z ≡ get all z → get new_a z ≡ get a z
      → ((get a z ≡ None) × (get all z ≡ get b z)) ⊎ ((get b z ≡ None) × (get all z ≡ get a z))
      → ((get new_a z ≡ None) × (get new_all z ≡ get b z)) ⊎ ((get b z ≡ None) × (get new_all z ≡ get new_a z))
  kept_at all a b new_all new_a z p q (inl h) = inl (q ∙ h.0, p ∙ h.1)
  kept_at all a b new_all new_a z p q (inr h) = inr (h.0, p ∙ h.1 ∙ sym q)

  remove_at : (all a b : FinMap int_cmp A) → IsDisjointUnion all a b → (k : ℤ) → get b k ≡ None → (z : ℤ) (t : Bool) → eq_by_cmp int_cmp z k ≡ t
      → ((get (remove a k) z ≡ None) × (get (remove all k) z ≡ get b z)) ⊎ ((get b z ≡ None) × (get (remove all k) z ≡ get (remove a k) z))
  remove_at all a b u k free z true e = inr (ap (get b) (tied z k e) ∙ free, get_remove_true all k z e ∙ sym (get_remove_true a k z e))
  remove_at all a b u k free z false e = kept_at all a b (remove all k) (remove a k) z (get_remove_false all k z e) (get_remove_false a k z e) (u z)

  -- without an entry that the second part doesn't have
  pub union_remove : (all a b : FinMap int_cmp A) → IsDisjointUnion all a b → (k : ℤ) → get b k ≡ None → IsDisjointUnion (remove all k) (remove a k) b
  union_remove all a b u k free z = remove_at all a b u k free z (eq_by_cmp int_cmp z k) refl

  insert_at : (all a b : FinMap int_cmp A) → IsDisjointUnion all a b → (k : ℤ) (v : A) → get b k ≡ None → (z : ℤ) (t : Bool) → eq_by_cmp int_cmp z k ≡ t
      → ((get (insert a k v) z ≡ None) × (get (insert all k v) z ≡ get b z)) ⊎ ((get b z ≡ None) × (get (insert all k v) z ≡ get (insert a k v) z))
  insert_at all a b u k v free z true e = inr (ap (get b) (tied z k e) ∙ free, get_insert_true all k z v e ∙ sym (get_insert_true a k z v e))
  insert_at all a b u k v free z false e = kept_at all a b (insert all k v) (insert a k v) z (get_insert_false all k z v e) (get_insert_false a k z v e) (u z)

  -- with an entry that the second part doesn't have
  pub union_insert : (all a b : FinMap int_cmp A) → IsDisjointUnion all a b → (k : ℤ) (v : A) → get b k ≡ None → IsDisjointUnion (insert all k v) (insert a k v) b
  union_insert all a b u k v free z = insert_at all a b u k v free z (eq_by_cmp int_cmp z k) refl

  -- nothing beside a map
  pub empty_beside : (m : FinMap int_cmp A) → IsDisjointUnion m empty m
  empty_beside m z = inl (get-empty int_cmp z, refl)

  pub beside_empty : (m : FinMap int_cmp A) → IsDisjointUnion m m empty
  beside_empty m z = inr (get-empty int_cmp z, refl)

  -- one entry beside a map that doesn't have it
  pub one_beside : (m : FinMap int_cmp A) (k : ℤ) (v : A) → get m k ≡ None → IsDisjointUnion (insert m k v) (insert empty k v) m
  one_beside m k v free = union_insert m empty m (empty_beside m) k v free

-- nothing beside a heap
pub nothing_beside : (h : Store) → IsUnion h no_store h
nothing_beside h = (empty_beside h.cells, empty_beside h.blocks)

pub beside_nothing : (h : Store) → IsUnion h h no_store
beside_nothing h = (beside_empty h.cells, beside_empty h.blocks)
