-- Unions of heaps at several addresses.
use Rattle.std.proofs.Common.{[], Bool, List, None, ap, inl, inr, is_none, is_some, length, pos, refl, sym, true, ℤ, ◌+ℤ◌, ◌∙◌, ◌∷◌, ◌≡◌}
use Rattle.std.proofs.lemmas.Bool.{and_from, and_parts}
use Rattle.std.specs.FinMap.{FinMap, get}
use Rattle.std.specs.List.{list_all}
use Rattle.std.specs.Ordering.{int_cmp}
use Rattle.cyp_heap.proofs.Unions.{union_insert, union_left, union_remove}
use Rattle.cyp_heap.specs.Stores.{IsDisjointUnion}
use Rattle.cyp_machine.proofs.Options.{none_of}
use Rattle.cyp_machine.specs.Steps.{addresses, has_all, has_none, insert_all, remove_all}

each : (p q : ℤ → Bool) → ((z : ℤ) → p z ≡ true → q z ≡ true) → (zs : List ℤ) → list_all p zs ≡ true → list_all q zs ≡ true
each p q f [] h = refl
each p q f (z ∷ zs) h = let parts = and_parts (p z) (list_all p zs) h in and_from (q z) (list_all q zs) (f z parts.0) (each p q f zs parts.1)

-- what the union doesn't have is in neither part
pub union_none : {A : Type 0} (all a b : FinMap int_cmp A) → IsDisjointUnion all a b → (k : ℤ) → get all k ≡ None → (get a k ≡ None) × (get b k ≡ None)
union_none all a b u k h = elim (u k) [ inl p ↦ (p.0, sym p.1 ∙ h) | inr p ↦ (sym p.1 ∙ h, p.0) ]

module _ (all a b : FinMap int_cmp ℤ) (u : IsDisjointUnion all a b) where
  pub none_in_first : (zs : List ℤ) → has_none all zs ≡ true → has_none a zs ≡ true
  none_in_first zs h =
      each (λ z. is_none (get all z)) (λ z. is_none (get a z)) (λ z e. ap is_none (union_none all a b u z (none_of (get all z) e)).0) zs h

  pub none_in_second : (zs : List ℤ) → has_none all zs ≡ true → has_none b zs ≡ true
  none_in_second zs h =
      each (λ z. is_none (get all z)) (λ z. is_none (get b z)) (λ z e. ap is_none (union_none all a b u z (none_of (get all z) e)).1) zs h

  -- what the first part has is in the union, and not in the second part
  pub all_in_union : (zs : List ℤ) → has_all a zs ≡ true → has_all all zs ≡ true
  all_in_union zs h =
      each (λ z. is_some (get a z)) (λ z. is_some (get all z)) (λ z e. ap is_some (union_left all a b u z e).1 ∙ e) zs h

  pub none_beside : (zs : List ℤ) → has_all a zs ≡ true → has_none b zs ≡ true
  none_beside zs h =
      each (λ z. is_some (get a z)) (λ z. is_none (get b z)) (λ z e. ap is_none (union_left all a b u z e).0) zs h

  -- cells that the second part doesn't have
  pub union_insert_all : (at : ℤ) (zs : List ℤ) → has_none b (addresses at (length zs)) ≡ true → IsDisjointUnion (insert_all all at zs) (insert_all a at zs) b
  union_insert_all at [] h = u
  union_insert_all at (z ∷ zs) h =
      let parts = and_parts (is_none (get b at)) (has_none b (addresses (at +ℤ pos 1) (length zs))) h in
      union_insert (insert_all all (at +ℤ pos 1) zs) (insert_all a (at +ℤ pos 1) zs) b
      (union_insert_all (at +ℤ pos 1) zs parts.1) at z (none_of (get b at) parts.0)

  pub union_remove_all : (zs : List ℤ) → has_none b zs ≡ true → IsDisjointUnion (remove_all all zs) (remove_all a zs) b
  union_remove_all [] h = u
  union_remove_all (z ∷ zs) h =
      let parts = and_parts (is_none (get b z)) (has_none b zs) h in
      union_remove (remove_all all zs) (remove_all a zs) b (union_remove_all zs parts.1) z (none_of (get b z) parts.0)
