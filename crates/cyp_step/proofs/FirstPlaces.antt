-- Whether the first chunk that passes a test is at a place.
use Rattle.std.proofs.Common.{◌≡◌, ◌∙◌, ◌&&◌, ◌||◌, ◌==◌, ◌+◌, ◌<◌, ◌≤◌, ℕ, zero, suc, [], ◌∷◌, Bool, List, Option, Some, arith, ap, false, inl, inr, length, get_or, not, refl, sym, take, true}
use Rattle.std.specs.List.{list_any}
use Rattle.std.proofs.lemmas.Bool.Decides.{Decides-eqb, eqb_tells}
use Rattle.cyp_heap.specs.declared.chunk.Chunk.{Chunk}
use Rattle.cyp_step.specs.FlatRules.{first_place, is_place}

other : (i k : ℕ) → (i ≡ k → ⊥) → (i == k) ≡ false
other i k differ = elim (eqb_tells i k) [ inl h ↦ absurd (differ h.1) | inr h ↦ h.0 ]

and_false : (b : Bool) → (b && false) ≡ false
and_false true = refl
and_false false = refl

module _ (p : Chunk → Bool) where
  abbrev from : Bool → ℕ → List Chunk → Option ℕ
  from b k cs = elim b [ true ↦ Some k | false ↦ first_place p (suc k) cs ]

  past : (k i : ℕ) (cs : List Chunk) → i < k → is_place i (first_place p k cs) ≡ false
  past k i [] lt = refl
  past k i (c ∷ cs) lt = by_test (p c) (past (suc k) i cs (omega (arith, lt)))
    where
      by_test : (b : Bool) → is_place i (first_place p (suc k) cs) ≡ false → is_place i (from b k cs) ≡ false
      by_test true h = other i k (λ e. omega (arith, e, lt))
      by_test false h = h

  no_chunk : (j i : ℕ) (cs : List Chunk) → length cs ≤ i → is_place (j + i) (first_place p j cs) ≡ false
  no_chunk j i [] le = refl
  no_chunk j zero (c ∷ cs) le = absurd (omega (arith, le))
  no_chunk j (suc i) (c ∷ cs) le = by_test (p c) (ap (λ n. is_place n (first_place p (suc j) cs)) (omega arith) ∙ no_chunk (suc j) i cs (omega (arith, le)))
    where
      by_test : (b : Bool) → is_place (j + suc i) (first_place p (suc j) cs) ≡ false → is_place (j + suc i) (from b j cs) ≡ false
      by_test true h = other (j + suc i) j (λ e. omega (arith, e))
      by_test false h = h

  chunk_there : (j i : ℕ) (cs : List Chunk) (d : Chunk) → i < length cs → is_place (j + i) (first_place p j cs) ≡ (p (get_or cs i d) && not (list_any p (take i cs)))
  chunk_there j i [] d lt = absurd (omega (arith, lt))
  chunk_there j zero (c ∷ cs) d lt = by_test (p c)
    where
      by_test : (b : Bool) → is_place (j + 0) (from b j cs) ≡ (b && true)
      by_test true = (Decides-eqb (j + 0) j).1 (omega arith)
      by_test false = past (suc j) (j + 0) cs (omega arith)
  chunk_there j (suc i) (c ∷ cs) d lt = by_test (p c) (ap (λ n. is_place n (first_place p (suc j) cs)) (omega arith) ∙ chunk_there (suc j) i cs d (omega (arith, lt)))
    where
      by_test : (b : Bool) → is_place (j + suc i) (first_place p (suc j) cs) ≡ (p (get_or cs i d) && not (list_any p (take i cs))) → is_place (j + suc i) (from b j cs) ≡ (p (get_or cs i d) && not (b || list_any p (take i cs)))
      by_test true h = other (j + suc i) j (λ e. omega (arith, e)) ∙ sym (and_false (p (get_or cs i d)))
      by_test false h = h

  -- there is no chunk at the place
  pub none_there : (i : ℕ) (cs : List Chunk) → length cs ≤ i → is_place i (first_place p 0 cs) ≡ false
  none_there i cs le = ap (λ n. is_place n (first_place p 0 cs)) (omega arith) ∙ no_chunk 0 i cs le

  -- the chunk at the place doesn't pass
  pub other_there : (i : ℕ) (cs : List Chunk) (c : Chunk) → i < length cs → c ≡ get_or cs i c → p c ≡ false → is_place i (first_place p 0 cs) ≡ false
  other_there i cs c lt is e = ap (λ n. is_place n (first_place p 0 cs)) (omega arith) ∙ chunk_there 0 i cs c lt ∙ ap (λ b. b && not (list_any p (take i cs))) (ap p (sym is) ∙ e)

  -- it passes
  pub first_there : (i : ℕ) (cs : List Chunk) (c : Chunk) → i < length cs → c ≡ get_or cs i c → p c ≡ true → is_place i (first_place p 0 cs) ≡ not (list_any p (take i cs))
  first_there i cs c lt is e = ap (λ n. is_place n (first_place p 0 cs)) (omega arith) ∙ chunk_there 0 i cs c lt ∙ ap (λ b. b && not (list_any p (take i cs))) (ap p (sym is) ∙ e)
