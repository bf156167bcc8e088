-- The chunks at several places taken out, and those beside them.
use Rattle.std.proofs.Common.{◌≡◌, refl, sym, ap, ◌∙◌, ℕ, zero, suc, ◌+◌, ◌<◌, ◌==◌, ◌||◌, Bool, true, false, cond, List, [], ◌∷◌, ◌++◌, Some, arith, subst}
use Rattle.std.specs.Prelude.{slice_get}
use Rattle.std.specs.List.{list_any}
use Rattle.std.proofs.lemmas.Bool.{cond-false, eq-eqb, ne_eqb}
use Rattle.std.proofs.lemmas.Option.{none-some, same_Some}
use Rattle.cyp_heap.proofs.Unions.{beside_nothing}
use Rattle.cyp_heap.specs.Instances.{Instances}
use Rattle.cyp_heap.specs.Stores.{IsUnion, Store, no_store}
use Rattle.cyp_heap.specs.declared.chunk.Chunk.{Chunk}
use Rattle.cyp_kernel.proofs.ChunkOrder.{AllHold, FirstOut, first_holds, first_out}
use Rattle.cyp_kernel.proofs.HeapParts.{beside, regrouped, union_sym}
use Rattle.cyp_step.specs.Calling.{chunk_or_none, chunks_at, chunks_beside}
use Rattle.cyp_term.specs.Meaning.{Assignment}

-- the place is one of these
abbrev pub is_taken : List ℕ → ℕ → Bool
is_taken ks i = list_any (λ j. j == i) ks

-- the places differ, and each has a chunk
abbrev pub ArePlaces : List Chunk → List ℕ → Type 0
ArePlaces cs [] = Unit {0}
ArePlaces cs (k ∷ ks) = (is_taken ks k ≡ false) × ((c : Chunk) × (slice_get cs k ≡ Some c)) × ArePlaces cs ks

none_beside : (j : ℕ) (cs : List Chunk) → chunks_beside j [] cs ≡ cs
none_beside j [] = refl
none_beside j (c ∷ cs) = ap (λ ds. c ∷ ds) (none_beside (suc j) cs)

-- a place before the first isn't met
earlier : (k : ℕ) (ks : List ℕ) (j : ℕ) (cs : List Chunk) → k < j → chunks_beside j (k ∷ ks) cs ≡ chunks_beside j ks cs
earlier k ks j [] l = refl
earlier k ks j (c ∷ cs) l =
    ap (λ (b : Bool). cond (b || is_taken ks j) (chunks_beside (suc j) (k ∷ ks) cs) (c ∷ chunks_beside (suc j) (k ∷ ks) cs)) (ne_eqb k j (apart k j l))
    ∙ ap (λ ds. cond (is_taken ks j) ds (c ∷ ds)) (earlier k ks (suc j) cs (later k j l))
  where
    apart : (k j : ℕ) → k < j → k ≡ j → ⊥
    apart k j l e = omega arith

    later : (k j : ℕ) → k < j → k < suc j
    later k j l = omega arith

module _ (inst : Instances) (s : Assignment) where
  -- the chunk at one more place taken out, where the first chunk is at place j
  one_more : (cs : List Chunk) (i j k : ℕ) (ks : List ℕ) (c : Chunk) (h : Store) → k ≡ j + i → slice_get cs i ≡ Some c → is_taken ks k ≡ false
      → AllHold inst s (chunks_beside j ks cs) h → FirstOut inst s c (chunks_beside j (k ∷ ks) cs) h
  one_more [] i j k ks c h p e f a = absurd (none-some c e)
  one_more (d ∷ ds) zero j k ks c h p e f a =
      let here : k ≡ j = place k j p in
      let kept : chunks_beside j ks (d ∷ ds) ≡ d ∷ chunks_beside (suc j) ks ds =
      cond-false (is_taken ks j) (chunks_beside (suc j) ks ds) (d ∷ chunks_beside (suc j) ks ds) (subst (λ (y : ℕ). is_taken ks y ≡ false) here f) in
      let left : chunks_beside j (k ∷ ks) (d ∷ ds) ≡ chunks_beside (suc j) ks ds =
      ap (λ (b : Bool). cond (b || is_taken ks j) (chunks_beside (suc j) (k ∷ ks) ds) (d ∷ chunks_beside (suc j) (k ∷ ks) ds)) (eq-eqb k j here) ∙ earlier k ks (suc j) ds (next k j here) in
      subst (λ (xs : List Chunk). FirstOut inst s c xs h) (sym left)
      (subst (λ (x : Chunk). FirstOut inst s x (chunks_beside (suc j) ks ds) h) (same_Some d c e)
      (first_out inst s d (chunks_beside (suc j) ks ds) h (subst (λ (xs : List Chunk). AllHold inst s xs h) kept a)))
    where
      place : (k j : ℕ) → k ≡ j + 0 → k ≡ j
      place k j p = omega arith

      next : (k j : ℕ) → k ≡ j → k < suc j
      next k j p = omega arith
  one_more (d ∷ ds) (suc i) j k ks c h p e f a =
      let other : (k == j) ≡ false = ne_eqb k j (apart k j i p) in
      let left : chunks_beside j (k ∷ ks) (d ∷ ds) ≡ cond (is_taken ks j) (chunks_beside (suc j) (k ∷ ks) ds) (d ∷ chunks_beside (suc j) (k ∷ ks) ds) =
      ap (λ (b : Bool). cond (b || is_taken ks j) (chunks_beside (suc j) (k ∷ ks) ds) (d ∷ chunks_beside (suc j) (k ∷ ks) ds)) other in
      subst (λ (xs : List Chunk). FirstOut inst s c xs h) (sym left) (by_test (is_taken ks j) d c (chunks_beside (suc j) ks ds) (chunks_beside (suc j) (k ∷ ks) ds) h a (λ g b. one_more ds i (suc j) k ks c g (p ∙ move j i) e f b))
    where
      apart : (k j i : ℕ) → k ≡ j + suc i → k ≡ j → ⊥
      apart k j i p q = omega arith

      move : (j i : ℕ) → j + suc i ≡ suc j + i
      move j i = omega arith

      by_test : (b : Bool) (d c : Chunk) (xs ys : List Chunk) (h : Store) → AllHold inst s (cond b xs (d ∷ xs)) h → ((g : Store) → AllHold inst s xs g → FirstOut inst s c ys g) → FirstOut inst s c (cond b ys (d ∷ ys)) h
      by_test true d c xs ys h a more = more h a
      by_test false d c xs ys h a more =
          let o = first_out inst s d xs h a in
          let g = more o.rest o.others in
          let r = regrouped h o.part o.rest g.part g.rest o.union g.union in
          record { part = g.part; rest = beside o.part g.rest; union = r.0; one = g.one; others = first_holds inst s d ys (beside o.part g.rest) o.part g.rest r.1 o.one g.others }

  -- the chunks at the places have a part of the heap, and the others have the rest
  pub record PairsOut (ks : List ℕ) (cs : List Chunk) (h : Store) : Type 0 where
    pub part : Store
    pub rest : Store
    pub union : IsUnion h part rest
    pub paired : AllHold inst s (chunks_at cs ks) part
    pub others : AllHold inst s (chunks_beside 0 ks cs) rest

  pub pairs_out : (ks : List ℕ) (cs : List Chunk) (h : Store) → ArePlaces cs ks → AllHold inst s cs h → PairsOut ks cs h
  pairs_out [] cs h p a = record {
    part = no_store;
    rest = h;
    union = union_sym h h no_store (beside_nothing h);
    paired = ([], (refl, refl), tt);
    others = subst (λ (xs : List Chunk). AllHold inst s xs h) (sym (none_beside 0 cs)) a;
  }
  pairs_out (k ∷ ks) cs h p a =
      let o = pairs_out ks cs h p.2 a in
      let f = one_more cs k 0 k ks p.1.0 o.rest (same k) p.1.1 p.0 o.others in
      let r = regrouped h o.part o.rest f.rest f.part o.union (union_sym o.rest f.part f.rest f.union) in
      let here : chunks_at cs (k ∷ ks) ≡ p.1.0 ∷ chunks_at cs ks = ap (λ x. chunk_or_none x ++ chunks_at cs ks) p.1.1 in
      record {
        part = beside o.part f.part;
        rest = f.rest;
        union = union_sym h f.rest (beside o.part f.part) r.0;
        paired =
            subst (λ (xs : List Chunk). AllHold inst s xs (beside o.part f.part)) (sym here)
            (first_holds inst s p.1.0 (chunks_at cs ks) (beside o.part f.part) f.part o.part (union_sym (beside o.part f.part) o.part f.part r.1) f.one o.paired);
        others = f.others;
      }
    where
      same : (k : ℕ) → k ≡ 0 + k
      same k = omega arith
