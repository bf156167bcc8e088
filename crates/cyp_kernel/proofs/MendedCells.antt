-- The contents that stores before a call leave.
use Rattle.std.proofs.Common.{◌≡◌, refl, sym, ap, ◌∙◌, ℕ, zero, suc, ◌+◌, ◌==◌, ◌⊎◌, inl, inr, Bool, true, false, cond, List, [], ◌∷◌, Option, Some, None, nat_lt, arith, subst}
use Rattle.std.specs.Prelude.{slice_get}
use Rattle.std.proofs.lemmas.Bool.{cond-true, cond_both, eqb-true, eq-eqb, both_ways}
use Rattle.std.proofs.lemmas.Option.{none-some}
use Rattle.cyp_heap.specs.declared.chunk.CellAt.{CellAt}
use Rattle.cyp_heap.specs.declared.chunk.Chunk.{Chunk}
use Rattle.cyp_heap.specs.declared.chunk.Chunk.TheVariants.{Block, Cell, Inst}
use Rattle.cyp_kernel.proofs.PairsOut.{ArePlaces, is_taken}
use Rattle.cyp_kernel.proofs.StoreRuns.{mended, put_content}
use Rattle.cyp_kernel.specs.Statements.{by_cell, in_cell_order}
use Rattle.cyp_step.specs.Calling.{chunks_beside}
use Rattle.cyp_step.specs.Mends.{address_of}
use Rattle.cyp_term.proofs.Lists.{Among}
use Rattle.cyp_term.specs.declared.term.Term.{Term}
use Rattle.cyp_unify.specs.declared.found.Mend.{Mend}

-- ---- one store

cell_of : Chunk → Term → Option Term → Chunk
cell_of d x None = d
cell_of d x (Some a) = Cell (record { at = a; content = x })

put_here : (cs : List Chunk) (k : ℕ) (c : CellAt) (x : Term) → slice_get cs k ≡ Some (Cell c) → slice_get (put_content cs k x) k ≡ Some (Cell (record { at = c.at; content = x }))
unfolding cell_of
put_here [] k c x e = absurd (none-some (Cell c) e)
put_here (Cell d ∷ cs) zero c x e = ap (λ (o : Option Term). Some (cell_of (Cell d) x o)) (ap address_of e)
put_here (Inst j ∷ cs) zero c x e = cc
put_here (Block b ∷ cs) zero c x e = cc
put_here (d ∷ cs) (suc k) c x e = put_here cs k c x e

put_elsewhere : (cs : List Chunk) (i k : ℕ) (x : Term) → (i ≡ k → ⊥) → slice_get (put_content cs i x) k ≡ slice_get cs k
put_elsewhere [] i k x f = refl
put_elsewhere (d ∷ cs) zero zero x f = absurd (f refl)
put_elsewhere (Cell d ∷ cs) zero (suc k) x f = refl
put_elsewhere (Inst j ∷ cs) zero (suc k) x f = refl
put_elsewhere (Block b ∷ cs) zero (suc k) x f = refl
put_elsewhere (d ∷ cs) (suc i) zero x f = refl
put_elsewhere (d ∷ cs) (suc i) (suc k) x f = put_elsewhere cs i k x (λ e. f (ap suc e))

put_other : (cs : List Chunk) (i k : ℕ) (x : Term) (d : Chunk) → address_of (Some d) ≡ None → slice_get cs k ≡ Some d → slice_get (put_content cs i x) k ≡ Some d
put_other [] i k x d n e = absurd (none-some d e)
put_other (Cell c ∷ cs) zero zero x d n e = absurd (none-some c.at (sym (ap address_of e ∙ n)))
put_other (Inst j ∷ cs) zero zero x d n e = e
put_other (Block b ∷ cs) zero zero x d n e = e
put_other (Cell c ∷ cs) zero (suc k) x d n e = e
put_other (Inst j ∷ cs) zero (suc k) x d n e = e
put_other (Block b ∷ cs) zero (suc k) x d n e = e
put_other (c ∷ cs) (suc i) zero x d n e = e
put_other (c ∷ cs) (suc i) (suc k) x d n e = put_other cs i k x d n e

put_beside : (ks : List ℕ) (cs : List Chunk) (j i k : ℕ) (x : Term) → k ≡ j + i → is_taken ks k ≡ true → chunks_beside j ks (put_content cs i x) ≡ chunks_beside j ks cs
put_beside ks [] j i k x p t = refl
put_beside ks (Cell c ∷ cs) j zero k x p t =
    let here : is_taken ks j ≡ true = subst (λ (y : ℕ). is_taken ks y ≡ true) (place k j p) t in
    cond-true (is_taken ks j) (chunks_beside (suc j) ks cs) (Cell (record { at = c.at; content = x }) ∷ chunks_beside (suc j) ks cs) here
    ∙ sym (cond-true (is_taken ks j) (chunks_beside (suc j) ks cs) (Cell c ∷ chunks_beside (suc j) ks cs) here)
  where
    place : (k j : ℕ) → k ≡ j + 0 → k ≡ j
    place k j p = omega arith
put_beside ks (Inst d ∷ cs) j zero k x p t = refl
put_beside ks (Block b ∷ cs) j zero k x p t = refl
put_beside ks (d ∷ cs) j (suc i) k x p t = ap (λ ds. cond (is_taken ks j) ds (d ∷ ds)) (put_beside ks cs (suc j) i k x (p ∙ move j i) t)
  where
    move : (j i : ℕ) → j + suc i ≡ suc j + i
    move j i = omega arith

-- ---- stores in order

-- the cell's content is as it was, where there is no store into it, or the value of a store into it
pub record ContentAfter (ms : List Mend) (cs : List Chunk) (k : ℕ) (c : CellAt) : Type 0 where
  pub content : Term
  pub there : slice_get (mended cs ms) k ≡ Some (Cell (record { at = c.at; content = content }))
  pub from : ((content ≡ c.content) × ((m : Mend) → Among m ms → m.cell ≡ k → ⊥)) ⊎ ((m : Mend) × Among m ms × (m.cell ≡ k) × (content ≡ m.value))

after_more : (b : Bool) (m : Mend) (ms : List Mend) (cs : List Chunk) (k : ℕ) (c : CellAt) → (m.cell == k) ≡ b → slice_get cs k ≡ Some (Cell c)
    → ((ds : List Chunk) (d : CellAt) → slice_get ds k ≡ Some (Cell d) → ContentAfter ms ds k d) → ContentAfter (m ∷ ms) cs k c
after_more true m ms cs k c q e more =
    let here : m.cell ≡ k = eqb-true m.cell k q in
    let o = more (put_content cs m.cell m.value) (record { at = c.at; content = m.value })
    (subst (λ (i : ℕ). slice_get (put_content cs i m.value) k ≡ Some (Cell (record { at = c.at; content = m.value }))) (sym here) (put_here cs k c m.value e)) in
    record {
      content = o.content;
      there = o.there;
      from = elim o.from [ inl x ↦ inr (m, inl refl, here, x.0) | inr x ↦ inr (x.0, inr x.1, x.2, x.3) ];
    }
after_more false m ms cs k c q e more =
    let apart : m.cell ≡ k → ⊥ = λ p. both_ways (m.cell == k) q (eq-eqb m.cell k p) in
    let o = more (put_content cs m.cell m.value) c (put_elsewhere cs m.cell k m.value apart ∙ e) in
    record {
      content = o.content;
      there = o.there;
      from = elim o.from [
        | inl x ↦ inl (x.0, λ n a p. not_there n a p x.1 apart)
        | inr x ↦ inr (x.0, inr x.1, x.2, x.3)
      ];
    }
  where
    not_there : (n : Mend) → Among n (m ∷ ms) → n.cell ≡ k → ((n : Mend) → Among n ms → n.cell ≡ k → ⊥) → (m.cell ≡ k → ⊥) → ⊥
    not_there n (inl r) p none apart = apart (ap (λ (y : Mend). y.cell) (sym r) ∙ p)
    not_there n (inr a) p none apart = none n a p

pub content_after : (ms : List Mend) (cs : List Chunk) (k : ℕ) (c : CellAt) → slice_get cs k ≡ Some (Cell c) → ContentAfter ms cs k c
content_after [] cs k c e = record { content = c.content; there = e; from = inl (refl, λ m a p. a) }
content_after (m ∷ ms) cs k c e = after_more (m.cell == k) m ms cs k c refl e (λ ds d p. content_after ms ds k d p)

-- what is no cell stays as it is
pub other_after : (ms : List Mend) (cs : List Chunk) (k : ℕ) (d : Chunk) → address_of (Some d) ≡ None → slice_get cs k ≡ Some d → slice_get (mended cs ms) k ≡ Some d
other_after [] cs k d n e = e
other_after (m ∷ ms) cs k d n e = other_after ms (put_content cs m.cell m.value) k d n (put_other cs m.cell k m.value d n e)

-- where all stores are at these places, the chunks beside them stay as they are
pub beside_after : (ks : List ℕ) (ms : List Mend) (cs : List Chunk) → ((m : Mend) → Among m ms → is_taken ks m.cell ≡ true) → chunks_beside 0 ks (mended cs ms) ≡ chunks_beside 0 ks cs
beside_after ks [] cs f = refl
beside_after ks (m ∷ ms) cs f =
    beside_after ks ms (put_content cs m.cell m.value) (λ n a. f n (inr a)) ∙ put_beside ks cs 0 m.cell m.cell m.value (same m.cell) (f m (inl refl))
  where
    same : (k : ℕ) → k ≡ 0 + k
    same k = omega arith

chunk_after : (ms : List Mend) (cs : List Chunk) (k : ℕ) (d : Chunk) → slice_get cs k ≡ Some d → (e : Chunk) × (slice_get (mended cs ms) k ≡ Some e)
chunk_after ms cs k (Cell c) e = let o = content_after ms cs k c e in (Cell (record { at = c.at; content = o.content }), o.there)
chunk_after ms cs k (Inst i) e = (Inst i, other_after ms cs k (Inst i) refl e)
chunk_after ms cs k (Block b) e = (Block b, other_after ms cs k (Block b) refl e)

pub places_after : (ms : List Mend) (cs : List Chunk) (ks : List ℕ) → ArePlaces cs ks → ArePlaces (mended cs ms) ks
places_after ms cs [] a = tt
places_after ms cs (k ∷ ks) a = (a.0, chunk_after ms cs k a.1.0 a.1.1, places_after ms cs ks a.2)

-- ---- the order of stores

in_later : (m n k : Mend) (ks rest : List Mend) → (Among m (n ∷ ks) → Among m rest) → Among m (n ∷ k ∷ ks) → Among m (k ∷ rest)
in_later m n k ks rest more (inl r) = inr (more (inl r))
in_later m n k ks rest more (inr (inl r)) = inl r
in_later m n k ks rest more (inr (inr b)) = inr (more (inr b))

by_cell_in : (m n : Mend) (ks : List Mend) → Among m (n ∷ ks) → Among m (by_cell n ks)
by_cell_in m n [] a = a
by_cell_in m n (k ∷ ks) a =
    cond_both (nat_lt n.cell k.cell) (n ∷ k ∷ ks) (k ∷ by_cell n ks) (λ (xs : List Mend). Among m xs) (λ e. a) (λ e. in_later m n k ks (by_cell n ks) (by_cell_in m n ks) a)

one_between : (m n k : Mend) (ks : List Mend) → Among m (n ∷ ks) → Among m (n ∷ k ∷ ks)
one_between m n k ks (inl r) = inl r
one_between m n k ks (inr b) = inr (inr b)

out_later : (m n k : Mend) (ks rest : List Mend) → (Among m rest → Among m (n ∷ ks)) → Among m (k ∷ rest) → Among m (n ∷ k ∷ ks)
out_later m n k ks rest more (inl r) = inr (inl r)
out_later m n k ks rest more (inr b) = one_between m n k ks (more b)

by_cell_out : (m n : Mend) (ks : List Mend) → Among m (by_cell n ks) → Among m (n ∷ ks)
by_cell_out m n [] a = a
by_cell_out m n (k ∷ ks) a =
    cond_both (nat_lt n.cell k.cell) (n ∷ k ∷ ks) (k ∷ by_cell n ks) (λ (xs : List Mend). Among m xs → Among m (n ∷ k ∷ ks)) (λ e b. b)
    (λ e b. out_later m n k ks (by_cell n ks) (by_cell_out m n ks) b) a

pub ordered_in : (m : Mend) (ms : List Mend) → Among m ms → Among m (in_cell_order ms)
ordered_in m [] a = a
ordered_in m (n ∷ ms) (inl r) = by_cell_in m n (in_cell_order ms) (inl r)
ordered_in m (n ∷ ms) (inr a) = by_cell_in m n (in_cell_order ms) (inr (ordered_in m ms a))

with_rest : (m n : Mend) (ms rest : List Mend) → (Among m rest → Among m ms) → Among m (n ∷ rest) → Among m (n ∷ ms)
with_rest m n ms rest more (inl r) = inl r
with_rest m n ms rest more (inr b) = inr (more b)

pub ordered_out : (m : Mend) (ms : List Mend) → Among m (in_cell_order ms) → Among m ms
ordered_out m [] a = a
ordered_out m (n ∷ ms) a = with_rest m n ms (in_cell_order ms) (ordered_out m ms) (by_cell_out m n (in_cell_order ms) a)
