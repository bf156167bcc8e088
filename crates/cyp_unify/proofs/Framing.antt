-- How the loops over chunks and arguments find what a focus is framed with.
use Rattle.std.proofs.Common.{◌≡◌, ◌∙◌, ◌+◌, ◌<◌, ◌++◌, ℕ, suc, Bool, true, false, cond, List, [], ◌∷◌, Option, Some, None, length, get_or, drop, map, min, refl, ap, sym, inl, inr, arith, append_assoc, append-nil, add-one}
use Rattle.std.specs.List.{filter, slice_get}
use Rattle.std.proofs.lemmas.Bool.{cases_lt}
use Rattle.std.proofs.lemmas.List.{at_drop_all, at_drop_more}
use Rattle.cyp_heap.specs.declared.chunk.Arg.{Arg}
use Rattle.cyp_heap.specs.declared.chunk.Chunk.{Chunk}
use Rattle.cyp_heap.specs.declared.goal.Goal.{Goal}
use Rattle.cyp_term.specs.declared.lit.Lit.{Lit}
use Rattle.cyp_unify.specs.Frames.{alike, arg_equalities, frame_lits, frame_pairs, with_places}
use Rattle.cyp_unify.specs.declared.found.Pair.{Pair}

-- ---- two lists of arguments, one of which has ended

no_more_right : (xs : List Arg) → arg_equalities xs [] ≡ []
no_more_right [] = refl
no_more_right (x ∷ xs) = refl

pub equalities_end : (xs ys : List Arg) (k : ℕ) → k ≡ min (length xs) (length ys) → arg_equalities (drop k xs) (drop k ys) ≡ []
equalities_end xs ys k e = elim (cases_lt (length xs) (length ys)) [
  | inl lt ↦ at_drop_all (λ zs. arg_equalities zs (drop k ys)) xs k (omega arith)
  | inr le ↦ at_drop_all (arg_equalities (drop k xs)) ys k (omega arith) ∙ no_more_right (drop k xs)
]

-- ---- the pairs of a focus with the chunks from a place on

abbrev pub pairs_from : Chunk → ℕ → List Chunk → List Pair
pairs_from f k cs = map (λ (p : ℕ × Chunk). record { pre = p.0; lits = frame_lits f p.1 }) (filter (λ (p : ℕ × Chunk). alike f p.1) (with_places k cs))

kept_first : {A B : Type 0} (g : A → B) (b : Bool) (x : A) (xs : List A) → map g (cond b (x ∷ xs) xs) ≡ cond b (g x ∷ []) [] ++ map g xs
kept_first g true x xs = refl
kept_first g false x xs = refl

first_pair : (f c : Chunk) (k : ℕ) (cs : List Chunk) → pairs_from f k (c ∷ cs) ≡ cond (alike f c) (record { pre = k; lits = frame_lits f c } ∷ []) [] ++ pairs_from f (k + 1) cs
first_pair f c k cs =
    kept_first (λ (p : ℕ × Chunk). record { pre = p.0; lits = frame_lits f p.1 }) (alike f c) (k, c) (filter (λ (p : ℕ × Chunk). alike f p.1) (with_places (suc k) cs))
    ∙ ap (λ j. cond (alike f c) (record { pre = k; lits = frame_lits f c } ∷ []) [] ++ pairs_from f j cs) (sym (add-one k))

module _ (f : Chunk) (cs : List Chunk) (k : ℕ) (c : Chunk) (made whole : List Pair) (h : made ++ pairs_from f k (drop k cs) ≡ whole) (lt : k < length cs) (is : c ≡ get_or cs k c) where
  -- the chunk's pair, if there is one, comes next
  turned : made ++ cond (alike f c) (record { pre = k; lits = frame_lits f c } ∷ []) [] ++ pairs_from f (k + 1) (drop (k + 1) cs) ≡ whole
  turned =
      append_assoc made (cond (alike f c) (record { pre = k; lits = frame_lits f c } ∷ []) []) (pairs_from f (k + 1) (drop (k + 1) cs))
      ∙ ap (λ zs. made ++ zs) (sym (first_pair f c k (drop (k + 1) cs)) ∙ ap (λ x. pairs_from f k (x ∷ drop (k + 1) cs)) is ∙ sym (at_drop_more (pairs_from f k) cs k c lt))
      ∙ h

  pub pair_found : (ls : List Lit) (new : List Pair) → alike f c ≡ true → ls ≡ frame_lits f c → new ≡ made ++ record { pre = k; lits = ls } ∷ [] → new ++ pairs_from f (k + 1) (drop (k + 1) cs) ≡ whole
  pair_found ls new t e d =
      ap (λ zs. zs ++ pairs_from f (k + 1) (drop (k + 1) cs))
      (d ∙ ap (λ l. made ++ record { pre = k; lits = l } ∷ []) e ∙ sym (ap (λ b. made ++ cond b (record { pre = k; lits = frame_lits f c } ∷ []) []) t))
      ∙ turned

  pub pair_passed : alike f c ≡ false → made ++ pairs_from f (k + 1) (drop (k + 1) cs) ≡ whole
  pair_passed t =
      ap (λ zs. zs ++ pairs_from f (k + 1) (drop (k + 1) cs))
      (sym (append-nil made) ∙ sym (ap (λ b. made ++ cond b (record { pre = k; lits = frame_lits f c } ∷ []) []) t))
      ∙ turned

-- ---- the focus

abbrev pairs_of : List Chunk → Option Chunk → List Pair
pairs_of cs None = []
pairs_of cs (Some f) = pairs_from f 0 cs

pub focus_framed : (g : Goal) (f : Chunk) (posts pres : List Chunk) → posts ≡ g.post.chunks → Some f ≡ slice_get posts 0 → pres ≡ g.pre.chunks → pairs_from f 0 pres ≡ frame_pairs g
focus_framed g f posts pres e i j = ap (pairs_from f 0) j ∙ ap (pairs_of g.pre.chunks) (i ∙ ap (λ cs. slice_get cs 0) e)
