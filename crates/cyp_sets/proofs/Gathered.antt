-- Names that are gathered one after the other, each once.
use Rattle.std.proofs.Common.{◌≡◌, ℕ, ◌+◌, ◌<◌, Bool, List, [], ◌∷◌, ◌++◌, length, get_or, take, flat_map, ◌⊎◌, inl, inr, refl, sym, ap, ap₂, ◌∙◌, append-nil, append_assoc}
use Rattle.std.proofs.lemmas.List.{take_more}
use Rattle.cyp_term.specs.declared.lit.Lit.{Lit}
use Rattle.cyp_term.specs.declared.lit.Lit.TheVariants.{Same, NotSame, Sub, NotSub}
use Rattle.cyp_term.specs.declared.lit.SetTerm.{SetTerm}
use Rattle.cyp_term.specs.Regions.{elem_terms, lit_set_vars}
use Rattle.cyp_term.specs.Terms.{with_all_new, with_new}

module _ {X : Type 0} (eq : X → X → Bool) where
  pub with_all_new-append : (xs ys zs : List X) → with_all_new eq xs (ys ++ zs) ≡ with_all_new eq (with_all_new eq xs ys) zs
  with_all_new-append xs [] zs = refl
  with_all_new-append xs (y ∷ ys) zs = with_all_new-append (with_new eq xs y) ys zs

  pub gathered_more : (xs ys now next : List X) (i : ℕ) (d : X) → now ≡ with_all_new eq xs (take i ys) → i < length ys → next ≡ with_new eq now (get_or ys i d) → next ≡ with_all_new eq xs (take (i + 1) ys)
  gathered_more xs ys now next i d e lt is =
      is ∙ ap (λ zs. with_new eq zs (get_or ys i d)) e ∙ sym (with_all_new-append xs (take i ys) (get_or ys i d ∷ [])) ∙ ap (with_all_new eq xs) (sym (take_more ys i d lt))

flat_map-append : {X Y : Type 0} (f : X → List Y) (xs ys : List X) → flat_map f (xs ++ ys) ≡ flat_map f xs ++ flat_map f ys
flat_map-append f [] ys = refl
flat_map-append f (x ∷ xs) ys = ap (λ zs. f x ++ zs) (flat_map-append f xs ys) ∙ sym (append_assoc (f x) (flat_map f xs) (flat_map f ys))

flat_map-more : {X Y : Type 0} (f : X → List Y) (xs : List X) (i : ℕ) (d : X) → i < length xs → flat_map f (take (i + 1) xs) ≡ flat_map f (take i xs) ++ f (get_or xs i d)
flat_map-more f xs i d lt = ap (flat_map f) (take_more xs i d lt) ∙ flat_map-append f (take i xs) (get_or xs i d ∷ []) ∙ ap (λ zs. flat_map f (take i xs) ++ zs) (append-nil (f (get_or xs i d)))

pub lits_more : {X Y : Type 0} (eq : Y → Y → Bool) (f : X → List Y) (ls : List X) (ys now next : List Y) (i : ℕ) (l : X) → now ≡ with_all_new eq ys (flat_map f (take i ls)) → i < length ls → l ≡ get_or ls i l → next ≡ with_all_new eq now (f l) → next ≡ with_all_new eq ys (flat_map f (take (i + 1) ls))
lits_more eq f ls ys now next i l e lt is next_is =
    next_is ∙ ap₂ (λ zs k. with_all_new eq zs (f k)) e is ∙ sym (with_all_new-append eq ys (flat_map f (take i ls)) (f (get_or ls i l))) ∙ ap (with_all_new eq ys) (sym (flat_map-more f ls i l lt))

pub lits_joined : {X Y : Type 0} (eq : Y → Y → Bool) (f : X → List Y) (ls more : List X) (zs ys : List Y) → ys ≡ with_all_new eq zs (flat_map f ls) → with_all_new eq ys (flat_map f more) ≡ with_all_new eq zs (flat_map f (ls ++ more))
lits_joined eq f ls more zs ys e =
    ap (λ us. with_all_new eq us (flat_map f more)) e ∙ sym (with_all_new-append eq zs (flat_map f ls) (flat_map f more)) ∙ ap (with_all_new eq zs) (sym (flat_map-append f ls more))

-- ---- the two sides of a literal

-- the literal compares these two set terms
abbrev pub IsPair : Lit → SetTerm → SetTerm → Type 0
IsPair l a b = (l ≡ Same a b) ⊎ ((l ≡ NotSame a b) ⊎ ((l ≡ Sub a b) ⊎ (l ≡ NotSub a b)))

pub pair_vars : (l : Lit) (a b : SetTerm) → IsPair l a b → lit_set_vars l ≡ a.vars ++ b.vars
pair_vars l a b (inl e) = ap lit_set_vars e
pair_vars l a b (inr (inl e)) = ap lit_set_vars e
pair_vars l a b (inr (inr (inl e))) = ap lit_set_vars e
pair_vars l a b (inr (inr (inr e))) = ap lit_set_vars e

pub pair_terms : (l : Lit) (a b : SetTerm) → IsPair l a b → elem_terms l ≡ a.elems ++ b.elems
pair_terms l a b (inl e) = ap elem_terms e
pair_terms l a b (inr (inl e)) = ap elem_terms e
pair_terms l a b (inr (inr (inl e))) = ap elem_terms e
pair_terms l a b (inr (inr (inr e))) = ap elem_terms e

pub both_sides : {X : Type 0} (eq : X → X → Bool) (zs xs ys xs' ys' all now next : List X) → all ≡ xs ++ ys → xs' ≡ xs → ys' ≡ ys → now ≡ with_all_new eq zs xs' → next ≡ with_all_new eq now ys' → next ≡ with_all_new eq zs all
both_sides eq zs xs ys xs' ys' all now next e ex ey en is =
    is ∙ ap₂ (with_all_new eq) (en ∙ ap (with_all_new eq zs) ex) ey ∙ sym (with_all_new-append eq zs xs ys) ∙ ap (with_all_new eq zs) (sym e)
