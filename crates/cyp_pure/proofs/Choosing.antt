-- A class for the next term: one that an earlier term has, or a new one.
use Rattle.std.proofs.Common.{◌≡◌, ◌⊎◌, ◌↔◌, ℕ, zero, suc, ◌-◌, ◌<◌, ◌≤◌, ℤ, pos, Bool, true, false, List, [], ◌∷◌, ◌++◌, get_or, length, inl, inr, refl, sym, ◌∙◌, subst, arith}
use Rattle.std.specs.List.{All, zip}
use Rattle.std.specs.Ordering.{int_eq}
use Rattle.std.proofs.lemmas.Bool.{both_ways, cases_Bool, cases_eq}
use Rattle.std.proofs.lemmas.Bool.Decides.{Decides-int_eq, not_from_Decides}
use Rattle.cyp_term.specs.declared.term.Term.{Term}
use Rattle.cyp_term.specs.Meaning.{value}
use Rattle.cyp_term.specs.Terms.{number_term}
use Rattle.cyp_term.proofs.Lists.{Among}
use Rattle.cyp_pure.specs.declared.dealing.Question.{Question}
use Rattle.cyp_pure.specs.Dealing.{Agrees, CanDeal}
use Rattle.cyp_pure.proofs.Agreeing.{agrees_at, agrees_less, agrees_more, zip_push, zip_right}
use Rattle.cyp_pure.proofs.Alls.{all_among}

-- some of the terms has the value
abbrev SomeHas : (Term → ℤ) → List (Term × ℕ) → ℤ → Type 0
SomeHas val ps z = (p : Term × ℕ) × Among p ps × (val p.0 ≡ z)

-- none of the terms has the value
abbrev NoneHas : (Term → ℤ) → List (Term × ℕ) → ℤ → Type 0
NoneHas val ps z = (p : Term × ℕ) → Among p ps → val p.0 ≡ z → ⊥

some_by : (val : Term → ℤ) (ps : List (Term × ℕ)) (r : Term × ℕ) (z : ℤ) → (int_eq (val r.0) z ≡ true) ⊎ (int_eq (val r.0) z ≡ false) → SomeHas val ps z ⊎ NoneHas val ps z → SomeHas val (r ∷ ps) z ⊎ NoneHas val (r ∷ ps) z
some_by val ps r z (inl e) h = inl (r, inl refl, (Decides-int_eq (val r.0) z).0 e)
some_by val ps r z (inr e) (inl h) = inl (h.0, inr h.1, h.2)
some_by val ps r z (inr e) (inr h) =
    inr (λ p m f. elim m [ inl i ↦ not_from_Decides _ (Decides-int_eq (val r.0) z) e (subst (λ (w : Term × ℕ). val w.0 ≡ z) i f) | inr i ↦ h p i f ])

some_or_none : (val : Term → ℤ) (ps : List (Term × ℕ)) (z : ℤ) → SomeHas val ps z ⊎ NoneHas val ps z
some_or_none val [] z = inr (λ p m e. absurd m)
some_or_none val (r ∷ ps) z = some_by val ps r z (cases_Bool (int_eq (val r.0) z)) (some_or_none val ps z)

get_or-any : {X : Type 0} (xs : List X) (i : ℕ) (d e : X) → i < length xs → get_or xs i d ≡ get_or xs i e
get_or-any [] i d e h = absurd (omega arith)
get_or-any (x ∷ xs) zero d e h = refl
get_or-any (x ∷ xs) (suc i) d e h = get_or-any xs i d e (omega arith)

-- ---- the next term
module _ (q : Question) (ks : List ℕ) (n : ℕ) (more : length ks < length q.terms.now) where
  next : Term
  next = get_or q.terms.now (length ks) (number_term (pos 0))

  -- the terms that have classes, and the next term
  zipped : (k : ℕ) → zip q.terms.now (ks ++ k ∷ []) ≡ zip q.terms.now ks ++ (next, k) ∷ []
  unfolding next
  zipped k = zip_push q.terms.now ks next k more (get_or-any q.terms.now (length ks) (number_term (pos 0)) next more)

  -- without the next term
  pub deal_less : (k : ℕ) → CanDeal q (ks ++ k ∷ []) → CanDeal q ks
  deal_less k h = (h.0, h.1, h.2, agrees_less (value h.0) (zip q.terms.now ks) ((next, k) ∷ []) (subst (Agrees (value h.0)) (zipped k) h.3))

  deal_as : (h : CanDeal q ks) (k : ℕ) → ((p : Term × ℕ) → Among p (zip q.terms.now ks) → (value h.0 p.0 ≡ value h.0 next) ↔ (p.1 ≡ k)) → CanDeal q (ks ++ k ∷ [])
  deal_as h k row = (h.0, h.1, h.2, subst (Agrees (value h.0)) (sym (zipped k)) (agrees_more (value h.0) (zip q.terms.now ks) (next, k) h.3 row))

  class_below : All (λ k. k < n) ks → (p : Term × ℕ) → Among p (zip q.terms.now ks) → p.1 < n
  class_below below p m = all_among (λ k. k < n) ks p.1 below (zip_right q.terms.now ks p m)

  -- the next term has the class of an earlier term with its value, or a class of its own
  pub deal_more : All (λ k. k < n) ks → CanDeal q ks → (k : ℕ) × (k ≤ n) × CanDeal q (ks ++ k ∷ [])
  deal_more below h = elim (some_or_none (value h.0) (zip q.terms.now ks) (value h.0 next)) [
    | inl w ↦ (
      w.0.1,
      (let lt : w.0.1 < n = class_below below w.0 w.1 in omega arith),
      deal_as h w.0.1 (λ p m. let both = agrees_at (value h.0) (zip q.terms.now ks) p w.0 h.3 m w.1 in (λ e. both.0 (e ∙ sym w.2), λ e. both.1 e ∙ w.2)),
    )
    | inr none ↦ (
      n,
      omega arith,
      deal_as h n (λ p m. (λ e. absurd (none p m e), λ e. let lt : p.1 < n = class_below below p m in absurd (omega arith))),
    )
  ]

-- one class more that the next term can't have
pub none_more : (q : Question) (ks : List ℕ) (n i : ℕ) (r : Bool) → ((k : ℕ) → i ≤ k → k ≤ n → CanDeal q (ks ++ k ∷ []) → ⊥) → r ≡ false → (CanDeal q (ks ++ (i - 1) ∷ []) → r ≡ true) → (k : ℕ) → (i - 1) ≤ k → k ≤ n → CanDeal q (ks ++ k ∷ []) → ⊥
none_more q ks n i r h e f k a b d = elim (cases_eq k (i - 1)) [
  | inl same ↦ both_ways r e (f (subst (λ j. CanDeal q (ks ++ j ∷ [])) same d))
  | inr other ↦ h k (omega arith) b d
]

-- no class at all
pub none_left : (q : Question) (ks : List ℕ) (n i : ℕ) → length ks < length q.terms.now → All (λ k. k < n) ks → ((k : ℕ) → i ≤ k → k ≤ n → CanDeal q (ks ++ k ∷ []) → ⊥) → i ≤ 0 → CanDeal q ks → ⊥
none_left q ks n i more below h le d = let w = deal_more q ks n more below d in h w.0 (omega arith) w.1 w.2
