-- What the parts of a list say together, and when a list is entailed.
use Rattle.std.proofs.Common.{◌≡◌, ◌⊎◌, ◌↔◌, ℕ, ◌+◌, ◌<◌, ◌≤◌, List, [], ◌∷◌, ◌++◌, Bool, true, false, not, IsTrue, get_or, length, take, inl, inr, refl, sym, ap, subst, subst₂, filter}
use Rattle.std.specs.Prelude.{Contains}
use Rattle.std.proofs.lemmas.Bool.{cases_Bool, false≢true}
use Rattle.std.proofs.lemmas.Bool.Decides.{same_from_decides}
use Rattle.std.proofs.lemmas.List.{take_all, take_more}
use Rattle.cyp_term.specs.declared.lit.Lit.{Lit}
use Rattle.cyp_term.specs.Entailment.{entailed, satisfiable}
use Rattle.cyp_term.specs.Integers.{int_lits, is_int_lit}
use Rattle.cyp_term.specs.Meaning.{AllTrue, Entails, Satisfiable}
use Rattle.cyp_term.specs.Regions.{set_lits}
use Rattle.cyp_term.specs.Terms.{negated}
use Rattle.cyp_term.proofs.Entailment.{entailed_law, entails_one, refutes_one, satisfiable_law}
use Rattle.cyp_term.proofs.Lists.{Among, Among-cases, Among-left, Among-right, filter_in, filter_out}
use Rattle.cyp_pure.specs.Questions.{CanBeTrue}
use Rattle.cyp_pure.proofs.Alls.{true_among, true_both, true_from_among}
use Rattle.cyp_pure.proofs.Saying.{among_at}

-- ---- the parts of two lists
module _ (a xs : List Lit) where
  int_among : (l : Lit) → is_int_lit l ≡ true → Among l a ⊎ Among l xs → Among l (int_lits a ++ int_lits xs)
  int_among l e (inl m) = Among-left l (int_lits a) (int_lits xs) (filter_in is_int_lit l a m e)
  int_among l e (inr m) = Among-right l (int_lits a) (int_lits xs) (filter_in is_int_lit l xs m e)

  set_among : (l : Lit) → is_int_lit l ≡ false → Among l a ⊎ Among l xs → Among l (set_lits a ++ set_lits xs)
  set_among l e (inl m) = Among-left l (set_lits a) (set_lits xs) (filter_in (λ k. not (is_int_lit k)) l a m (ap not e))
  set_among l e (inr m) = Among-right l (set_lits a) (set_lits xs) (filter_in (λ k. not (is_int_lit k)) l xs m (ap not e))

  part_among : (test : Lit → Bool) (l : Lit) → Among l (filter test a ++ filter test xs) → Among l a ⊎ Among l xs
  part_among test l m = elim (Among-cases l (filter test a) (filter test xs) m) [ inl i ↦ inl (filter_out test l a i).0 | inr i ↦ inr (filter_out test l xs i).0 ]

  both_among : (l : Lit) → Among l a ⊎ Among l xs → Among l (xs ++ a)
  both_among l (inl m) = Among-right l xs a m
  both_among l (inr m) = Among-left l xs a m

  swapped : (l : Lit) → Among l xs ⊎ Among l a → Among l a ⊎ Among l xs
  swapped l (inl m) = inr m
  swapped l (inr m) = inl m

  join_parts : CanBeTrue (int_lits a ++ int_lits xs) (set_lits a ++ set_lits xs) → Satisfiable (xs ++ a)
  join_parts h = (
    h.0,
    true_from_among h.0 (xs ++ a) (λ l m.
        let o = swapped l (Among-cases l xs a m) in
        elim (cases_Bool (is_int_lit l)) [
          | inl e ↦ true_among h.0 l (int_lits a ++ int_lits xs) h.1 (int_among l e o)
          | inr e ↦ true_among h.0 l (set_lits a ++ set_lits xs) h.2 (set_among l e o)
        ]),
  )

  split_parts : Satisfiable (xs ++ a) → CanBeTrue (int_lits a ++ int_lits xs) (set_lits a ++ set_lits xs)
  split_parts h = (
    h.0,
    true_from_among h.0 (int_lits a ++ int_lits xs) (λ l m. true_among h.0 l (xs ++ a) h.1 (both_among l (part_among is_int_lit l m))),
    true_from_among h.0 (set_lits a ++ set_lits xs) (λ l m. true_among h.0 l (xs ++ a) h.1 (both_among l (part_among (λ k. not (is_int_lit k)) l m))),
  )

-- the literals of both lists can be true exactly where their parts can
pub parts_can : (a xs ints sets : List Lit) → ints ≡ int_lits a → sets ≡ set_lits a → CanBeTrue (ints ++ int_lits xs) (sets ++ set_lits xs) ↔ Satisfiable (xs ++ a)
parts_can a xs ints sets e f = (
  λ h. join_parts a xs (subst₂ (λ is ss. CanBeTrue (is ++ int_lits xs) (ss ++ set_lits xs)) e f h),
  λ h. subst₂ (λ is ss. CanBeTrue (is ++ int_lits xs) (ss ++ set_lits xs)) (sym e) (sym f) (split_parts a xs h),
)

-- ---- one literal
pub one_stands : (a : List Lit) (l : Lit) → Contains a l → Entails a (l ∷ [])
one_stands a l c s h = (true_among s l a h (among_at a c.0 l c.1 (sym c.2)), tt)

pub one_follows : (a : List Lit) (l : Lit) → (Satisfiable (negated l ∷ a) → ⊥) → Entails a (l ∷ [])
one_follows a l k s h = (entails_one a l k s h, tt)

pub one_fails : (a : List Lit) (l : Lit) → Satisfiable (negated l ∷ a) → Entails a (l ∷ []) → ⊥
one_fails a l h k = refutes_one a l (λ s i. (k s i).0) h

pub follows_is : (a ints sets : List Lit) (l : Lit) (r : Bool) → ints ≡ int_lits a → sets ≡ set_lits a → IsTrue r ↔ CanBeTrue (ints ++ int_lits (negated l ∷ [])) (sets ++ set_lits (negated l ∷ [])) → IsTrue (not r) ↔ Entails a (l ∷ [])
follows_is a ints sets l true e f h = (
  λ i. absurd (false≢true i),
  λ k. absurd (one_fails a l ((parts_can a (negated l ∷ []) ints sets e f).0 (h.0 refl)) k),
)
follows_is a ints sets l false e f h =
    (λ i. one_follows a l (λ s. false≢true (h.1 ((parts_can a (negated l ∷ []) ints sets e f).1 s))), λ k. refl)

-- ---- a literal more
pub entails_more : (a b : List Lit) (i : ℕ) (l : Lit) → Entails a (take i b) → i < length b → l ≡ get_or b i l → Entails a (l ∷ []) → Entails a (take (i + 1) b)
entails_more a b i l h lt e k s t =
    subst (AllTrue s) (sym (take_more b i l lt))
    (true_both s (take i b) (get_or b i l ∷ []) (h s t) (subst (λ m. AllTrue s (m ∷ [])) e (k s t)))

pub entails_among : (a b : List Lit) (i : ℕ) (l : Lit) → i < length b → l ≡ get_or b i l → Entails a b → Entails a (l ∷ [])
entails_among a b i l lt e h s t = (true_among s l b (h s t) (among_at b i l lt e), tt)

pub entails_all : (a b : List Lit) (i : ℕ) → Entails a (take i b) → length b ≤ i → Entails a b
entails_all a b i h le = subst (Entails a) (take_all i b le) h

-- ---- the tests
pub entailed_from : (a b : List Lit) (r : Bool) → IsTrue r ↔ Entails a b → r ≡ entailed a b
entailed_from a b r h = same_from_decides r (entailed a b) h (entailed_law a b)

pub satisfiable_from : (a : List Lit) (r : Bool) → IsTrue r ↔ Satisfiable a → r ≡ satisfiable a
satisfiable_from a r h = same_from_decides r (satisfiable a) h (satisfiable_law a)
