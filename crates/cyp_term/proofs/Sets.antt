-- Finite sets as lists: membership is decided, and a set that is not within another has a member that the other lacks.
use Rattle.std.proofs.Common.{◌≡◌, ◌⊎◌, ◌↔◌, ℤ, pos, List, [], ◌∷◌, true, false, cond, Decides, refl, sym, subst, ◌∙◌, inl, inr}
use Rattle.std.specs.Ordering.{int_eq}
use Rattle.std.proofs.lemmas.Bool.{cases_Bool, both_ways, cond-true, cond-false}
use Rattle.std.proofs.lemmas.Bool.Decides.{Decides-int_eq, Decides-like, same_from_decides, not_from_Decides}
use Rattle.cyp_term.specs.Meaning.{int_in, SameMembers, IsSubset}
use Rattle.cyp_term.proofs.Lists.{Among, Decides-some}

pub Decides-int_in : (z : ℤ) (xs : List ℤ) → Decides (int_in z xs) (Among z xs)
Decides-int_in z xs = Decides-some (λ y. z ≡ y) (int_eq z) (Decides-int_eq z) xs

-- ---- the two relations of sets, by what is among the elements
abbrev pub HaveSame : List ℤ → List ℤ → Type 0
HaveSame xs ys = (z : ℤ) → Among z xs ↔ Among z ys

abbrev pub IsWithin : List ℤ → List ℤ → Type 0
IsWithin xs ys = (z : ℤ) → Among z xs → Among z ys

pub have_same : (xs ys : List ℤ) → SameMembers xs ys → HaveSame xs ys
have_same xs ys h z = (
  λ k. (Decides-int_in z ys).0 (sym (h z) ∙ (Decides-int_in z xs).1 k),
  λ k. (Decides-int_in z xs).0 (h z ∙ (Decides-int_in z ys).1 k),
)

pub same_members : (xs ys : List ℤ) → HaveSame xs ys → SameMembers xs ys
same_members xs ys h z =
    same_from_decides (int_in z xs) (int_in z ys) (Decides-int_in z xs)
    (Decides-like (int_in z ys) (h z).1 (h z).0 (Decides-int_in z ys))

pub is_within : (xs ys : List ℤ) → IsSubset xs ys → IsWithin xs ys
is_within xs ys h z k = (Decides-int_in z ys).0 (h z ((Decides-int_in z xs).1 k))

pub is_subset : (xs ys : List ℤ) → IsWithin xs ys → IsSubset xs ys
is_subset xs ys h z k = (Decides-int_in z ys).1 (h z ((Decides-int_in z xs).0 k))

-- ---- a member that is missing

-- the first member of a list that another lacks
unfoldable pub missing : List ℤ → List ℤ → ℤ
missing [] ys = pos 0
missing (x ∷ xs) ys = cond (int_in x ys) (missing xs ys) x

abbrev pub IsMissing : List ℤ → List ℤ → ℤ → Type 0
IsMissing xs ys z = Among z xs × ¬ Among z ys

missing-next : (x : ℤ) (xs ys : List ℤ) → int_in x ys ≡ true → missing (x ∷ xs) ys ≡ missing xs ys
unfolding missing
missing-next x xs ys e = cond-true (int_in x ys) (missing xs ys) x e

missing-here : (x : ℤ) (xs ys : List ℤ) → int_in x ys ≡ false → missing (x ∷ xs) ys ≡ x
unfolding missing
missing-here x xs ys e = cond-false (int_in x ys) (missing xs ys) x e

within_cons : (x : ℤ) (xs ys : List ℤ) → Among x ys → IsWithin xs ys → IsWithin (x ∷ xs) ys
within_cons x xs ys h k z (inl e) = subst (λ w. Among w ys) (sym e) h
within_cons x xs ys h k z (inr m) = k z m

pub within_or_missing : (xs ys : List ℤ) → IsWithin xs ys ⊎ IsMissing xs ys (missing xs ys)
within_or_missing [] ys = inl (λ z h. absurd h)
within_or_missing (x ∷ xs) ys = step (within_or_missing xs ys) (cases_Bool (int_in x ys))
  where
    step : IsWithin xs ys ⊎ IsMissing xs ys (missing xs ys) → (int_in x ys ≡ true) ⊎ (int_in x ys ≡ false) → IsWithin (x ∷ xs) ys ⊎ IsMissing (x ∷ xs) ys (missing (x ∷ xs) ys)
    step r (inr e) = inr (subst (IsMissing (x ∷ xs) ys) (sym (missing-here x xs ys e)) (inl refl, not_from_Decides _ (Decides-int_in x ys) e))
    step (inl k) (inl e) = inl (within_cons x xs ys ((Decides-int_in x ys).0 e) k)
    step (inr k) (inl e) = inr (subst (IsMissing (x ∷ xs) ys) (sym (missing-next x xs ys e)) (inr k.0, k.1))

-- ---- each relation holds or not
pub IsSubset_or_not : (xs ys : List ℤ) → IsSubset xs ys ⊎ ¬ IsSubset xs ys
IsSubset_or_not xs ys =
    elim (within_or_missing xs ys) [
      | inl k ↦ inl (is_subset xs ys k)
      | inr k ↦ inr (λ h. k.1 (is_within xs ys h (missing xs ys) k.0))
    ]

pub SameMembers_or_not : (xs ys : List ℤ) → SameMembers xs ys ⊎ ¬ SameMembers xs ys
SameMembers_or_not xs ys =
    elim (within_or_missing xs ys) [
      | inr k ↦ inr (λ h. k.1 ((have_same xs ys h (missing xs ys)).0 k.0))
      | inl k ↦ elim (within_or_missing ys xs) [
        | inr m ↦ inr (λ h. m.1 ((have_same xs ys h (missing ys xs)).1 m.0))
        | inl m ↦ inl (same_members xs ys (λ z. (k z, m z)))
      ]
    ]

pub int_in_or_not : (z : ℤ) (xs : List ℤ) → (int_in z xs ≡ true) ⊎ ¬ (int_in z xs ≡ true)
int_in_or_not z xs = elim (cases_Bool (int_in z xs)) [ inl e ↦ inl e | inr e ↦ inr (both_ways (int_in z xs) e) ]
