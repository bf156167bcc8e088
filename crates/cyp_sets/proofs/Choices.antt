-- Regions chosen for the classes: each way to choose allowed ones is among the choices.
use Rattle.std.proofs.Common.{◌≡◌, ℕ, List, [], ◌∷◌, map, filter, Some, Bool, true, false, cond, ◌==◌, refl, sym, ap, subst, inl, inr}
use Rattle.std.proofs.lemmas.Bool.{both_ways}
use Rattle.std.proofs.lemmas.Bool.Decides.{Decides-eqb}
use Rattle.cyp_term.specs.declared.term.Var.{Var}
use Rattle.cyp_term.specs.declared.term.Term.{Term}
use Rattle.cyp_term.specs.declared.lit.Lit.{Lit}
use Rattle.cyp_term.specs.Regions.{parts, allowed, with_region, choices}
use Rattle.cyp_term.proofs.Lists.{SomeOf, Among, SomeOf-cases, SomeOf-left, SomeOf-right, SomeOf-map, Among-left, Among-right, Among-map}

-- ---- what a test keeps of a list is one of the list's parts
module _ {X : Type 0} (test : X → Bool) where
  filter_part : (x : X) (xs : List X) (t : Bool) → Among (filter test xs) (parts xs) → Among (cond t (x ∷ filter test xs) (filter test xs)) (parts (x ∷ xs))
  filter_part x xs true h = Among-left _ (map (λ r. x ∷ r) (parts xs)) (parts xs) (Among-map (λ r. x ∷ r) _ (parts xs) h)
  filter_part x xs false h = Among-right _ (map (λ r. x ∷ r) (parts xs)) (parts xs) h

  pub filter-parts : (xs : List X) → Among (filter test xs) (parts xs)
  filter-parts [] = inl refl
  filter-parts (x ∷ xs) = filter_part x xs (test x) (filter-parts xs)

-- ---- into the choices

with_region_in : (P Q : (ℕ → List Var) → Type 0) (k : ℕ) (r : List Var) → ((f : ℕ → List Var) → P f → Q (λ j. cond (j == k) r (f j))) → (rs : List (List Var)) (fs : List (ℕ → List Var)) → Among r rs → SomeOf P fs → SomeOf Q (with_region k rs fs)
with_region_in P Q k r h [] fs i m = absurd i
with_region_in P Q k r h (q ∷ rs) fs (inl e) m =
    SomeOf-left Q (map (λ f j. cond (j == k) q (f j)) fs) (with_region k rs fs)
    (SomeOf-map P Q (λ f j. cond (j == k) q (f j)) (λ f p. subst (λ w. Q (λ j. cond (j == k) w (f j))) e (h f p)) fs m)
with_region_in P Q k r h (q ∷ rs) fs (inr i) m =
    SomeOf-right Q (map (λ f j. cond (j == k) q (f j)) fs) (with_region k rs fs) (with_region_in P Q k r h rs fs i m)

-- the choice has these regions for the classes
abbrev pub HasRegions : (ℕ → List Var) → List ℕ → (ℕ → List Var) → Type 0
HasRegions target ks f = (k : ℕ) → Among k ks → f k ≡ target k

target_test : (target f : ℕ → List Var) (k j : ℕ) (ks : List ℕ) (t : Bool) → (j == k) ≡ t → HasRegions target ks f → Among j (k ∷ ks) → cond t (target k) (f j) ≡ target j
target_test target f k j ks true e h i = ap target (sym ((Decides-eqb j k).0 e))
target_test target f k j ks false e h (inl p) = absurd (both_ways _ e ((Decides-eqb j k).1 p))
target_test target f k j ks false e h (inr i) = h j i

pub choice_in : (class : Term → ℕ) (ls : List Lit) (target : ℕ → List Var) (ks : List ℕ) → ((k : ℕ) → Among k ks → Among (target k) (allowed class ls (Some k))) → SomeOf (HasRegions target ks) (choices class ls ks)
choice_in class ls target [] h = inl (λ k i. absurd i)
choice_in class ls target (k ∷ ks) h =
    with_region_in (HasRegions target ks) (HasRegions target (k ∷ ks)) k (target k) (λ f p j i. target_test target f k j ks (j == k) refl p i)
    (allowed class ls (Some k)) (choices class ls ks) (h k (inl refl)) (choice_in class ls target ks (λ j i. h j (inr i)))

-- ---- out of the choices

SomeOf-unmap : {X Y : Type 0} (P : Y → Type 0) (g : X → Y) (xs : List X) → SomeOf P (map g xs) → SomeOf (λ x. P (g x)) xs
SomeOf-unmap P g [] k = absurd k
SomeOf-unmap P g (x ∷ xs) (inl k) = inl k
SomeOf-unmap P g (x ∷ xs) (inr k) = inr (SomeOf-unmap P g xs k)

with_region_out : (P : (ℕ → List Var) → Type 0) (k : ℕ) (rs : List (List Var)) (fs : List (ℕ → List Var)) → SomeOf P (with_region k rs fs) → (r : List Var) × Among r rs × SomeOf (λ f. P (λ j. cond (j == k) r (f j))) fs
with_region_out P k [] fs h = absurd h
with_region_out P k (r ∷ rs) fs h =
    elim (SomeOf-cases P (map (λ f j. cond (j == k) r (f j)) fs) (with_region k rs fs) h) [
      | inl i ↦ (r, inl refl, SomeOf-unmap P (λ f j. cond (j == k) r (f j)) fs i)
      | inr i ↦ (let q = with_region_out P k rs fs i in (q.0, inr q.1, q.2))
    ]

abbrev pub AllAllowed : (Term → ℕ) → List Lit → List ℕ → (ℕ → List Var) → Type 0
AllAllowed class ls ks f = (k : ℕ) → Among k ks → Among (f k) (allowed class ls (Some k))

allowed_test : (class : Term → ℕ) (ls : List Lit) (f : ℕ → List Var) (r : List Var) (k j : ℕ) (ks : List ℕ) (t : Bool) → (j == k) ≡ t → Among r (allowed class ls (Some k)) → AllAllowed class ls ks f → Among j (k ∷ ks) → Among (cond t r (f j)) (allowed class ls (Some j))
allowed_test class ls f r k j ks true e h g i = subst (λ w. Among r (allowed class ls (Some w))) (sym ((Decides-eqb j k).0 e)) h
allowed_test class ls f r k j ks false e h g (inl p) = absurd (both_ways _ e ((Decides-eqb j k).1 p))
allowed_test class ls f r k j ks false e h g (inr i) = g j i

pub choice_out : (class : Term → ℕ) (ls : List Lit) (ks : List ℕ) (P : (ℕ → List Var) → Type 0) → SomeOf P (choices class ls ks) → (f : ℕ → List Var) × P f × AllAllowed class ls ks f
choice_out class ls [] P h = elim h [ inl p ↦ ((λ k. []), p, λ k i. absurd i) | inr p ↦ absurd p ]
choice_out class ls (k ∷ ks) P h =
    let r = with_region_out P k (allowed class ls (Some k)) (choices class ls ks) h in
    let q = choice_out class ls ks (λ f. P (λ j. cond (j == k) r.0 (f j))) r.2 in
    ((λ j. cond (j == k) r.0 (q.0 j)), q.1, λ j i. allowed_test class ls q.0 r.0 k j ks (j == k) refl r.1 q.2 i)
