-- Lists in which nothing stands twice, and places in them.
use Rattle.std.proofs.Common.{◌≡◌, ℕ, zero, suc, ◌<◌, Bool, true, false, cond, List, [], ◌∷◌, ◌++◌, length, get_or, map, Decides, refl, sym, ap, ap₂, subst, ◌∙◌, inl, inr, arith}
use Rattle.std.specs.List.{list_any}
use Rattle.std.proofs.lemmas.Bool.Decides.{not_from_Decides}
use Rattle.cyp_term.specs.declared.term.Term.{Term}
use Rattle.cyp_term.specs.Regions.{class_by}
use Rattle.cyp_term.specs.Terms.{term_eq, with_all_new, with_new, without_repeats}
use Rattle.cyp_term.proofs.Equality.{Decides-term_eq}
use Rattle.cyp_term.proofs.Lists.{Among, Among-cases, Decides-some}
use Rattle.cyp_sets.specs.Names.{place}
use Rattle.cyp_sets.proofs.Places.{first_place, place-first}

-- no element stands again behind itself
abbrev pub Once : {X : Type 0} → List X → Type 0
Once [] = Unit {0}
Once (x ∷ xs) = (Among x xs → ⊥) × Once xs

pub among_get : {X : Type 0} (xs : List X) (i : ℕ) (d : X) → i < length xs → Among (get_or xs i d) xs
among_get [] i d lt = absurd (omega arith)
among_get (x ∷ xs) zero d lt = inl refl
among_get (x ∷ xs) (suc i) d lt = inr (among_get xs i d (omega arith))

module _ {X : Type 0} where
  new_among : (x y : X) (xs : List X) → (Among x xs → ⊥) → (x ≡ y → ⊥) → Among x (xs ++ y ∷ []) → ⊥
  new_among x y xs h k i = elim (Among-cases x xs (y ∷ []) i) [ inl j ↦ h j | inr j ↦ elim j [ inl e ↦ k e | inr n ↦ n ] ]

  once_push : (xs : List X) (y : X) → Once xs → (Among y xs → ⊥) → Once (xs ++ y ∷ [])
  once_push [] y h k = (λ i. i, tt)
  once_push (x ∷ xs) y h k = (new_among x y xs h.0 (λ e. k (inl (sym e))), once_push xs y h.1 (λ i. k (inr i)))

module _ {X : Type 0} (eq : X → X → Bool) (decides : (x y : X) → Decides (eq x y) (x ≡ y)) where
  once_by : (xs : List X) (y : X) (t : Bool) → list_any (eq y) xs ≡ t → Once xs → Once (cond t xs (xs ++ y ∷ []))
  once_by xs y true e h = h
  once_by xs y false e h = once_push xs y h (not_from_Decides _ (Decides-some (λ z. y ≡ z) (eq y) (decides y) xs) e)

  once_all : (xs ys : List X) → Once xs → Once (with_all_new eq xs ys)
  once_all xs [] h = h
  once_all xs (y ∷ ys) h = once_all (with_new eq xs y) ys (once_by xs y (list_any (eq y) xs) refl h)

  pub once-without_repeats : (xs : List X) → Once (without_repeats eq xs)
  once-without_repeats xs = once_all [] xs tt

  place_by : (y x : X) (m i : ℕ) (t : Bool) → eq y x ≡ t → (y ≡ x → ⊥) → m ≡ i → cond t 0 (suc m) ≡ suc i
  place_by y x m i true e n h = absurd (n ((decides y x).0 e))
  place_by y x m i false e n h = ap suc h

  first_place-once : (xs : List X) (i : ℕ) (d : X) → Once xs → i < length xs → first_place eq xs (get_or xs i d) ≡ i
  first_place-once [] i d h lt = absurd (omega arith)
  first_place-once (x ∷ xs) zero d h lt = ap (λ t. cond t 0 (suc (first_place eq xs x))) ((decides x x).1 refl)
  first_place-once (x ∷ xs) (suc i) d h lt =
      place_by x (get_or xs i d) (first_place eq xs (get_or xs i d)) i (eq x (get_or xs i d)) refl (λ e. h.0 (rw e (among_get xs i d (omega arith))))
      (first_place-once xs i d h.1 (omega arith))

  pub place-once : (xs : List X) (i : ℕ) (d : X) → Once xs → i < length xs → place eq xs (get_or xs i d) ≡ i
  place-once xs i d h lt = place-first eq xs (get_or xs i d) ∙ first_place-once xs i d h lt

-- ---- the classes of terms, beside them in a list

pub map_agree : {X Y : Type 0} (f g : X → Y) (xs : List X) → ((x : X) → Among x xs → f x ≡ g x) → map f xs ≡ map g xs
map_agree f g [] h = refl
map_agree f g (x ∷ xs) h = ap₂ ◌∷◌ (h x (inl refl)) (map_agree f g xs (λ y i. h y (inr i)))

behind : (t u : Term) (ts : List Term) (k : ℕ) (ks : List ℕ) (b : Bool) → term_eq t u ≡ b → (Among t ts → ⊥) → Among u ts → cond b k (class_by ts ks u) ≡ class_by ts ks u
behind t u ts k ks true e h i = absurd (h (subst (λ w. Among w ts) (sym ((Decides-term_eq t u).0 e)) i))
behind t u ts k ks false e h i = refl

pub map-class_by : (ts : List Term) (ks : List ℕ) → Once ts → length ks ≡ length ts → map (class_by ts ks) ts ≡ ks
map-class_by [] [] h e = refl
map-class_by [] (k ∷ ks) h e = absurd (omega arith)
map-class_by (t ∷ ts) [] h e = absurd (omega arith)
map-class_by (t ∷ ts) (k ∷ ks) h e =
    ap₂ ◌∷◌ (ap (λ b. cond b k (class_by ts ks t)) ((Decides-term_eq t t).1 refl))
    (map_agree (class_by (t ∷ ts) (k ∷ ks)) (class_by ts ks) ts (λ u i. behind t u ts k ks (term_eq t u) refl h.0 i) ∙ map-class_by ts ks h.1 (omega arith))
