-- Lists that are mapped before they are worked on.
use Rattle.std.proofs.Common.{List, [], ap, cond, false, filter, flat_map, inl, inr, length, map, refl, subst, sym, true, ◌++◌, ◌∙◌, ◌∷◌, ◌≡◌, ◌||◌, ℕ, suc, zero}
use Rattle.std.specs.Prelude.{Bool, drop}
use Rattle.std.specs.List.{list_any}
use Rattle.std.proofs.lemmas.List.{map-append}
use Rattle.cyp_term.specs.Terms.{with_all_new, with_new}
use Rattle.cyp_term.proofs.Lists.{Among, Among-cases}

pub map_then : {A B C : Type 0} (f : A → B) (g : B → C) (h : A → C) → ((x : A) → g (f x) ≡ h x) → (xs : List A) → map g (map f xs) ≡ map h xs
map_then f g h e [] = refl
map_then f g h e (x ∷ xs) = cc (e x, map_then f g h e xs)

pub flat_then : {A B C : Type 0} (f : A → B) (g : B → List C) (h : A → List C) → ((x : A) → g (f x) ≡ h x) → (xs : List A) → flat_map g (map f xs) ≡ flat_map h xs
flat_then f g h e [] = refl
flat_then f g h e (x ∷ xs) = cc (e x, flat_then f g h e xs)

-- what is flattened after a map is mapped after it is flattened
pub flat_mapped : {A B C D : Type 0} (f : A → B) (g : B → List D) (h : A → List C) (k : C → D) → ((x : A) → g (f x) ≡ map k (h x)) → (xs : List A) → flat_map g (map f xs) ≡ map k (flat_map h xs)
flat_mapped f g h k e [] = refl
flat_mapped f g h k e (x ∷ xs) =
    ap (λ (ys : List _). ys ++ flat_map g (map f xs)) (e x) ∙ ap (λ (ys : List _). map k (h x) ++ ys) (flat_mapped f g h k e xs) ∙ sym (map-append k (h x) (flat_map h xs))

pub both_mapped : {A B : Type 0} (k : A → B) (xs ys : List A) (us ws : List B) → us ≡ map k xs → ws ≡ map k ys → us ++ ws ≡ map k (xs ++ ys)
both_mapped k xs ys us ws e f = ap (λ (zs : List _). zs ++ ws) e ∙ ap (λ (zs : List _). map k xs ++ zs) f ∙ sym (map-append k xs ys)

pub filter_mapped : {A B : Type 0} (f : A → B) (p : B → Bool) (q : A → Bool) → ((x : A) → p (f x) ≡ q x) → (xs : List A) → filter p (map f xs) ≡ map f (filter q xs)
filter_mapped f p q e [] = refl
filter_mapped f p q e (x ∷ xs) =
    ap (λ (t : Bool). cond t (f x ∷ filter p (map f xs)) (filter p (map f xs))) (e x) ∙ by_test (q x) (filter_mapped f p q e xs)
  where
    by_test : (t : Bool) → filter p (map f xs) ≡ map f (filter q xs) → cond t (f x ∷ filter p (map f xs)) (filter p (map f xs)) ≡ map f (cond t (x ∷ filter q xs) (filter q xs))
    by_test true h = ap (λ (ys : List _). f x ∷ ys) h
    by_test false h = h

pub any_mapped : {A B : Type 0} (f : A → B) (p : B → Bool) (q : A → Bool) → ((x : A) → p (f x) ≡ q x) → (xs : List A) → list_any p (map f xs) ≡ list_any q xs
any_mapped f p q e [] = refl
any_mapped f p q e (x ∷ xs) = ap (λ (t : Bool). t || list_any p (map f xs)) (e x) ∙ ap (λ (t : Bool). q x || t) (any_mapped f p q e xs)

pub length_mapped : {A B : Type 0} (f : A → B) (xs : List A) → length (map f xs) ≡ length xs
length_mapped f [] = refl
length_mapped f (x ∷ xs) = cc (length_mapped f xs)

pub drop_mapped : {A B : Type 0} (f : A → B) (n : ℕ) (xs : List A) → drop n (map f xs) ≡ map f (drop n xs)
drop_mapped f zero xs = refl
drop_mapped f (suc n) [] = refl
drop_mapped f (suc n) (x ∷ xs) = drop_mapped f n xs

pub map_among : {A B : Type 0} (f g : A → B) (xs : List A) → ((x : A) → Among x xs → f x ≡ g x) → map f xs ≡ map g xs
map_among f g [] h = refl
map_among f g (x ∷ xs) h = cc (h x (inl refl), map_among f g xs (λ y m. h y (inr m)))

pub flat_among : {A B C : Type 0} (f : A → B) (g : B → List C) (h : A → List C) (xs : List A) → ((x : A) → Among x xs → g (f x) ≡ h x) → flat_map g (map f xs) ≡ flat_map h xs
flat_among f g h [] e = refl
flat_among f g h (x ∷ xs) e = λ i. e x (inl refl) i ++ flat_among f g h xs (λ y m. e y (inr m)) i

pub none_from : {A B : Type 0} (f : A → List B) (xs : List A) → ((x : A) → Among x xs → f x ≡ []) → flat_map f xs ≡ []
none_from f [] e = refl
none_from f (x ∷ xs) e = λ i. e x (inl refl) i ++ none_from f xs (λ y m. e y (inr m)) i

pub back_among : {A B : Type 0} (f : A → B) (g : B → A) (xs : List A) → ((x : A) → Among x xs → g (f x) ≡ x) → map g (map f xs) ≡ xs
back_among f g [] e = refl
back_among f g (x ∷ xs) e = λ i. e x (inl refl) i ∷ back_among f g xs (λ y m. e y (inr m)) i

-- ---- first occurrences

-- the map keeps which of these elements are equal
abbrev pub Keeps : {A B : Type 0} → (A → A → Bool) → (B → B → Bool) → (A → B) → (A → Type 0) → Type 0
Keeps {A} eq eq' f P = (x y : A) → P x → P y → eq' (f x) (f y) ≡ eq x y

module _ {A B : Type 0} (eq : A → A → Bool) (eq' : B → B → Bool) (f : A → B) (P : A → Type 0) (keeps : Keeps eq eq' f P) where
  any_kept : (y : A) → P y → (xs : List A) → ((x : A) → Among x xs → P x) → list_any (eq' (f y)) (map f xs) ≡ list_any (eq y) xs
  any_kept y p [] h = refl
  any_kept y p (x ∷ xs) h =
      ap (λ (t : Bool). t || list_any (eq' (f y)) (map f xs)) (keeps y x p (h x (inl refl))) ∙ ap (λ (t : Bool). eq y x || t) (any_kept y p xs (λ z m. h z (inr m)))

  new_kept : (y : A) → P y → (xs : List A) → ((x : A) → Among x xs → P x) → with_new eq' (map f xs) (f y) ≡ map f (with_new eq xs y)
  new_kept y p xs h = ap (λ (t : Bool). cond t (map f xs) (map f xs ++ f y ∷ [])) (any_kept y p xs h) ∙ by_test (list_any (eq y) xs)
    where
      by_test : (t : Bool) → cond t (map f xs) (map f xs ++ f y ∷ []) ≡ map f (cond t xs (xs ++ y ∷ []))
      by_test true = refl
      by_test false = sym (map-append f xs (y ∷ []))

  still_all : (y : A) → P y → (xs : List A) → ((x : A) → Among x xs → P x) → (x : A) → Among x (with_new eq xs y) → P x
  still_all y p xs h x m = by_test (list_any (eq y) xs) m
    where
      last : Among x (y ∷ []) → P x
      last (inl e) = subst P (sym e) p
      last (inr n) = absurd n

      by_test : (t : Bool) → Among x (cond t xs (xs ++ y ∷ [])) → P x
      by_test true k = h x k
      by_test false k = elim (Among-cases x xs (y ∷ []) k) [ inl a ↦ h x a | inr b ↦ last b ]

  pub all_new_kept : (xs ys : List A) → ((x : A) → Among x xs → P x) → ((y : A) → Among y ys → P y) → with_all_new eq' (map f xs) (map f ys) ≡ map f (with_all_new eq xs ys)
  all_new_kept xs [] h k = refl
  all_new_kept xs (y ∷ ys) h k =
      ap (λ (zs : List B). with_all_new eq' zs (map f ys)) (new_kept y (k y (inl refl)) xs h)
      ∙ all_new_kept (with_new eq xs y) ys (still_all y (k y (inl refl)) xs h) (λ z m. k z (inr m))
