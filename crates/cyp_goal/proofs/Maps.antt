-- Lists under a map, where tests and equalities agree before and behind it.
use Rattle.std.proofs.Common.{◌≡◌, ◌∙◌, [], ◌∷◌, ◌++◌, List, Bool, true, false, cond, ◌&&◌, ◌||◌, map, filter, flat_map, refl, ap, ap₂, sym}
use Rattle.std.specs.List.{list_all, list_any}
use Rattle.std.proofs.lemmas.List.{map-append, map_push}
use Rattle.cyp_term.specs.Terms.{with_all_new, with_new, without_repeats, lists_eq}
use Rattle.cyp_goal.specs.Raw.{all_new}

-- a function at a choice is the choice of its values
pub at_cond : {A B : Type 0} (g : A → B) (b : Bool) (x y : A) → cond b (g x) (g y) ≡ g (cond b x y)
at_cond g true x y = refl
at_cond g false x y = refl

-- h behind f is g
pub map_after : {A B C : Type 0} (f : A → B) (g : A → C) (h : B → C) → ((x : A) → h (f x) ≡ g x) → (xs : List A) → map h (map f xs) ≡ map g xs
map_after f g h e [] = refl
map_after f g h e (x ∷ xs) = λ i. e x i ∷ map_after f g h e xs i

pub flat_map-map : {A B C D : Type 0} (f : A → B) (g : A → List C) (h : B → List D) (k : C → D) → ((x : A) → h (f x) ≡ map k (g x)) → (xs : List A)
    → flat_map h (map f xs) ≡ map k (flat_map g xs)
flat_map-map f g h k e [] = refl
flat_map-map f g h k e (x ∷ xs) = rw (e x, flat_map-map f g h k e xs, map-append k (g x) (flat_map g xs)) refl

pub list_any-map : {A B : Type 0} (f : A → B) (p : A → Bool) (q : B → Bool) → ((x : A) → q (f x) ≡ p x) → (xs : List A) → list_any q (map f xs) ≡ list_any p xs
list_any-map f p q e [] = refl
list_any-map f p q e (x ∷ xs) = ap₂ (λ a b. a || b) (e x) (list_any-map f p q e xs)

pub list_all-map : {A B : Type 0} (f : A → B) (p : A → Bool) (q : B → Bool) → ((x : A) → q (f x) ≡ p x) → (xs : List A) → list_all q (map f xs) ≡ list_all p xs
list_all-map f p q e [] = refl
list_all-map f p q e (x ∷ xs) = ap₂ (λ a b. a && b) (e x) (list_all-map f p q e xs)

pub filter-map : {A B : Type 0} (f : A → B) (p : A → Bool) (q : B → Bool) → ((x : A) → q (f x) ≡ p x) → (xs : List A)
    → filter q (map f xs) ≡ map f (filter p xs)
filter-map f p q e [] = refl
filter-map f p q e (x ∷ xs) = rw (e x, filter-map f p q e xs) (at_cond (map f) (p x) (x ∷ filter p xs) (filter p xs))

pub with_new-map : {A B : Type 0} (f : A → B) (eq : A → A → Bool) (eq' : B → B → Bool) → ((x y : A) → eq' (f x) (f y) ≡ eq x y) → (xs : List A) (y : A)
    → with_new eq' (map f xs) (f y) ≡ map f (with_new eq xs y)
with_new-map f eq eq' e xs y =
    rw (list_any-map f (eq y) (eq' (f y)) (e y) xs, ← map_push f xs y) (at_cond (map f) (list_any (eq y) xs) xs (xs ++ y ∷ []))

pub with_all_new-map : {A B : Type 0} (f : A → B) (eq : A → A → Bool) (eq' : B → B → Bool) → ((x y : A) → eq' (f x) (f y) ≡ eq x y) → (xs ys : List A)
    → with_all_new eq' (map f xs) (map f ys) ≡ map f (with_all_new eq xs ys)
with_all_new-map f eq eq' e xs [] = refl
with_all_new-map f eq eq' e xs (y ∷ ys) =
    ap (λ zs. with_all_new eq' zs (map f ys)) (with_new-map f eq eq' e xs y) ∙ with_all_new-map f eq eq' e (with_new eq xs y) ys

pub without_repeats-map : {A B : Type 0} (f : A → B) (eq : A → A → Bool) (eq' : B → B → Bool) → ((x y : A) → eq' (f x) (f y) ≡ eq x y) → (xs : List A)
    → without_repeats eq' (map f xs) ≡ map f (without_repeats eq xs)
without_repeats-map f eq eq' e xs = with_all_new-map f eq eq' e [] xs

pub all_new-map : {A B : Type 0} (f : A → B) (eq : A → A → Bool) (eq' : B → B → Bool) → ((x y : A) → eq' (f x) (f y) ≡ eq x y) → (seen xs : List A)
    → all_new eq' (map f seen) (map f xs) ≡ all_new eq seen xs
all_new-map f eq eq' e seen [] = refl
all_new-map f eq eq' e seen (x ∷ xs) =
    rw (list_any-map f (eq x) (eq' (f x)) (e x) seen, ← map_push f seen x, all_new-map f eq eq' e (seen ++ x ∷ []) xs) refl

pub lists_eq-map : {A B : Type 0} (f : A → B) (eq : A → A → Bool) (eq' : B → B → Bool) → ((x y : A) → eq' (f x) (f y) ≡ eq x y) → (xs ys : List A)
    → lists_eq eq' (map f xs) (map f ys) ≡ lists_eq eq xs ys
lists_eq-map f eq eq' e [] [] = refl
lists_eq-map f eq eq' e [] (y ∷ ys) = refl
lists_eq-map f eq eq' e (x ∷ xs) [] = refl
lists_eq-map f eq eq' e (x ∷ xs) (y ∷ ys) = ap₂ (λ a b. a && b) (e x y) (lists_eq-map f eq eq' e xs ys)

-- h behind f is k behind g
pub map_both : {A B C D : Type 0} (f : A → B) (h : B → D) (g : A → C) (k : C → D) → ((x : A) → h (f x) ≡ k (g x)) → (xs : List A) → map h (map f xs) ≡ map k (map g xs)
map_both f h g k e [] = refl
map_both f h g k e (x ∷ xs) = λ i. e x i ∷ map_both f h g k e xs i

-- lists joined behind a map
pub joined : {A B : Type 0} (f : A → B) (xs ys : List A) (us vs : List B) → us ≡ map f xs → vs ≡ map f ys → us ++ vs ≡ map f (xs ++ ys)
joined f xs ys us vs e h = ap₂ ◌++◌ e h ∙ sym (map-append f xs ys)
