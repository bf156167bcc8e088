-- Lists that add the same variables to any list, in the same order.
use Rattle.std.proofs.Common.{◌≡◌, ◌∙◌, [], ◌∷◌, ◌++◌, List, Bool, true, false, cond, flat_map, filter, Decides, refl, ap, sym, subst}
use Rattle.std.specs.List.{list_all, list_any}
use Rattle.std.proofs.lemmas.Bool.{cond_both}
use Rattle.cyp_goal.proofs.Added.{added_new}
use Rattle.cyp_goal.proofs.AllNew.{with_all_new-there}
use Rattle.cyp_goal.proofs.Live.{among_in, in_among}
use Rattle.cyp_term.proofs.Equality.{Decides-var_eq}
use Rattle.cyp_term.proofs.Lists.{Among, Decides-some, each_at, each_from, flat_in}
use Rattle.cyp_term.proofs.Repeats.{without_repeats_in, without_repeats_out}
use Rattle.cyp_term.specs.Terms.{var_eq, var_in, with_all_new, with_new, without_repeats}
use Rattle.cyp_term.specs.declared.term.Var.{Var}

abbrev pub AddSame : List Var → List Var → Type 0
AddSame xs ys = (seen : List Var) → with_all_new var_eq seen xs ≡ with_all_new var_eq seen ys

with_all_new-append : (seen xs ys : List Var) → with_all_new var_eq seen (xs ++ ys) ≡ with_all_new var_eq (with_all_new var_eq seen xs) ys
with_all_new-append seen [] ys = refl
with_all_new-append seen (x ∷ xs) ys = with_all_new-append (with_new var_eq seen x) xs ys

pub same_append : (xs ys us vs : List Var) → AddSame xs ys → AddSame us vs → AddSame (xs ++ us) (ys ++ vs)
same_append xs ys us vs h k seen =
    with_all_new-append seen xs us ∙ ap (λ zs. with_all_new var_eq zs us) (h seen) ∙ k (with_all_new var_eq seen ys) ∙ sym (with_all_new-append seen ys vs)

pub same_flat_map : {A : Type 0} (f g : A → List Var) → ((x : A) → AddSame (f x) (g x)) → (xs : List A) → AddSame (flat_map f xs) (flat_map g xs)
same_flat_map f g h [] seen = refl
same_flat_map f g h (x ∷ xs) seen = same_append (f x) (g x) (flat_map f xs) (flat_map g xs) (h x) (same_flat_map f g h xs) seen

-- ---- what the elements of a list without repeats add
module _ {A : Type 0} (eq : A → A → Bool) (decides : (x y : A) → Decides (eq x y) (x ≡ y)) (f : A → List Var) where
  flat_map-push : (xs : List A) (y : A) (seen : List Var) → with_all_new var_eq seen (flat_map f (xs ++ y ∷ [])) ≡ with_all_new var_eq (with_all_new var_eq seen (flat_map f xs)) (f y)
  flat_map-push [] y seen = with_all_new-append seen (f y) []
  flat_map-push (x ∷ xs) y seen =
      with_all_new-append seen (f x) (flat_map f (xs ++ y ∷ [])) ∙ flat_map-push xs y (with_all_new var_eq seen (f x))
      ∙ ap (λ zs. with_all_new var_eq zs (f y)) (sym (with_all_new-append seen (f x) (flat_map f xs)))

  one_more : (old : List A) (y : A) (seen : List Var) → with_all_new var_eq seen (flat_map f (with_new eq old y)) ≡ with_all_new var_eq (with_all_new var_eq seen (flat_map f old)) (f y)
  one_more old y seen =
      cond_both (list_any (eq y) old) old (old ++ y ∷ [])
      (λ zs. with_all_new var_eq seen (flat_map f zs) ≡ with_all_new var_eq (with_all_new var_eq seen (flat_map f old)) (f y))
      (λ e. sym (with_all_new-there var_eq (with_all_new var_eq seen (flat_map f old)) (f y)
      (each_from (λ v. var_in v (with_all_new var_eq seen (flat_map f old))) (f y) (λ v k.
      among_in v (with_all_new var_eq seen (flat_map f old)) (added_new var_eq Decides-var_eq v seen (flat_map f old)
      (flat_in f v y old ((Decides-some (λ z. y ≡ z) (eq y) (decides y) old).0 e) k))))))
      (λ e. flat_map-push old y seen)

  more : (old xs : List A) (seen : List Var) → with_all_new var_eq seen (flat_map f (with_all_new eq old xs)) ≡ with_all_new var_eq (with_all_new var_eq seen (flat_map f old)) (flat_map f xs)
  more old [] seen = refl
  more old (x ∷ xs) seen =
      more (with_new eq old x) xs seen
      ∙ ap (λ zs. with_all_new var_eq zs (flat_map f xs)) (one_more old x seen)
      ∙ sym (with_all_new-append (with_all_new var_eq seen (flat_map f old)) (f x) (flat_map f xs))

  pub same_once : (xs : List A) → AddSame (flat_map f (without_repeats eq xs)) (flat_map f xs)
  same_once xs seen = more [] xs seen

abbrev alone : Var → List Var
alone v = v ∷ []

flat_alone : (vs : List Var) → flat_map alone vs ≡ vs
flat_alone [] = refl
flat_alone (v ∷ vs) = ap (λ ws. v ∷ ws) (flat_alone vs)

pub same_once_vars : (vs : List Var) → AddSame (without_repeats var_eq vs) vs
same_once_vars vs seen =
    ap (with_all_new var_eq seen) (sym (flat_alone (without_repeats var_eq vs))) ∙ same_once var_eq Decides-var_eq alone vs seen ∙ ap (with_all_new var_eq seen) (flat_alone vs)

-- ---- lists that add the same have the same variables
pub same_among : (xs ys : List Var) → AddSame xs ys → (v : Var) → Among v xs → Among v ys
same_among xs ys h v k =
    without_repeats_out var_eq Decides-var_eq v ys (subst (Among v) (h []) (without_repeats_in var_eq Decides-var_eq v xs k))

-- two tests that follow from each other
pub same_bool : (a b : Bool) → (a ≡ true → b ≡ true) → (b ≡ true → a ≡ true) → a ≡ b
same_bool true b f g = sym (f refl)
same_bool false true f g = g refl
same_bool false false f g = refl

back : (xs ys : List Var) → AddSame xs ys → AddSame ys xs
back xs ys h seen = sym (h seen)

pub same_in : (xs ys : List Var) → AddSame xs ys → (v : Var) → var_in v xs ≡ var_in v ys
same_in xs ys h v =
    same_bool (var_in v xs) (var_in v ys) (λ e. among_in v ys (same_among xs ys h v (in_among v xs e)))
    (λ e. among_in v xs (same_among ys xs (back xs ys h) v (in_among v ys e)))

pub same_all : (p : Var → Bool) (xs ys : List Var) → AddSame xs ys → list_all p xs ≡ list_all p ys
same_all p xs ys h =
    same_bool (list_all p xs) (list_all p ys) (λ e. each_from p ys (λ v k. each_at p v xs e (same_among ys xs (back xs ys h) v k)))
    (λ e. each_from p xs (λ v k. each_at p v ys e (same_among xs ys h v k)))

pub filter_same : {A : Type 0} (p q : A → Bool) → ((x : A) → p x ≡ q x) → (xs : List A) → filter p xs ≡ filter q xs
filter_same p q e [] = refl
filter_same p q e (x ∷ xs) = λ i. cond (e x i) (x ∷ filter_same p q e xs i) (filter_same p q e xs i)
