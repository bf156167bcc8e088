-- A list without repeats has the elements of the list.
use Rattle.std.proofs.Common.{◌≡◌, ◌⊎◌, List, [], ◌∷◌, ◌++◌, Bool, true, false, cond, Decides, refl, inl, inr}
use Rattle.std.specs.List.{list_any}
use Rattle.std.proofs.lemmas.Bool.Decides.{same_from_decides}
use Rattle.cyp_term.specs.Terms.{with_new, with_all_new, without_repeats}
use Rattle.cyp_term.proofs.Lists.{Among, Among-left, Among-right, Among-cases, Decides-some, some_from, some_out}

module _ {X : Type 0} (eq : X → X → Bool) (decides : (x y : X) → Decides (eq x y) (x ≡ y)) where
  new_old : (x y : X) (xs : List X) → Among x xs → Among x (with_new eq xs y)
  new_old x y xs h = by_test (list_any (eq y) xs)
    where
      by_test : (t : Bool) → Among x (cond t xs (xs ++ y ∷ []))
      by_test true = h
      by_test false = Among-left x xs (y ∷ []) h

  new_itself : (y : X) (xs : List X) → Among y (with_new eq xs y)
  new_itself y xs = by_test (list_any (eq y) xs) refl
    where
      by_test : (t : Bool) → list_any (eq y) xs ≡ t → Among y (cond t xs (xs ++ y ∷ []))
      by_test true e = (Decides-some (λ z. y ≡ z) (eq y) (decides y) xs).0 e
      by_test false e = Among-right y xs (y ∷ []) (inl refl)

  new_out : (x y : X) (xs : List X) → Among x (with_new eq xs y) → Among x xs ⊎ (x ≡ y)
  new_out x y xs h = by_test (list_any (eq y) xs) h
    where
      by_test : (t : Bool) → Among x (cond t xs (xs ++ y ∷ [])) → Among x xs ⊎ (x ≡ y)
      by_test true k = inl k
      by_test false k = elim (Among-cases x xs (y ∷ []) k) [ inl m ↦ inl m | inr m ↦ elim m [ inl e ↦ inr e | inr n ↦ absurd n ] ]

  all_new_old : (x : X) (xs ys : List X) → Among x xs → Among x (with_all_new eq xs ys)
  all_new_old x xs [] h = h
  all_new_old x xs (y ∷ ys) h = all_new_old x (with_new eq xs y) ys (new_old x y xs h)

  all_new_itself : (x : X) (xs ys : List X) → Among x ys → Among x (with_all_new eq xs ys)
  all_new_itself x xs [] h = absurd h
  all_new_itself x xs (y ∷ ys) (inl e) = all_new_old x (with_new eq xs y) ys (rw e (new_itself y xs))
  all_new_itself x xs (y ∷ ys) (inr h) = all_new_itself x (with_new eq xs y) ys h

  all_new_out : (x : X) (xs ys : List X) → Among x (with_all_new eq xs ys) → Among x xs ⊎ Among x ys
  all_new_out x xs [] h = inl h
  all_new_out x xs (y ∷ ys) h =
      elim (all_new_out x (with_new eq xs y) ys h) [
        | inl k ↦ elim (new_out x y xs k) [ inl m ↦ inl m | inr e ↦ inr (inl e) ]
        | inr k ↦ inr (inr k)
      ]

  pub without_repeats_in : (x : X) (xs : List X) → Among x xs → Among x (without_repeats eq xs)
  without_repeats_in x xs h = all_new_itself x [] xs h

  pub without_repeats_out : (x : X) (xs : List X) → Among x (without_repeats eq xs) → Among x xs
  without_repeats_out x xs h = elim (all_new_out x [] xs h) [ inl k ↦ absurd k | inr k ↦ k ]

  -- a test passes at some element of the one exactly where it does at some element of the other
  pub any_without_repeats : (test : X → Bool) (xs : List X) → list_any test (without_repeats eq xs) ≡ list_any test xs
  any_without_repeats test xs =
      same_from_decides (list_any test (without_repeats eq xs)) (list_any test xs) (
        λ e. let r = some_out test (without_repeats eq xs) e in some_from test r.0 xs (without_repeats_out r.0 xs r.1) r.2,
        λ e. let r = some_out test xs e in some_from test r.0 (without_repeats eq xs) (without_repeats_in r.0 xs r.1) r.2,
      ) (λ e. e, λ e. e)

-- one list added after the other
pub with_all_new_append : {X : Type 0} (eq : X → X → Bool) (xs ys zs : List X) → with_all_new eq xs (ys ++ zs) ≡ with_all_new eq (with_all_new eq xs ys) zs
with_all_new_append eq xs [] zs = refl
with_all_new_append eq xs (y ∷ ys) zs = with_all_new_append eq (with_new eq xs y) ys zs
