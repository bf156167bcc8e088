-- What is among a list to which others were added.
use Rattle.std.proofs.Common.{◌≡◌, ◌⊎◌, [], ◌∷◌, ◌++◌, List, Bool, Decides, refl, inl, inr}
use Rattle.std.specs.List.{list_any}
use Rattle.std.proofs.lemmas.Bool.{cond_both}
use Rattle.cyp_term.proofs.Lists.{Among, Among-cases, Among-left, Among-right, Decides-some}
use Rattle.cyp_term.specs.Terms.{with_all_new, with_new}

module _ {A : Type 0} (eq : A → A → Bool) (decides : (x y : A) → Decides (eq x y) (x ≡ y)) where
  new_old : (x y : A) (xs : List A) → Among x xs → Among x (with_new eq xs y)
  new_old x y xs h = cond_both (list_any (eq y) xs) xs (xs ++ y ∷ []) (Among x) (λ e. h) (λ e. Among-left x xs (y ∷ []) h)

  new_itself : (y : A) (xs : List A) → Among y (with_new eq xs y)
  new_itself y xs =
      cond_both (list_any (eq y) xs) xs (xs ++ y ∷ []) (Among y) (λ e. (Decides-some (λ z. y ≡ z) (eq y) (decides y) xs).0 e)
      (λ e. Among-right y xs (y ∷ []) (inl refl))

  new_out : (x y : A) (xs : List A) → Among x (with_new eq xs y) → Among x xs ⊎ (x ≡ y)
  new_out x y xs h =
      cond_both (list_any (eq y) xs) xs (xs ++ y ∷ []) (λ zs. Among x zs → Among x xs ⊎ (x ≡ y)) (λ e k. inl k)
      (λ e k. elim (Among-cases x xs (y ∷ []) k) [ inl m ↦ inl m | inr m ↦ elim m [ inl s ↦ inr s | inr n ↦ absurd n ] ]) h

  -- what was there stays
  pub added_old : (x : A) (xs ys : List A) → Among x xs → Among x (with_all_new eq xs ys)
  added_old x xs [] h = h
  added_old x xs (y ∷ ys) h = added_old x (with_new eq xs y) ys (new_old x y xs h)

  -- what is added is there
  pub added_new : (x : A) (xs ys : List A) → Among x ys → Among x (with_all_new eq xs ys)
  added_new x xs [] h = absurd h
  added_new x xs (y ∷ ys) (inl e) = added_old x (with_new eq xs y) ys (rw e (new_itself y xs))
  added_new x xs (y ∷ ys) (inr h) = added_new x (with_new eq xs y) ys h

  -- nothing else is
  pub added_out : (x : A) (xs ys : List A) → Among x (with_all_new eq xs ys) → Among x xs ⊎ Among x ys
  added_out x xs [] h = inl h
  added_out x xs (y ∷ ys) h =
      elim (added_out x (with_new eq xs y) ys h) [
        | inl k ↦ elim (new_out x y xs k) [ inl m ↦ inl m | inr e ↦ inr (inl e) ]
        | inr k ↦ inr (inr k)
      ]
