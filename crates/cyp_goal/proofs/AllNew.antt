-- Lists in which no element is equal to one before it.
use Rattle.std.proofs.Common.{◌≡◌, ◌∙◌, [], ◌∷◌, ◌++◌, List, Bool, true, false, cond, not, filter, refl, ap, sym, append-nil, append_assoc}
use Rattle.std.specs.List.{list_all, list_any}
use Rattle.std.proofs.lemmas.Bool.{and_from, and_parts, cond-false, cond-true, cond_both, not-true, or_from, or_parts}
use Rattle.std.proofs.lemmas.List.Folds.{list_any-append}
use Rattle.cyp_goal.specs.Raw.{all_new}
use Rattle.cyp_term.specs.Terms.{with_all_new, with_new, without_repeats}

module _ {A : Type 0} (eq : A → A → Bool) where
  -- one more element that is new
  all_new_push : (seen xs : List A) (y : A) → all_new eq seen xs ≡ true → list_any (eq y) (seen ++ xs) ≡ false → all_new eq seen (xs ++ y ∷ []) ≡ true
  all_new_push seen [] y h e = and_from (not (list_any (eq y) seen)) true (ap not (ap (list_any (eq y)) (sym (append-nil seen)) ∙ e)) refl
  all_new_push seen (x ∷ xs) y h e =
      let both = and_parts (not (list_any (eq x) seen)) (all_new eq (seen ++ x ∷ []) xs) h in
      and_from (not (list_any (eq x) seen)) (all_new eq (seen ++ x ∷ []) (xs ++ y ∷ [])) both.0
      (all_new_push (seen ++ x ∷ []) xs y both.1 (ap (list_any (eq y)) (append_assoc seen (x ∷ []) xs) ∙ e))

  pub all_new-with_new : (xs : List A) (y : A) → all_new eq [] xs ≡ true → all_new eq [] (with_new eq xs y) ≡ true
  all_new-with_new xs y h =
      cond_both (list_any (eq y) xs) xs (xs ++ y ∷ []) (λ zs. all_new eq [] zs ≡ true) (λ e. h) (λ e. all_new_push [] xs y h e)

  pub all_new-with_all_new : (xs ys : List A) → all_new eq [] xs ≡ true → all_new eq [] (with_all_new eq xs ys) ≡ true
  all_new-with_all_new xs [] h = h
  all_new-with_all_new xs (y ∷ ys) h = all_new-with_all_new (with_new eq xs y) ys (all_new-with_new xs y h)

  -- a list without repeats has none
  pub all_new-without_repeats : (xs : List A) → all_new eq [] (without_repeats eq xs) ≡ true
  all_new-without_repeats xs = all_new-with_all_new [] xs refl

  -- new elements are all added
  pub with_all_new-all_new : (seen xs : List A) → all_new eq seen xs ≡ true → with_all_new eq seen xs ≡ seen ++ xs
  with_all_new-all_new seen [] h = sym (append-nil seen)
  with_all_new-all_new seen (x ∷ xs) h =
      let both = and_parts (not (list_any (eq x) seen)) (all_new eq (seen ++ x ∷ []) xs) h in
      ap (λ zs. with_all_new eq zs xs) (cond-false (list_any (eq x) seen) seen (seen ++ x ∷ []) (not-true (list_any (eq x) seen) both.0))
      ∙ with_all_new-all_new (seen ++ x ∷ []) xs both.1
      ∙ append_assoc seen (x ∷ []) xs

  -- where there is no repeat none is dropped
  pub without_repeats-all_new : (xs : List A) → all_new eq [] xs ≡ true → without_repeats eq xs ≡ xs
  without_repeats-all_new xs h = with_all_new-all_new [] xs h

  -- the elements that pass a test
  filter_step : (p : A → Bool) (b : Bool) (x : A) (seen seen' xs : List A) → ((y : A) → list_any (eq y) seen ≡ false → list_any (eq y) seen' ≡ false)
      → ((more : List A) → ((y : A) → list_any (eq y) (seen ++ x ∷ []) ≡ false → list_any (eq y) more ≡ false) → all_new eq more (filter p xs) ≡ true)
      → list_any (eq x) seen ≡ false → all_new eq seen' (cond b (x ∷ filter p xs) (filter p xs)) ≡ true
  filter_step p true x seen seen' xs fewer ih e =
      and_from (not (list_any (eq x) seen')) (all_new eq (seen' ++ x ∷ []) (filter p xs)) (ap not (fewer x e)) (ih (seen' ++ x ∷ []) (λ y n.
      let parts = or_parts (list_any (eq y) seen) (list_any (eq y) (x ∷ [])) (sym (list_any-append (eq y) seen (x ∷ [])) ∙ n) in
      list_any-append (eq y) seen' (x ∷ []) ∙ or_from (list_any (eq y) seen') (list_any (eq y) (x ∷ [])) (fewer y parts.0) parts.1))
  filter_step p false x seen seen' xs fewer ih e =
      ih seen' (λ y n. fewer y (or_parts (list_any (eq y) seen) (list_any (eq y) (x ∷ [])) (sym (list_any-append (eq y) seen (x ∷ [])) ∙ n)).0)

  all_new_filter : (p : A → Bool) (seen seen' xs : List A) → ((y : A) → list_any (eq y) seen ≡ false → list_any (eq y) seen' ≡ false) → all_new eq seen xs ≡ true
      → all_new eq seen' (filter p xs) ≡ true
  all_new_filter p seen seen' [] fewer h = refl
  all_new_filter p seen seen' (x ∷ xs) fewer h =
      let both = and_parts (not (list_any (eq x) seen)) (all_new eq (seen ++ x ∷ []) xs) h in
      filter_step p (p x) x seen seen' xs fewer (λ more m. all_new_filter p (seen ++ x ∷ []) more xs m both.1) (not-true (list_any (eq x) seen) both.0)

  pub all_new-filter : (p : A → Bool) (xs : List A) → all_new eq [] xs ≡ true → all_new eq [] (filter p xs) ≡ true
  all_new-filter p xs h = all_new_filter p [] [] xs (λ y e. e) h

  -- where all are there none is added
  pub with_all_new-there : (xs ys : List A) → list_all (λ y. list_any (eq y) xs) ys ≡ true → with_all_new eq xs ys ≡ xs
  with_all_new-there xs [] h = refl
  with_all_new-there xs (y ∷ ys) h =
      let both = and_parts (list_any (eq y) xs) (list_all (λ z. list_any (eq z) xs) ys) h in
      ap (λ zs. with_all_new eq zs ys) (cond-true (list_any (eq y) xs) xs (xs ++ y ∷ []) both.0) ∙ with_all_new-there xs ys both.1

-- where all pass none is dropped
pub filter-all : {A : Type 0} (p : A → Bool) (xs : List A) → list_all p xs ≡ true → filter p xs ≡ xs
filter-all p [] h = refl
filter-all p (x ∷ xs) h =
    let both = and_parts (p x) (list_all p xs) h in
    cond-true (p x) (x ∷ filter p xs) (filter p xs) both.0 ∙ ap (λ ys. x ∷ ys) (filter-all p xs both.1)
