-- How many elements of a list without its repeats pass a test.
use Rattle.std.proofs.Common.{◌≡◌, ◌≤◌, ◌∙◌, List, [], ◌∷◌, ◌++◌, Bool, true, false, cond, Decides, append-nil, filter, length, refl, sym, ap}
use Rattle.std.specs.List.{list_any}
use Rattle.std.proofs.lemmas.List.Elements.{filter-append}
use Rattle.std.proofs.lemmas.Map.Views.{any-filter_same}
use Rattle.cyp_pure.proofs.Fewer.{fewer_without_repeats}
use Rattle.cyp_term.proofs.Lists.{Among, filter_in, filter_out}
use Rattle.cyp_term.proofs.Repeats.{without_repeats_in}
use Rattle.cyp_term.specs.Terms.{with_all_new, with_new, without_repeats}

module _ {X : Type 0} (eq : X → X → Bool) (decides : (x y : X) → Decides (eq x y) (x ≡ y)) (p : X → Bool) where
  -- an element that passes stands among those that pass, where it stands in the list
  passing : (y : X) (xs : List X) (t : Bool) → p y ≡ true → list_any (eq y) xs ≡ t → list_any (eq y) (filter p xs) ≡ t
  passing y xs t e f = any-filter_same (eq y) p true (λ k h. ap p (sym ((decides y k).0 h)) ∙ e) xs ∙ f

  -- where that is so, the filter of a choice
  chosen : (y : X) (xs : List X) (t : Bool) → p y ≡ true → list_any (eq y) xs ≡ t → cond t (filter p xs) (filter p xs ++ y ∷ []) ≡ with_new eq (filter p xs) y
  chosen y xs t e f = ap (λ u. cond u (filter p xs) (filter p xs ++ y ∷ [])) (sym (passing y xs t e f))

  -- one more element
  filter_new : (y : X) (xs : List X) (b t : Bool) → p y ≡ b → list_any (eq y) xs ≡ t → filter p (cond t xs (xs ++ y ∷ [])) ≡ with_all_new eq (filter p xs) (cond b (y ∷ []) [])
  filter_new y xs true true e f = chosen y xs true e f
  filter_new y xs true false e f = filter-append p xs (y ∷ []) ∙ ap (λ u. filter p xs ++ cond u (y ∷ []) []) e ∙ chosen y xs false e f
  filter_new y xs false true e f = refl
  filter_new y xs false false e f = filter-append p xs (y ∷ []) ∙ ap (λ u. filter p xs ++ cond u (y ∷ []) []) e ∙ append-nil (filter p xs)

  turn : (y : X) (us ws : List X) (b : Bool) → with_all_new eq (with_all_new eq us (cond b (y ∷ []) [])) ws ≡ with_all_new eq us (cond b (y ∷ ws) ws)
  turn y us ws true = refl
  turn y us ws false = refl

  pub filter_all_new : (us xs : List X) → filter p (with_all_new eq us xs) ≡ with_all_new eq (filter p us) (filter p xs)
  filter_all_new us [] = refl
  filter_all_new us (x ∷ xs) =
      filter_all_new (with_new eq us x) xs ∙ ap (λ ws. with_all_new eq ws (filter p xs)) (filter_new x us (p x) (list_any (eq x) us) refl refl)
      ∙ turn x (filter p us) (filter p xs) (p x)

  -- where each element of a list stands in another, at most as many different ones pass
  pub fewer_pass : (xs ys : List X) → ((x : X) → Among x xs → Among x ys) → length (filter p (without_repeats eq xs)) ≤ length (filter p (without_repeats eq ys))
  fewer_pass xs ys h =
      rw (filter_all_new [] xs)
      (fewer_without_repeats eq decides (filter p xs) (filter p (without_repeats eq ys))
      (λ x k. let o = filter_out p x xs k in filter_in p x (without_repeats eq ys) (without_repeats_in eq decides x ys (h x o.0)) o.1))
