-- How many elements a list has without its repeats.
use Rattle.std.proofs.Common.{◌≡◌, ◌≤◌, List, [], ◌∷◌, ◌++◌, length, Bool, Decides, refl, sym, ap}
use Rattle.std.specs.Cmp.{IsEquivalence}
use Rattle.std.specs.List.{IsDistinct, list_any}
use Rattle.std.proofs.lemmas.Bool.{cond_both}
use Rattle.std.proofs.lemmas.Bool.Decides.{Decides-like, same_from_decides}
use Rattle.std.proofs.lemmas.Map.Keys.{IsDistinct-push}
use Rattle.std.proofs.lemmas.Map.Made.{length-le_from_is_member}
use Rattle.cyp_term.specs.Terms.{with_all_new, with_new, without_repeats}
use Rattle.cyp_term.proofs.Lists.{Among, Decides-some}
use Rattle.cyp_term.proofs.Repeats.{without_repeats_out}

module _ {X : Type 0} (eq : X → X → Bool) (decides : (x y : X) → Decides (eq x y) (x ≡ y)) where
  -- a test that decides equality is an equivalence
  equivalence : IsEquivalence eq
  equivalence = record {
    refl = λ x. (decides x x).1 refl;
    symm = λ x y. same_from_decides (eq x y) (eq y x) (decides x y) (Decides-like (eq y x) sym sym (decides y x));
    congr = λ x y z e. ap (λ w. eq w z) ((decides x y).0 e);
  }

  new_distinct : (xs : List X) (y : X) → IsDistinct eq xs → IsDistinct eq (with_new eq xs y)
  new_distinct xs y h =
      cond_both (list_any (eq y) xs) xs (xs ++ y ∷ []) (λ zs. IsDistinct eq zs) (λ e. h) (λ e. IsDistinct-push equivalence xs y h e)

  all_new_distinct : (xs ys : List X) → IsDistinct eq xs → IsDistinct eq (with_all_new eq xs ys)
  all_new_distinct xs [] h = h
  all_new_distinct xs (y ∷ ys) h = all_new_distinct (with_new eq xs y) ys (new_distinct xs y h)

  nil_distinct : IsDistinct eq []
  unfolding IsDistinct
  nil_distinct = tt

  pub Decides-among : (x : X) (xs : List X) → Decides (list_any (eq x) xs) (Among x xs)
  Decides-among x xs = Decides-some (λ y. x ≡ y) (eq x) (decides x) xs

  -- a list whose elements all stand in another has at most as many without its repeats as the other has
  pub fewer_without_repeats : (xs ys : List X) → ((x : X) → Among x xs → Among x ys) → length (without_repeats eq xs) ≤ length ys
  fewer_without_repeats xs ys h =
      length-le_from_is_member equivalence (without_repeats eq xs) ys (all_new_distinct [] xs nil_distinct)
      (λ x m. (Decides-among x ys).1 (h x (without_repeats_out eq decides x xs ((Decides-among x (without_repeats eq xs)).0 m))))
