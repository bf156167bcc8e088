-- Steps of loops over lists: what a recursion gives from here on stays the same.
use Rattle.std.proofs.Common.{◌≡◌, ◌∙◌, ◌&&◌, ℕ, ◌+◌, ◌<◌, ◌≤◌, Bool, List, [], ◌∷◌, ◌++◌, length, get_or, drop, map, take, true, refl, ap, sym, append_assoc, append-nil, slice_set, length-set, arith}
use Rattle.std.specs.List.{flat_map, list_all}
use Rattle.std.proofs.lemmas.Bool.{and_from}
use Rattle.std.proofs.lemmas.Grind.{drop_more_same}
use Rattle.std.proofs.lemmas.List.{at_drop_all, at_drop_more, drop-set-lt, drop_more, take_more, take_more_set}
use Rattle.std.proofs.lemmas.List.Folds.{list_all-append}
use Rattle.cyp_term.specs.Terms.{with_all_new, with_new}

module _ {S X R : Type 0} (F : S → List X → R) (xs : List X) (i : ℕ) (r : R) where
  -- one more element
  pub rest_step : (s t : S) (x : X) → F s (drop i xs) ≡ r → i < length xs → x ≡ get_or xs i x → ((ys : List X) → F s (x ∷ ys) ≡ F t ys) → F t (drop (i + 1) xs) ≡ r
  rest_step s t x h lt is step =
      sym (step (drop (i + 1) xs)) ∙ ap (λ y. F s (y ∷ drop (i + 1) xs)) is ∙ sym (at_drop_more (F s) xs i x lt) ∙ h

  -- no more elements
  pub rest_end : (s : S) → F s (drop i xs) ≡ r → length xs ≤ i → F s [] ≡ r
  rest_end s h le = sym (at_drop_all (F s) xs i le) ∙ h

-- ---- lists that each element adds to
module _ {X Y : Type 0} (f : X → List Y) (xs : List X) (i : ℕ) (r : List Y) where
  abbrev pub still : List Y → List X → List Y
  still s ys = s ++ flat_map f ys

  pub flat_step : (s t : List Y) (x : X) → still s (drop i xs) ≡ r → i < length xs → x ≡ get_or xs i x → t ≡ s ++ f x → still t (drop (i + 1) xs) ≡ r
  flat_step s t x h lt is e =
      rest_step still xs i r s t x h lt is (λ ys. sym (append_assoc s (f x) (flat_map f ys)) ∙ ap (λ z. z ++ flat_map f ys) (sym e))

  pub flat_end : (s : List Y) → still s (drop i xs) ≡ r → length xs ≤ i → s ≡ r
  flat_end s h le = sym (append-nil s) ∙ rest_end still xs i r s h le

-- ---- lists without repeats that get the image of each element
pub image_added : {X Y : Type 0} (eq : Y → Y → Bool) (f : X → Y) (xs : List X) (i : ℕ) (r s t : List Y) (x : X) (y : Y) → with_all_new eq s (map f (drop i xs)) ≡ r → i < length xs → x ≡ get_or xs i x → y ≡ f x
    → t ≡ with_new eq s y → with_all_new eq t (map f (drop (i + 1) xs)) ≡ r
image_added eq f xs i r s t x y h lt is made put =
    rest_step (λ (us : List _) ys. with_all_new eq us (map f ys)) xs i r s t x h lt is (λ ys. ap (λ us. with_all_new eq us (map f ys)) (sym (put ∙ ap (with_new eq s) made)))

-- ---- lists whose items are replaced one by one
abbrev head_or : {X : Type 0} → X → List X → X
head_or d [] = d
head_or d (x ∷ xs) = x

module _ {X : Type 0} (f : X → X) (test : X → Bool) (first items new : List X) (i : ℕ) (lt : i < length items) (x y : X) (is : x ≡ get_or items i x) (made : y ≡ f x) (put : new ≡ slice_set items i y) where
  behind : drop (i + 1) new ≡ drop (i + 1) items
  behind = ap (drop (i + 1)) put ∙ drop-set-lt (i + 1) items i y (omega arith)

  here : drop i items ≡ x ∷ drop (i + 1) items
  here = drop_more items i x lt ∙ ap (λ z. z ∷ drop (i + 1) items) (sym is)

  pub replaced_more : (r : List X) → take i items ++ map f (drop i items) ≡ r → take (i + 1) new ++ map f (drop (i + 1) new) ≡ r
  replaced_more r h =
      (λ j. (ap (take (i + 1)) put ∙ take_more_set items i y lt) j ++ map f (behind j))
      ∙ append_assoc (take i items) (y ∷ []) (map f (drop (i + 1) items))
      ∙ ap (λ z. take i items ++ (z ∷ map f (drop (i + 1) items))) made
      ∙ sym (ap (λ zs. take i items ++ map f zs) here)
      ∙ h

  pub replaced_rest : drop i items ≡ drop i first → drop (i + 1) new ≡ drop (i + 1) first
  replaced_rest h = behind ∙ drop_more_same items first i h

  pub replaced_long : length items ≡ length first → length new ≡ length first
  replaced_long h = ap length put ∙ length-set items i y ∙ h

  -- the item is the one that was there at first
  same_first : drop i items ≡ drop i first → i < length first → x ≡ get_or first i x
  same_first h lt' =
      let whole = sym here ∙ h ∙ drop_more first i x lt' in
      ap (head_or x) whole

  pub replaced_test : drop i items ≡ drop i first → i < length first → test x ≡ true → list_all test (take i first) ≡ true → list_all test (take (i + 1) first) ≡ true
  replaced_test h lt' t k =
      ap (list_all test) (take_more first i x lt' ∙ ap (λ z. take i first ++ z ∷ []) (sym (same_first h lt')))
      ∙ list_all-append test (take i first) (x ∷ [])
      ∙ and_from (list_all test (take i first)) (test x && true) k (and_from (test x) true t refl)
