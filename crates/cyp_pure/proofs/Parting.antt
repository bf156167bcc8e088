-- A list that is parted by a test, one element after another.
use Rattle.std.proofs.Common.{◌≡◌, ℕ, ◌+◌, ◌<◌, Bool, true, false, List, [], ◌∷◌, ◌++◌, cond, filter, get_or, length, take, sym, ap, ap₂, ◌∙◌, append-nil}
use Rattle.std.specs.List.{All}
use Rattle.std.proofs.lemmas.List.Elements.{All-more, filter_more}
use Rattle.std.proofs.Common.{subst}

module _ {X : Type 0} (test : X → Bool) where
  -- an element that passes is kept
  pub filter_kept : (xs now new : List X) (i : ℕ) (x y : X) → now ≡ filter test (take i xs) → i < length xs → x ≡ get_or xs i x → test x ≡ true → y ≡ x → new ≡ now ++ y ∷ [] → new ≡ filter test (take (i + 1) xs)
  filter_kept xs now new i x y e h is pass same f =
      f ∙ ap₂ (λ zs z. zs ++ z ∷ []) e (same ∙ is) ∙ ap (λ b. filter test (take i xs) ++ cond b (get_or xs i x ∷ []) []) (sym pass ∙ ap test is) ∙ sym (filter_more test xs i x h)

  -- an element that doesn't pass is left out
  pub filter_left : (xs now : List X) (i : ℕ) (x : X) → now ≡ filter test (take i xs) → i < length xs → x ≡ get_or xs i x → test x ≡ false → now ≡ filter test (take (i + 1) xs)
  filter_left xs now i x e h is fail =
      e ∙ sym (append-nil (filter test (take i xs))) ∙ ap (λ b. filter test (take i xs) ++ cond b (get_or xs i x ∷ []) []) (sym fail ∙ ap test is) ∙ sym (filter_more test xs i x h)

-- a fact holds of one element more
pub all_more : {X : Type 0} (P : X → Type 0) (xs : List X) (i : ℕ) (x : X) → All P (take i xs) → i < length xs → x ≡ get_or xs i x → P x → All P (take (i + 1) xs)
all_more P xs i x a h is p = All-more P xs i x h a (subst P is p)
