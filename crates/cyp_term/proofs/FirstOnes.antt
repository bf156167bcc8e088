-- The items of a list that stand there for the first time are the list without repeats.
use Rattle.std.proofs.Common.{◌≡◌, ◌∙◌, ◌||◌, ◌≤◌, ◌<◌, ◌+◌, [], ◌∷◌, ◌++◌, Bool, Decides, List, ℕ, arith, false, get_or, length, suc, take, drop, true, not, refl, ap, sym}
use Rattle.std.specs.List.{items_where_true, list_any}
use Rattle.std.proofs.lemmas.Bool.{cond-false, cond-true}
use Rattle.std.proofs.lemmas.Bool.Decides.{same_from_decides}
use Rattle.std.proofs.lemmas.List.{append_assoc, append-nil, length-append, take-append-drop, take_more}
use Rattle.std.proofs.lemmas.List.Folds.{list_any-append}
use Rattle.cyp_term.proofs.Repeats.{with_all_new_append}
use Rattle.cyp_term.specs.Once.{IsOnce, are_new}
use Rattle.cyp_term.specs.Terms.{with_all_new, with_new, without_repeats}

or_false : (b : Bool) → (b || false) ≡ b
or_false true = refl
or_false false = refl

module _ {A : Type 0} (eq : A → A → Bool) (decides : (x y : A) → Decides (eq x y) (x ≡ y)) where
  -- the two lists have the same items
  abbrev SameItems : List A → List A → Type 0
  SameItems xs ys = (q : A) → list_any (eq q) xs ≡ list_any (eq q) ys

  pub one_more : (xs : List A) (x q : A) → list_any (eq q) (xs ++ x ∷ []) ≡ (list_any (eq q) xs || eq q x)
  one_more xs x q = list_any-append (eq q) xs (x ∷ []) ∙ ap (λ b. list_any (eq q) xs || b) (or_false (eq q x))

  -- an item that stands there already
  known : (xs : List A) (x q : A) (b : Bool) → eq q x ≡ b → list_any (eq x) xs ≡ true → (list_any (eq q) xs || b) ≡ list_any (eq q) xs
  known xs x q false e there = or_false (list_any (eq q) xs)
  known xs x q true e there =
      let is : q ≡ x = (decides q x).0 e in
      let here : list_any (eq q) xs ≡ true = ap (λ y. list_any (eq y) xs) is ∙ there in
      ap (λ b. b || true) here ∙ sym here

  -- what is added to the items that are kept
  abbrev Adds : List A → List A → List A → Type 0
  Adds kept before xs = with_all_new eq kept xs ≡ kept ++ items_where_true (are_new eq before xs) xs

  module _ (kept before : List A) (x : A) (xs : List A) (same : SameItems kept before) where
    abbrev more : List A
    more = before ++ x ∷ []

    one_on : (b : Bool) → list_any (eq x) before ≡ b → (SameItems kept more → Adds kept more xs) → (SameItems (kept ++ x ∷ []) more → Adds (kept ++ x ∷ []) more xs)
        → with_all_new eq (with_new eq kept x) xs ≡ kept ++ items_where_true (not b ∷ are_new eq more xs) (x ∷ xs)
    one_on true e stays comes =
        ap (λ ks. with_all_new eq ks xs) (cond-true (list_any (eq x) kept) kept (kept ++ x ∷ []) (same x ∙ e))
        ∙ stays (λ q. same q ∙ sym (one_more before x q ∙ known before x q (eq q x) refl e))
    one_on false e stays comes =
        ap (λ ks. with_all_new eq ks xs) (cond-false (list_any (eq x) kept) kept (kept ++ x ∷ []) (same x ∙ e))
        ∙ comes (λ q. one_more kept x q ∙ ap (λ b. b || eq q x) (same q) ∙ sym (one_more before x q))
        ∙ append_assoc kept (x ∷ []) (items_where_true (are_new eq more xs) xs)

  new_ones : (kept before xs : List A) → SameItems kept before → Adds kept before xs
  new_ones kept before [] same = sym (append-nil kept)
  new_ones kept before (x ∷ xs) same =
      one_on kept before x xs same (list_any (eq x) before) refl (λ s. new_ones kept (before ++ x ∷ []) xs s) (λ s. new_ones (kept ++ x ∷ []) (before ++ x ∷ []) xs s)

  pub first_ones : (xs : List A) → items_where_true (are_new eq [] xs) xs ≡ without_repeats eq xs
  first_ones xs = sym (new_ones [] [] xs (λ q. refl))

  -- one test that decides equality is each of them
  pub once_by_each : (xs once : List A) → once ≡ without_repeats eq xs → IsOnce xs once
  once_by_each xs once is other decides' =
      let same : eq ≡ other = λ i x y. same_from_decides (eq x y) (other x y) (decides x y) (decides' x y) i in
      is ∙ ap (λ (f : A → A → Bool). without_repeats f xs) same

module _ {A : Type 0} (eq : A → A → Bool) (xs : List A) (i : ℕ) (x : A) where
  next : i < length xs → x ≡ get_or xs i x → take (i + 1) xs ≡ take i xs ++ x ∷ []
  next lt is = take_more xs i x lt ∙ ap (λ y. take i xs ++ y ∷ []) (sym is)

  -- the next item isn't among those before it
  pub differ_more : without_repeats eq (take i xs) ≡ take i xs → i < length xs → x ≡ get_or xs i x → list_any (eq x) (take i xs) ≡ false → without_repeats eq (take (i + 1) xs) ≡ take (i + 1) xs
  differ_more h lt is new =
      ap (without_repeats eq) (next lt is) ∙ with_all_new_append eq [] (take i xs) (x ∷ []) ∙ ap (λ ys. with_new eq ys x) h
      ∙ cond-false (list_any (eq x) (take i xs)) (take i xs) (take i xs ++ x ∷ []) new ∙ sym (next lt is)

-- where no item is left, none is chosen
pub all_chosen : {X : Type 0} (bs : List Bool) (xs made whole : List X) → length xs ≡ 0 → made ++ items_where_true bs xs ≡ whole → made ≡ whole
all_chosen [] [] made whole e same = sym (append-nil made) ∙ same
all_chosen (b ∷ bs) [] made whole e same = sym (append-nil made) ∙ same
all_chosen bs (x ∷ xs) made whole e same = cc

module _ {A : Type 0} (eq : A → A → Bool) where
  pub length-are_new : (before xs : List A) → length (are_new eq before xs) ≡ length xs
  length-are_new before [] = refl
  length-are_new before (x ∷ xs) = ap suc (length-are_new (before ++ x ∷ []) xs)

  module _ (xs seen : List A) (news answers : List Bool) (is : seen ≡ xs) (told : news ≡ are_new eq [] seen) (same : answers ≡ news) where
    pub all_told : answers ≡ are_new eq [] xs
    all_told = same ∙ told ∙ ap (are_new eq []) is

    pub as_many_told : length xs ≤ length answers
    as_many_told = let e : length answers ≡ length xs = ap length all_told ∙ length-are_new [] xs in omega (arith, e)

    -- the items that are told to be new are the list without repeats
    pub ones_told : ((x y : A) → Decides (eq x y) (x ≡ y)) → (once : List A) → once ≡ items_where_true answers xs → IsOnce xs once
    ones_told decides once chosen = once_by_each eq decides xs once (chosen ∙ ap (λ bs. items_where_true bs xs) all_told ∙ first_ones eq decides xs)

module _ {A : Type 0} (eq : A → A → Bool) where
  shorter_by : (xs : List A) (x : A) (b : Bool) → list_any (eq x) xs ≡ b → length (with_new eq xs x) ≤ length xs + 1
  shorter_by xs x true e = let same : length (with_new eq xs x) ≡ length xs = ap length (cond-true (list_any (eq x) xs) xs (xs ++ x ∷ []) e) in omega (arith, same)
  shorter_by xs x false e =
      let same : length (with_new eq xs x) ≡ length xs + 1 = ap length (cond-false (list_any (eq x) xs) xs (xs ++ x ∷ []) e) ∙ length-append xs (x ∷ []) in omega (arith, same)

  -- a list that others are added to grows by one each at most
  no_longer : (xs ys : List A) → length (with_all_new eq xs ys) ≤ length xs + length ys
  no_longer xs [] = omega arith
  no_longer xs (y ∷ ys) =
      let one : length (with_new eq xs y) ≤ length xs + 1 = shorter_by xs y (list_any (eq y) xs) refl in
      let more : length (with_all_new eq (with_new eq xs y) ys) ≤ length (with_new eq xs y) + length ys = no_longer (with_new eq xs y) ys in
      omega (arith, one, more)

module _ {A : Type 0} (eq : A → A → Bool) (xs : List A) (i : ℕ) (x : A) where
  -- where an item stands among those before it, the list without repeats is another
  pub repeat_shows : without_repeats eq (take i xs) ≡ take i xs → i < length xs → x ≡ get_or xs i x → list_any (eq x) (take i xs) ≡ true → xs ≡ without_repeats eq xs → ⊥
  repeat_shows h lt is there whole =
      let start : List A = take i xs in
      let rest : List A = drop (i + 1) xs in
      let split : xs ≡ (start ++ x ∷ []) ++ rest = sym (take-append-drop (i + 1) xs) ∙ ap (λ ys. ys ++ rest) (next eq xs i x lt is) in
      let short : without_repeats eq xs ≡ with_all_new eq start rest =
      ap (without_repeats eq) split ∙ with_all_new_append eq [] (start ++ x ∷ []) rest
      ∙ ap (λ ys. with_all_new eq ys rest) (with_all_new_append eq [] start (x ∷ []) ∙ ap (λ ys. with_new eq ys x) h ∙ cond-true (list_any (eq x) start) start (start ++ x ∷ []) there) in
      let most : length (with_all_new eq start rest) ≤ length start + length rest = no_longer eq start rest in
      let same : length xs ≡ length (with_all_new eq start rest) = ap length (whole ∙ short) in
      let all : length xs ≡ length start + 1 + length rest =
      ap length split ∙ length-append (start ++ x ∷ []) rest ∙ ap (λ n. n + length rest) (length-append start (x ∷ [])) in
      omega (arith, most, same, all)
