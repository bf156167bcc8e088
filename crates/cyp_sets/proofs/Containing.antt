-- What a list contains, by recursion and by places.
use Rattle.std.proofs.Common.{◌≡◌, ℕ, zero, suc, ◌<◌, Bool, true, List, [], ◌∷◌, length, get_or, filter, sym, ◌∙◌, zero-add, inl, inr, arith}
use Rattle.std.proofs.lemmas.List.FromFn.{get_or-range_with_len, length-range_with_len}
use Rattle.std.proofs.lemmas.List.Elements.{All-contains, Contains-get_or}
use Rattle.std.specs.List.{All, Contains, range_with_len}
use Rattle.cyp_term.proofs.Lists.{Among, filter_in, filter_out}

module _ {X : Type 0} where
  pub Among-from_contains : (x : X) (xs : List X) → Contains xs x → Among x xs
  Among-from_contains x [] (k, lt, e) = absurd (omega arith)
  Among-from_contains x (y ∷ ys) (zero, lt, e) = inl (sym e)
  Among-from_contains x (y ∷ ys) (suc k, lt, e) = inr (Among-from_contains x ys (k, omega arith, e))

  pub Contains-from_among : (x : X) (xs : List X) → Among x xs → Contains xs x
  Contains-from_among x [] h = absurd h
  Contains-from_among x (y ∷ ys) (inl e) = (0, omega arith, sym e)
  Contains-from_among x (y ∷ ys) (inr h) = let r = Contains-from_among x ys h in (suc r.0, omega arith, r.2)

  pub Contains-filter_in : (test : X → Bool) (x : X) (xs : List X) → Contains xs x → test x ≡ true → Contains (filter test xs) x
  Contains-filter_in test x xs h e = Contains-from_among x (filter test xs) (filter_in test x xs (Among-from_contains x xs h) e)

  pub Contains-filter_out : (test : X → Bool) (x : X) (xs : List X) → Contains (filter test xs) x → Contains xs x × (test x ≡ true)
  Contains-filter_out test x xs h = let r = filter_out test x xs (Among-from_contains x (filter test xs) h) in (Contains-from_among x xs r.0, r.1)

pub Contains-range : (n i : ℕ) → i < n → Contains (range_with_len 0 n) i
Contains-range n i lt = (i, omega (arith, length-range_with_len 0 n), get_or-range_with_len 0 n i i lt ∙ zero-add i)

pub none_filtered : {X : Type 0} (p : X → Bool) (x : X) (xs : List X) → Contains xs x → length (filter p xs) ≡ 0 → p x ≡ true → ⊥
none_filtered p x xs h z e = let in_filter : Contains (filter p xs) x = Contains-filter_in p x xs h e in omega (arith, z, in_filter.1)

pub Among-range : (n i : ℕ) → i < n → Among i (range_with_len 0 n)
Among-range n i lt = Among-from_contains i (range_with_len 0 n) (Contains-range n i lt)

pub range_lt : (n i : ℕ) → Among i (range_with_len 0 n) → i < n
range_lt n i h =
    let c : Contains (range_with_len 0 n) i = Contains-from_among i (range_with_len 0 n) h in
    let k : c.0 < n = omega (arith, c.1, length-range_with_len 0 n) in
    omega (arith, c.2, get_or-range_with_len 0 n c.0 i k)

module _ {X : Type 0} (P : X → Type 0) where
  pub All-among : (xs : List X) (x : X) → All P xs → Among x xs → P x
  All-among xs x h i = All-contains P xs x h (Contains-from_among x xs i)

  pub All-from_among : (xs : List X) → ((x : X) → Among x xs → P x) → All P xs
  All-from_among xs h = λ k d lt. h (get_or xs k d) (Among-from_contains (get_or xs k d) xs (Contains-get_or xs k d lt))
