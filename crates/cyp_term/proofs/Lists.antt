-- What is among the elements of a list, what tests of lists tell, and when a fact holds of each element or of some.
use Rattle.std.proofs.Common.{◌≡◌, ◌⊎◌, ◌↔◌, List, [], ◌∷◌, ◌++◌, map, filter, flat_map, Bool, true, false, cond, ◌||◌, Decides, refl, ap, inl, inr}
use Rattle.std.specs.List.{AllByRecursion, list_any, list_all}
use Rattle.std.proofs.lemmas.Bool.{both_ways, and_parts, and_from, or_left, or_right, false≢true}
use Rattle.std.proofs.lemmas.Bool.Decides.{Decides-or}

-- P holds of some element
abbrev pub SomeOf : {X : Type 0} → (X → Type 0) → List X → Type 0
SomeOf P [] = ⊥
SomeOf P (x ∷ xs) = P x ⊎ SomeOf P xs

abbrev pub Among : {X : Type 0} → X → List X → Type 0
Among x xs = SomeOf (λ y. x ≡ y) xs

-- ---- among
module _ {X : Type 0} (P : X → Type 0) where
  pub Every-among : (x : X) (xs : List X) → AllByRecursion P xs → Among x xs → P x
  Every-among x [] h k = absurd k
  Every-among x (y ∷ ys) h (inl e) = rw e h.0
  Every-among x (y ∷ ys) h (inr k) = Every-among x ys h.1 k

  pub Every-from_among : (xs : List X) → ((x : X) → Among x xs → P x) → AllByRecursion P xs
  Every-from_among [] h = tt
  Every-from_among (x ∷ xs) h = (h x (inl refl), Every-from_among xs (λ y k. h y (inr k)))

module _ {X : Type 0} where
  pub Among-left : (x : X) (xs ys : List X) → Among x xs → Among x (xs ++ ys)
  Among-left x [] ys h = absurd h
  Among-left x (y ∷ xs) ys (inl h) = inl h
  Among-left x (y ∷ xs) ys (inr h) = inr (Among-left x xs ys h)

  pub Among-right : (x : X) (xs ys : List X) → Among x ys → Among x (xs ++ ys)
  Among-right x [] ys h = h
  Among-right x (y ∷ xs) ys h = inr (Among-right x xs ys h)

  pub Among-cases : (x : X) (xs ys : List X) → Among x (xs ++ ys) → Among x xs ⊎ Among x ys
  Among-cases x [] ys h = inr h
  Among-cases x (y ∷ xs) ys (inl h) = inl (inl h)
  Among-cases x (y ∷ xs) ys (inr h) = elim (Among-cases x xs ys h) [ inl k ↦ inl (inr k) | inr k ↦ inr k ]

module _ {X Y : Type 0} (f : X → Y) where
  pub Among-map : (x : X) (xs : List X) → Among x xs → Among (f x) (map f xs)
  Among-map x [] h = absurd h
  Among-map x (y ∷ xs) (inl e) = inl (ap f e)
  Among-map x (y ∷ xs) (inr h) = inr (Among-map x xs h)

  pub map_from : (y : Y) (xs : List X) → Among y (map f xs) → (x : X) × Among x xs × (y ≡ f x)
  map_from y [] h = absurd h
  map_from y (x ∷ xs) (inl e) = (x, inl refl, e)
  map_from y (x ∷ xs) (inr h) = let r = map_from y xs h in (r.0, inr r.1, r.2)

module _ {X Y : Type 0} (f : X → List Y) where
  pub flat_in : (y : Y) (x : X) (xs : List X) → Among x xs → Among y (f x) → Among y (flat_map f xs)
  flat_in y x [] h k = absurd h
  flat_in y x (w ∷ xs) (inl e) k = Among-left y (f w) (flat_map f xs) (rw (← e) k)
  flat_in y x (w ∷ xs) (inr h) k = Among-right y (f w) (flat_map f xs) (flat_in y x xs h k)

  pub flat_out : (y : Y) (xs : List X) → Among y (flat_map f xs) → (x : X) × Among x xs × Among y (f x)
  flat_out y [] h = absurd h
  flat_out y (w ∷ xs) h =
      elim (Among-cases y (f w) (flat_map f xs) h)
      [ inl k ↦ (w, inl refl, k) | inr k ↦ (let r = flat_out y xs k in (r.0, inr r.1, r.2)) ]

-- ---- tests of each element and of some element
module _ {X : Type 0} (test : X → Bool) where
  pub each_at : (x : X) (xs : List X) → list_all test xs ≡ true → Among x xs → test x ≡ true
  each_at x [] h k = absurd k
  each_at x (y ∷ xs) h (inl e) = rw e (and_parts (test y) (list_all test xs) h).0
  each_at x (y ∷ xs) h (inr k) = each_at x xs (and_parts (test y) (list_all test xs) h).1 k

  pub each_from : (xs : List X) → ((x : X) → Among x xs → test x ≡ true) → list_all test xs ≡ true
  each_from [] h = refl
  each_from (x ∷ xs) h = and_from (test x) (list_all test xs) (h x (inl refl)) (each_from xs (λ y k. h y (inr k)))

  pub some_from : (x : X) (xs : List X) → Among x xs → test x ≡ true → list_any test xs ≡ true
  some_from x [] h k = absurd h
  some_from x (y ∷ xs) (inl e) k = or_left (test y) (list_any test xs) (rw (← e) k)
  some_from x (y ∷ xs) (inr h) k = or_right (test y) (list_any test xs) (some_from x xs h k)

  some_more : (y : X) (xs : List X) → (t : Bool) → test y ≡ t → (list_any test xs ≡ true → (x : X) × Among x xs × (test x ≡ true)) → (t || list_any test xs) ≡ true → (x : X) × Among x (y ∷ xs) × (test x ≡ true)
  some_more y xs true e ih h = (y, inl refl, e)
  some_more y xs false e ih h = let r = ih h in (r.0, inr r.1, r.2)

  pub some_out : (xs : List X) → list_any test xs ≡ true → (x : X) × Among x xs × (test x ≡ true)
  some_out [] h = absurd (false≢true h)
  some_out (y ∷ xs) h = some_more y xs (test y) refl (some_out xs) h

  -- ---- filters
  filter_test_in : (x y : X) (xs : List X) (t : Bool) → test y ≡ t → (Among x xs → Among x (filter test xs)) → Among x (y ∷ xs) → test x ≡ true → Among x (cond t (y ∷ filter test xs) (filter test xs))
  filter_test_in x y xs true e ih (inl h) k = inl h
  filter_test_in x y xs true e ih (inr h) k = inr (ih h)
  filter_test_in x y xs false e ih (inl h) k = absurd (both_ways (test y) e (rw h at k))
  filter_test_in x y xs false e ih (inr h) k = ih h

  pub filter_in : (x : X) (xs : List X) → Among x xs → test x ≡ true → Among x (filter test xs)
  filter_in x [] h k = absurd h
  filter_in x (y ∷ xs) h k = filter_test_in x y xs (test y) refl (λ i. filter_in x xs i k) h k

  filter_test_out : (x y : X) (xs : List X) (t : Bool) → test y ≡ t → (Among x (filter test xs) → Among x xs × (test x ≡ true)) → Among x (cond t (y ∷ filter test xs) (filter test xs)) → Among x (y ∷ xs) × (test x ≡ true)
  filter_test_out x y xs true e ih (inl h) = (inl h, rw h e)
  filter_test_out x y xs true e ih (inr h) = let r = ih h in (inr r.0, r.1)
  filter_test_out x y xs false e ih h = let r = ih h in (inr r.0, r.1)

  pub filter_out : (x : X) (xs : List X) → Among x (filter test xs) → Among x xs × (test x ≡ true)
  filter_out x [] h = absurd h
  filter_out x (y ∷ xs) h = filter_test_out x y xs (test y) refl (filter_out x xs) h

-- ---- facts of each element and of some element
module _ {X : Type 0} (P : X → Type 0) where
  pub Every-append : (xs ys : List X) → AllByRecursion P xs → AllByRecursion P ys → AllByRecursion P (xs ++ ys)
  Every-append [] ys h k = k
  Every-append (x ∷ xs) ys h k = (h.0, Every-append xs ys h.1 k)

  pub Every-left : (xs ys : List X) → AllByRecursion P (xs ++ ys) → AllByRecursion P xs
  Every-left [] ys h = tt
  Every-left (x ∷ xs) ys h = (h.0, Every-left xs ys h.1)

  pub Every-right : (xs ys : List X) → AllByRecursion P (xs ++ ys) → AllByRecursion P ys
  Every-right [] ys h = h
  Every-right (x ∷ xs) ys h = Every-right xs ys h.1

  pub SomeOf-left : (xs ys : List X) → SomeOf P xs → SomeOf P (xs ++ ys)
  SomeOf-left [] ys h = absurd h
  SomeOf-left (x ∷ xs) ys (inl h) = inl h
  SomeOf-left (x ∷ xs) ys (inr h) = inr (SomeOf-left xs ys h)

  pub SomeOf-right : (xs ys : List X) → SomeOf P ys → SomeOf P (xs ++ ys)
  SomeOf-right [] ys h = h
  SomeOf-right (x ∷ xs) ys h = inr (SomeOf-right xs ys h)

  pub SomeOf-cases : (xs ys : List X) → SomeOf P (xs ++ ys) → SomeOf P xs ⊎ SomeOf P ys
  SomeOf-cases [] ys h = inr h
  SomeOf-cases (x ∷ xs) ys (inl h) = inl (inl h)
  SomeOf-cases (x ∷ xs) ys (inr h) = elim (SomeOf-cases xs ys h) [ inl k ↦ inl (inr k) | inr k ↦ inr k ]

  pub Decides-some : (test : X → Bool) → ((x : X) → Decides (test x) (P x)) → (xs : List X) → Decides (list_any test xs) (SomeOf P xs)
  Decides-some test h [] = (λ e. absurd (false≢true e), λ p. absurd p)
  Decides-some test h (x ∷ xs) = Decides-or _ _ (h x) (Decides-some test h xs)

module _ {X : Type 0} (P Q : X → Type 0) (weaker : (x : X) → P x → Q x) where
  pub SomeOf-weaker : (xs : List X) → SomeOf P xs → SomeOf Q xs
  SomeOf-weaker [] h = absurd h
  SomeOf-weaker (x ∷ xs) (inl h) = inl (weaker x h)
  SomeOf-weaker (x ∷ xs) (inr h) = inr (SomeOf-weaker xs h)

-- where one value serves some element, some element has such a value
module _ {M X : Type 0} (P : M → X → Type 0) where
  pub SomeOf-out : (xs : List X) → SomeOf (λ x. (m : M) × P m x) xs → (m : M) × SomeOf (P m) xs
  SomeOf-out [] h = absurd h
  SomeOf-out (x ∷ xs) (inl h) = (h.0, inl h.1)
  SomeOf-out (x ∷ xs) (inr h) = let r = SomeOf-out xs h in (r.0, inr r.1)

-- ---- more on some element
pub some_among : {X : Type 0} (P : X → Type 0) (x : X) (xs : List X) → Among x xs → P x → SomeOf P xs
some_among P x [] h k = absurd h
some_among P x (y ∷ xs) (inl e) k = inl (rw (← e) k)
some_among P x (y ∷ xs) (inr h) k = inr (some_among P x xs h k)

pub some_holds : {X : Type 0} {P : X → Type 0} (test : X → Bool) (xs : List X) → ((x : X) → P x → test x ≡ true) → SomeOf P xs → list_any test xs ≡ true
some_holds test [] h k = absurd k
some_holds test (x ∷ xs) h (inl k) = or_left (test x) (list_any test xs) (h x k)
some_holds test (x ∷ xs) h (inr k) = or_right (test x) (list_any test xs) (some_holds test xs h k)

pub SomeOf-map : {X Y : Type 0} (P : X → Type 0) (Q : Y → Type 0) (g : X → Y) → ((x : X) → P x → Q (g x)) → (xs : List X) → SomeOf P xs → SomeOf Q (map g xs)
SomeOf-map P Q g h [] k = absurd k
SomeOf-map P Q g h (x ∷ xs) (inl k) = inl (h x k)
SomeOf-map P Q g h (x ∷ xs) (inr k) = inr (SomeOf-map P Q g h xs k)

-- ---- facts of the elements that pass a test, where the others have them anyhow
module _ {X : Type 0} (test : X → Bool) (P Q : X → Type 0) (alike : (x : X) → test x ≡ true → P x ↔ Q x) (other : (x : X) → test x ≡ false → Q x) where
  unfiltered : (x : X) (xs : List X) (t : Bool) → test x ≡ t → (AllByRecursion P (filter test xs) ↔ AllByRecursion Q xs) → AllByRecursion P (cond t (x ∷ filter test xs) (filter test xs)) ↔ AllByRecursion Q (x ∷ xs)
  unfiltered x xs true e ih = (λ h. ((alike x e).0 h.0, ih.0 h.1), λ h. ((alike x e).1 h.0, ih.1 h.1))
  unfiltered x xs false e ih = (λ h. (other x e, ih.0 h), λ h. ih.1 h.1)

  pub Every-filter : (xs : List X) → AllByRecursion P (filter test xs) ↔ AllByRecursion Q xs
  Every-filter [] = (λ h. tt, λ h. tt)
  Every-filter (x ∷ xs) = unfiltered x xs (test x) refl (Every-filter xs)
