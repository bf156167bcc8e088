-- In a numbered tree a number has one place, and a live leaf stands at the place of its number.
use Rattle.std.proofs.Common.{◌≡◌, refl, sym, ◌∙◌, ap, ℕ, zero, suc, ◌+◌, ◌≤◌, ◌↔◌, inl, inr, List, [], ◌∷◌, ◌++◌, map, arith}
use Rattle.std.specs.List.{Contains}
use Rattle.std.proofs.lemmas.List.Elements.{Contains-append_left, Contains-append_right, Contains-append_cases}
use Rattle.cyp_tree.specs.declared.mark.Mark.{Mark}
use Rattle.cyp_tree.specs.declared.mark.Mark.TheVariants.{Undecided, Solved, Failed}
use Rattle.cyp_tree.specs.Trees.{Tree, Leaf, Grown, Alts, NoAlt, AltThen, Parts, NoPart, PartThen}
use Rattle.cyp_tree.specs.Statuses.{alts_status, parts_status}
use Rattle.cyp_tree.specs.Live.{Waiting, where_open, unless_failed, live_leaves, live_alts, live_parts}
use Rattle.cyp_tree.specs.Numbers.{one_where, occurrences, alts_occurrences, parts_occurrences, IsNumbered}
use Rattle.cyp_tree.specs.Places.{Placed, placed, alts_placed, parts_placed, HasPlace, IsLive}
use Rattle.cyp_tree.proofs.Retiring.{one_same}
use Rattle.cyp_tree.proofs.Singles.{nothing_in, only_one}
use Rattle.cyp_tree.proofs.LiveIn.{live_listed, listed_live}

-- ---- how often a number is placed

abbrev placings : {N : Type 0} → ℕ → List (Placed N) → ℕ
placings k [] = 0
placings k (p ∷ ps) = one_where p.number k + placings k ps

placings-append : {N : Type 0} (k : ℕ) (xs ys : List (Placed N)) → placings k (xs ++ ys) ≡ placings k xs + placings k ys
placings-append k [] ys = let same : placings k ys ≡ 0 + placings k ys = omega arith in same
placings-append k (x ∷ xs) ys = omega (arith, placings-append k xs ys)

mutual
  placings-tree : {R N : Type 0} (k c : ℕ) (t : Tree R N) → placings k (placed c t) ≡ occurrences k t
  placings-tree k c (Leaf j n) = let same : one_where j k + 0 ≡ one_where j k = omega arith in same
  placings-tree k c (Grown j n as') = ap (λ (m : ℕ). one_where j k + m) (placings-alts k c as')

  placings-alts : {R N : Type 0} (k c : ℕ) (as' : Alts R N) → placings k (alts_placed c as') ≡ alts_occurrences k as'
  placings-alts k c NoAlt = refl
  placings-alts k c (AltThen r d ps as') =
      placings-append k (parts_placed (c + d) ps) (alts_placed c as') ∙ (λ i. placings-parts k (c + d) ps i + placings-alts k c as' i)

  placings-parts : {R N : Type 0} (k c : ℕ) (ps : Parts R N) → placings k (parts_placed c ps) ≡ parts_occurrences k ps
  placings-parts k c NoPart = refl
  placings-parts k c (PartThen t ps) = placings-append k (placed c t) (parts_placed c ps) ∙ (λ i. placings-tree k c t i + placings-parts k c ps i)

there : {N : Type 0} (k : ℕ) (xs : List (Placed N)) (a : Placed N) → Contains xs a → a.number ≡ k → 1 ≤ placings k xs
there k [] a (i, h, e) f = absurd (omega arith)
there k (x ∷ xs) a (zero, h, e) f =
    let one : one_where x.number k ≡ 1 = ap (λ (m : ℕ). one_where m k) (ap (λ (p : Placed _). p.number) e ∙ f) ∙ one_same k in omega arith
there k (x ∷ xs) a (suc i, h, e) f = omega (arith, there k xs a (i, omega arith, e) f)

only_place : {N : Type 0} (k : ℕ) (xs : List (Placed N)) (a b : Placed N) → placings k xs ≤ 1 → Contains xs a → Contains xs b → a.number ≡ k → b.number ≡ k → a ≡ b
only_place k [] a b l (i, h, e) g u v = absurd (omega arith)
only_place k (x ∷ xs) a b l (zero, h, e) (zero, m, f) u v = sym e ∙ f
only_place k (x ∷ xs) a b l (zero, h, e) (suc j, m, f) u v =
    let one : one_where x.number k ≡ 1 = ap (λ (m : ℕ). one_where m k) (ap (λ (p : Placed _). p.number) e ∙ u) ∙ one_same k in
    absurd (omega (arith, there k xs b (j, omega arith, f) v))
only_place k (x ∷ xs) a b l (suc i, h, e) (zero, m, f) u v =
    let one : one_where x.number k ≡ 1 = ap (λ (m : ℕ). one_where m k) (ap (λ (p : Placed _). p.number) f ∙ v) ∙ one_same k in
    absurd (omega (arith, there k xs a (i, omega arith, e) u))
only_place k (x ∷ xs) a b l (suc i, h, e) (suc j, m, f) u v =
    only_place k xs a b (omega arith) (i, omega arith, e) (j, omega arith, f) u v

pub one_place : {R N : Type 0} (t : Tree R N) (k c d : ℕ) (n o : N) → IsNumbered t → HasPlace t k c n → HasPlace t k d o → (c ≡ d) × (n ≡ o)
one_place t k c d n o numbered h g =
    let at : Placed _ = record { number = k; cost = c; node = n } in
    let to : Placed _ = record { number = k; cost = d; node = o } in
    let same : at ≡ to = only_place k (placed 0 t) at to (let few : placings k (placed 0 t) ≡ occurrences k t = placings-tree k 0 t in omega (arith, numbered.distinct k)) h g refl refl in
    (ap (λ (p : Placed _). p.cost) same, ap (λ (p : Placed _). p.node) same)

-- ---- where live leaves stand

-- a waiting leaf with a place among these, whose cost and the leaf's weight are its priority
abbrev StandsAt : {N : Type 0} → (N → ℕ) → List (Placed N) → Waiting N → Type 0
StandsAt weight ps w = (c : ℕ) × Contains ps (record { number = w.number; cost = c; node = w.node }) × (w.priority ≡ c + weight w.node)

open_in : {N : Type 0} (s : Mark) (xs : List (Waiting N)) (w : Waiting N) → Contains (where_open s xs) w → Contains xs w
open_in Undecided xs w h = h
open_in Solved xs w h = absurd (nothing_in w h)
open_in Failed xs w h = absurd (nothing_in w h)

unfailed_in : {N : Type 0} (s : Mark) (xs : List (Waiting N)) (w : Waiting N) → Contains (unless_failed s xs) w → Contains xs w
unfailed_in Undecided xs w h = h
unfailed_in Solved xs w h = h
unfailed_in Failed xs w h = absurd (nothing_in w h)

module _ {N : Type 0} (weight : N → ℕ) where
  later : (p : Placed N) (ps : List (Placed N)) (w : Waiting N) → StandsAt weight ps w → StandsAt weight (p ∷ ps) w
  later p ps w (c, (i, h, e), f) = (c, (suc i, omega arith, e), f)

  left : (ps qs : List (Placed N)) (w : Waiting N) → StandsAt weight ps w → StandsAt weight (ps ++ qs) w
  left ps qs w (c, h, f) = (c, Contains-append_left ps qs _ h, f)

  right : (ps qs : List (Placed N)) (w : Waiting N) → StandsAt weight qs w → StandsAt weight (ps ++ qs) w
  right ps qs w (c, h, f) = (c, Contains-append_right ps qs _ h, f)

  leaf_stands : (c k : ℕ) (n : N) (w : Waiting N) → record { priority = c + weight n; number = k; node = n } ≡ w → StandsAt weight (record { number = k; cost = c; node = n } ∷ []) w
  leaf_stands c k n w same =
      (c, (0, omega arith, (λ i. record { number = (same i).number; cost = c; node = (same i).node })), sym (ap (λ (x : Waiting N). x.priority) same) ∙ ap (λ (x : Waiting N). c + weight x.node) same)

module _ {R N : Type 0} (weight : N → ℕ) where
  mutual
    pub live_stands : (c : ℕ) (t : Tree R N) (w : Waiting N) → Contains (live_leaves weight c t) w → StandsAt weight (placed c t) w
    live_stands c (Leaf k n) w h = leaf_stands weight c k n w (only_one (record { priority = c + weight n; number = k; node = n }) w h)
    live_stands c (Grown k n as') w h = later weight _ (alts_placed c as') w (alts_stand c as' w (open_in (alts_status as') (live_alts weight c as') w h))

    alts_stand : (c : ℕ) (as' : Alts R N) (w : Waiting N) → Contains (live_alts weight c as') w → StandsAt weight (alts_placed c as') w
    alts_stand c NoAlt w h = absurd (nothing_in w h)
    alts_stand c (AltThen r d ps as') w h =
        elim (Contains-append_cases (unless_failed (parts_status ps) (live_parts weight (c + d) ps)) (live_alts weight c as') w h) [
          | inl z ↦ left weight (parts_placed (c + d) ps) (alts_placed c as') w (parts_stand (c + d) ps w (unfailed_in (parts_status ps) (live_parts weight (c + d) ps) w z))
          | inr z ↦ right weight (parts_placed (c + d) ps) (alts_placed c as') w (alts_stand c as' w z)
        ]

    parts_stand : (c : ℕ) (ps : Parts R N) (w : Waiting N) → Contains (live_parts weight c ps) w → StandsAt weight (parts_placed c ps) w
    parts_stand c NoPart w h = absurd (nothing_in w h)
    parts_stand c (PartThen t ps) w h = elim (Contains-append_cases (live_leaves weight c t) (live_parts weight c ps) w h) [
      | inl z ↦ left weight (placed c t) (parts_placed c ps) w (live_stands c t w z)
      | inr z ↦ right weight (placed c t) (parts_placed c ps) w (parts_stand c ps w z)
    ]

  -- live leaves have the same numbers, whatever the weights
  pub live_for : (t : Tree R N) (k : ℕ) → IsLive t k ↔ Contains (map (λ w. w.number) (live_leaves weight 0 t)) k
  live_for t k = (λ h. live_listed weight k 0 t (listed_live (λ _. 0) k 0 t h), λ h. live_listed (λ _. 0) k 0 t (listed_live weight k 0 t h))
