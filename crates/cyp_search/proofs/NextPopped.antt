-- The first entry of a live leaf is that of the next leaf.
use Rattle.std.proofs.Common.{◌≡◌, refl, sym, ◌∙◌, ap, subst, ℕ, ◌+◌, ◌<◌, inl, inr, Bool, true, false, cond, List, [], ◌∷◌, Option, Some, None, IsSome, arith}
use Rattle.std.specs.List.{Contains}
use Rattle.std.proofs.lemmas.Bool.{cases_lt}
use Rattle.cyp_tree.specs.declared.mark.Mark.TheVariants.{Undecided}
use Rattle.cyp_tree.specs.Trees.{Tree}
use Rattle.cyp_tree.specs.Statuses.{status}
use Rattle.cyp_tree.specs.Sizes.{size}
use Rattle.cyp_tree.specs.Live.{Waiting, live_leaves, comes_first, first_of, least_waiting, next_leaf}
use Rattle.cyp_tree.specs.Numbers.{IsNumbered}
use Rattle.cyp_tree.specs.Places.{HasPlace, IsLive}
use Rattle.cyp_tree.proofs.Counting.{leaves-le}
use Rattle.cyp_tree.proofs.HasLive.{has_next}
use Rattle.cyp_tree.proofs.Leaves.{live_is_one_leaf}
use Rattle.cyp_tree.proofs.LiveIn.{listed_live, live_is_open}
use Rattle.cyp_tree.proofs.OnePlace.{one_place, live_stands, live_for}
use Rattle.cyp_tree.proofs.Singles.{nothing_in}
use Rattle.cyp_queue.specs.declared.entry.Entry.{Entry}
use Rattle.cyp_queue.specs.Entries.{is_before, PopsAlive}
use Rattle.cyp_search.proofs.EntryOrder.{neither_before, before_not, never_before}
use Rattle.cyp_search.specs.Frontiers.{entry_of, IsFrontier}
use Rattle.cyp_search.proofs.EntryLists.{first_there, later_there, first_or_later, mapped_from, mapped_there, not_before_itself, Popped, popped, none_popped}

-- ---- the least of the waiting leaves

-- it is one of them and none comes before it, or there are none
abbrev IsLeast : {N : Type 0} → List (Waiting N) → Option (Waiting N) → Type 0
IsLeast {N} ws None = (v : Waiting N) → Contains ws v → ⊥
IsLeast {N} ws (Some m) = Contains ws m × ((v : Waiting N) → Contains ws v → comes_first v m ≡ false)

module _ {N : Type 0} where
  least_by : (w m : Waiting N) (ws : List (Waiting N)) (b : Bool) → comes_first m w ≡ b → Contains ws m → ((v : Waiting N) → Contains ws v → comes_first v m ≡ false)
      → IsLeast (w ∷ ws) (Some (cond b m w))
  least_by w m ws true e t f = (
    later_there w m ws t,
    λ v c. elim (first_or_later w v ws c) [
      | inl s ↦ subst (λ (z : Waiting N). comes_first z m ≡ false) s (before_not (entry_of m) (entry_of w) e)
      | inr l ↦ f v l
    ],
  )
  least_by w m ws false e t f = (
    first_there w ws,
    λ v c. elim (first_or_later w v ws c) [
      | inl s ↦ subst (λ (z : Waiting N). comes_first z w ≡ false) s (not_before_itself (entry_of w))
      | inr l ↦ never_before (entry_of w) (entry_of m) (entry_of v) e (f v l)
    ],
  )

  least_step : (w : Waiting N) (ws : List (Waiting N)) (o : Option (Waiting N)) → IsLeast ws o → IsLeast (w ∷ ws) (first_of (Some w) o)
  least_step w ws None h = (
    first_there w ws,
    λ v c. elim (first_or_later w v ws c) [
      | inl s ↦ subst (λ (z : Waiting N). comes_first z w ≡ false) s (not_before_itself (entry_of w))
      | inr l ↦ absurd (h v l)
    ],
  )
  least_step w ws (Some m) (t, f) = least_by w m ws (comes_first m w) refl t f

  is_least : (ws : List (Waiting N)) → IsLeast ws (least_waiting ws)
  is_least [] = λ v c. nothing_in v c
  is_least (w ∷ ws) = least_step w ws (least_waiting ws) (is_least ws)

-- ---- live leaves of a numbered tree

module _ {R N : Type 0} (weight : N → ℕ) (t : Tree R N) where
  abbrev live : List (Waiting N)
  live = live_leaves weight 0 t

  -- the place of a live leaf
  abbrev Stands : Waiting N → Type 0
  Stands w = (c : ℕ) × HasPlace t w.number c w.node × (w.priority ≡ c + weight w.node)

  same_leaf : IsNumbered t → (v w : Waiting N) → Contains live v → Contains live w → v.number ≡ w.number → v ≡ w
  same_leaf is v w c d e =
      let a : Stands v = live_stands weight 0 t v c in
      let b : Stands w = live_stands weight 0 t w d in
      let there : HasPlace t w.number a.0 v.node = subst (λ (k : ℕ). HasPlace t k a.0 v.node) e a.1 in
      let one : (a.0 ≡ b.0) × (v.node ≡ w.node) = one_place t w.number a.0 b.0 v.node w.node is there b.1 in
      let first : v.priority ≡ w.priority = a.2 ∙ (λ i. one.0 i + weight (one.1 i)) ∙ sym b.2 in
      (λ i. record { priority = first i; number = e i; node = one.1 i })

  pub live_below : IsNumbered t → (w : Waiting N) → Contains live w → w.number < size t
  live_below is w c = elim (cases_lt w.number (size t)) [
    | inl l ↦ l
    | inr l ↦ absurd (omega (arith, live_is_one_leaf weight t w is c, leaves-le w.number t, is.below w.number l))
  ]

  pub live_number : (w : Waiting N) → Contains live w → IsLive t w.number
  live_number w c = (live_for weight t w.number).1 (mapped_there (λ (x : Waiting N). x.number) live w c)

  -- a tree with a live leaf is open
  pub open_with : (w : Waiting N) → Contains live w → status t ≡ Undecided
  open_with w c = live_is_open w.number t (listed_live weight w.number 0 t (mapped_there (λ (x : Waiting N). x.number) live w c))

  -- ---- what is popped

  -- the next leaf, and its entry
  pub record IsNext (e : Entry) : Type 0 where
    pub leaf : Waiting N
    pub live : Contains (live_leaves weight 0 t) leaf
    pub next : next_leaf weight t ≡ Some leaf
    pub entry : entry_of leaf ≡ e

  next_by : IsNumbered t → (w : Waiting N) → Contains live w → ((v : Waiting N) → Contains live v → comes_first v w ≡ false) → (o : Option (Waiting N)) → IsLeast live o → o ≡ Some w
  next_by is w c f None h = absurd (h w c)
  next_by is w c f (Some m) (d, g) =
      let same : entry_of m ≡ entry_of w = neither_before (entry_of m) (entry_of w) (f m d) (g w c) in ap (λ (v : Waiting N). Some v) (same_leaf is m w d c (ap (λ (e : Entry). e.leaf) same))

  module _ (es after : List Entry) (is : IsFrontier weight t (size t) es) where
    pub next_popped : (e : Entry) → PopsAlive (IsLive t) es (Some e) after → IsNext e
    next_popped e h = record { leaf = w; live = c; next = next_by is.numbered w c before (next_leaf weight t) (is_least live); entry = same }
      where
        p : Popped (IsLive t) es e after
        p = popped (IsLive t) es e after is.ordered h

        at : (x : Waiting N) × Contains live x × (x.number ≡ e.leaf)
        at = mapped_from (λ (x : Waiting N). x.number) live e.leaf ((live_for weight t e.leaf).0 p.alive)

        w : Waiting N
        w = at.0

        c : Contains live w
        c = at.1

        same : entry_of w ≡ e
        same = λ i. record { priority = sym (is.right w e c p.there (sym at.2)) i; leaf = at.2 i }

        before : (v : Waiting N) → Contains live v → comes_first v w ≡ false
        before v d =
            subst (λ (x : Entry). is_before (entry_of v) x ≡ false) (sym same) (p.first (entry_of v) (is.all v d (live_below is.numbered v d)) (live_number v d))

    -- where nothing is popped, the tree isn't open
    pub none_open : PopsAlive (IsLive t) es None after → status t ≡ Undecided → ⊥
    none_open h o = by_next (next_leaf weight t) (has_next weight t o) (is_least live)
      where
        by_next : (o : Option (Waiting N)) → IsSome o → IsLeast live o → ⊥
        by_next None s l = let bad : false ≡ true = s in cc
        by_next (Some m) s (c, f) = none_popped (IsLive t) es after h (entry_of m) (is.all m c (live_below is.numbered m c)) (live_number m c)
