-- The marks once moves stand at a leaf: they are those of the statuses, but for the leaf.
use Rattle.std.proofs.Common.{◌≡◌, refl, sym, ◌∙◌, ap, subst, ℕ, zero, suc, ◌+◌, ◌≤◌, ◌<◌, inl, inr, true, List, [], ◌∷◌, length, Option, Some, None, arith}
use Rattle.std.specs.List.{slice_get}
use Rattle.std.proofs.lemmas.Bool.{cases_eq, cases_lt}
use Rattle.std.proofs.lemmas.List.{get_or_past}
use Rattle.cyp_space.specs.Alts.{AltOf, premises_in}
use Rattle.cyp_tree.specs.declared.mark.Mark.{Mark}
use Rattle.cyp_tree.specs.declared.mark.Mark.TheVariants.{Undecided, Solved, Failed}
use Rattle.cyp_tree.specs.declared.places.Run.{Run}
use Rattle.cyp_tree.specs.declared.places.Place.{Place}
use Rattle.cyp_tree.specs.declared.places.Way.{Way}
use Rattle.cyp_tree.specs.declared.marks.Marks.{Marks}
use Rattle.cyp_tree.specs.Statuses.{either, both}
use Rattle.cyp_tree.specs.Standing.{IsIn, GoesDown, IsLinked}
use Rattle.cyp_tree.specs.Told.{parts_sum, ways_sum, node_sum, one_unfailed, one_unsolved, unsolved_from, unfailed_in, unfailed_of, IsTold, IsToldBut, AreCounted, AreReached}
use Rattle.cyp_tree.specs.Marked.{status_at, reached_at, unsolved_at, unfailed_at, AreSized}
use Rattle.cyp_tree.specs.Enlarged.{new_ways, new_places, grown_places, grown_ways, premises_status, fresh_status, AreBorn}
use Rattle.cyp_tree.proofs.Runs.{there_below, get_append, get_append_cases}
use Rattle.cyp_tree.proofs.Sweeping.{failed_part}
use Rattle.cyp_tree.proofs.Enlarging.{new_way, new_in_way, old_run, new_run}
use Rattle.cyp_tree.proofs.Linking.{TheLeaf, Another, NewOne, place_from, length_places, length_ways}

-- ---- numbers from here on are all open

module _ (s : ℕ → Mark) (from : ℕ) (opens : (j : ℕ) → from ≤ j → s j ≡ Undecided) where
  open_unfailed : (j c : ℕ) → from ≤ j → parts_sum s j c ≡ Failed → ⊥
  open_unfailed j c l bad =
      let part : (i : ℕ) × (j ≤ i) × (i < j + c) × (s i ≡ Failed) = failed_part s j c bad in
      let low : j ≤ part.0 = part.1 in
      let clash : Undecided ≡ Failed = sym (opens part.0 (omega arith)) ∙ part.3 in
      cc

  both_open : (a : Mark) → (a ≡ Failed → ⊥) → both Undecided a ≡ Undecided
  both_open Undecided h = refl
  both_open Solved h = refl
  both_open Failed h = absurd (h refl)

  open_parts : {N : Type 0} (j : ℕ) (ns : List N) → from ≤ j → parts_sum s j (length ns) ≡ premises_status ns
  open_parts j [] l = refl
  open_parts j (n ∷ ns) l =
      ap (λ (z : Mark). both z (parts_sum s (suc j) (length ns))) (opens j l) ∙ both_open (parts_sum s (suc j) (length ns)) (open_unfailed (suc j) (length ns) (omega arith))

  open_unsolved : (j c : ℕ) → from ≤ j → unsolved_from s j c ≡ c
  open_unsolved j zero l = refl
  open_unsolved j (suc c) l = let one : one_unsolved (s j) ≡ 1 = ap one_unsolved (opens j l) in omega (arith, open_unsolved (suc j) c (omega arith))

  open_ways : {R N : Type 0} (above k : ℕ) (as' : List (AltOf R N)) → from ≤ k → ways_sum s (new_ways above k as') ≡ fresh_status as'
  open_ways above k [] l = refl
  open_ways above k (a ∷ as') l = (λ i. either (open_parts k a.premises l i) (open_ways above (k + length a.premises) as' (omega arith) i))

  one_open : {N : Type 0} (ns : List N) → one_unfailed (premises_status ns) ≡ 1
  one_open [] = refl
  one_open (n ∷ ns) = refl

  open_count : {R N : Type 0} (above k : ℕ) (as' : List (AltOf R N)) → from ≤ k → unfailed_in s (new_ways above k as') ≡ length as'
  open_count above k [] l = refl
  open_count above k (a ∷ as') l =
      let one : one_unfailed (parts_sum s k (length a.premises)) ≡ 1 = ap one_unfailed (open_parts k a.premises l) ∙ one_open a.premises in
      omega (arith, open_count above (k + length a.premises) as' (omega arith))

-- the way's count of premises, and the move that it is of
new_way_move : {R N : Type 0} (above k : ℕ) (as' : List (AltOf R N)) (i : ℕ) (y : Way R) → slice_get (new_ways above k as') i ≡ Some y
    → (a : AltOf R N) × (slice_get as' i ≡ Some a) × (y.parts.count ≡ length a.premises)
new_way_move above k [] i y e = cc
new_way_move above k (a ∷ as') zero y e = (a, refl, (let parts : y.parts ≡ record { first = k; count = length a.premises } = cc in ap (λ (r : Run). r.count) parts))
new_way_move above k (a ∷ as') (suc i) y e = new_way_move above (k + length a.premises) as' i y e

module _ {R N : Type 0} (ps : List (Place N)) (ws : List (Way R)) (link : IsLinked ps ws) (leaf : ℕ) (p0 : Place N) (as' : List (AltOf R N)) (found : slice_get ps leaf ≡ Some p0)
    (fresh : p0.ways ≡ None) (m n : Marks) (sized : AreSized m (length ps) (length ws)) (told : IsTold (status_at m) ps ws)
    (counted : AreCounted (status_at m) (unsolved_at m) (unfailed_at m) ps ws) (reach : AreReached (status_at m) (reached_at m) ps ws) (leaf_reached : reached_at m leaf ≡ true)
    (born : AreBorn leaf (length ps) (length ws) as' m n) where
  abbrev qs : List (Place N)
  qs = grown_places leaf p0 (length ws) as' ps

  abbrev zs : List (Way R)
  zs = grown_ways leaf (length ps) as' ws

  abbrev s : ℕ → Mark
  s = status_at m

  told_same : status_at n ≡ s
  told_same = λ i j. born.statuses j i

  opens : (j : ℕ) → length ps ≤ j → s j ≡ Undecided
  opens j l = get_or_past m.statuses.items j Undecided (omega (arith, sized.statuses))

  leaf_below : leaf < length ps
  leaf_below = there_below ps leaf p0 found

  -- the ways of an old place are the same
  same_sum : (k : ℕ) (p : Place N) (o : Option Run) → slice_get ps k ≡ Some p → p.ways ≡ o → node_sum s zs o ≡ node_sum s ws o
  same_sum k p None e f = refl
  same_sum k p (Some r) e f = ap (ways_sum s) (old_run ps ws link leaf p0 as' found fresh r (link.runs k p r e f))

  same_unfailed : (k : ℕ) (p : Place N) (o : Option Run) → slice_get ps k ≡ Some p → p.ways ≡ o → unfailed_of s zs o ≡ unfailed_of s ws o
  same_unfailed k p None e f = refl
  same_unfailed k p (Some r) e f = ap (unfailed_in s) (old_run ps ws link leaf p0 as' found fresh r (link.runs k p r e f))

  new_leaf : (d : ℕ) (p : Place N) → slice_get (new_places (length ws) p0.cost p0.level as') d ≡ Some p → p.ways ≡ None
  new_leaf d p e = (new_in_way leaf (length ps) (length ws) p0.cost p0.level as' d p e).5

  born_told : IsToldBut leaf (fresh_status as') s qs zs
  born_told = (
    λ k p e h.
        elim (place_from ps ws link leaf p0 as' found fresh k p e) [
          | TheLeaf a b ↦ absurd (h a)
          | Another a b ↦ told k p b ∙ sym (same_sum k p p.ways b refl)
          | NewOne d a b ↦ opens k (omega arith) ∙ sym (ap (node_sum s zs) (new_leaf d p b))
        ],
    λ p e.
        elim (place_from ps ws link leaf p0 as' found fresh leaf p e) [
          | TheLeaf a b ↦
              ap (λ (q : Place N). node_sum s zs q.ways) b ∙ ap (ways_sum s) (new_run ps ws link leaf p0 as' found fresh)
              ∙ open_ways s (length ps) opens leaf (length ps) as' (omega arith)
          | Another a b ↦ absurd (a refl)
          | NewOne d a b ↦ absurd (omega (arith, leaf_below))
        ],
  )

  born_counted : AreCounted s (unsolved_at n) (unfailed_at n) qs zs
  born_counted = record {
    ways = λ w y e.
        elim (get_append_cases ws (new_ways leaf (length ps) as') w y e) [
          | inl z ↦ born.unsolved_old w (there_below ws w y z) ∙ counted.ways w y z
          | inr z ↦
              let move : (a : AltOf R N) × (slice_get as' z.0 ≡ Some a) × (y.parts.count ≡ length a.premises) = new_way_move leaf (length ps) as' z.0 y z.2 in
              let from : length ps ≤ y.parts.first = (new_way leaf (length ps) as' z.0 y z.2).1 in
              ap (unsolved_at n) z.1 ∙ born.unsolved_new z.0 move.0 move.1 ∙ sym move.2 ∙ sym (open_unsolved s (length ps) opens y.parts.first y.parts.count from)
        ];
    places = λ k p e.
        elim (place_from ps ws link leaf p0 as' found fresh k p e) [
          | TheLeaf a b ↦
              ap (unfailed_at n) a ∙ born.leaf_unfailed ∙ sym (open_count s (length ps) opens leaf (length ps) as' (omega arith))
              ∙ sym (ap (λ (q : Place N). unfailed_of s zs q.ways) b ∙ ap (unfailed_in s) (new_run ps ws link leaf p0 as' found fresh))
          | Another a b ↦ born.unfailed k a ∙ counted.places k p b ∙ sym (same_unfailed k p p.ways b refl)
          | NewOne d a b ↦
              born.unfailed k (λ bad. omega (arith, leaf_below)) ∙ get_or_past m.unfailed.items k 0 (omega (arith, sized.unfailed))
              ∙ sym (ap (unfailed_of s zs) (new_leaf d p b))
        ];
  }

  -- an old place's way is old, and so is its node
  old_way : (j : ℕ) (p q : Place N) (y : Way R) → slice_get ps j ≡ Some q → p.above ≡ q.above → 0 < j → slice_get zs p.above ≡ Some y → slice_get ws q.above ≡ Some y
  old_way j p q y e f l w =
      let g : (z : Way R) × GoesDown ps ws j q z = link.in_way j q e l in
      let is : g.0 ≡ y = (let eq : Some g.0 ≡ Some y = sym (get_append ws (new_ways leaf (length ps) as') q.above g.0 g.1.way) ∙ ap (slice_get zs) (sym f) ∙ w in cc) in
      g.1.way ∙ ap Some is

  old_node : (w : ℕ) (y : Way R) → slice_get ws w ≡ Some y → y.above < length ps
  old_node w y e = let h : (p : Place N) × (r : Run) × (slice_get ps y.above ≡ Some p) × (p.ways ≡ Some r) × IsIn w r = link.in_run w y e in there_below ps y.above h.0 h.2

  data Origin (j : ℕ) (p : Place N) (y : Way R) : Type 0 where
    Old : (q : Place N) → slice_get ps j ≡ Some q → slice_get ws q.above ≡ Some y → Origin j p y
    New : length ps ≤ j → j < length qs → y.above ≡ leaf → length ps ≤ y.parts.first → Origin j p y

  origin : (j : ℕ) (p : Place N) (y : Way R) → slice_get qs j ≡ Some p → 0 < j → slice_get zs p.above ≡ Some y → Origin j p y
  origin j p y e l w = elim (place_from ps ws link leaf p0 as' found fresh j p e) [
    | TheLeaf a b ↦ Old p0 (ap (slice_get ps) a ∙ found) (old_way j p p0 y (ap (slice_get ps) a ∙ found) (ap (λ (q : Place N). q.above) b) l w)
    | Another a b ↦ Old p b (old_way j p p y b refl l w)
    | NewOne d a b ↦
        let g : (i : ℕ) × (x : Way R) × (p.above ≡ length ws + i) × (slice_get (new_ways leaf (length ps) as') i ≡ Some x) × IsIn (length ps + d) x.parts × (p.ways ≡ None)
        × (p.cost ≡ p0.cost + x.cost) × (p.level ≡ suc p0.level) = new_in_way leaf (length ps) (length ws) p0.cost p0.level as' d p b in
        elim (get_append_cases ws (new_ways leaf (length ps) as') p.above y w) [
          | inl z ↦ absurd (let at : p.above ≡ length ws + g.0 = g.2 in omega (arith, there_below ws p.above y z))
          | inr z ↦
              let h : (y.above ≡ leaf) × (length ps ≤ y.parts.first) × (y.parts.first + y.parts.count ≤ length ps + premises_in as') = new_way leaf (length ps) as' z.0 y z.2 in
              New (omega arith) (there_below qs j p e) h.0 h.1
        ]
  ]

  born_reached : AreReached s (reached_at n) qs zs
  born_reached = record {
    root = λ o. born.reached_old 0 link.some ∙ reach.root o;
    undecided = λ j t. elim (cases_lt j (length ps)) [
      | inl old ↦ reach.undecided j (sym (born.reached_old j old) ∙ t)
      | inr new ↦ opens j new
    ];
    down = λ j p y e l w o good t. elim (origin j p y e l w) [
      | Old q f v ↦
          born.reached_old j (there_below ps j q f) ∙ reach.down j q y f l v o good (sym (born.reached_old y.above (old_node q.above y v)) ∙ t)
      | New a b c d ↦ born.reached_new j a (omega (arith, length_places ps ws link leaf p0 as' found fresh))
    ];
    unfailed = λ j p y e l w t bad. elim (origin j p y e l w) [
      | Old q f v ↦ reach.unfailed j q y f l v (sym (born.reached_old j (there_below ps j q f)) ∙ t) bad
      | New a b c d ↦ open_unfailed s (length ps) opens y.parts.first y.parts.count d bad
    ];
    above = λ j p y e l w t. elim (origin j p y e l w) [
      | Old q f v ↦ born.reached_old y.above (old_node q.above y v) ∙ reach.above j q y f l v (sym (born.reached_old j (there_below ps j q f)) ∙ t)
      | New a b c d ↦ ap (reached_at n) c ∙ born.reached_old leaf leaf_below ∙ leaf_reached
    ];
  }

  pub told_born : IsToldBut leaf (fresh_status as') (status_at n) qs zs
  told_born = subst (λ (z : ℕ → Mark). IsToldBut leaf (fresh_status as') z qs zs) (sym told_same) born_told

  pub counted_born : AreCounted (status_at n) (unsolved_at n) (unfailed_at n) qs zs
  counted_born = subst (λ (z : ℕ → Mark). AreCounted z (unsolved_at n) (unfailed_at n) qs zs) (sym told_same) born_counted

  pub reached_born : AreReached (status_at n) (reached_at n) qs zs
  reached_born = subst (λ (z : ℕ → Mark). AreReached z (reached_at n) qs zs) (sym told_same) born_reached

  pub sized_born : AreSized n (length qs) (length zs)
  sized_born =
      subst (λ (a : ℕ). AreSized n a (length zs)) (sym (length_places ps ws link leaf p0 as' found fresh))
      (subst (λ (a : ℕ). AreSized n (length ps + premises_in as') a) (sym (length_ways ps ws link leaf p0 as' found fresh)) born.sized)

  pub leaf_born : reached_at n leaf ≡ true
  leaf_born = born.reached_old leaf leaf_below ∙ leaf_reached

  -- where the moves don't decide the leaf, all is told
  pub told_open : fresh_status as' ≡ Undecided → IsTold (status_at n) qs zs
  told_open o k p e = elim (cases_eq k leaf) [
    | inl is ↦
        ap (status_at n) is ∙ born.statuses leaf ∙ reach.undecided leaf leaf_reached ∙ sym o ∙ sym (told_born.1 p (ap (slice_get qs) (sym is) ∙ e))
    | inr other ↦ told_born.0 k p e other
  ]
