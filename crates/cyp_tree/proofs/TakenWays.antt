-- The way that a solved place takes gives the derivation of its tree.
use Rattle.std.proofs.Common.{◌≡◌, refl, sym, ◌∙◌, ap, subst, ℕ, zero, suc, ◌+◌, ◌-◌, ◌≤◌, ◌<◌, ◌⊎◌, inl, inr, List, [], ◌∷◌, ◌++◌, map, length, Option, Some, None, IsSome, false, true, arith}
use Rattle.std.specs.List.{slice_get, All}
use Rattle.std.specs.Prelude.{is_some}
use Rattle.std.proofs.lemmas.Bool.{cases_eq}
use Rattle.std.proofs.lemmas.List.Elements.{All-nil, All-cons}
use Rattle.cyp_tree.specs.declared.mark.Mark.{Mark}
use Rattle.cyp_tree.specs.declared.mark.Mark.TheVariants.{Undecided, Solved, Failed}
use Rattle.cyp_tree.specs.declared.places.Run.{Run}
use Rattle.cyp_tree.specs.declared.places.Place.{Place}
use Rattle.cyp_tree.specs.declared.places.Way.{Way}
use Rattle.cyp_tree.specs.declared.marks.Marks.{Marks}
use Rattle.cyp_tree.specs.Trees.{Tree, Leaf, Grown, Alts, NoAlt, AltThen, Parts, NoPart, PartThen}
use Rattle.cyp_tree.specs.Statuses.{either, both, status, parts_status}
use Rattle.cyp_tree.specs.Sizes.{size, alts_size, parts_size}
use Rattle.cyp_tree.specs.Numbers.{run_from}
use Rattle.cyp_tree.specs.Derivations.{Derivation, Derivations, Derived, derived_or, one_more, chosen_derivation, chosen_alt, chosen_parts, derivations_of}
use Rattle.cyp_tree.specs.Standing.{run_of, tree_at, Stands, AltsStand, PartsStand, IsIn}
use Rattle.cyp_tree.specs.Told.{parts_sum, way_sum, ways_sum, node_sum}
use Rattle.cyp_tree.specs.Marked.{status_at, unsolved_at}
use Rattle.cyp_tree.specs.Arenas.{IsArena}
use Rattle.cyp_tree.specs.Choosing.{IsFirstSolved, IsTaken, AreSolved, derived_at}
use Rattle.cyp_tree.proofs.Runs.{some_at, get_run, get_run_at}
use Rattle.cyp_tree.proofs.Planting.{at_stands, stands_once}
use Rattle.cyp_tree.proofs.Telling.{status_told, parts_told}
use Rattle.cyp_tree.proofs.Sums.{zero_solved, solved_zero}
use Rattle.cyp_tree.proofs.HasDerivation.{has_derivation}
use Rattle.cyp_tree.proofs.DerivedSolved.{derived_parts}

-- ---- premises that are all solved

both_solved : (a b : Mark) → both a b ≡ Solved → (a ≡ Solved) × (b ≡ Solved)
both_solved Undecided Undecided e = cc
both_solved Undecided Solved e = cc
both_solved Undecided Failed e = cc
both_solved Solved b e = (refl, e)
both_solved Failed b e = cc

pub each_solved : (s : ℕ → Mark) (j c : ℕ) → parts_sum s j c ≡ Solved → (i : ℕ) → j ≤ i → i < j + c → s i ≡ Solved
each_solved s j zero e i l m = absurd (omega arith)
each_solved s j (suc c) e i l m =
    let h : (s j ≡ Solved) × (parts_sum s (suc j) c ≡ Solved) = both_solved (s j) (parts_sum s (suc j) c) e in
    elim (cases_eq j i) [
      | inl same ↦ ap s (sym same) ∙ h.0
      | inr other ↦ each_solved s (suc j) c h.1 i (omega arith) (omega arith)
    ]

either_solved : (a b : Mark) → either a b ≡ Solved → (a ≡ Solved) ⊎ (b ≡ Solved)
either_solved Solved b e = inl refl
either_solved Failed b e = inr e
either_solved Undecided Solved e = inr refl
either_solved Undecided Failed e = cc
either_solved Undecided Undecided e = cc

some_solved : {R : Type 0} (s : ℕ → Mark) (ys : List (Way R)) → ways_sum s ys ≡ Solved → (i : ℕ) × (y : Way R) × (slice_get ys i ≡ Some y) × (way_sum s y ≡ Solved)
some_solved s [] e = cc
some_solved {R} s (y ∷ ys) e = elim (either_solved (way_sum s y) (ways_sum s ys) e) [
  | inl h ↦ (0, y, refl, h)
  | inr h ↦ let later : (i : ℕ) × (y : Way R) × (slice_get ys i ≡ Some y) × (way_sum s y ≡ Solved) = some_solved s ys h in (suc later.0, later.1, later.2, later.3)
]

pub all_run : (P : ℕ → Type 0) (j c : ℕ) → ((i : ℕ) → j ≤ i → i < j + c → P i) → All P (run_from j c)
all_run P j zero h = All-nil P
all_run P j (suc c) h = All-cons P j (run_from (suc j) c) (h j (omega arith) (omega arith)) (all_run P (suc j) c (λ i l m. h i (omega arith) (omega arith)))

-- ---- what a node without its first alternatives has

no_parts_by : {R N : Type 0} (ps : Parts R N) (o : Option (Derivations R N)) → chosen_parts ps ≡ o → (parts_status ps ≡ Solved → ⊥) → o ≡ None
no_parts_by ps None e h = refl
no_parts_by ps (Some ds) e h = absurd (h (derived_parts ps (ap is_some e)))

some_by : {A : Type 0} (o : Option A) → IsSome o → (x : A) × (o ≡ Some x)
some_by None e = let bad : false ≡ true = e in cc
some_by (Some x) e = (x, refl)

-- ---- the sizes of numbers' trees together

abbrev pub total : (ℕ → ℕ) → List ℕ → ℕ
total f [] = 0
total f (k ∷ ks) = f k + total f ks

pub total-append : (f : ℕ → ℕ) (xs ys : List ℕ) → total f (xs ++ ys) ≡ total f xs + total f ys
total-append f [] ys = let same : total f ys ≡ 0 + total f ys = omega arith in same
total-append f (x ∷ xs) ys = omega (arith, total-append f xs ys)

module _ {R N : Type 0} (root : N) (ps : List (Place N)) (ws : List (Way R)) (m : Marks) (arena : IsArena ps ws m) where
  abbrev tree : ℕ → Tree R N
  tree k = tree_at (length ps) root ps ws k

  abbrev pub size_of : ℕ → ℕ
  size_of k = size (tree k)

  tree_stands : (k : ℕ) → k < length ps → Stands ps ws k (tree k)
  tree_stands k h = at_stands ps ws root arena.linked (length ps) k h (omega arith)

  is_tree : (k : ℕ) (t : Tree R N) → k < length ps → Stands ps ws k t → tree k ≡ t
  is_tree k t h s = stands_once ps ws k k (tree k) t refl (tree_stands k h) s

  -- premises that are all solved have their derivations
  record HaveDerived (j c : ℕ) (qs : Parts R N) : Type 0 where
    each : List (Derivation R N)
    chosen : chosen_parts qs ≡ Some (derivations_of each)
    are : map (derived_at root ps ws) (run_from j c) ≡ map (λ d. Some d) each
    long : length each ≡ c
    sizes : total size_of (run_from j c) ≡ parts_size qs

  parts_derived : (j c : ℕ) (qs : Parts R N) → PartsStand ps ws j c qs → j + c ≤ length ps → ((i : ℕ) → j ≤ i → i < j + c → status_at m i ≡ Solved) → HaveDerived j c qs
  parts_derived j c NoPart e l h =
      record { each = []; chosen = refl; are = ap (λ (n : ℕ). map (derived_at root ps ws) (run_from j n)) e; long = sym e; sizes = ap (λ (n : ℕ). total size_of (run_from j n)) e }
  parts_derived j c (PartThen t qs) (b, e, z, p) l h =
      let rest : HaveDerived (suc j) b qs = parts_derived (suc j) b qs p (omega arith) (λ i f g. h i (omega arith) (omega arith)) in
      let is : tree j ≡ t = is_tree j t (omega arith) z in
      let solved : status t ≡ Solved = status_told (status_at m) ps ws arena.told j t z ∙ h j (omega arith) (omega arith) in
      let first : (d : Derivation R N) × (chosen_derivation t ≡ Some d) = some_by (chosen_derivation t) (has_derivation t solved) in
      let one : derived_at root ps ws j ≡ Some first.0 = ap chosen_derivation is ∙ first.1 in
      record {
        each = first.0 ∷ rest.each;
        chosen = (λ i. one_more (first.1 i) (rest.chosen i));
        are = ap (λ (n : ℕ). map (derived_at root ps ws) (run_from j n)) e ∙ (λ i. one i ∷ rest.are i);
        long = ap suc rest.long ∙ sym e;
        sizes = ap (λ (n : ℕ). total size_of (run_from j n)) e ∙ (λ i. size (is i) + rest.sizes i);
      }

  -- the derivation by this way is chosen among these alternatives
  record IsChosen (n : N) (y : Way R) (as' : Alts R N) : Type 0 where
    each : List (Derivation R N)
    chosen : chosen_alt n as' ≡ Some (Derived n y.rule (derivations_of each))
    are : map (derived_at root ps ws) (run_from y.parts.first y.parts.count) ≡ map (λ d. Some d) each
    long : length each ≡ y.parts.count
    sizes : total size_of (run_from y.parts.first y.parts.count) ≤ alts_size as'

  -- the alternative at this place among others, none of which before it is solved, is chosen
  chosen_at : (n : N) (i : ℕ) (ys : List (Way R)) (y : Way R) (as' : Alts R N) → AltsStand ps ws ys as' → slice_get ys i ≡ Some y
      → ((v : ℕ) (z : Way R) → v < i → slice_get ys v ≡ Some z → way_sum (status_at m) z ≡ Solved → ⊥)
      → ((qs : Parts R N) → PartsStand ps ws y.parts.first y.parts.count qs → HaveDerived y.parts.first y.parts.count qs)
      → IsChosen n y as'
  chosen_at n i ys y NoAlt e g none have = absurd (let bad : None ≡ Some y = sym (ap (λ (l : List (Way R)). slice_get l i) e) ∙ g in cc)
  chosen_at n zero ys y (AltThen r d qs as') (w, more, e, x, b, p, z) g none have =
      let same : w ≡ y = (let eq : Some w ≡ Some y = sym (ap (λ (l : List (Way R)). slice_get l 0) e) ∙ g in cc) in
      let p' : PartsStand ps ws y.parts.first y.parts.count qs = subst (λ (v : Way R). PartsStand ps ws v.parts.first v.parts.count qs) same p in
      let rule : r ≡ y.rule = sym x ∙ ap (λ (v : Way R). v.rule) same in
      let h : HaveDerived y.parts.first y.parts.count qs = have qs p' in
      record {
        each = h.each;
        chosen = (λ i. derived_or n (rule i) (h.chosen i) (chosen_alt n as'));
        are = h.are;
        long = h.long;
        sizes = omega (arith, h.sizes);
      }
  chosen_at n (suc i) ys y (AltThen r d qs as') (w, more, e, x, b, p, z) g none have =
      let first : slice_get ys 0 ≡ Some w = ap (λ (l : List (Way R)). slice_get l 0) e in
      let unsolved : parts_status qs ≡ Solved → ⊥ = (λ q. none 0 w (omega arith) first (sym (parts_told (status_at m) ps ws arena.told w.parts.first w.parts.count qs p) ∙ q)) in
      let skipped : chosen_parts qs ≡ None = no_parts_by qs (chosen_parts qs) refl unsolved in
      let rest : IsChosen n y as' =
      chosen_at n i more y as' z (sym (ap (λ (l : List (Way R)). slice_get l (suc i)) e) ∙ g)
      (λ v u l f. none (suc v) u (omega arith) (ap (λ (l : List (Way R)). slice_get l (suc v)) e ∙ f)) have
      in
      record {
        each = rest.each;
        chosen = ap (λ (o : Option (Derivations R N)). derived_or n r o (chosen_alt n as')) skipped ∙ rest.chosen;
        are = rest.are;
        long = rest.long;
        sizes = omega (arith, rest.sizes);
      }

  -- what the way that a solved place takes gives
  pub record Gives (at w : ℕ) (p : Place N) : Type 0 where
    pub y : Way R
    pub way : slice_get ws w ≡ Some y
    pub above : y.above ≡ at
    pub each : List (Derivation R N)
    pub derived : derived_at root ps ws at ≡ Some (Derived p.node y.rule (derivations_of each))
    pub are : map (derived_at root ps ws) (run_from y.parts.first y.parts.count) ≡ map (λ d. Some d) each
    pub long : length each ≡ y.parts.count
    pub solved : AreSolved (status_at m) (length ps) (run_from y.parts.first y.parts.count)
    pub fits : y.parts.first + y.parts.count ≤ length ps
    pub smaller : total size_of (run_from y.parts.first y.parts.count) < size_of at

  gives_of : (at w j : ℕ) (p : Place N) (y : Way R) (n : N) (as' : Alts R N) → slice_get ws w ≡ Some y → y.above ≡ at → tree at ≡ Grown j n as' → n ≡ p.node → IsChosen n y as'
      → ((i : ℕ) → y.parts.first ≤ i → i < y.parts.first + y.parts.count → status_at m i ≡ Solved) → y.parts.first + y.parts.count ≤ length ps → Gives at w p
  gives_of at w j p y n as' g above is node h each fits = record {
    y = y;
    way = g;
    above = above;
    each = h.each;
    derived = ap chosen_derivation is ∙ (h.chosen ∙ ap (λ (n : N). Some (Derived n y.rule (derivations_of h.each))) node);
    are = h.are;
    long = h.long;
    solved = all_run (λ i. (i < length ps) × (status_at m i ≡ Solved)) y.parts.first y.parts.count (λ i l u. (omega arith, each i l u));
    fits = fits;
    smaller = omega (arith, h.sizes, ap size is);
  }

  gives_by : (at w : ℕ) (p : Place N) (r : Run) (y : Way R) (t : Tree R N) → at < length ps → slice_get ps at ≡ Some p → p.ways ≡ Some r → IsFirstSolved (unsolved_at m) r w → slice_get ws w ≡ Some y
      → Stands ps ws at t → Gives at w p
  gives_by at w p r y (Leaf j n) h e f k g (a, (q, b, x, z)) =
      absurd (let same : p ≡ q = (let eq : Some p ≡ Some q = sym e ∙ b in cc) in let bad : Some r ≡ None = sym f ∙ ap (λ (v : Place N). v.ways) same ∙ z in cc)
  gives_by at w p r y (Grown j n as') h e f k g (a, (q, v, b, x, z, all)) =
      let same : p ≡ q = (let eq : Some p ≡ Some q = sym e ∙ b in cc) in
      let runs : v ≡ r = (let eq : Some v ≡ Some r = sym z ∙ sym (ap (λ (b : Place N). b.ways) same) ∙ f in cc) in
      let all' : AltsStand ps ws (run_of ws r) as' = subst (λ (b : Run). AltsStand ps ws (run_of ws b) as') runs all in
      let low : r.first ≤ w = k.inside.low in
      let high : w < r.first + r.count = k.inside.high in
      let fits : y.parts.first + y.parts.count ≤ length ps = arena.linked.parts w y g in
      let solved : way_sum (status_at m) y ≡ Solved = zero_solved (status_at m) y.parts.first y.parts.count (sym (arena.counted.ways w y g) ∙ k.solved) in
      let each : (i : ℕ) → y.parts.first ≤ i → i < y.parts.first + y.parts.count → status_at m i ≡ Solved = each_solved (status_at m) y.parts.first y.parts.count solved in
      let is : tree at ≡ Grown j n as' = is_tree at (Grown j n as') h (a, (q, v, b, x, z, all)) in
      let node : n ≡ p.node = sym x ∙ sym (ap (λ (v : Place N). v.node) same) in
      let chosen : IsChosen n y as' =
      chosen_at n (w - r.first) (run_of ws r) y as' all' (get_run_at r.first r.count w ws y low high g)
      (λ i u l f s.
      let at : (i < r.count) × (slice_get ws (r.first + i) ≡ Some u) = get_run r.first r.count i ws u f in
      absurd (omega (arith, k.first (r.first + i) (omega arith) (omega arith), arena.counted.ways (r.first + i) u at.1, solved_zero (status_at m) u.parts.first u.parts.count s)))
      (λ qs s. parts_derived y.parts.first y.parts.count qs s fits each)
      in
      gives_of at w j p y n as' g (arena.linked.run_above at p r w y e f k.inside g) is node chosen each fits

  pub gives : (at w : ℕ) → at < length ps → (t : IsTaken (unsolved_at m) ps at w) → Gives at w t.place
  gives at w h t =
      let runs : t.run.first + t.run.count ≤ length ws = arena.linked.runs at t.place t.run t.found t.ways in
      let high : w < t.run.first + t.run.count = t.first.inside.high in
      let y : (y : Way R) × (slice_get ws w ≡ Some y) = some_at ws w (omega arith) in
      gives_by at w t.place t.run y.0 (tree at) h t.found t.ways t.first y.1 (tree_stands at h)

  -- a solved place has ways, one of which is solved
  pub record HasSolved (at : ℕ) (p : Place N) : Type 0 where
    pub run : Run
    pub ways : p.ways ≡ Some run
    pub inside : run.first + run.count ≤ length ws
    pub way : ℕ
    pub here : IsIn way run
    pub solved : unsolved_at m way ≡ 0

  solved_by : (at : ℕ) (p : Place N) (o : Option Run) → slice_get ps at ≡ Some p → p.ways ≡ o → node_sum (status_at m) ws o ≡ Solved → HasSolved at p
  solved_by at p None e f h = cc
  solved_by at p (Some r) e f h =
      let found : (i : ℕ) × (y : Way R) × (slice_get (run_of ws r) i ≡ Some y) × (way_sum (status_at m) y ≡ Solved) = some_solved (status_at m) (run_of ws r) h in
      let place : (found.0 < r.count) × (slice_get ws (r.first + found.0) ≡ Some found.1) = get_run r.first r.count found.0 ws found.1 found.2 in
      record {
        run = r;
        ways = f;
        inside = arena.linked.runs at p r e f;
        way = r.first + found.0;
        here = record { low = omega arith; high = omega arith };
        solved = arena.counted.ways (r.first + found.0) found.1 place.1 ∙ solved_zero (status_at m) found.1.parts.first found.1.parts.count found.3;
      }

  pub has_solved : (at : ℕ) (p : Place N) → slice_get ps at ≡ Some p → status_at m at ≡ Solved → HasSolved at p
  has_solved at p e s = solved_by at p p.ways e refl (sym (arena.told at p e) ∙ s)
