-- An arena whose leaf has been given moves, before and after its marks are settled.
use Rattle.std.proofs.Common.{◌≡◌, refl, sym, ◌∙◌, ap, subst, ℕ, zero, suc, ◌+◌, ◌*◌, ◌≤◌, ◌<◌, inl, inr, Bool, true, List, [], ◌∷◌, ◌++◌, length, Option, Some, None, Vec, arith}
use Rattle.std.specs.Prelude.{slice_set, slice_index_or}
use Rattle.std.specs.List.{slice_get}
use Rattle.std.specs.declared.alloc.Global.{Global}
use Rattle.std.proofs.lemmas.Bool.{cases_lt}
use Rattle.std.proofs.lemmas.Option.{slice_get_read}
use Rattle.cyp_space.specs.Alts.{AltOf, premises_in}
use Rattle.cyp_tree.specs.declared.mark.Mark.{Mark}
use Rattle.cyp_tree.specs.declared.places.Run.{Run}
use Rattle.cyp_tree.specs.declared.places.Place.{Place}
use Rattle.cyp_tree.specs.declared.places.Way.{Way}
use Rattle.cyp_tree.specs.declared.marks.Marks.{Marks}
use Rattle.cyp_tree.specs.Standing.{IsIn, GoesDown}
use Rattle.cyp_tree.specs.Marked.{reached_at}
use Rattle.cyp_tree.specs.Dying.{times, bit, trues, IsBuried}
use Rattle.cyp_tree.specs.Enlarged.{new_ways, way_places, new_places, with_ways, grown_places, grown_ways, fresh_status, AreBorn, AreCheap}
use Rattle.cyp_tree.specs.Arenas.{one_grown, grown_in, IsArena, IsLeafPlace, AreLeavesOf, IsMade, IsMadeFor, HasGrafted, IsUnsettled}
use Rattle.cyp_tree.proofs.Runs.{there_below, get_append, get_append_right}
use Rattle.cyp_tree.proofs.Retiring.{bit_true, bit_le, bit_false, true_within}
use Rattle.cyp_tree.proofs.Enlarging.{new_in_way, new_way, length-new_ways, length-new_places, leaf_place}
use Rattle.cyp_tree.proofs.Linking.{TheLeaf, Another, NewOne, place_from, length_places, length_ways, linked_grown}
use Rattle.cyp_tree.proofs.Births.{told_born, counted_born, reached_born, sized_born, leaf_born, told_open}

pub trues_le : (bs : List Bool) → trues bs ≤ length bs
trues_le [] = omega arith
trues_le (b ∷ bs) = omega (arith, trues_le bs, bit_le b)

-- grown places, and those of an enlarged arena
pub grown_le : {N : Type 0} (ps : List (Place N)) → grown_in ps ≤ length ps
grown_le [] = omega arith
grown_le (p ∷ ps) = omega (arith, grown_le ps, one p.ways)
  where
    one : (o : Option Run) → one_grown o ≤ 1
    one None = omega arith
    one (Some r) = omega arith

grown-append : {N : Type 0} (ps qs : List (Place N)) → grown_in (ps ++ qs) ≡ grown_in ps + grown_in qs
grown-append [] qs = let same : grown_in qs ≡ 0 + grown_in qs = omega arith in same
grown-append (p ∷ ps) qs = omega (arith, grown-append ps qs)

grown-set : {N : Type 0} (ps : List (Place N)) (i : ℕ) (p q : Place N) → slice_get ps i ≡ Some p → p.ways ≡ None → one_grown q.ways ≡ 1 → grown_in (slice_set ps i q) ≡ grown_in ps + 1
grown-set [] i p q e f h = cc
grown-set (x ∷ ps) zero p q e f h = let same : x ≡ p = cc in let none : one_grown x.ways ≡ 0 = ap (λ (z : Place _). one_grown z.ways) same ∙ ap one_grown f in omega arith
grown-set (x ∷ ps) (suc i) p q e f h = omega (arith, grown-set ps i p q e f h)

none_grown : {N : Type 0} (w c l : ℕ) (ns : List N) → grown_in (way_places w c l ns) ≡ 0
none_grown w c l [] = refl
none_grown w c l (n ∷ ns) = omega (arith, none_grown w c l ns)

new_grown : {R N : Type 0} (w c l : ℕ) (as' : List (AltOf R N)) → grown_in (new_places w c l as') ≡ 0
new_grown w c l [] = refl
new_grown w c l (a ∷ as') = omega (arith, grown-append (way_places w (c + a.cost) (suc l) a.premises) (new_places (suc w) c l as'), none_grown w (c + a.cost) (suc l) a.premises, new_grown (suc w) c l as')

-- the move that a new way is of
new_cost : {R N : Type 0} (above k : ℕ) (as' : List (AltOf R N)) (i : ℕ) (y : Way R) → slice_get (new_ways above k as') i ≡ Some y → (a : AltOf R N) × (slice_get as' i ≡ Some a) × (y.cost ≡ a.cost)
new_cost above k [] i y e = cc
new_cost above k (a ∷ as') zero y e = (a, refl, cc)
new_cost above k (a ∷ as') (suc i) y e = new_cost above (k + length a.premises) as' i y e

module _ {R N : Type 0} (ps : List (Place N)) (ws : List (Way R)) (m : Marks) (arena : IsArena ps ws m) (leaf : ℕ) (p0 : Place N) (as' : List (AltOf R N)) (found : slice_get ps leaf ≡ Some p0)
    (fresh : p0.ways ≡ None) (live : reached_at m leaf ≡ true) (few : length ps + premises_in as' ≤ 1000000) (short : length as' ≤ 48) where
  abbrev qs : List (Place N)
  qs = grown_places leaf p0 (length ws) as' ps

  abbrev zs : List (Way R)
  zs = grown_ways leaf (length ps) as' ws

  long : length qs ≡ length ps + premises_in as'
  long = length_places ps ws arena.linked leaf p0 as' found fresh

  long_ways : length zs ≡ length ws + length as'
  long_ways = length_ways ps ws arena.linked leaf p0 as' found fresh

  -- an old place's way and that way's node are old
  old_way : (j : ℕ) (p q : Place N) (y : Way R) → slice_get ps j ≡ Some q → p.above ≡ q.above → 0 < j → slice_get zs p.above ≡ Some y → slice_get ws q.above ≡ Some y
  old_way j p q y e f l w =
      let g : (z : Way R) × GoesDown ps ws j q z = arena.linked.in_way j q e l in
      let is : g.0 ≡ y = (let eq : Some g.0 ≡ Some y = sym (get_append ws (new_ways leaf (length ps) as') q.above g.0 g.1.way) ∙ ap (slice_get zs) (sym f) ∙ w in cc) in
      g.1.way ∙ ap Some is

  -- a place of before has the cost and the length of its path still
  same_path : (k : ℕ) (q : Place N) → k < length ps → slice_get qs k ≡ Some q → (r : Place N) × (slice_get ps k ≡ Some r) × (q.cost ≡ r.cost) × (q.level ≡ r.level) × (q.above ≡ r.above)
  same_path k q l e = elim (place_from ps ws arena.linked leaf p0 as' found fresh k q e) [
    | TheLeaf a b ↦ (p0, ap (slice_get ps) a ∙ found, ap (λ (x : Place N). x.cost) b, ap (λ (x : Place N). x.level) b, ap (λ (x : Place N). x.above) b)
    | Another a b ↦ (q, b, refl, refl, refl)
    | NewOne d a b ↦ absurd (omega arith)
  ]

  node_below : (w : ℕ) (y : Way R) → slice_get ws w ≡ Some y → y.above < length ps
  node_below w y e =
      let h : (p : Place N) × (r : Run) × (slice_get ps y.above ≡ Some p) × (p.ways ≡ Some r) × IsIn w r = arena.linked.in_run w y e in there_below ps y.above h.0 h.2

  module _ (cheap : AreCheap as' (length as')) where
    step_grown : (j : ℕ) (p : Place N) (y : Way R) (q : Place N) → slice_get qs j ≡ Some p → 0 < j → slice_get zs p.above ≡ Some y → slice_get qs y.above ≡ Some q
        → (p.cost ≡ q.cost + y.cost) × (p.level ≡ suc q.level)
    step_grown j p y q e l w f = elim (cases_lt j (length ps)) [
      | inl old ↦
          let r : (r : Place N) × (slice_get ps j ≡ Some r) × (p.cost ≡ r.cost) × (p.level ≡ r.level) × (p.above ≡ r.above) = same_path j p old e in
          let way : slice_get ws r.0.above ≡ Some y = old_way j p r.0 y r.1 r.4 l w in
          let s : (s : Place N) × (slice_get ps y.above ≡ Some s) × (q.cost ≡ s.cost) × (q.level ≡ s.level) × (q.above ≡ s.above) = same_path y.above q (node_below r.0.above y way) f in
          let was : (r.0.cost ≡ s.0.cost + y.cost) × (r.0.level ≡ suc s.0.level) = arena.paths.step j r.0 y s.0 r.1 l way s.1 in
          (r.2 ∙ was.0 ∙ ap (λ (c : ℕ). c + y.cost) (sym s.2), r.3 ∙ was.1 ∙ ap suc (sym s.3))
      | inr new ↦ elim (place_from ps ws arena.linked leaf p0 as' found fresh j p e) [
        | TheLeaf a b ↦ absurd (omega (arith, there_below ps leaf p0 found))
        | Another a b ↦ absurd (omega (arith, there_below ps j p b))
        | NewOne d a b ↦
            let g : (i : ℕ) × (x : Way R) × (p.above ≡ length ws + i) × (slice_get (new_ways leaf (length ps) as') i ≡ Some x) × IsIn (length ps + d) x.parts × (p.ways ≡ None)
            × (p.cost ≡ p0.cost + x.cost) × (p.level ≡ suc p0.level) = new_in_way leaf (length ps) (length ws) p0.cost p0.level as' d p b in
            let is : g.1 ≡ y = (let eq : Some g.1 ≡ Some y = sym (ap (slice_get zs) g.2 ∙ get_append_right ws (new_ways leaf (length ps) as') g.0 ∙ g.3) ∙ w in cc) in
            let up : y.above ≡ leaf = sym (ap (λ (x : Way R). x.above) is) ∙ (new_way leaf (length ps) as' g.0 g.1 g.3).0 in
            let node : q ≡ with_ways p0 (length ws) (length as') = (let eq : Some q ≡ Some (with_ways p0 (length ws) (length as')) = sym f ∙ ap (slice_get qs) up ∙ leaf_place ps ws arena.linked leaf p0 as' found fresh in cc) in (
              g.6 ∙ ap (λ (c : ℕ). c + g.1.cost) (sym (ap (λ (x : Place N). x.cost) node)) ∙ ap (λ (x : Way R). q.cost + x.cost) is,
              g.7 ∙ ap suc (sym (ap (λ (x : Place N). x.level) node)),
            )
      ]
    ]

    small_grown : (j : ℕ) (p : Place N) → slice_get qs j ≡ Some p → (p.level ≤ j) × (p.cost ≤ 255 * p.level)
    small_grown j p e = elim (cases_lt j (length ps)) [
      | inl old ↦
          let r : (r : Place N) × (slice_get ps j ≡ Some r) × (p.cost ≡ r.cost) × (p.level ≡ r.level) × (p.above ≡ r.above) = same_path j p old e in
          let was : (r.0.level ≤ j) × (r.0.cost ≤ 255 * r.0.level) = arena.paths.small j r.0 r.1 in
          let c : p.cost ≡ r.0.cost = r.2 in
          let l : p.level ≡ r.0.level = r.3 in
          (omega arith, omega arith)
      | inr new ↦ elim (place_from ps ws arena.linked leaf p0 as' found fresh j p e) [
        | TheLeaf a b ↦ absurd (omega (arith, there_below ps leaf p0 found))
        | Another a b ↦ absurd (omega (arith, there_below ps j p b))
        | NewOne d a b ↦
            let g : (i : ℕ) × (x : Way R) × (p.above ≡ length ws + i) × (slice_get (new_ways leaf (length ps) as') i ≡ Some x) × IsIn (length ps + d) x.parts × (p.ways ≡ None)
            × (p.cost ≡ p0.cost + x.cost) × (p.level ≡ suc p0.level) = new_in_way leaf (length ps) (length ws) p0.cost p0.level as' d p b in
            let move : (a : AltOf R N) × (slice_get as' g.0 ≡ Some a) × (g.1.cost ≡ a.cost) = new_cost leaf (length ps) as' g.0 g.1 g.3 in
            let few_cost : move.0.cost ≤ 255 = cheap g.0 move.0 (there_below as' g.0 move.0 move.1) move.1 in
            let was : (p0.level ≤ leaf) × (p0.cost ≤ 255 * p0.level) = arena.paths.small leaf p0 found in
            let c : p.cost ≡ p0.cost + g.1.cost = g.6 in
            let l : p.level ≡ suc p0.level = g.7 in
            let same : g.1.cost ≡ move.0.cost = move.2 in
            (omega (arith, there_below ps leaf p0 found), omega arith)
      ]
    ]

    root_grown : (p : Place N) → slice_get qs 0 ≡ Some p → (p.cost ≡ 0) × (p.level ≡ 0)
    root_grown p e =
        let r : (r : Place N) × (slice_get ps 0 ≡ Some r) × (p.cost ≡ r.cost) × (p.level ≡ r.level) × (p.above ≡ r.above) = same_path 0 p arena.linked.some e in
        let was : (r.0.cost ≡ 0) × (r.0.level ≡ 0) = arena.paths.root r.0 r.1 in
        (r.2 ∙ was.0, r.3 ∙ was.1)

    module _ (n : Marks) (born : AreBorn leaf (length ps) (length ws) as' m n) where
      unsettled_here : IsUnsettled leaf (fresh_status as') qs zs n
      unsettled_here = record {
        linked = linked_grown ps ws arena.linked leaf p0 as' found fresh;
        sized = sized_born ps ws arena.linked leaf p0 as' found fresh m n arena.sized arena.told arena.counted arena.reached live born;
        few = omega (arith, long);
        few_ways = omega (arith, long_ways, arena.few_ways, one_more);
        told = told_born ps ws arena.linked leaf p0 as' found fresh m n arena.sized arena.told arena.counted arena.reached live born;
        undecided = told_open ps ws arena.linked leaf p0 as' found fresh m n arena.sized arena.told arena.counted arena.reached live born;
        counted = counted_born ps ws arena.linked leaf p0 as' found fresh m n arena.sized arena.told arena.counted arena.reached live born;
        reached = reached_born ps ws arena.linked leaf p0 as' found fresh m n arena.sized arena.told arena.counted arena.reached live born;
        leaf_reached = leaf_born ps ws arena.linked leaf p0 as' found fresh m n arena.sized arena.told arena.counted arena.reached live born;
        trues = omega (arith, trues_le n.reached.items, born.sized.reached, long);
        paths = record { root = root_grown; step = step_grown; small = small_grown };
      }
        where
          one_more : grown_in qs ≡ grown_in ps + 1
          one_more =
              grown-append (slice_set ps leaf (with_ways p0 (length ws) (length as'))) (new_places (length ws) p0.cost p0.level as')
              ∙ (λ i. grown-set ps leaf p0 (with_ways p0 (length ws) (length as')) found fresh refl i + new_grown (length ws) p0.cost p0.level as' i)
              ∙ (let same : grown_in ps + 1 + 0 ≡ grown_in ps + 1 = omega arith in same)

      pub unsettled : (ps' : List (Place N)) (ws' : List (Way R)) → ps' ≡ qs → ws' ≡ zs → IsUnsettled leaf (fresh_status as') ps' ws' n
      unsettled ps' ws' e f =
          subst (λ (x : List (Place N)). IsUnsettled leaf (fresh_status as') x ws' n) (sym e) (subst (λ (x : List (Way R)). IsUnsettled leaf (fresh_status as') qs x n) (sym f) unsettled_here)

      pub has_grafted : (ps' : List (Place N)) (ws' : List (Way R)) → ps' ≡ qs → ws' ≡ zs → (o : Marks) (gone killed : List ℕ) → IsBuried ps' ws' n o gone → AreLeavesOf (length ps) ps' gone killed
          → HasGrafted leaf as' ps ws m ps' ws' o killed
      has_grafted ps' ws' e f o gone killed b l = record {
        places = λ p h. let same : p0 ≡ p = (let eq : Some p0 ≡ Some p = sym found ∙ h in cc) in e ∙ ap (λ (x : Place N). grown_places leaf x (length ws) as' ps) same;
        ways = f;
        arena = record {
          linked = u.linked;
          paths = u.paths;
          sized = b.sized;
          told = b.told;
          counted = b.counted;
          reached = b.reached;
          few = u.few;
          few_ways = u.few_ways;
        };
        from = λ k h.
            let x : (1 ≤ times k gone) × (k < length ps) × IsLeafPlace ps' k = l.from k h in
            let listed : 1 ≤ times k gone = x.0 in
            (sym (born.reached_old k x.1) ∙ bit_true (reached_at n k) (omega (arith, b.bits k)), bit_false (reached_at o k) (omega (arith, b.bits k, bit_le (reached_at n k))), x.2);
        all = λ k h g p.
            let less : k < length ps = omega (arith, true_within m.reached.items k h, arena.sized.reached) in
            let was : bit (reached_at n k) ≡ 1 = ap bit (born.reached_old k less ∙ h) in
            let now : bit (reached_at o k) ≡ 0 = ap bit g in
            l.all k (omega (arith, b.bits k)) less p;
        once = λ k. omega (arith, l.once k, b.bits k, bit_le (reached_at n k));
      }
        where
          u : IsUnsettled leaf (fresh_status as') ps' ws' n
          u = unsettled ps' ws' e f

      -- by what the calls give
      module _ (mw : List (Way R)) (mp : List (Place N)) (room : ℕ) (g k : Vec ℕ Global) (made : IsMade leaf (length ps) (length ws) p0.cost p0.level room as' mw mp g k) (ps' : List (Place N)) (ws' : List (Way R))
          (places : ps' ≡ slice_set ps leaf (with_ways p0 (length ws) (length mw)) ++ mp) (ways : ws' ≡ ws ++ mw) where
        made_places : ps' ≡ qs
        made_places =
            places
            ∙ (λ i. slice_set ps leaf (with_ways p0 (length ws) ((ap length made.ways ∙ length-new_ways leaf (length ps) as') i)) ++ made.places i)

        made_ways : ws' ≡ zs
        made_ways = ways ∙ ap (λ (x : List (Way R)). ws ++ x) made.ways

        pub put_unsettled : (status : Mark) → status ≡ fresh_status as' → IsUnsettled leaf status ps' ws' n
        put_unsettled status e = subst (λ (z : Mark). IsUnsettled leaf z ps' ws' n) (sym e) (unsettled ps' ws' made_places made_ways)

        pub put_grafted : (o : Marks) (gone killed : List ℕ) (first : ℕ) → first ≡ length ps → IsBuried ps' ws' n o gone → AreLeavesOf first ps' gone killed → HasGrafted leaf as' ps ws m ps' ws' o killed
        put_grafted o gone killed first e b l = has_grafted ps' ws' made_places made_ways o gone killed b (subst (λ (f : ℕ). AreLeavesOf f ps' gone killed) e l)

-- what was born, with the sizes of the lists
pub born_as : {R N : Type 0} (leaf a b x y : ℕ) (as' : List (AltOf R N)) (m n : Marks) → a ≡ x → b ≡ y → AreBorn leaf a b as' m n → AreBorn leaf x y as' m n
born_as leaf a b x y as' m n e f h = subst (λ (i : ℕ). AreBorn leaf i y as' m n) e (subst (λ (j : ℕ). AreBorn leaf a j as' m n) f h)

-- the lengths of what was made
pub made_lengths : {R N : Type 0} (leaf first way cost level room : ℕ) (as' : List (AltOf R N)) (ws : List (Way R)) (ps : List (Place N)) (g k : Vec ℕ Global) → IsMade leaf first way cost level room as' ws ps g k
    → (length ws ≡ length as') × (length ps ≡ premises_in as')
made_lengths leaf first way cost level room as' ws ps g k made =
    (ap length made.ways ∙ length-new_ways leaf first as', ap length made.places ∙ length-new_places way cost level as')

-- costs and lengths of paths stay in their type
pub small_place : {R N : Type 0} (ps : List (Place N)) (ws : List (Way R)) (m : Marks) → IsArena ps ws m → (k : ℕ) (p : Place N) → k < length ps → p ≡ slice_index_or ps k p
    → (p.cost ≤ 255000000) × (p.level ≤ 1000000)
small_place ps ws m a k p l e =
    let small : (p.level ≤ k) × (p.cost ≤ 255 * p.level) = a.paths.small k p (slice_get_read ps (length ps) k p refl l e) in
    let few : length ps ≤ 1000000 = a.few in
    (omega arith, omega arith)

-- what was made by reads is for the leaf
pub made_read : {R N : Type 0} (ps : List (Place N)) (ws : List (Way R)) (ps' : List (Place N)) (ws' : List (Way R)) (leaf first way count : ℕ) (q r : Place N) (as' : List (AltOf R N)) (mw : List (Way R)) (mp : List (Place N))
    (g k : Vec ℕ Global) → ps' ≡ ps → ws' ≡ ws → first ≡ length ps → way ≡ length ws → count ≡ premises_in as' → leaf < length ps → q ≡ slice_index_or ps leaf q → r ≡ slice_index_or ps leaf r
    → IsMade leaf first way q.cost r.level (first + count) as' mw mp g k → IsMadeFor ps' ws' leaf as' mw mp g k
made_read ps ws ps' ws' leaf first way count q r as' mw mp g k e f a b d l x y made p found =
    let same : q ≡ p = (let eq : Some q ≡ Some p = sym (slice_get_read ps (length ps) leaf q refl l x) ∙ sym (ap (λ (z : List (Place _)). slice_get z leaf) e) ∙ found in cc) in
    let also : r ≡ p = (let eq : Some r ≡ Some p = sym (slice_get_read ps (length ps) leaf r refl l y) ∙ sym (ap (λ (z : List (Place _)). slice_get z leaf) e) ∙ found in cc) in
    let places : first ≡ length ps' = a ∙ sym (ap length e) in
    let ways : way ≡ length ws' = b ∙ sym (ap length f) in
    record {
      ways = made.ways ∙ ap (λ (z : ℕ). new_ways leaf z as') places;
      places = made.places ∙ (λ i. new_places (ways i) (same i).cost (also i).level as');
      cheap = made.cheap;
      gone_empty = made.gone_empty;
      gone_room = omega (arith, made.gone_room);
      killed_empty = made.killed_empty;
      killed_room = omega (arith, made.killed_room);
    }
