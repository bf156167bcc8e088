-- The climb from a decided leaf: its first step, each further one, and its end.
use Rattle.std.proofs.Common.{◌≡◌, sym, ◌∙◌, ap, subst, ℕ, ◌+◌, ◌≤◌, ◌<◌, ◌⊎◌, inl, inr, Bool, true, false, List, [], ◌∷◌, ◌++◌, length, Some, None, Vec, vec_capacity, arith}
use Rattle.std.specs.Prelude.{slice_set, slice_index_or}
use Rattle.std.specs.List.{slice_get}
use Rattle.std.specs.declared.alloc.Global.{Global}
use Rattle.std.proofs.lemmas.Bool.{cases_eq, cases_lt}
use Rattle.std.proofs.lemmas.List.{get_or-set_same, get_or-set_other}
use Rattle.cyp_tree.specs.declared.mark.Mark.{Mark}
use Rattle.cyp_tree.specs.declared.mark.Mark.TheVariants.{Undecided, Failed}
use Rattle.cyp_tree.specs.declared.places.Run.{Run}
use Rattle.cyp_tree.specs.declared.places.Place.{Place}
use Rattle.cyp_tree.specs.declared.places.Way.{Way}
use Rattle.cyp_tree.specs.declared.marks.Marks.{Marks}
use Rattle.cyp_tree.specs.Numbers.{one_where}
use Rattle.cyp_tree.specs.Standing.{IsIn, GoesDown, IsLinked, IsUp}
use Rattle.cyp_tree.specs.Told.{IsTold, IsToldBut, AreCounted, AreReached}
use Rattle.cyp_tree.specs.Marked.{status_at, reached_at, unsolved_at, unfailed_at, AreSized, IsOpenAbove, IsAbove, DecidesNode}
use Rattle.cyp_tree.specs.Dying.{times, bit, trues, Retired, IsPremise, IsUnder, IsBeside, Lists, IsNoted}
use Rattle.cyp_tree.proofs.Runs.{some_at}
use Rattle.cyp_tree.proofs.Retiring.{one_same, one_other, times-last, bit_true, some_true, true_within, retired_one, retired_none, retired_as}
use Rattle.cyp_tree.proofs.Sweeping.{failed_part, part_fails, lists_of, lists_more}
use Rattle.cyp_tree.proofs.Loops.{ClimbLoop}

-- ---- what is retired beside and under

module _ {R N : Type 0} (ps : List (Place N)) (ws : List (Way R)) (at : ℕ) (m n : Marks) (g h : Vec ℕ Global) where
  pub under_some : (p : Place N) (run : Run) → slice_get ps at ≡ Some p → p.ways ≡ Some run → Retired (IsPremise ws run) m n g h → Retired (IsUnder ps ws at) m n g h
  under_some p run found ways a =
      retired_as (IsPremise ws run) (IsUnder ps ws at) m n g h
      (λ j x.
      let u : IsUnder ps ws at j = x in
      let same : u.0 ≡ p = (let eq : Some u.0 ≡ Some p = sym u.2 ∙ found in cc) in
      let is : u.1 ≡ run = (let eq : Some u.1 ≡ Some run = sym u.3 ∙ ap (λ (q : Place N). q.ways) same ∙ ways in cc) in
      subst (λ (r : Run). IsPremise ws r j) is u.4)
      (λ j x. (p, run, found, ways, x)) a

  pub beside_some : (to : Mark) (way node : ℕ) (u : IsUp ps ws at way node) (y : Way R) → to ≡ Failed → 0 < at → slice_get ws way ≡ Some y → Retired (λ j. IsIn j y.parts) m n g h
      → Retired (IsBeside ps ws to at) m n g h
  beside_some to way node u y failed later e a =
      retired_as (λ j. IsIn j y.parts) (IsBeside ps ws to at) m n g h
      (λ j x.
      let b : IsBeside ps ws to at j = x in
      let same : b.2.0 ≡ u.p = (let eq : Some b.2.0 ≡ Some u.p = sym b.2.2 ∙ u.found in cc) in
      let is : b.2.1 ≡ y = (let eq : Some b.2.1 ≡ Some y = sym b.2.3 ∙ ap (λ (q : Place N). slice_get ws q.above) same ∙ ap (slice_get ws) u.above ∙ e in cc) in
      subst (λ (z : Way R). IsIn j z.parts) is b.2.4)
      (λ j x. (failed, later, (u.p, y, u.found, ap (slice_get ws) u.above ∙ e, x))) a

pub under_none : {R N : Type 0} (ps : List (Place N)) (ws : List (Way R)) (at : ℕ) (m : Marks) (g : Vec ℕ Global) (p : Place N) → slice_get ps at ≡ Some p → p.ways ≡ None
    → Retired (IsUnder ps ws at) m m g g
under_none ps ws at m g p found ways =
    retired_none (IsUnder ps ws at) m g
    (λ j x.
    let u : IsUnder ps ws at j = x in
    let same : u.0 ≡ p = (let eq : Some u.0 ≡ Some p = sym u.2 ∙ found in cc) in
    absurd (let bad : Some u.1 ≡ None = sym u.3 ∙ ap (λ (q : Place _). q.ways) same ∙ ways in cc))

-- ---- marks with the same fields

statuses_as : (m n : Marks) → n.statuses ≡ m.statuses → status_at n ≡ status_at m
statuses_as m n e = ap (λ (v : Vec Mark Global). status_at (record m { statuses = v })) e

unfailed_as : (m n : Marks) → n.unfailed ≡ m.unfailed → unfailed_at n ≡ unfailed_at m
unfailed_as m n e = ap (λ (v : Vec ℕ Global). unfailed_at (record m { unfailed = v })) e

unsolved_as : (m n : Marks) → n.unsolved ≡ m.unsolved → unsolved_at n ≡ unsolved_at m
unsolved_as m n e = ap (λ (v : Vec ℕ Global). unsolved_at (record m { unsolved = v })) e

pub counted_as : {R N : Type 0} (ps : List (Place N)) (ws : List (Way R)) (m n : Marks) → n.statuses ≡ m.statuses → n.unfailed ≡ m.unfailed → n.unsolved ≡ m.unsolved
    → AreCounted (status_at m) (unsolved_at m) (unfailed_at m) ps ws → AreCounted (status_at n) (unsolved_at n) (unfailed_at n) ps ws
counted_as ps ws m n s f u a =
    subst (λ (z : ℕ → Mark). AreCounted z (unsolved_at n) (unfailed_at n) ps ws) (sym (statuses_as m n s))
    (subst (λ (z : ℕ → ℕ). AreCounted (status_at m) z (unfailed_at n) ps ws) (sym (unsolved_as m n u))
    (subst (λ (z : ℕ → ℕ). AreCounted (status_at m) (unsolved_at m) z ps ws) (sym (unfailed_as m n f)) a))

pub told_but_as : {R N : Type 0} (ps : List (Place N)) (ws : List (Way R)) (m n : Marks) (at : ℕ) (to : Mark) → n.statuses ≡ m.statuses → IsToldBut at to (status_at m) ps ws
    → IsToldBut at to (status_at n) ps ws
told_but_as ps ws m n at to s a = subst (λ (z : ℕ → Mark). IsToldBut at to z ps ws) (sym (statuses_as m n s)) a

pub told_as : {R N : Type 0} (ps : List (Place N)) (ws : List (Way R)) (m n : Marks) → n.statuses ≡ m.statuses → IsTold (status_at m) ps ws → IsTold (status_at n) ps ws
told_as ps ws m n s a = subst (λ (z : ℕ → Mark). IsTold z ps ws) (sym (statuses_as m n s)) a

pub sized_as : (m n : Marks) (a b : ℕ) → n.statuses ≡ m.statuses → length n.reached.items ≡ length m.reached.items → n.unfailed ≡ m.unfailed → n.unsolved ≡ m.unsolved → AreSized m a b
    → AreSized n a b
sized_as m n a b s r f u z = record {
  statuses = ap (λ (v : Vec Mark Global). length v.items) s ∙ z.statuses;
  reached = r ∙ z.reached;
  unfailed = ap (λ (v : Vec ℕ Global). length v.items) f ∙ z.unfailed;
  unsolved = ap (λ (v : Vec ℕ Global). length v.items) u ∙ z.unsolved;
}

module _ {R N : Type 0} (ps : List (Place N)) (ws : List (Way R)) (link : IsLinked ps ws) (m0 : Marks) (start : AreReached (status_at m0) (reached_at m0) ps ws) (to : Mark) (g0 : Vec ℕ Global)
    (empty : g0.items ≡ []) where
  none_before : (k : ℕ) → times k g0.items ≡ 0
  none_before k = ap (times k) empty

  -- ---- the first step

  module _ (leaf : ℕ) (leaf_reached : reached_at m0 leaf ≡ true) (sized : AreSized m0 (length ps) (length ws)) (told : IsToldBut leaf to (status_at m0) ps ws)
      (counted : AreCounted (status_at m0) (unsolved_at m0) (unfailed_at m0) ps ws) (m : Marks) (g : Vec ℕ Global) (reached : m.reached.items ≡ slice_set m0.reached.items leaf false)
      (statuses : m.statuses ≡ m0.statuses) (unfailed : m.unfailed ≡ m0.unfailed) (unsolved : m.unsolved ≡ m0.unsolved) (gone : g.items ≡ g0.items ++ leaf ∷ [])
      (capacity : vec_capacity g0 ≤ vec_capacity g) where
    one : Retired (λ j. j ≡ leaf) m0 m g0 g
    one = retired_one m0 m g0 g leaf leaf_reached reached statuses unfailed unsolved gone capacity

    list_of : (k : ℕ) → times k g.items ≡ one_where leaf k
    list_of k = let l : times k g.items ≡ times k g0.items + one_where leaf k = ap (times k) gone ∙ times-last k g0.items leaf in omega (arith, none_before k)

    only_leaf : (k : ℕ) → 1 ≤ times k g.items → k ≡ leaf
    only_leaf k l = elim (cases_eq leaf k) [
      | inl same ↦ sym same
      | inr other ↦ absurd (omega (arith, list_of k, one_other leaf k other))
    ]

    told_at : (j : ℕ) → status_at m j ≡ status_at m0 j
    told_at j = ap (λ (s : ℕ → Mark). s j) (statuses_as m0 m statuses)

    pub climb_starts : ClimbLoop to ps ws m0 m g0 g leaf
    climb_starts = record {
      climbing = record {
        below = omega (arith, true_within m0.reached.items leaf leaf_reached, sized.reached);
        was = leaf_reached;
        listed = omega (arith, list_of leaf, one_same leaf);
        least = λ j l. omega (arith, only_leaf j l);
        fresh = λ j l. told_at j;
        off = λ j l. told_at j;
        on = λ j l h. absurd (h (only_leaf j l));
        up = λ j p y l h f w. absurd (h (only_leaf j l));
        bits = λ k. omega (arith, one.bits k, none_before k);
      };
      lists = lists_of m0 m g0 g one;
      sized = sized_as m0 m (length ps) (length ws) statuses one.long unfailed unsolved sized;
      told = told_but_as ps ws m0 m leaf to statuses told;
      counted = counted_as ps ws m0 m statuses unfailed unsolved counted;
    }

  -- ---- a further step

  module _ (m : Marks) (g : Vec ℕ Global) (top : ℕ) (loop : ClimbLoop to ps ws m0 m g0 g top) where
    open_top : status_at m top ≡ Undecided
    open_top = loop.climbing.fresh top (omega arith) ∙ start.undecided top loop.climbing.was

    rises : (p : Place N) (y : Way R) → slice_get ps top ≡ Some p → 0 < top → slice_get ws p.above ≡ Some y → y.above < top
    rises p y found later way =
        let g : (z : Way R) × GoesDown ps ws top p z = link.in_way top p found later in
        let is : g.0 ≡ y = (let eq : Some g.0 ≡ Some y = sym g.1.way ∙ way in cc) in
        let low : g.0.parts.first ≤ top = g.1.here.low in
        let up : g.0.above < g.0.parts.first = link.rising p.above g.0 g.1.way in
        subst (λ (z : Way R). z.above < top) is (omega arith)

    pub open_above : IsOpenAbove (status_at m) ps ws top
    open_above = record {
      unfailed = λ p y found later way bad.
          let part : (i : ℕ) × (y.parts.first ≤ i) × (i < y.parts.first + y.parts.count) × (status_at m i ≡ Failed) = failed_part (status_at m) y.parts.first y.parts.count bad in
          let high : part.0 < y.parts.first + y.parts.count = part.2 in
          let at : (q : Place N) × (slice_get ps part.0 ≡ Some q) = some_at ps part.0 (omega (arith, link.parts p.above y way)) in
          let same : at.0.above ≡ p.above = link.part_above p.above y part.0 at.0 way (record { low = part.1; high = part.2 }) at.1 in
          let not_top : part.0 ≡ top → ⊥ = λ e. (let clash : Failed ≡ Undecided = sym part.3 ∙ ap (status_at m) e ∙ open_top in cc) in
          elim (cases_lt (times part.0 g.items) 1) [
            | inl none ↦
                start.unfailed top p y found later way loop.climbing.was
                (part_fails (status_at m0) y.parts.first y.parts.count part.0 part.1 part.2 (sym (loop.climbing.off part.0 (omega arith)) ∙ part.3))
            | inr some ↦
                omega (arith, rises p y found later way, loop.climbing.least y.above (loop.climbing.up part.0 at.0 y some not_top at.1 (ap (slice_get ws) same ∙ way)))
          ];
      node = λ p y found later way.
          loop.climbing.fresh y.above (omega (arith, rises p y found later way)) ∙ start.undecided y.above (start.above top p y found later way loop.climbing.was);
    }

    -- it isn't listed, so it is as it was
    unlisted : (k : ℕ) → k < top → times k g.items ≡ 0
    unlisted k l = elim (cases_lt (times k g.items) 1) [
      | inl none ↦ omega arith
      | inr some ↦ absurd (omega (arith, loop.climbing.least k some))
    ]

    module _ (n : Marks) (above : ℕ) (step : DecidesNode to top ps ws m n (Some above)) where
      node_of : IsAbove ps ws top (Some above)
      node_of = step.above

      above_less : above < top
      above_less = omega (arith, rises node_of.0 node_of.1 node_of.3 node_of.2 node_of.4, node_of.5)

      above_was : reached_at m0 above ≡ true
      above_was = ap (reached_at m0) node_of.5 ∙ start.above top node_of.0 node_of.1 node_of.3 node_of.2 node_of.4 loop.climbing.was

      pub above_reached : reached_at n above ≡ true
      above_reached =
          ap (λ (v : Vec Bool Global). slice_index_or v.items above false) step.reached
          ∙ bit_true (reached_at m above) (let was : bit (reached_at m0 above) ≡ 1 = ap bit above_was in omega (arith, loop.climbing.bits above, unlisted above above_less))

      pub room_above : length g0.items + trues m0.reached.items ≤ vec_capacity g0 → length g.items < vec_capacity g
      room_above h =
          let same : trues n.reached.items ≡ trues m.reached.items = ap (λ (v : Vec Bool Global). trues v.items) step.reached in
          omega (arith, some_true n.reached.items above above_reached, loop.lists.count, loop.lists.capacity)

      told_other : (j : ℕ) → (j ≡ top → ⊥) → status_at n j ≡ status_at m j
      told_other j h = ap (λ (xs : List Mark). slice_index_or xs j Undecided) step.statuses ∙ get_or-set_other m.statuses.items top j to Undecided h

      told_top : status_at n top ≡ to
      told_top = ap (λ (xs : List Mark). slice_index_or xs top Undecided) step.statuses ∙ get_or-set_same m.statuses.items top to Undecided (omega (arith, loop.sized.statuses, loop.climbing.below))

      module _ (o : Marks) (h : Vec ℕ Global) (reached : o.reached.items ≡ slice_set n.reached.items above false) (statuses : o.statuses ≡ n.statuses) (unfailed : o.unfailed ≡ n.unfailed)
          (unsolved : o.unsolved ≡ n.unsolved) (gone : h.items ≡ g.items ++ above ∷ []) (capacity : vec_capacity g ≤ vec_capacity h) where
        one_more : Retired (λ j. j ≡ above) n o g h
        one_more = retired_one n o g h above above_reached reached statuses unfailed unsolved gone capacity

        decided_lists : Lists m n g g
        decided_lists = record {
          bits = λ k. ap (λ (v : Vec Bool Global). bit (slice_index_or v.items k false) + times k g.items) step.reached;
          count = ap (λ (v : Vec Bool Global). length g.items + trues v.items) step.reached;
          capacity = omega arith;
          long = ap (λ (v : Vec Bool Global). length v.items) step.reached;
        }

        all_lists : Lists m o g h
        all_lists = lists_more m n o g g h decided_lists (lists_of n o g h one_more)

        told_o : (j : ℕ) → status_at o j ≡ status_at n j
        told_o j = ap (λ (s : ℕ → Mark). s j) (statuses_as n o statuses)

        list_next : (k : ℕ) → times k h.items ≡ times k g.items + one_where above k
        list_next k = ap (times k) gone ∙ times-last k g.items above

        -- what is listed now was before, or is the new one
        listed_before : (k : ℕ) → 1 ≤ times k h.items → (1 ≤ times k g.items) ⊎ (k ≡ above)
        listed_before k l = elim (cases_eq above k) [
          | inl same ↦ inr (sym same)
          | inr other ↦ inl (omega (arith, list_next k, one_other above k other))
        ]

        pub climb_goes_on : ClimbLoop to ps ws m0 o g0 h above
        climb_goes_on = record {
          climbing = record {
            below = omega (arith, above_less, loop.climbing.below);
            was = above_was;
            listed = omega (arith, list_next above, one_same above);
            least = λ j l. elim (listed_before j l) [
              | inl old ↦ omega (arith, loop.climbing.least j old, above_less)
              | inr new ↦ omega (arith, new)
            ];
            fresh = λ j l. told_o j ∙ told_other j (λ e. omega (arith, above_less)) ∙ loop.climbing.fresh j (omega (arith, above_less));
            off = λ j l.
                told_o j
                ∙ told_other j
                (λ e. let same : times j g.items ≡ times top g.items = ap (λ (k : ℕ). times k g.items) e in omega (arith, list_next j, loop.climbing.listed))
                ∙ loop.climbing.off j (omega (arith, list_next j));
            on = λ j l h. elim (listed_before j l) [
              | inl old ↦ elim (cases_eq j top) [
                | inl is ↦ told_o j ∙ ap (status_at n) is ∙ told_top
                | inr other ↦ told_o j ∙ told_other j other ∙ loop.climbing.on j old other
              ]
              | inr new ↦ absurd (h new)
            ];
            up = λ j p y l apart f w. elim (listed_before j l) [
              | inl old ↦ elim (cases_eq j top) [
                | inl is ↦
                    let same : p ≡ node_of.0 = (let eq : Some p ≡ Some node_of.0 = sym f ∙ ap (slice_get ps) is ∙ node_of.3 in cc) in
                    let way : y ≡ node_of.1 = (let eq : Some y ≡ Some node_of.1 = sym w ∙ ap (λ (q : Place N). slice_get ws q.above) same ∙ node_of.4 in cc) in
                    let up : y.above ≡ above = ap (λ (z : Way R). z.above) way ∙ sym node_of.5 in
                    subst (λ (k : ℕ). 1 ≤ times k h.items) (sym up) (omega (arith, list_next above, one_same above))
                | inr other ↦ omega (arith, list_next y.above, loop.climbing.up j p y old other f w)
              ]
              | inr new ↦ absurd (apart new)
            ];
            bits = λ k. omega (arith, all_lists.bits k, loop.climbing.bits k);
          };
          lists = lists_more m0 m o g0 g h loop.lists all_lists;
          sized = sized_as n o (length ps) (length ws) statuses one_more.long unfailed unsolved step.sized;
          told = told_but_as ps ws n o above to statuses step.told;
          counted = counted_as ps ws n o statuses unfailed unsolved step.counted;
        }

    -- ---- the end

    module _ (n : Marks) (step : DecidesNode to top ps ws m n None) where
      told_others : (j : ℕ) → (j ≡ top → ⊥) → status_at n j ≡ status_at m j
      told_others j h = ap (λ (xs : List Mark). slice_index_or xs j Undecided) step.statuses ∙ get_or-set_other m.statuses.items top j to Undecided h

      told_last : status_at n top ≡ to
      told_last = ap (λ (xs : List Mark). slice_index_or xs top Undecided) step.statuses ∙ get_or-set_same m.statuses.items top to Undecided (omega (arith, loop.sized.statuses, loop.climbing.below))

      last_lists : Lists m n g g
      last_lists = record {
        bits = λ k. ap (λ (v : Vec Bool Global). bit (slice_index_or v.items k false) + times k g.items) step.reached;
        count = ap (λ (v : Vec Bool Global). length g.items + trues v.items) step.reached;
        capacity = omega arith;
        long = ap (λ (v : Vec Bool Global). length v.items) step.reached;
      }

      pub climb_ends : IsNoted to top ps ws m0 n g0 g
      climb_ends = record {
        climbed = record {
          below = loop.climbing.below;
          listed = loop.climbing.listed;
          off = λ j l.
              told_others j (λ e. let same : times j g.items ≡ times top g.items = ap (λ (k : ℕ). times k g.items) e in omega (arith, loop.climbing.listed)) ∙ loop.climbing.off j l;
          on = λ j l. elim (cases_eq j top) [
            | inl is ↦ ap (status_at n) is ∙ told_last
            | inr other ↦ told_others j other ∙ loop.climbing.on j l other
          ];
          up = loop.climbing.up;
          bits = λ k. omega (arith, last_lists.bits k, loop.climbing.bits k);
        };
        lists = lists_more m0 m n g0 g g loop.lists last_lists;
        sized = step.sized;
        told = step.told;
        counted = step.counted;
      }
