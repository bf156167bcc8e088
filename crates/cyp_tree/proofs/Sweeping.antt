-- What is under listed nodes is no longer reached, node after node.
use Rattle.std.proofs.Common.{◌≡◌, refl, sym, ◌∙◌, ap, subst, ℕ, zero, suc, ◌+◌, ◌≤◌, ◌<◌, ◌⊎◌, inl, inr, Bool, true, false, List, length, Some, Vec, arith}
use Rattle.std.specs.List.{slice_get}
use Rattle.std.specs.declared.alloc.Global.{Global}
use Rattle.std.proofs.lemmas.Bool.{cases_eq, cases_lt}
use Rattle.cyp_tree.specs.declared.mark.Mark.{Mark}
use Rattle.cyp_tree.specs.declared.mark.Mark.TheVariants.{Undecided, Solved, Failed}
use Rattle.cyp_tree.specs.declared.places.Run.{Run}
use Rattle.cyp_tree.specs.declared.places.Place.{Place}
use Rattle.cyp_tree.specs.declared.places.Way.{Way}
use Rattle.cyp_tree.specs.declared.marks.Marks.{Marks}
use Rattle.cyp_tree.specs.Statuses.{both}
use Rattle.cyp_tree.specs.Standing.{IsIn, GoesDown, IsLinked}
use Rattle.cyp_tree.specs.Told.{parts_sum, way_sum, AreReached}
use Rattle.cyp_tree.specs.Marked.{status_at, reached_at}
use Rattle.cyp_tree.specs.Dying.{times, bit, Retired, IsUnder, IsBeside, Lists, Climbed, Sweeping}
use Rattle.cyp_tree.proofs.Runs.{some_at, there_below}
use Rattle.cyp_tree.proofs.Sums.{both_failed, failed_stays}
use Rattle.cyp_tree.proofs.Retiring.{not_true, both_ways, bit_true, bit_le, bit_false, true_within, there_listed, listed_there}

-- ---- failed parts

both_failed_by : (a b : Mark) → both a b ≡ Failed → (a ≡ Failed) ⊎ (b ≡ Failed)
both_failed_by Undecided Undecided e = cc
both_failed_by Undecided Solved e = cc
both_failed_by Undecided Failed e = inr refl
both_failed_by Solved b e = inr e
both_failed_by Failed b e = inl refl

-- a failed way has a failed part
pub failed_part : (s : ℕ → Mark) (j c : ℕ) → parts_sum s j c ≡ Failed → (i : ℕ) × (j ≤ i) × (i < j + c) × (s i ≡ Failed)
failed_part s j zero e = cc
failed_part s j (suc c) e = elim (both_failed_by (s j) (parts_sum s (suc j) c) e) [
  | inl a ↦ (j, omega arith, omega arith, a)
  | inr b ↦
      let h : (i : ℕ) × (suc j ≤ i) × (i < suc j + c) × (s i ≡ Failed) = failed_part s (suc j) c b in
      (h.0, (let l : suc j ≤ h.0 = h.1 in omega arith), (let l : h.0 < suc j + c = h.2 in omega arith), h.3)
]

pub part_fails : (s : ℕ → Mark) (j c i : ℕ) → j ≤ i → i < j + c → s i ≡ Failed → parts_sum s j c ≡ Failed
part_fails s j zero i l h e = absurd (omega arith)
part_fails s j (suc c) i l h e = elim (cases_eq j i) [
  | inl here ↦ ap (λ (z : Mark). both z (parts_sum s (suc j) c)) (ap s here ∙ e)
  | inr other ↦ ap (both (s j)) (part_fails s (suc j) c i (omega arith) (omega arith) e) ∙ both_failed (s j)
]

pub failed_or : (a : Mark) → (a ≡ Failed) ⊎ (a ≡ Failed → ⊥)
failed_or Undecided = inr (λ e. cc)
failed_or Solved = inr (λ e. cc)
failed_or Failed = inl refl

-- ---- lists

pub lists_of : {of : ℕ → Type 0} (m n : Marks) (g h : Vec ℕ Global) → Retired of m n g h → Lists m n g h
lists_of m n g h a = record { bits = a.bits; count = a.count; capacity = a.capacity; long = a.long }

pub lists_more : (m n o : Marks) (g h i : Vec ℕ Global) → Lists m n g h → Lists n o h i → Lists m o g i
lists_more m n o g h i a b = record { bits = λ k. b.bits k ∙ a.bits k; count = b.count ∙ a.count; capacity = omega (arith, a.capacity, b.capacity); long = b.long ∙ a.long }

pub lists_none : (m : Marks) (g : Vec ℕ Global) → Lists m m g g
lists_none m g = record { bits = λ k. refl; count = refl; capacity = omega arith; long = refl }

module _ {R N : Type 0} (ps : List (Place N)) (ws : List (Way R)) (link : IsLinked ps ws) where
  -- a place is a premise of one way
  one_way : (j w : ℕ) (p : Place N) (y z : Way R) → slice_get ps j ≡ Some p → slice_get ws p.above ≡ Some y → slice_get ws w ≡ Some z → IsIn j z.parts → (p.above ≡ w) × (z ≡ y)
  one_way j w p y z found way e h =
      let same : p.above ≡ w = link.part_above w z j p e h found in
      (same, (let eq : Some z ≡ Some y = sym e ∙ ap (slice_get ws) (sym same) ∙ way in cc))

  under_above : (at j : ℕ) (p : Place N) (y : Way R) → slice_get ps j ≡ Some p → slice_get ws p.above ≡ Some y → IsUnder ps ws at j → y.above ≡ at
  under_above at j p y found way (q, r, node, run, (w, z, inside, e, h)) =
      let same : (p.above ≡ w) × (z ≡ y) = one_way j w p y z found way e h in
      sym (ap (λ (x : Way R). x.above) same.1) ∙ link.run_above at q r w z node run inside e

  above_under : (at j : ℕ) (p : Place N) (y : Way R) → slice_get ps j ≡ Some p → 0 < j → slice_get ws p.above ≡ Some y → y.above ≡ at → IsUnder ps ws at j
  above_under at j p y found later way e =
      let h : (q : Place N) × (r : Run) × (slice_get ps y.above ≡ Some q) × (q.ways ≡ Some r) × IsIn p.above r = link.in_run p.above y way in
      let g : (z : Way R) × GoesDown ps ws j p z = link.in_way j p found later in
      let same : g.0 ≡ y = (let eq : Some g.0 ≡ Some y = sym g.1.way ∙ way in cc) in
      (h.0, h.1, sym (ap (slice_get ps) e) ∙ h.2, h.3, (p.above, y, h.4, way, subst (λ (z : Way R). IsIn j z.parts) same g.1.here))

  no_root : (w : ℕ) (z : Way R) → slice_get ws w ≡ Some z → IsIn 0 z.parts → ⊥
  no_root w z e h = let low : z.parts.first ≤ 0 = h.low in omega (arith, link.rising w z e)

  -- one listed number more was looked at
  module _ (m n : Marks) (g h : Vec ℕ Global) (i x : ℕ) (sizes : length m.reached.items ≡ length ps) (at : slice_get g.items i ≡ Some x) (before : Sweeping (status_at m) (reached_at m) g.items i ps ws)
      (a : Retired (IsUnder ps ws x) m n g h) where
    told_same : (j : ℕ) → status_at n j ≡ status_at m j
    told_same j = ap (λ (v : Vec Mark Global). status_at (record m { statuses = v }) j) a.statuses

    way_same : (y : Way R) → way_sum (status_at n) y ≡ way_sum (status_at m) y
    way_same y = ap (λ (v : Vec Mark Global). way_sum (status_at (record m { statuses = v })) y) a.statuses

    total : (k : ℕ) → bit (reached_at n k) + times k h.items ≡ bit (reached_at m k) + times k g.items
    total k = a.bits k

    unreached_next : (k : ℕ) → 1 ≤ times k h.items → reached_at n k ≡ false
    unreached_next k l = elim (cases_lt (times k g.items) 1) [
      | inl none ↦ bit_false (reached_at n k) (omega (arith, total k, bit_le (reached_at m k)))
      | inr some ↦ not_true (reached_at n k) (λ t. both_ways (reached_at m k) (a.fewer k t) (before.unreached k (omega arith)))
    ]

    within_next : (k : ℕ) → 1 ≤ times k h.items → k < length ps
    within_next k l = elim (cases_lt (times k g.items) 1) [
      | inl none ↦
          let t : reached_at m k ≡ true = bit_true (reached_at m k) (omega (arith, total k)) in
          omega (arith, true_within m.reached.items k t)
      | inr some ↦ before.within k (omega arith)
    ]

    -- what was reached and is listed stands behind
    listed_later : (k : ℕ) → reached_at m k ≡ true → reached_at n k ≡ false → (c : ℕ) × (i + 1 ≤ c) × (slice_get h.items c ≡ Some k)
    listed_later k t f =
        let one : bit (reached_at m k) ≡ 1 = ap bit t in
        let none : bit (reached_at n k) ≡ 0 = ap bit f in
        let there : (c : ℕ) × (slice_get h.items c ≡ Some k) = listed_there k h.items (omega (arith, total k)) in
        elim (cases_lt there.0 (length g.items)) [
          | inl less ↦
              let old : (y : ℕ) × (slice_get g.items there.0 ≡ Some y) = some_at g.items there.0 less in
              let same : old.0 ≡ k = (let eq : Some old.0 ≡ Some k = sym (a.behind there.0 old.0 old.1) ∙ there.1 in cc) in
              absurd (both_ways (reached_at m k) t (before.unreached k (there_listed k g.items there.0 (old.1 ∙ ap Some same))))
          | inr more ↦ (there.0, omega (arith, there_below g.items i x at), there.1)
        ]

    up_next : (j : ℕ) (p : Place N) (y : Way R) → slice_get ps j ≡ Some p → 0 < j → slice_get ws p.above ≡ Some y → reached_at n j ≡ true
        → ((way_sum (status_at n) y ≡ Failed → ⊥) × (reached_at n y.above ≡ true)) ⊎ ((c : ℕ) × (i + 1 ≤ c) × (slice_get h.items c ≡ Some y.above))
    up_next j p y found later way t = elim (before.up j p y found later way (a.fewer j t)) [
      | inl good ↦ elim (a.spared y.above good.1) [
        | inl stays ↦ inl ((λ bad. good.0 (sym (way_same y) ∙ bad)), stays)
        | inr under ↦ inr (listed_later y.above good.1 (a.taken y.above under))
      ]
      | inr ahead ↦ elim (cases_eq ahead.0 i) [
        | inl here ↦
            let is : y.above ≡ x = (let eq : Some y.above ≡ Some x = sym ahead.2 ∙ ap (slice_get g.items) here ∙ at in cc) in
            absurd (both_ways (reached_at n j) t (a.taken j (above_under x j p y found later way is)))
        | inr further ↦ inr (ahead.0, (let l : i ≤ ahead.0 = ahead.1 in omega arith), a.behind ahead.0 y.above ahead.2)
      ]
    ]

    pub sweeping_next : Sweeping (status_at n) (reached_at n) h.items (i + 1) ps ws
    sweeping_next = record {
      root = λ e. elim (a.spared 0 (before.root (sym (told_same 0) ∙ e))) [
        | inl stays ↦ stays
        | inr u ↦ absurd (let under : IsUnder ps ws x 0 = u in no_root under.4.0 under.4.1 under.4.3 under.4.4)
      ];
      undecided = λ j t. told_same j ∙ before.undecided j (a.fewer j t);
      down = λ j p y found later way o good t.
          elim (a.spared j (before.down j p y found later way (sym (told_same j) ∙ o) (λ bad. good (way_same y ∙ bad)) (a.fewer y.above t))) [
            | inl stays ↦ stays
            | inr u ↦
                absurd (both_ways (reached_at m y.above) (a.fewer y.above t)
                (ap (reached_at m) (under_above x j p y found way u) ∙ before.unreached x (there_listed x g.items i at)))
          ];
      up = up_next;
      unreached = unreached_next;
      within = within_next;
    }

  -- at the end the reached numbers are as they are to be
  pub swept : (s : ℕ → Mark) (r : ℕ → Bool) (gone : List ℕ) → Sweeping s r gone (length gone) ps ws → AreReached s r ps ws
  swept s r gone a = record {
    root = a.root;
    undecided = a.undecided;
    down = a.down;
    unfailed = λ j p y found later way t. elim (a.up j p y found later way t) [
      | inl good ↦ good.0
      | inr ahead ↦ absurd (let l : length gone ≤ ahead.0 = ahead.1 in omega (arith, there_below gone ahead.0 y.above ahead.2))
    ];
    above = λ j p y found later way t. elim (a.up j p y found later way t) [
      | inl good ↦ good.1
      | inr ahead ↦ absurd (let l : length gone ≤ ahead.0 = ahead.1 in omega (arith, there_below gone ahead.0 y.above ahead.2))
    ];
  }

  -- ---- from the climb to the sweep

  module _ (to : Mark) (decided : to ≡ Undecided → ⊥) (s0 : ℕ → Mark) (r0 : ℕ → Bool) (start : AreReached s0 r0 ps ws) (m n : Marks) (g h : Vec ℕ Global) (top : ℕ)
      (long : length m.reached.items ≡ length ps) (climbed : Climbed to s0 r0 (status_at m) (reached_at m) g.items top ps ws) (a : Retired (IsBeside ps ws to top) m n g h)
      (all_within : (k : ℕ) → r0 k ≡ true → k < length ps) where
    same_told : (j : ℕ) → status_at n j ≡ status_at m j
    same_told j = ap (λ (v : Vec Mark Global). status_at (record m { statuses = v }) j) a.statuses

    same_way : (y : Way R) → way_sum (status_at n) y ≡ way_sum (status_at m) y
    same_way y = ap (λ (v : Vec Mark Global). way_sum (status_at (record m { statuses = v })) y) a.statuses

    all_bits : (k : ℕ) → bit (reached_at n k) + times k h.items ≡ bit (r0 k)
    all_bits k = a.bits k ∙ climbed.bits k

    -- what is listed was open
    listed_open : (k : ℕ) → 1 ≤ times k g.items → s0 k ≡ Undecided
    listed_open k l = start.undecided k (bit_true (r0 k) (omega (arith, climbed.bits k)))

    open_unlisted : (k : ℕ) → status_at m k ≡ Undecided → times k g.items ≡ 0
    open_unlisted k o = elim (cases_lt (times k g.items) 1) [
      | inl none ↦ omega arith
      | inr some ↦ absurd (decided (sym (climbed.on k (omega arith)) ∙ o))
    ]

    -- what is reached was, and isn't listed
    still : (k : ℕ) → reached_at m k ≡ true → (r0 k ≡ true) × (times k g.items ≡ 0)
    still k t =
        let one : bit (reached_at m k) ≡ 1 = ap bit t in
        (bit_true (r0 k) (omega (arith, climbed.bits k)), omega (arith, climbed.bits k, bit_le (r0 k)))

    was_reached : (k : ℕ) → r0 k ≡ true → times k g.items ≡ 0 → reached_at m k ≡ true
    was_reached k t z = let one : bit (r0 k) ≡ 1 = ap bit t in bit_true (reached_at m k) (omega (arith, climbed.bits k))

    failed_before : (y : Way R) → way_sum s0 y ≡ Failed → way_sum (status_at m) y ≡ Failed
    failed_before y e =
        failed_stays s0 (status_at m)
        (λ i f.
        elim (cases_lt (times i g.items) 1) [
          | inl none ↦ climbed.off i (omega arith) ∙ f
          | inr some ↦ absurd (let bad : Undecided ≡ Failed = sym (listed_open i (omega arith)) ∙ f in cc)
        ])
        y.parts.first y.parts.count e

    in_list : (k : ℕ) → r0 k ≡ true → reached_at n k ≡ false → (c : ℕ) × (0 ≤ c) × (slice_get h.items c ≡ Some k)
    in_list k t f =
        let one : bit (r0 k) ≡ 1 = ap bit t in
        let none : bit (reached_at n k) ≡ 0 = ap bit f in
        let there : (c : ℕ) × (slice_get h.items c ≡ Some k) = listed_there k h.items (omega (arith, all_bits k)) in
        (there.0, omega arith, there.1)

    up_now : (j : ℕ) (p : Place N) (y : Way R) → slice_get ps j ≡ Some p → 0 < j → slice_get ws p.above ≡ Some y → reached_at n j ≡ true
        → ((way_sum (status_at n) y ≡ Failed → ⊥) × (reached_at n y.above ≡ true)) ⊎ ((c : ℕ) × (0 ≤ c) × (slice_get h.items c ≡ Some y.above))
    up_now j p y found later way t =
        let r : reached_at m j ≡ true = a.fewer j t in
        let good : way_sum s0 y ≡ Failed → ⊥ = start.unfailed j p y found later way (still j r).0 in
        let higher : r0 y.above ≡ true = start.above j p y found later way (still j r).0 in
        elim (failed_or (way_sum (status_at m) y)) [
          | inr fine ↦ by_reached j p y higher fine (reached_at n y.above) refl
          | inl bad ↦
              let part : (i : ℕ) × (y.parts.first ≤ i) × (i < y.parts.first + y.parts.count) × (status_at m i ≡ Failed) = failed_part (status_at m) y.parts.first y.parts.count bad in
              let inside : IsIn part.0 y.parts = record { low = part.1; high = part.2 } in
              let fits : y.parts.first + y.parts.count ≤ length ps = link.parts p.above y way in
              let high : part.0 < y.parts.first + y.parts.count = part.2 in
              let low : y.parts.first ≤ part.0 = part.1 in
              let at : (q : Place N) × (slice_get ps part.0 ≡ Some q) = some_at ps part.0 (omega arith) in
              let same : at.0.above ≡ p.above = link.part_above p.above y part.0 at.0 way inside at.1 in
              let some : 1 ≤ times part.0 g.items = elim (cases_lt (times part.0 g.items) 1) [
                | inl none ↦ absurd (good (part_fails s0 y.parts.first y.parts.count part.0 part.1 part.2 (sym (climbed.off part.0 (omega arith)) ∙ part.3)))
                | inr more ↦ more
              ] in
              elim (cases_eq part.0 top) [
                | inl is ↦
                    let failed : to ≡ Failed = sym (climbed.on part.0 some) ∙ part.3 in
                    let rises : y.above < y.parts.first = link.rising p.above y way in
                    let mine : IsIn j y.parts = (let g : (z : Way R) × GoesDown ps ws j p z = link.in_way j p found later in
                    let eq : g.0 ≡ y = (let so : Some g.0 ≡ Some y = sym g.1.way ∙ way in cc) in subst (λ (z : Way R). IsIn j z.parts) eq g.1.here) in
                    let beside : IsBeside ps ws to top j =
                    (failed, (let positive : 0 < top = omega arith in positive), (at.0, y, sym (ap (slice_get ps) is) ∙ at.1, ap (slice_get ws) same ∙ way, mine))
                    in
                    absurd (both_ways (reached_at n j) t (a.taken j beside))
                | inr other ↦
                    let there : (c : ℕ) × (slice_get g.items c ≡ Some y.above) = listed_there y.above g.items (climbed.up part.0 at.0 y some other at.1 (ap (slice_get ws) same ∙ way)) in
                    inr (there.0, omega arith, a.behind there.0 y.above there.1)
              ]
        ]
      where
        by_reached : (j : ℕ) (p : Place N) (y : Way R) → r0 y.above ≡ true → (way_sum (status_at m) y ≡ Failed → ⊥) → (b : Bool) → reached_at n y.above ≡ b
            → ((way_sum (status_at n) y ≡ Failed → ⊥) × (reached_at n y.above ≡ true)) ⊎ ((c : ℕ) × (0 ≤ c) × (slice_get h.items c ≡ Some y.above))
        by_reached j p y higher fine true e = inl ((λ bad. fine (sym (same_way y) ∙ bad)), e)
        by_reached j p y higher fine false e = inr (in_list y.above higher e)

    pub sweeping_now : Sweeping (status_at n) (reached_at n) h.items 0 ps ws
    sweeping_now = record {
      root = λ e.
          let unlisted : times 0 g.items ≡ 0 = open_unlisted 0 (sym (same_told 0) ∙ e) in
          elim (a.spared 0 (was_reached 0 (start.root (sym (climbed.off 0 unlisted) ∙ sym (same_told 0) ∙ e)) unlisted)) [
            | inl stays ↦ stays
            | inr u ↦ absurd (let b : IsBeside ps ws to top 0 = u in no_root b.2.0.above b.2.1 b.2.3 b.2.4)
          ];
      undecided = λ j t.
          let z : (r0 j ≡ true) × (times j g.items ≡ 0) = still j (a.fewer j t) in
          same_told j ∙ climbed.off j z.1 ∙ start.undecided j z.0;
      down = λ j p y found later way o good t.
          let unlisted : times j g.items ≡ 0 = open_unlisted j (sym (same_told j) ∙ o) in
          let was : r0 j ≡ true =
          start.down j p y found later way (sym (climbed.off j unlisted) ∙ sym (same_told j) ∙ o) (λ bad. good (same_way y ∙ failed_before y bad)) (still y.above (a.fewer y.above t)).0
          in
          elim (a.spared j (was_reached j was unlisted)) [
            | inl stays ↦ stays
            | inr u ↦ absurd (beside_failed j p y found way good u)
          ];
      up = up_now;
      unreached = λ k l. bit_false (reached_at n k) (omega (arith, all_bits k, bit_le (r0 k)));
      within = λ k l. all_within k (bit_true (r0 k) (omega (arith, all_bits k)));
    }
      where
        beside_failed : (j : ℕ) (p : Place N) (y : Way R) → slice_get ps j ≡ Some p → slice_get ws p.above ≡ Some y → (way_sum (status_at n) y ≡ Failed → ⊥) → IsBeside ps ws to top j → ⊥
        beside_failed j p y found way good (failed, later, (q, z, node, e, inside)) =
            let same : (p.above ≡ q.above) × (z ≡ y) = one_way j q.above p y z found way e inside in
            let g : (x : Way R) × GoesDown ps ws top q x = link.in_way top q node later in
            let is : g.0 ≡ z = (let so : Some g.0 ≡ Some z = sym g.1.way ∙ e in cc) in
            let mine : IsIn top y.parts = subst (λ (x : Way R). IsIn top x.parts) (is ∙ same.1) g.1.here in
            good (same_way y ∙ part_fails (status_at m) y.parts.first y.parts.count top mine.low mine.high (climbed.on top climbed.listed ∙ failed))
