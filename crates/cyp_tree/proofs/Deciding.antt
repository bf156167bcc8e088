-- One node is decided: what follows for its way, the node of that way and all others.
use Rattle.std.proofs.Common.{◌≡◌, refl, sym, ◌∙◌, ap, ℕ, ◌+◌, ◌-◌, ◌≤◌, ◌<◌, inl, inr, List, Option, Some, None, arith}
use Rattle.std.specs.List.{slice_get}
use Rattle.std.proofs.lemmas.Bool.{cases_eq}
use Rattle.cyp_tree.specs.declared.mark.Mark.{Mark}
use Rattle.cyp_tree.specs.declared.mark.Mark.TheVariants.{Undecided, Solved, Failed}
use Rattle.cyp_tree.specs.declared.places.Run.{Run}
use Rattle.cyp_tree.specs.declared.places.Place.{Place}
use Rattle.cyp_tree.specs.declared.places.Way.{Way}
use Rattle.cyp_tree.specs.Standing.{run_of, IsIn, GoesDown, IsLinked}
use Rattle.cyp_tree.specs.Told.{way_sum, ways_sum, node_sum, one_unsolved, one_unfailed, unsolved_from, unfailed_in, unfailed_of, IsTold, IsToldBut}
use Rattle.cyp_tree.proofs.Runs.{get_run, get_run_at}
use Rattle.cyp_tree.proofs.Sums.{open_by_rest, unfailed_one, zero_solved, solved_zero, zero_failed, failed_zero, failed_stays, solved_found, was_solved, unsolved_change, parts_failed, way_same, ways_same, unfailed_same, unfailed_change}

module _ {R N : Type 0} (ps : List (Place N)) (ws : List (Way R)) (link : IsLinked ps ws) (s t : ℕ → Mark) (at : ℕ) (same : (j : ℕ) → (j ≡ at → ⊥) → t j ≡ s j)
    (p : Place N) (found : slice_get ps at ≡ Some p) (y : Way R) (goes : GoesDown ps ws at p y) where
  -- no other way has the place among its premises
  pub only_way : (w : ℕ) (z : Way R) → slice_get ws w ≡ Some z → IsIn at z.parts → p.above ≡ w
  only_way w z e h = link.part_above w z at p e h found

  above_less : y.above < at
  above_less = let low : y.parts.first ≤ at = goes.here.low in omega (arith, link.rising p.above y goes.way)

  pub other_way : (w : ℕ) (z : Way R) → slice_get ws w ≡ Some z → (w ≡ p.above → ⊥) → IsIn at z.parts → ⊥
  other_way w z e h i = h (sym (only_way w z e i))

  -- the ways of any other node
  pub other_run : (k : ℕ) (q : Place N) (r : Run) → slice_get ps k ≡ Some q → q.ways ≡ Some r → (k ≡ y.above → ⊥) → (i : ℕ) (z : Way R) → slice_get (run_of ws r) i ≡ Some z → IsIn at z.parts → ⊥
  other_run k q r e f h i z g here =
      let run : (i < r.count) × (slice_get ws (r.first + i) ≡ Some z) = get_run r.first r.count i ws z g in
      let above : z.above ≡ k = link.run_above k q r (r.first + i) z e f (record { low = omega arith; high = omega arith }) run.1 in
      let is : z ≡ y = (let eq : Some z ≡ Some y = sym run.1 ∙ ap (slice_get ws) (sym (only_way (r.first + i) z run.1 here)) ∙ goes.way in cc) in
      h (sym above ∙ ap (λ (x : Way R). x.above) is)

  other_sum : (k : ℕ) (q : Place N) (o : Option Run) → slice_get ps k ≡ Some q → q.ways ≡ o → (k ≡ y.above → ⊥) → node_sum t ws o ≡ node_sum s ws o
  other_sum k q None e f h = refl
  other_sum k q (Some r) e f h = ways_same s t at same (run_of ws r) (other_run k q r e f h)

  pub other_unfailed : (k : ℕ) (q : Place N) (o : Option Run) → slice_get ps k ≡ Some q → q.ways ≡ o → (k ≡ y.above → ⊥) → unfailed_of t ws o ≡ unfailed_of s ws o
  other_unfailed k q None e f h = refl
  other_unfailed k q (Some r) e f h = unfailed_same s t at same (run_of ws r) (other_run k q r e f h)

  module _ (to : Mark) (open_now : s at ≡ Undecided) (decided : t at ≡ to) (but : IsToldBut at to s ps ws) where
    -- each place but that of the way is told
    told_but_above : (k : ℕ) (q : Place N) → slice_get ps k ≡ Some q → (k ≡ y.above → ⊥) → t k ≡ node_sum t ws q.ways
    told_but_above k q e h = elim (cases_eq k at) [
      | inl here ↦
          let is : p ≡ q = (let eq : Some p ≡ Some q = sym found ∙ sym (ap (slice_get ps) here) ∙ e in cc) in
          ap t here ∙ decided ∙ sym (but.1 p found) ∙ ap (λ (x : Place N). node_sum s ws x.ways) is ∙ sym (other_sum k q q.ways e refl h)
      | inr other ↦ same k other ∙ but.0 k q e other ∙ sym (other_sum k q q.ways e refl h)
    ]

    module _ (q : Place N) (r : Run) (node : slice_get ps y.above ≡ Some q) (run : q.ways ≡ Some r) (inside : IsIn p.above r) (unfailed : way_sum s y ≡ Failed → ⊥) (above_open : s y.above ≡ Undecided)
      where
        abbrev ys : List (Way R)
        ys = run_of ws r

        here : slice_get ys (p.above - r.first) ≡ Some y
        here = get_run_at r.first r.count p.above ws y inside.low inside.high goes.way

        others : (k : ℕ) (z : Way R) → (k ≡ p.above - r.first → ⊥) → slice_get ys k ≡ Some z → IsIn at z.parts → ⊥
        others k z h g i =
            let runs : (k < r.count) × (slice_get ws (r.first + k) ≡ Some z) = get_run r.first r.count k ws z g in
            let is : p.above ≡ r.first + k = only_way (r.first + k) z runs.1 i in
            h (omega arith)

        was_open : ways_sum s ys ≡ Undecided
        was_open = sym (sym above_open ∙ but.0 y.above q node (λ e. omega (arith, above_less)) ∙ ap (node_sum s ws) run)

        -- the node of the way is told by what its ways give it
        told_by : (to' : Mark) → ways_sum t ys ≡ to' → IsToldBut y.above to' t ps ws
        told_by to' e =
            (told_but_above, λ x f. let is : q ≡ x = (let eq : Some q ≡ Some x = sym node ∙ f in cc) in ap (λ (z : Place N). node_sum t ws z.ways) (sym is) ∙ ap (node_sum t ws) run ∙ e)

        told_open : ways_sum t ys ≡ Undecided → IsTold t ps ws
        told_open e k x f = elim (cases_eq k y.above) [
          | inl is ↦
              ap t is ∙ same y.above (λ bad. omega (arith, above_less)) ∙ above_open ∙ sym ((told_by Undecided e).1 x (sym (ap (slice_get ps) is) ∙ f))
          | inr other ↦ told_but_above k x f other
        ]

        -- ---- solved

        still_unfailed : t at ≡ Solved → way_sum t y ≡ Failed → ⊥
        still_unfailed e bad = unfailed (failed_stays t s back y.parts.first y.parts.count bad)
          where
            back : (i : ℕ) → t i ≡ Failed → s i ≡ Failed
            back i f = elim (cases_eq i at) [
              | inl is ↦ absurd (let no_way : Solved ≡ Failed = sym e ∙ ap t (sym is) ∙ f in cc)
              | inr other ↦ sym (same i other) ∙ f
            ]

        pub fewer_unsolved : t at ≡ Solved → unsolved_from t y.parts.first y.parts.count + 1 ≡ unsolved_from s y.parts.first y.parts.count
        fewer_unsolved e =
            let one : one_unsolved (s at) ≡ 1 = ap one_unsolved open_now in
            let none : one_unsolved (t at) ≡ 0 = ap one_unsolved e in
            omega (arith, unsolved_change s t at same y.parts.first y.parts.count goes.here.low goes.here.high)

        pub solved_up : t at ≡ Solved → unsolved_from t y.parts.first y.parts.count ≡ 0 → IsToldBut y.above Solved t ps ws
        solved_up e z = told_by Solved (solved_found t ys (p.above - r.first) y here (zero_solved t y.parts.first y.parts.count z))

        ways_stay : (way_sum t y ≡ Solved → ⊥) → ways_sum t ys ≡ Solved → ⊥
        ways_stay h bad =
            let was : ways_sum s ys ≡ Solved =
            was_solved s t ys
            (λ i z g f.
            elim (cases_eq i (p.above - r.first)) [
              | inl is ↦ absurd (let eq : z ≡ y = (let so : Some z ≡ Some y = sym g ∙ ap (slice_get ys) is ∙ here in cc) in h (sym (ap (way_sum t) eq) ∙ f))
              | inr other ↦ sym (way_same s t at same z (others i z other g)) ∙ f
            ])
            bad
            in
            let clash : Undecided ≡ Solved = sym was_open ∙ was in
            cc

        pub solved_stops : t at ≡ Solved → 0 < unsolved_from t y.parts.first y.parts.count → IsTold t ps ws
        solved_stops e z =
            told_open (open_by_rest (ways_sum t ys) (ways_stay (λ f. omega (arith, solved_zero t y.parts.first y.parts.count f)))
            (λ f. let none : unfailed_in t ys ≡ 0 = failed_zero t ys f in
            let change : unfailed_in t ys + one_unfailed (way_sum s y) ≡ unfailed_in s ys + one_unfailed (way_sum t y) = unfailed_change s t at same ys (p.above - r.first) y here others in
            omega (arith, unfailed_one (way_sum t y) (still_unfailed e), unfailed_one (way_sum s y) unfailed, open_unfailed)))
          where
            open_unfailed : 0 < unfailed_in s ys
            open_unfailed = elim (cases_eq (unfailed_in s ys) 0) [
              | inl none ↦ absurd (let clash : Undecided ≡ Failed = sym was_open ∙ zero_failed s ys none in cc)
              | inr some ↦ omega arith
            ]

        pub unfailed_kept : t at ≡ Solved → unfailed_in t ys ≡ unfailed_in s ys
        unfailed_kept e =
            omega (arith, unfailed_change s t at same ys (p.above - r.first) y here others, unfailed_one (way_sum t y) (still_unfailed e), unfailed_one (way_sum s y) unfailed)

        -- ---- failed

        now_failed : t at ≡ Failed → way_sum t y ≡ Failed
        now_failed e = parts_failed s t at same y.parts.first y.parts.count goes.here.low goes.here.high e

        pub unsolved_kept : t at ≡ Failed → unsolved_from t y.parts.first y.parts.count ≡ unsolved_from s y.parts.first y.parts.count
        unsolved_kept e =
            let one : one_unsolved (s at) ≡ 1 = ap one_unsolved open_now in
            let none : one_unsolved (t at) ≡ 1 = ap one_unsolved e in
            omega (arith, unsolved_change s t at same y.parts.first y.parts.count goes.here.low goes.here.high)

        pub fewer_unfailed : t at ≡ Failed → unfailed_in t ys + 1 ≡ unfailed_in s ys
        fewer_unfailed e =
            let none : one_unfailed (way_sum t y) ≡ 0 = ap one_unfailed (now_failed e) in
            omega (arith, unfailed_change s t at same ys (p.above - r.first) y here others, unfailed_one (way_sum s y) unfailed)

        pub failed_up : t at ≡ Failed → unfailed_in t ys ≡ 0 → IsToldBut y.above Failed t ps ws
        failed_up e z = told_by Failed (zero_failed t ys z)

        pub failed_stops : t at ≡ Failed → 0 < unfailed_in t ys → IsTold t ps ws
        failed_stops e z =
            told_open (open_by_rest (ways_sum t ys) (ways_stay (λ f. let clash : Failed ≡ Solved = sym (now_failed e) ∙ f in cc)) (λ f. omega (arith, failed_zero t ys f)))
