-- The marks after one node was noted as decided.
use Rattle.std.proofs.Common.{◌≡◌, refl, sym, ◌∙◌, ap, subst, ℕ, ◌+◌, ◌-◌, ◌≤◌, ◌<◌, inl, inr, List, length, Option, Some, None, arith}
use Rattle.std.specs.Prelude.{slice_set, slice_index_or}
use Rattle.std.specs.List.{slice_get}
use Rattle.std.specs.Vec.{with_item}
use Rattle.std.proofs.lemmas.Bool.{cases_eq}
use Rattle.std.proofs.lemmas.Option.{slice_get_read}
use Rattle.std.proofs.lemmas.List.{get_or_default, get_or-set_same, get_or-set_other, length-set}
use Rattle.cyp_tree.specs.declared.mark.Mark.{Mark}
use Rattle.cyp_tree.specs.declared.mark.Mark.TheVariants.{Undecided, Solved, Failed}
use Rattle.cyp_tree.specs.declared.places.Run.{Run}
use Rattle.cyp_tree.specs.declared.places.Place.{Place}
use Rattle.cyp_tree.specs.declared.places.Way.{Way}
use Rattle.cyp_tree.specs.declared.marks.Marks.{Marks}
use Rattle.cyp_tree.specs.Standing.{run_of, IsIn, GoesDown, IsLinked, IsUp}
use Rattle.cyp_tree.specs.Told.{way_sum, node_sum, unsolved_from, unfailed_in, unfailed_of, IsTold, IsToldBut, AreCounted}
use Rattle.cyp_tree.specs.Marked.{status_at, unsolved_at, unfailed_at, AreSized, IsOpenAbove, IsAbove, DecidesNode}
use Rattle.cyp_tree.proofs.Runs.{there_below, get_run}
use Rattle.cyp_tree.proofs.Sums.{way_unsolved_same, ways_same, unfailed_same}
use Rattle.cyp_tree.proofs.Deciding.{other_way, other_unfailed, fewer_unsolved, solved_up, solved_stops, unfailed_kept, unsolved_kept, fewer_unfailed, failed_up, failed_stops}

-- what a place's links are
pub up_from : {R N : Type 0} (ps : List (Place N)) (ws : List (Way R)) (at : ℕ) → IsLinked ps ws → (p : Place N) → slice_get ps at ≡ Some p → 0 < at → (y : Way R) → slice_get ws p.above ≡ Some y
    → IsUp ps ws at p.above y.above
up_from ps ws at link p found later y way =
    let goes : (z : Way _) × GoesDown ps ws at p z = link.in_way at p found later in
    let is : goes.0 ≡ y = (let eq : Some goes.0 ≡ Some y = sym goes.1.way ∙ way in cc) in
    let run : (q : Place _) × (r : Run) × (slice_get ps y.above ≡ Some q) × (q.ways ≡ Some r) × IsIn p.above r = link.in_run p.above y way in
    record {
      p = p;
      y = y;
      q = run.0;
      r = run.1;
      found = found;
      above = refl;
      goes = subst (λ (z : Way _). GoesDown ps ws at p z) is goes.1;
      to = refl;
      place = run.2;
      run = run.3;
      inside = run.4;
    }

module _ {R N : Type 0} (ps : List (Place N)) (ws : List (Way R)) (link : IsLinked ps ws) (m n : Marks) (sized : AreSized m (length ps) (length ws)) (at : ℕ) (below : at < length ps)
    (counted : AreCounted (status_at m) (unsolved_at m) (unfailed_at m) ps ws) (open_now : status_at m at ≡ Undecided) where
  module _ (to : Mark) (told : IsToldBut at to (status_at m) ps ws) (statuses : n.statuses.items ≡ slice_set m.statuses.items at to) (reached : n.reached ≡ m.reached) where
    status_same : (j : ℕ) → (j ≡ at → ⊥) → status_at n j ≡ status_at m j
    status_same j h = ap (λ (xs : List Mark). slice_index_or xs j Undecided) statuses ∙ get_or-set_other m.statuses.items at j to Undecided h

    status_here : status_at n at ≡ to
    status_here = ap (λ (xs : List Mark). slice_index_or xs at Undecided) statuses ∙ get_or-set_same m.statuses.items at to Undecided (omega (arith, sized.statuses))

    statuses_sized : length n.statuses.items ≡ length ps
    statuses_sized = ap length statuses ∙ length-set m.statuses.items at to ∙ sized.statuses

    -- ---- the root

    module _ (first : at ≡ 0) (unfailed : n.unfailed ≡ m.unfailed) (unsolved : n.unsolved ≡ m.unsolved) where
      no_root : (w : ℕ) (z : Way R) → slice_get ws w ≡ Some z → IsIn at z.parts → ⊥
      no_root w z e h = let low : z.parts.first ≤ at = h.low in omega (arith, link.rising w z e)

      root_run : (r : Run) (i : ℕ) (z : Way R) → slice_get (run_of ws r) i ≡ Some z → IsIn at z.parts → ⊥
      root_run r i z g h = no_root (r.first + i) z (get_run r.first r.count i ws z g).1 h

      root_sum : (o : Option Run) → node_sum (status_at n) ws o ≡ node_sum (status_at m) ws o
      root_sum None = refl
      root_sum (Some r) = ways_same (status_at m) (status_at n) at status_same (run_of ws r) (root_run r)

      root_unfailed : (o : Option Run) → unfailed_of (status_at n) ws o ≡ unfailed_of (status_at m) ws o
      root_unfailed None = refl
      root_unfailed (Some r) = unfailed_same (status_at m) (status_at n) at status_same (run_of ws r) (root_run r)

      root_told : IsTold (status_at n) ps ws
      root_told k p e = elim (cases_eq k at) [
        | inl is ↦ ap (status_at n) is ∙ status_here ∙ sym (told.1 p (sym (ap (slice_get ps) is) ∙ e)) ∙ sym (root_sum p.ways)
        | inr other ↦ status_same k other ∙ told.0 k p e other ∙ sym (root_sum p.ways)
      ]

      pub root_decided : DecidesNode to at ps ws m n None
      root_decided = record {
        statuses = statuses;
        reached = reached;
        sized = record {
          statuses = statuses_sized;
          reached = ap (λ v. length v.items) reached ∙ sized.reached;
          unfailed = ap (λ v. length v.items) unfailed ∙ sized.unfailed;
          unsolved = ap (λ v. length v.items) unsolved ∙ sized.unsolved;
        };
        counted = record {
          ways = λ w y e.
              ap (λ v. slice_index_or v.items w 0) unsolved ∙ counted.ways w y e
              ∙ sym (way_unsolved_same (status_at m) (status_at n) at status_same y (no_root w y e));
          places = λ k p e. ap (λ v. slice_index_or v.items k 0) unfailed ∙ counted.places k p e ∙ sym (root_unfailed p.ways);
        };
        told = root_told;
        above = tt;
      }

    -- ---- any other node

    module _ (later : 0 < at) (way node : ℕ) (u : IsUp ps ws at way node) (up : IsOpenAbove (status_at m) ps ws at) where
      way_there : slice_get ws way ≡ Some u.y
      way_there = sym (ap (slice_get ws) u.above) ∙ u.goes.way

      node_there : slice_get ps u.y.above ≡ Some u.q
      node_there = ap (slice_get ps) u.to ∙ u.place

      inside : IsIn u.p.above u.r
      inside = subst (λ (w : ℕ). IsIn w u.r) (sym u.above) u.inside

      above_unfailed : way_sum (status_at m) u.y ≡ Failed → ⊥
      above_unfailed = up.unfailed u.p u.y u.found later u.goes.way

      above_open : status_at m u.y.above ≡ Undecided
      above_open = up.node u.p u.y u.found later u.goes.way

      pub way_below : way < length ws
      way_below = there_below ws way u.y way_there

      pub node_below : node < length ps
      node_below = there_below ps node u.q u.place

      other_node : (k : ℕ) → (k ≡ node → ⊥) → k ≡ u.y.above → ⊥
      other_node k h e = h (e ∙ u.to)

      is_above : IsAbove ps ws at (Some node)
      is_above = (u.p, u.y, later, u.found, u.goes.way, sym u.to)

      same_way : (w : ℕ) (z : Way R) → slice_get ws w ≡ Some z → w ≡ way → z ≡ u.y
      same_way w z e is = let eq : Some z ≡ Some u.y = sym e ∙ ap (slice_get ws) is ∙ way_there in cc

      same_node : (k : ℕ) (x : Place N) → slice_get ps k ≡ Some x → k ≡ node → x.ways ≡ Some u.r
      same_node k x e is = let eq : Some x ≡ Some u.q = sym e ∙ ap (slice_get ps) is ∙ u.place in let so : x ≡ u.q = cc in ap (λ (z : Place N). z.ways) so ∙ u.run

      module _ (solved : to ≡ Solved) where
        solved_here : status_at n at ≡ Solved
        solved_here = status_here ∙ solved

        less : unsolved_from (status_at n) u.y.parts.first u.y.parts.count + 1 ≡ unsolved_at m way
        less =
            fewer_unsolved ps ws link (status_at m) (status_at n) at status_same u.p u.found u.y u.goes to open_now status_here told u.q u.r node_there u.run inside above_unfailed above_open solved_here
            ∙ sym (counted.ways way u.y way_there)

        module _ (v : ℕ) (unfailed : n.unfailed ≡ m.unfailed) (unsolved : n.unsolved.items ≡ slice_set m.unsolved.items way v) (one_less : v + 1 ≡ unsolved_at m way) where
          now_left : unsolved_from (status_at n) u.y.parts.first u.y.parts.count ≡ v
          now_left = omega (arith, less)

          unsolved_way : unsolved_at n way ≡ v
          unsolved_way = ap (λ (xs : List ℕ). slice_index_or xs way 0) unsolved ∙ get_or-set_same m.unsolved.items way v 0 (omega (arith, sized.unsolved, way_below))

          solved_ways : (w : ℕ) (z : Way R) → slice_get ws w ≡ Some z → unsolved_at n w ≡ unsolved_from (status_at n) z.parts.first z.parts.count
          solved_ways w z e = elim (cases_eq w way) [
            | inl is ↦
                ap (unsolved_at n) is ∙ unsolved_way ∙ sym now_left
                ∙ sym (ap (λ (x : Way R). unsolved_from (status_at n) x.parts.first x.parts.count) (same_way w z e is))
            | inr other ↦
                ap (λ (xs : List ℕ). slice_index_or xs w 0) unsolved ∙ get_or-set_other m.unsolved.items way w v 0 other ∙ counted.ways w z e
                ∙ sym (way_unsolved_same (status_at m) (status_at n) at status_same z
                (other_way ps ws link (status_at m) (status_at n) at status_same u.p u.found u.y u.goes w z e (λ f. other (f ∙ u.above))))
          ]

          solved_places : (k : ℕ) (x : Place N) → slice_get ps k ≡ Some x → unfailed_at n k ≡ unfailed_of (status_at n) ws x.ways
          solved_places k x e =
              ap (λ z. slice_index_or z.items k 0) unfailed ∙ counted.places k x e
              ∙ elim (cases_eq k node) [
                | inl is ↦
                    ap (unfailed_of (status_at m) ws) (same_node k x e is)
                    ∙ sym (unfailed_kept ps ws link (status_at m) (status_at n) at status_same u.p u.found u.y u.goes to open_now status_here told u.q u.r node_there u.run inside above_unfailed above_open solved_here)
                    ∙ sym (ap (unfailed_of (status_at n) ws) (same_node k x e is))
                | inr other ↦
                    sym (other_unfailed ps ws link (status_at m) (status_at n) at status_same u.p u.found u.y u.goes k x x.ways e refl (other_node k other))
              ]

          solved_sized : AreSized n (length ps) (length ws)
          solved_sized = record {
            statuses = statuses_sized;
            reached = ap (λ z. length z.items) reached ∙ sized.reached;
            unfailed = ap (λ z. length z.items) unfailed ∙ sized.unfailed;
            unsolved = ap length unsolved ∙ length-set m.unsolved.items way v ∙ sized.unsolved;
          }

          pub solve_stops : 0 < v → DecidesNode to at ps ws m n None
          solve_stops h = record {
            statuses = statuses;
            reached = reached;
            sized = solved_sized;
            counted = record { ways = solved_ways; places = solved_places };
            told =
                solved_stops ps ws link (status_at m) (status_at n) at status_same u.p u.found u.y u.goes to open_now status_here told u.q u.r node_there u.run inside above_unfailed above_open solved_here
                (omega (arith, now_left));
            above = tt;
          }

          pub solve_goes_up : v ≡ 0 → DecidesNode to at ps ws m n (Some node)
          solve_goes_up h = record {
            statuses = statuses;
            reached = reached;
            sized = solved_sized;
            counted = record { ways = solved_ways; places = solved_places };
            told =
                subst (λ (z : Mark). IsToldBut node z (status_at n) ps ws) (sym solved)
                (subst (λ (k : ℕ). IsToldBut k Solved (status_at n) ps ws) u.to
                (solved_up ps ws link (status_at m) (status_at n) at status_same u.p u.found u.y u.goes to open_now status_here told u.q u.r node_there u.run inside above_unfailed above_open solved_here
                (now_left ∙ h)));
            above = is_above;
          }

      module _ (failed : to ≡ Failed) where
        failed_here : status_at n at ≡ Failed
        failed_here = status_here ∙ failed

        less_unfailed : unfailed_in (status_at n) (run_of ws u.r) + 1 ≡ unfailed_at m node
        less_unfailed =
            fewer_unfailed ps ws link (status_at m) (status_at n) at status_same u.p u.found u.y u.goes to open_now status_here told u.q u.r node_there u.run inside above_unfailed above_open failed_here
            ∙ sym (counted.places node u.q u.place ∙ ap (unfailed_of (status_at m) ws) u.run)

        module _ (v : ℕ) (unsolved : n.unsolved ≡ m.unsolved) (unfailed : n.unfailed.items ≡ slice_set m.unfailed.items node v) (one_less : v + 1 ≡ unfailed_at m node) where
          now_unfailed : unfailed_in (status_at n) (run_of ws u.r) ≡ v
          now_unfailed = omega (arith, less_unfailed)

          failed_ways : (w : ℕ) (z : Way R) → slice_get ws w ≡ Some z → unsolved_at n w ≡ unsolved_from (status_at n) z.parts.first z.parts.count
          failed_ways w z e =
              ap (λ x. slice_index_or x.items w 0) unsolved ∙ counted.ways w z e
              ∙ elim (cases_eq w way) [
                | inl is ↦
                    ap (λ (x : Way R). unsolved_from (status_at m) x.parts.first x.parts.count) (same_way w z e is)
                    ∙ sym (unsolved_kept ps ws link (status_at m) (status_at n) at status_same u.p u.found u.y u.goes to open_now status_here told u.q u.r node_there u.run inside above_unfailed above_open failed_here)
                    ∙ sym (ap (λ (x : Way R). unsolved_from (status_at n) x.parts.first x.parts.count) (same_way w z e is))
                | inr other ↦
                    sym (way_unsolved_same (status_at m) (status_at n) at status_same z
                    (other_way ps ws link (status_at m) (status_at n) at status_same u.p u.found u.y u.goes w z e (λ f. other (f ∙ u.above))))
              ]

          failed_places : (k : ℕ) (x : Place N) → slice_get ps k ≡ Some x → unfailed_at n k ≡ unfailed_of (status_at n) ws x.ways
          failed_places k x e = elim (cases_eq k node) [
            | inl is ↦
                ap (unfailed_at n) is ∙ ap (λ (xs : List ℕ). slice_index_or xs node 0) unfailed
                ∙ get_or-set_same m.unfailed.items node v 0 (omega (arith, sized.unfailed, node_below)) ∙ sym now_unfailed
                ∙ sym (ap (unfailed_of (status_at n) ws) (same_node k x e is))
            | inr other ↦
                ap (λ (xs : List ℕ). slice_index_or xs k 0) unfailed ∙ get_or-set_other m.unfailed.items node k v 0 other ∙ counted.places k x e
                ∙ sym (other_unfailed ps ws link (status_at m) (status_at n) at status_same u.p u.found u.y u.goes k x x.ways e refl (other_node k other))
          ]

          failed_sized : AreSized n (length ps) (length ws)
          failed_sized = record {
            statuses = statuses_sized;
            reached = ap (λ z. length z.items) reached ∙ sized.reached;
            unfailed = ap length unfailed ∙ length-set m.unfailed.items node v ∙ sized.unfailed;
            unsolved = ap (λ z. length z.items) unsolved ∙ sized.unsolved;
          }

          pub fail_stops : 0 < v → DecidesNode to at ps ws m n None
          fail_stops h = record {
            statuses = statuses;
            reached = reached;
            sized = failed_sized;
            counted = record { ways = failed_ways; places = failed_places };
            told =
                failed_stops ps ws link (status_at m) (status_at n) at status_same u.p u.found u.y u.goes to open_now status_here told u.q u.r node_there u.run inside above_unfailed above_open failed_here
                (omega (arith, now_unfailed));
            above = tt;
          }

          pub fail_goes_up : v ≡ 0 → DecidesNode to at ps ws m n (Some node)
          fail_goes_up h = record {
            statuses = statuses;
            reached = reached;
            sized = failed_sized;
            counted = record { ways = failed_ways; places = failed_places };
            told =
                subst (λ (z : Mark). IsToldBut node z (status_at n) ps ws) (sym failed)
                (subst (λ (k : ℕ). IsToldBut k Failed (status_at n) ps ws) u.to
                (failed_up ps ws link (status_at m) (status_at n) at status_same u.p u.found u.y u.goes to open_now status_here told u.q u.r node_there u.run inside above_unfailed above_open failed_here
                (now_unfailed ∙ h)));
            above = is_above;
          }

-- before it: there is something to take from
module _ {R N : Type 0} (ps : List (Place N)) (ws : List (Way R)) (link : IsLinked ps ws) (m : Marks) (sized : AreSized m (length ps) (length ws)) (at : ℕ) (below : at < length ps)
    (counted : AreCounted (status_at m) (unsolved_at m) (unfailed_at m) ps ws) (open_now : status_at m at ≡ Undecided) (later : 0 < at) (way node : ℕ) (u : IsUp ps ws at way node)
    (up : IsOpenAbove (status_at m) ps ws at) where
  pub some_unsolved : IsToldBut at Solved (status_at m) ps ws → 1 ≤ unsolved_at m way
  some_unsolved told =
      omega (
        arith,
        less ps ws link m (record m { statuses = with_item m.statuses at Solved }) sized at below counted open_now Solved told refl refl later way node u up refl,
      )

  pub some_unfailed : IsToldBut at Failed (status_at m) ps ws → 1 ≤ unfailed_at m node
  some_unfailed told =
      omega (
        arith,
        less_unfailed ps ws link m (record m { statuses = with_item m.statuses at Failed }) sized at below counted open_now Failed told refl refl later way node u up refl,
      )

-- what a read gives of a place and its way
pub up_read : {R N : Type 0} (ps : List (Place N)) (ws : List (Way R)) (at : ℕ) → IsLinked ps ws → (p : Place N) (y : Way R) → at < length ps → 0 < at → p ≡ slice_index_or ps at p
    → y ≡ slice_index_or ws (slice_index_or ps at p).above y → IsUp ps ws at (slice_index_or ps at p).above (slice_index_or ws (slice_index_or ps at p).above y).above
up_read ps ws at link p y below later e f =
    let found : slice_get ps at ≡ Some p = slice_get_read ps (length ps) at p refl below e in
    let goes : (z : Way _) × GoesDown ps ws at p z = link.in_way at p found later in
    let way : slice_get ws p.above ≡ Some y =
    slice_get_read ws (length ws) p.above y refl (there_below ws p.above goes.0 goes.1.way) (f ∙ ap (λ (x : Place _). slice_index_or ws x.above y) (sym e))
    in
    subst (λ (z : Way _). IsUp ps ws at (slice_index_or ps at p).above z.above) f
    (subst (λ (x : Place _). IsUp ps ws at x.above y.above) e (up_from ps ws at link p found later y way))

-- what a read of a counter gives is the counter
pub read_is : (xs : List ℕ) (i v n : ℕ) → i < n → length xs ≡ n → v ≡ slice_index_or xs i v → v ≡ slice_index_or xs i 0
read_is xs i v n h l e = e ∙ get_or_default xs i v 0 (omega arith)

pub taken : (x a : ℕ) → x ≡ a → 1 ≤ a → x - 1 + 1 ≡ a
taken x a e h = omega arith

-- the numbers of links are within the lists
pub up_way : {R N : Type 0} (ps : List (Place N)) (ws : List (Way R)) (at way node : ℕ) → IsUp ps ws at way node → way < length ws
up_way ps ws at way node u = there_below ws way u.y (sym (ap (slice_get ws) u.above) ∙ u.goes.way)

pub up_node : {R N : Type 0} (ps : List (Place N)) (ws : List (Way R)) (at way node : ℕ) → IsUp ps ws at way node → node < length ps
up_node ps ws at way node u = there_below ps node u.q u.place
