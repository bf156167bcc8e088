-- From a decided leaf to marks that are those of the statuses again.
use Rattle.std.proofs.Common.{◌≡◌, ◌∙◌, ap, ℕ, ◌+◌, ◌≤◌, List, [], length, Vec, vec_capacity, arith}
use Rattle.std.specs.declared.alloc.Global.{Global}
use Rattle.cyp_tree.specs.declared.mark.Mark.{Mark}
use Rattle.cyp_tree.specs.declared.mark.Mark.TheVariants.{Undecided}
use Rattle.cyp_tree.specs.declared.places.Place.{Place}
use Rattle.cyp_tree.specs.declared.places.Way.{Way}
use Rattle.cyp_tree.specs.declared.marks.Marks.{Marks}
use Rattle.cyp_tree.specs.Standing.{IsLinked}
use Rattle.cyp_tree.specs.Told.{IsTold, AreCounted, AreReached}
use Rattle.cyp_tree.specs.Marked.{status_at, reached_at, unsolved_at, unfailed_at, AreSized}
use Rattle.cyp_tree.specs.Dying.{times, trues, Retired, IsBeside, IsNoted, Sweeping, IsSwept, IsBuried}
use Rattle.cyp_tree.proofs.Retiring.{true_within}
use Rattle.cyp_tree.proofs.Sweeping.{sweeping_now, swept}
use Rattle.cyp_tree.proofs.Climbs.{told_as, counted_as, sized_as}

module _ {R N : Type 0} (ps : List (Place N)) (ws : List (Way R)) (link : IsLinked ps ws) (to : Mark) (decided : to ≡ Undecided → ⊥) (m0 m1 : Marks) (g0 g1 : Vec ℕ Global) (top : ℕ)
    (sized : AreSized m0 (length ps) (length ws)) (start : AreReached (status_at m0) (reached_at m0) ps ws) (empty : g0.items ≡ []) (noted : IsNoted to top ps ws m0 m1 g0 g1) where
  pub long_after : length m1.reached.items ≡ length ps
  long_after = noted.lists.long ∙ sized.reached

  pub room_after : trues m0.reached.items ≤ vec_capacity g0 → length g1.items + trues m1.reached.items ≤ vec_capacity g1
  room_after h = let none : length g0.items ≡ 0 = ap length empty in omega (arith, noted.lists.count, noted.lists.capacity)

  module _ (m2 : Marks) (g2 : Vec ℕ Global) (beside : Retired (IsBeside ps ws to top) m1 m2 g1 g2) where
    pub long_next : length m2.reached.items ≡ length ps
    long_next = beside.long ∙ long_after

    pub room_next : trues m0.reached.items ≤ vec_capacity g0 → length g2.items + trues m2.reached.items ≤ vec_capacity g2
    room_next h = omega (arith, room_after h, beside.count, beside.capacity)

    pub ready : Sweeping (status_at m2) (reached_at m2) g2.items 0 ps ws
    ready =
        sweeping_now ps ws link to decided (status_at m0) (reached_at m0) start m1 m2 g1 g2 top long_after noted.climbed beside
        (λ k t. omega (arith, true_within m0.reached.items k t, sized.reached))

    pub buried : (m3 : Marks) (g3 : Vec ℕ Global) → IsSwept ps ws m2 m3 g2 g3 → IsBuried ps ws m0 m3 g3.items
    buried m3 g3 swept_all = record {
      told = told_as ps ws m1 m3 (swept_all.statuses ∙ beside.statuses) noted.told;
      counted = counted_as ps ws m1 m3 (swept_all.statuses ∙ beside.statuses) (swept_all.unfailed ∙ beside.unfailed) (swept_all.unsolved ∙ beside.unsolved) noted.counted;
      sized =
          sized_as m1 m3 (length ps) (length ws) (swept_all.statuses ∙ beside.statuses) (swept_all.lists.long ∙ beside.long) (swept_all.unfailed ∙ beside.unfailed) (swept_all.unsolved ∙ beside.unsolved)
          noted.sized;
      reached = swept ps ws link (status_at m3) (reached_at m3) g3.items swept_all.sweeping;
      bits = λ k. swept_all.lists.bits k ∙ beside.bits k ∙ noted.climbed.bits k;
      count = let none : length g0.items ≡ 0 = ap length empty in omega (arith, swept_all.lists.count, beside.count, noted.lists.count);
    }

-- where the leaf stays open, nothing follows
pub open_buried : {R N : Type 0} (ps : List (Place N)) (ws : List (Way R)) (m : Marks) (gone : List ℕ) → IsTold (status_at m) ps ws → AreCounted (status_at m) (unsolved_at m) (unfailed_at m) ps ws
    → AreSized m (length ps) (length ws) → AreReached (status_at m) (reached_at m) ps ws → gone ≡ [] → IsBuried ps ws m m gone
open_buried ps ws m gone told counted sized reached empty = record {
  told = told;
  counted = counted;
  sized = sized;
  reached = reached;
  bits = λ k. let none : times k gone ≡ 0 = ap (times k) empty in omega arith;
  count = let none : length gone ≡ 0 = ap length empty in omega arith;
}
