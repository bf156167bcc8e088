-- What an arena's marks say of the whole tree, and what a graft makes of it.
use Rattle.std.proofs.Common.{◌≡◌, sym, ◌∙◌, ap, subst, ℕ, ◌+◌, ◌≤◌, ◌<◌, true, false, List, length, Some, None, arith}
use Rattle.std.specs.List.{slice_get}
use Rattle.std.proofs.lemmas.Option.{slice_get-get_or, get_or_from_slice_get}
use Rattle.cyp_space.specs.Alts.{AltOf, premises_in}
use Rattle.cyp_tree.specs.declared.places.Place.{Place}
use Rattle.cyp_tree.specs.declared.places.Way.{Way}
use Rattle.cyp_tree.specs.declared.marks.Marks.{Marks}
use Rattle.cyp_tree.specs.Trees.{Tree}
use Rattle.cyp_tree.specs.Statuses.{status}
use Rattle.cyp_tree.specs.Sizes.{size}
use Rattle.cyp_tree.specs.Growing.{new_alts, graft}
use Rattle.cyp_tree.specs.Numbers.{IsNumbered, leaves, Rises}
use Rattle.cyp_tree.specs.Places.{IsLive}
use Rattle.cyp_tree.specs.Standing.{Stands, standing}
use Rattle.cyp_tree.specs.Marked.{status_at, reached_at}
use Rattle.cyp_tree.specs.Dying.{times}
use Rattle.cyp_tree.specs.Enlarged.{grown_places, AreSame}
use Rattle.cyp_tree.specs.Arenas.{IsArena, IsLeafPlace, HasGrafted}
use Rattle.cyp_tree.specs.Wholes.{IsWhole, AreKilled}
use Rattle.cyp_tree.proofs.Runs.{there_below}
use Rattle.cyp_tree.proofs.Planting.{standing_stands, standing_is}
use Rattle.cyp_tree.proofs.Telling.{status_told}
use Rattle.cyp_tree.proofs.LiveIn.{LiveIn, live_listed, listed_live, live_is_open, live_reached, reached_live}
use Rattle.cyp_tree.proofs.Retiring.{not_true, both_ways, there_listed, listed_there}
use Rattle.cyp_tree.proofs.Enlarging.{stands_grafted, leaf_place}
use Rattle.cyp_tree.proofs.NewNumbers.{grafted_numbered}
use Rattle.cyp_tree.specs.Enlarged.{with_ways}
use Rattle.cyp_tree.proofs.Same.{arena_as}
use Rattle.cyp_tree.proofs.Retiring.{true_within}
use Rattle.cyp_tree.proofs.Enlarging.{other_places}
use Rattle.cyp_tree.proofs.Linking.{TheLeaf, Another, NewOne, place_from, length_places}
use Rattle.cyp_tree.proofs.LiveLeaf.{live_leaf_at, grown_size}

module _ {R N : Type 0} (root : N) (ps : List (Place N)) (ws : List (Way R)) (m : Marks) (arena : IsArena ps ws m) where
  abbrev whole : Tree R N
  whole = standing root ps ws

  stands : Stands ps ws 0 whole
  stands = standing_stands ps ws root arena.linked

  pub status_is : status whole ≡ status_at m 0
  status_is = status_told (status_at m) ps ws arena.told 0 whole stands

  live_in : (k : ℕ) → IsLive whole k → LiveIn k whole
  live_in k h = listed_live (λ _. 0) k 0 whole h

  -- a live leaf is reached
  pub live_here : (k : ℕ) → IsLive whole k → (reached_at m k ≡ true) × IsLeafPlace ps k
  live_here k h =
      live_reached (status_at m) (reached_at m) ps ws arena.linked arena.told arena.reached k 0 whole stands
      (arena.reached.root (sym status_is ∙ live_is_open k whole (live_in k h))) (live_in k h)

  -- a leaf that is reached is live
  pub here_live : (k : ℕ) → reached_at m k ≡ true → IsLeafPlace ps k → IsLive whole k
  here_live k r p = live_listed (λ _. 0) k 0 whole (reached_live (status_at m) (reached_at m) ps ws arena.linked arena.told arena.reached k whole stands r p)

module _ {R N : Type 0} (root : N) (ps : List (Place N)) (ws : List (Way R)) (m : Marks) (whole_is : IsWhole root ps ws m) (leaf : ℕ) (as' : List (AltOf R N)) (live : IsLive (standing root ps ws) leaf) where
  abbrev t : Tree R N
  t = standing root ps ws

  abbrev u : Tree R N
  u = graft leaf (new_alts (size t) as') t

  here : (reached_at m leaf ≡ true) × IsLeafPlace ps leaf
  here = live_here root ps ws m whole_is.arena leaf live

  one_leaf : leaves leaf t ≡ 1
  one_leaf = live_leaf_at t leaf whole_is.numbered live

  more : size u ≡ size t + premises_in as'
  more = grown_size t leaf as' whole_is.numbered live

  pub few_places : size u ≤ 1000000 → length ps + premises_in as' ≤ 1000000
  few_places h = omega (arith, more, whole_is.counted)

  module _ (root' : N) (qs : List (Place N)) (zs : List (Way R)) (o : Marks) (killed : List ℕ) (h : HasGrafted leaf as' ps ws m qs zs o killed) where
    places_are : qs ≡ grown_places leaf here.1.0 (length ws) as' ps
    places_are = h.places here.1.0 here.1.1

    grown_stands : Stands qs zs 0 (graft leaf (new_alts (length ps) as') t)
    grown_stands =
        subst (λ (x : List (Place N)). Stands x zs 0 (graft leaf (new_alts (length ps) as') t)) (sym places_are)
        (subst (λ (y : List (Way R)). Stands (grown_places leaf here.1.0 (length ws) as' ps) y 0 (graft leaf (new_alts (length ps) as') t)) (sym h.ways)
        (stands_grafted ps ws whole_is.arena.linked leaf here.1.0 as' here.1.1 here.1.2 0 t (standing_stands ps ws root whole_is.arena.linked)))

    -- the arena stands for the tree with the moves at the leaf
    pub is_grafted : standing root' qs zs ≡ u
    is_grafted = standing_is qs zs root' h.arena.linked (graft leaf (new_alts (length ps) as') t) grown_stands ∙ ap (λ (k : ℕ). graft leaf (new_alts k as') t) (sym whole_is.counted)

    long : length qs ≡ length ps + premises_in as'
    long = ap length places_are ∙ length_places ps ws whole_is.arena.linked leaf here.1.0 as' here.1.1 here.1.2

    pub whole_grown : IsWhole root' qs zs o
    whole_grown = record {
      arena = h.arena;
      numbered = subst (λ (x : Tree R N). IsNumbered x) (sym is_grafted) (grafted_numbered t leaf as' whole_is.numbered);
      counted = ap size is_grafted ∙ more ∙ ap (λ (k : ℕ). k + premises_in as') whole_is.counted ∙ sym long;
    }

    live_now : (k : ℕ) → IsLive u k → IsLive (standing root' qs zs) k
    live_now k l = subst (λ (x : Tree R N). IsLive x k) (sym is_grafted) l

    now_live : (k : ℕ) → IsLive (standing root' qs zs) k → IsLive u k
    now_live k l = subst (λ (x : Tree R N). IsLive x k) is_grafted l

    -- the leaf is grown now
    not_leaf : IsLeafPlace qs leaf → ⊥
    not_leaf p =
        let grown : slice_get qs leaf ≡ Some (with_ways here.1.0 (length ws) (length as')) =
        ap (λ (x : List (Place N)). slice_get x leaf) places_are ∙ leaf_place ps ws whole_is.arena.linked leaf here.1.0 as' here.1.1 here.1.2
        in
        let same : p.0 ≡ with_ways here.1.0 (length ws) (length as') = (let eq : Some p.0 ≡ Some (with_ways here.1.0 (length ws) (length as')) = sym p.1 ∙ grown in cc) in
        let bad : None ≡ Some (record { first = length ws; count = length as' }) = sym p.2 ∙ ap (λ (x : Place N). x.ways) same in
        cc

    -- a leaf of before, another than this one, is a leaf still
    still_leaf : (k : ℕ) → (k ≡ leaf → ⊥) → IsLeafPlace ps k → IsLeafPlace qs k
    still_leaf k other p =
        (p.0, ap (λ (x : List (Place N)). slice_get x k) places_are ∙ other_places ps ws whole_is.arena.linked leaf here.1.0 as' here.1.1 here.1.2 k p.0 p.1 other, p.2)

    was_leaf : (k : ℕ) → k < length ps → IsLeafPlace qs k → IsLeafPlace ps k
    was_leaf k less p = elim (place_from ps ws whole_is.arena.linked leaf here.1.0 as' here.1.1 here.1.2 k p.0 (sym (ap (λ (x : List (Place N)). slice_get x k) places_are) ∙ p.1)) [
      | TheLeaf a b ↦ absurd (not_leaf (p.0, ap (slice_get qs) (sym a) ∙ p.1, p.2))
      | Another a b ↦ (p.0, b, p.2)
      | NewOne d a b ↦ absurd (omega arith)
    ]

    pub are_killed : Rises killed → AreKilled leaf t u killed
    are_killed rise = record {
      are = λ k. (
        λ c.
            let l : 1 ≤ times k killed = there_listed k killed c.0 (slice_get-get_or killed c.0 k c.1 ∙ ap Some c.2) in
            let f : (reached_at m k ≡ true) × (reached_at o k ≡ false) × IsLeafPlace qs k = h.from k l in
            let less : k < length ps = omega (arith, true_within m.reached.items k f.0, whole_is.arena.sized.reached) in (
              here_live root ps ws m whole_is.arena k f.0 (was_leaf k less f.2),
              λ n. both_ways (reached_at o k) (live_here root' qs zs o h.arena k (live_now k n)).0 f.1,
              λ e. not_leaf (subst (λ (j : ℕ). IsLeafPlace qs j) e f.2),
            ),
        λ p.
            let was : (reached_at m k ≡ true) × IsLeafPlace ps k = live_here root ps ws m whole_is.arena k p.0 in
            let leaf_now : IsLeafPlace qs k = still_leaf k p.2 was.1 in
            let gone : reached_at o k ≡ false = not_true (reached_at o k) (λ r. p.1 (now_live k (here_live root' qs zs o h.arena k r leaf_now))) in
            let there : (i : ℕ) × (slice_get killed i ≡ Some k) = listed_there k killed (h.all k was.0 gone leaf_now) in
            (there.0, there_below killed there.0 k there.1, get_or_from_slice_get killed there.0 k k there.1),
      );
      rise = rise;
    }

-- the same lists, whatever room there is
pub whole_as : {R N : Type 0} (root : N) (ps : List (Place N)) (ws : List (Way R)) (m : Marks) (root' : N) (ps' : List (Place N)) (ws' : List (Way R)) (n : Marks) → root' ≡ root → ps' ≡ ps → ws' ≡ ws
    → AreSame m n → IsWhole root ps ws m → IsWhole root' ps' ws' n
whole_as root ps ws m root' ps' ws' n r e f same w = record {
  arena = arena_as m n same ps ws ps' ws' e f w.arena;
  numbered = subst (λ (x : Tree _ _). IsNumbered x) (sym (λ i. standing (r i) (e i) (f i))) w.numbered;
  counted = (λ i. size (standing (r i) (e i) (f i))) ∙ w.counted ∙ sym (ap length e);
}
