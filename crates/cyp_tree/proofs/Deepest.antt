-- How deep a tree is once moves stand at a leaf.
use Rattle.std.proofs.Common.{◌≡◌, refl, sym, ◌∙◌, ap, subst, ℕ, zero, suc, ◌+◌, ◌≤◌, ◌<◌, ◌==◌, Bool, true, false, cond, List, [], ◌∷◌, length, Some, min, max, arith}
use Rattle.std.specs.List.{slice_get}
use Rattle.cyp_space.specs.Alts.{AltOf, premises_in}
use Rattle.cyp_tree.specs.declared.places.Place.{Place}
use Rattle.cyp_tree.specs.declared.places.Way.{Way}
use Rattle.cyp_tree.specs.Trees.{Tree, Leaf, Grown, Alts, NoAlt, AltThen, Parts, NoPart, PartThen}
use Rattle.cyp_tree.specs.declared.marks.Marks.{Marks}
use Rattle.cyp_tree.specs.Sizes.{size, depth, alts_depth, parts_depth}
use Rattle.cyp_tree.specs.Growing.{new_parts, new_alts, graft, graft_alts, graft_parts}
use Rattle.cyp_tree.specs.Numbers.{one_where, leaves, alts_leaves, parts_leaves}
use Rattle.cyp_tree.specs.Standing.{run_of, standing, Stands, AltsStand, PartsStand, IsIn, IsLinked}
use Rattle.cyp_tree.specs.Arenas.{ArePaths, IsLeafPlace, HasGrafted}
use Rattle.cyp_tree.specs.Marked.{reached_at}
use Rattle.cyp_tree.specs.Places.{IsLive}
use Rattle.cyp_tree.specs.Wholes.{IsWhole}
use Rattle.cyp_tree.proofs.AbsentLeaves.{graft-absent, graft_alts-absent, graft_parts-absent}
use Rattle.cyp_tree.proofs.Runs.{some_at, get_run}
use Rattle.cyp_tree.proofs.Planting.{standing_stands}
use Rattle.cyp_tree.proofs.LiveLeaf.{live_leaf_at}
use Rattle.cyp_tree.proofs.WholeTrees.{live_here, is_grafted}

-- ---- new alternatives are one level deep, if any has a premise

parts_depth-new : (R : Type 0) {N : Type 0} (k : ℕ) (ns : List N) → parts_depth {R = R} (new_parts k ns) ≡ min 1 (length ns)
parts_depth-new R k [] = refl
parts_depth-new R k (n ∷ ns) = omega (arith, parts_depth-new R (suc k) ns)

pub alts_depth-new : {R N : Type 0} (k : ℕ) (as' : List (AltOf R N)) → alts_depth (new_alts k as') ≡ min 1 (premises_in as')
alts_depth-new k [] = refl
alts_depth-new {R = R} k (a ∷ as') = omega (arith, parts_depth-new R k a.premises, alts_depth-new (k + length a.premises) as')

-- ---- the depth of a tree with new alternatives at a leaf

module _ {R N : Type 0} (ps : List (Place N)) (ws : List (Way R)) (link : IsLinked ps ws) (paths : ArePaths ps ws) (k : ℕ) (p : Place N) (found : slice_get ps k ≡ Some p) (new : Alts R N) where
  -- the place of this number has this level
  abbrev AtLevel : ℕ → ℕ → Type 0
  AtLevel a l = (q : Place N) → slice_get ps a ≡ Some q → q.level ≡ l

  abbrev one_if : Bool → ℕ
  one_if b = cond b 1 0

  leaf_case : (b : Bool) (l j : ℕ) (n : N) → one_if b ≡ 1 → l ≡ p.level → l + depth (cond b (Grown j n new) (Leaf j n)) ≡ max (l + 0) (p.level + alts_depth new)
  leaf_case true l j n e f = omega arith
  leaf_case false l j n e f = absurd (omega arith)

  same_number : (j : ℕ) → one_where j k ≡ 1 → j ≡ k
  same_number j e = grind arith

  -- a premise is one level below its way's node
  part_level : (a l w j : ℕ) (y : Way R) (q : Place N) → slice_get ws w ≡ Some y → y.above ≡ a → AtLevel a l → IsIn j y.parts → slice_get ps j ≡ Some q → q.level ≡ suc l
  part_level a l w j y q g above at inside e =
      let way : q.above ≡ w = link.part_above w y j q g inside e in
      let rises : y.above < y.parts.first = link.rising w y g in
      let low : y.parts.first ≤ j = inside.low in
      let node : (x : Place N) × (slice_get ps y.above ≡ Some x) = some_at ps y.above (let fits : y.parts.first + y.parts.count ≤ length ps = link.parts w y g in let high : j < y.parts.first + y.parts.count = inside.high in omega arith) in
      (paths.step j q y node.0 e (omega arith) (ap (slice_get ws) way ∙ g) node.1).1 ∙ ap suc (at node.0 (ap (slice_get ps) (sym above) ∙ node.1))

  -- the leaf is under the first or under the others
  alt_by : (a l : ℕ) (qs : Parts R N) (as' : Alts R N) (c : ℕ) → parts_leaves k qs ≡ c → parts_leaves k qs + alts_leaves k as' ≡ 1
      → (parts_leaves k qs ≡ 1 → l + parts_depth (graft_parts k new qs) ≡ max (l + parts_depth qs) (p.level + alts_depth new))
      → (alts_leaves k as' ≡ 1 → l + alts_depth (graft_alts k new as') ≡ max (l + alts_depth as') (p.level + alts_depth new))
      → l + max (parts_depth (graft_parts k new qs)) (alts_depth (graft_alts k new as')) ≡ max (l + max (parts_depth qs) (alts_depth as')) (p.level + alts_depth new)
  alt_by a l qs as' zero e one here later = omega (arith, later (omega arith), ap parts_depth (graft_parts-absent k new qs e))
  alt_by a l qs as' (suc c) e one here later = omega (arith, here (omega arith), ap alts_depth (graft_alts-absent k new as' (omega arith)))

  part_by : (l : ℕ) (t : Tree R N) (qs : Parts R N) (c : ℕ) → leaves k t ≡ c → leaves k t + parts_leaves k qs ≡ 1
      → (leaves k t ≡ 1 → suc l + depth (graft k new t) ≡ max (suc l + depth t) (p.level + alts_depth new))
      → (parts_leaves k qs ≡ 1 → l + parts_depth (graft_parts k new qs) ≡ max (l + parts_depth qs) (p.level + alts_depth new))
      → l + max (suc (depth (graft k new t))) (parts_depth (graft_parts k new qs)) ≡ max (l + max (suc (depth t)) (parts_depth qs)) (p.level + alts_depth new)
  part_by l t qs zero e one here later = omega (arith, later (omega arith), ap depth (graft-absent k new t e))
  part_by l t qs (suc c) e one here later = omega (arith, here (omega arith), ap parts_depth (graft_parts-absent k new qs (omega arith)))

  mutual
    pub depth-grafted : (a l : ℕ) (t : Tree R N) → Stands ps ws a t → AtLevel a l → leaves k t ≡ 1 → l + depth (graft k new t) ≡ max (l + depth t) (p.level + alts_depth new)
    depth-grafted a l (Leaf j n) (e, (q, g, x, y)) at one =
        leaf_case (j == k) l j n one (sym (at p (ap (slice_get ps) (sym e ∙ same_number j one) ∙ found)))
    depth-grafted a l (Grown j n as') (e, (q, r, g, x, y, z)) at one =
        alts_grafted a l r.first (run_of ws r) as' z (λ i w h. (get_run r.first r.count i ws w h).1)
        (λ i w h. let f : (i < r.count) × (slice_get ws (r.first + i) ≡ Some w) = get_run r.first r.count i ws w h in
        link.run_above a q r (r.first + i) w g y (record { low = omega arith; high = omega arith }) f.1) at one

    alts_grafted : (a l f : ℕ) (ys : List (Way R)) (as' : Alts R N) → AltsStand ps ws ys as' → ((i : ℕ) (y : Way R) → slice_get ys i ≡ Some y → slice_get ws (f + i) ≡ Some y)
        → ((i : ℕ) (y : Way R) → slice_get ys i ≡ Some y → y.above ≡ a) → AtLevel a l → alts_leaves k as' ≡ 1
        → l + alts_depth (graft_alts k new as') ≡ max (l + alts_depth as') (p.level + alts_depth new)
    alts_grafted a l f ys NoAlt e u v at one = absurd (omega arith)
    alts_grafted a l f ys (AltThen rule d qs as') (y, more, e, x, b, h, z) u v at one =
        let first : slice_get ys 0 ≡ Some y = ap (λ (m : List (Way R)). slice_get m 0) e in
        alt_by a l qs as' (parts_leaves k qs) refl one
        (λ o. parts_grafted a l (f + 0) y (u 0 y first) (v 0 y first) at y.parts.first y.parts.count qs h (λ i s m. record { low = s; high = m }) o)
        (λ o. alts_grafted a l (suc f) more as' z
        (λ i w s. subst (λ (m : ℕ). slice_get ws m ≡ Some w) (let same : f + suc i ≡ suc f + i = omega arith in same) (u (suc i) w (ap (λ (m : List (Way R)). slice_get m (suc i)) e ∙ s)))
        (λ i w s. v (suc i) w (ap (λ (m : List (Way R)). slice_get m (suc i)) e ∙ s)) at o)

    parts_grafted : (a l w : ℕ) (y : Way R) → slice_get ws w ≡ Some y → y.above ≡ a → AtLevel a l → (j c : ℕ) (qs : Parts R N) → PartsStand ps ws j c qs
        → ((i : ℕ) → j ≤ i → i < j + c → IsIn i y.parts) → parts_leaves k qs ≡ 1 → l + parts_depth (graft_parts k new qs) ≡ max (l + parts_depth qs) (p.level + alts_depth new)
    parts_grafted a l w y g above at j c NoPart e inside one = absurd (omega arith)
    parts_grafted a l w y g above at j c (PartThen t qs) (b, e, z, m) inside one =
        part_by l t qs (leaves k t) refl one (λ o. depth-grafted j (suc l) t z (λ q f. part_level a l w j y q g above at (inside j (omega arith) (omega arith)) f) o)
        (λ o. parts_grafted a l w y g above at (suc j) b qs m (λ i s u. inside i (omega arith) (omega arith)) o)

-- ---- of a whole arena

module _ {R N : Type 0} (root : N) (ps : List (Place N)) (ws : List (Way R)) (m : Marks) (whole : IsWhole root ps ws m) (leaf : ℕ) (as' : List (AltOf R N)) (live : IsLive (standing root ps ws) leaf) where
  pub deepest_grown : (root' : N) (qs : List (Place N)) (zs : List (Way R)) (o : Marks) (killed : List ℕ) → HasGrafted leaf as' ps ws m qs zs o killed
      → (deepest below : ℕ) → deepest ≡ depth (standing root ps ws) → ((p : Place N) → slice_get ps leaf ≡ Some p → below ≡ p.level + min 1 (premises_in as'))
      → max deepest below ≡ depth (standing root' qs zs)
  deepest_grown root' qs zs o killed h deepest below d b =
      let at : (reached_at m leaf ≡ true) × IsLeafPlace ps leaf = live_here root ps ws m whole.arena leaf live in
      let p : Place N = at.1.0 in
      let grown : 0 + depth (graft leaf (new_alts (size (standing root ps ws)) as') (standing root ps ws))
      ≡ max (0 + depth (standing root ps ws)) (p.level + alts_depth (new_alts (size (standing root ps ws)) as')) =
      depth-grafted ps ws whole.arena.linked whole.arena.paths leaf p at.1.1 (new_alts (size (standing root ps ws)) as') 0 0 (standing root ps ws)
      (standing_stands ps ws root whole.arena.linked) (λ q e. (whole.arena.paths.root q e).1) (live_leaf_at (standing root ps ws) leaf whole.numbered live)
      in
      omega (arith, grown, b p at.1.1, alts_depth-new (size (standing root ps ws)) as', ap depth (is_grafted root ps ws m whole leaf as' live root' qs zs o killed h))
