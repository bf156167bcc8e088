-- The statuses that are told are those of the trees.
use Rattle.std.proofs.Common.{◌≡◌, sym, ◌∙◌, ap, ℕ, suc, List}
use Rattle.cyp_tree.specs.declared.mark.Mark.{Mark}
use Rattle.cyp_tree.specs.declared.places.Place.{Place}
use Rattle.cyp_tree.specs.declared.places.Way.{Way}
use Rattle.cyp_tree.specs.Trees.{Tree, Leaf, Grown, Alts, NoAlt, AltThen, Parts, NoPart, PartThen}
use Rattle.cyp_tree.specs.Statuses.{either, both, status, alts_status, parts_status}
use Rattle.cyp_tree.specs.Standing.{run_of, Stands, AltsStand, PartsStand}
use Rattle.cyp_tree.specs.Told.{parts_sum, ways_sum, node_sum, IsTold}

module _ {R N : Type 0} (s : ℕ → Mark) (ps : List (Place N)) (ws : List (Way R)) (told : IsTold s ps ws) where
  mutual
    pub status_told : (k : ℕ) (t : Tree R N) → Stands ps ws k t → status t ≡ s k
    status_told k (Leaf j n) (e, (p, g, a, b)) = sym (told k p g ∙ ap (node_sum s ws) b)
    status_told k (Grown j n as') (e, (p, r, g, a, b, h)) = alts_told (run_of ws r) as' h ∙ sym (told k p g ∙ ap (node_sum s ws) b)

    pub alts_told : (ys : List (Way R)) (as' : Alts R N) → AltsStand ps ws ys as' → alts_status as' ≡ ways_sum s ys
    alts_told ys NoAlt e = sym (ap (ways_sum s) e)
    alts_told ys (AltThen r d qs as') (y, more, e, a, b, p, h) =
        (λ i. either (parts_told y.parts.first y.parts.count qs p i) (alts_told more as' h i)) ∙ sym (ap (ways_sum s) e)

    pub parts_told : (j c : ℕ) (qs : Parts R N) → PartsStand ps ws j c qs → parts_status qs ≡ parts_sum s j c
    parts_told j c NoPart e = sym (ap (parts_sum s j) e)
    parts_told j c (PartThen t qs) (b, e, h, p) = (λ i. both (status_told j t h i) (parts_told (suc j) b qs p i)) ∙ sym (ap (parts_sum s j) e)
