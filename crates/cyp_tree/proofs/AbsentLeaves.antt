-- A graft changes nothing where no leaf has its number.
use Rattle.std.proofs.Common.{◌≡◌, refl, ap, ℕ, ◌==◌, Bool, true, false, cond, arith}
use Rattle.cyp_tree.specs.Trees.{Tree, Leaf, Grown, Alts, NoAlt, AltThen, Parts, NoPart, PartThen}
use Rattle.cyp_tree.specs.Growing.{graft, graft_alts, graft_parts}
use Rattle.cyp_tree.specs.Numbers.{leaves, alts_leaves, parts_leaves}

module _ {R N : Type 0} (k : ℕ) (new : Alts R N) where
  abbrev one_if : Bool → ℕ
  one_if b = cond b 1 0

  leaf_kept : (b : Bool) (j : ℕ) (n : N) → one_if b ≡ 0 → cond b (Grown j n new) (Leaf j n) ≡ Leaf j n
  leaf_kept true j n e = absurd (omega arith)
  leaf_kept false j n e = refl

  mutual
    pub graft-absent : (t : Tree R N) → leaves k t ≡ 0 → graft k new t ≡ t
    graft-absent (Leaf j n) e = leaf_kept (j == k) j n e
    graft-absent (Grown j n as') e = ap (Grown j n) (graft_alts-absent as' e)

    pub graft_alts-absent : (as' : Alts R N) → alts_leaves k as' ≡ 0 → graft_alts k new as' ≡ as'
    graft_alts-absent NoAlt e = refl
    graft_alts-absent (AltThen r c ps as') e = λ i. AltThen r c (graft_parts-absent ps (omega arith) i) (graft_alts-absent as' (omega arith) i)

    pub graft_parts-absent : (ps : Parts R N) → parts_leaves k ps ≡ 0 → graft_parts k new ps ≡ ps
    graft_parts-absent NoPart e = refl
    graft_parts-absent (PartThen t ps) e = λ i. PartThen (graft-absent t (omega arith) i) (graft_parts-absent ps (omega arith) i)
