-- What an instance means doesn't depend on the bound above its height.
use Rattle.std.proofs.Common.{◌≡◌, ℕ, zero, suc, ◌<◌, List, [], ◌∷◌, arith, subst}
use Rattle.cyp_heap.specs.Instances.{ArgValue, ChunksHold, HoldsBelow, Instances, greatest, height_above}
use Rattle.cyp_heap.specs.Laws.{BoundLaw}
use Rattle.cyp_heap.specs.Stores.{Store}
use Rattle.cyp_heap.specs.declared.chunk.Chunk.{Chunk}
use Rattle.cyp_heap.specs.declared.chunk.Chunk.TheVariants.{Block, Cell, Inst}
use Rattle.cyp_term.specs.Meaning.{Assignment}

-- each of the numbers is below the bound
abbrev pub AllBelow : ℕ → List ℕ → Type 0
AllBelow b [] = Unit {0}
AllBelow b (n ∷ ns) = (n < b) × AllBelow b ns

pub below_from_greatest : (b : ℕ) (ns : List ℕ) → greatest ns < b → AllBelow b ns
below_from_greatest b [] h = tt
below_from_greatest b (n ∷ ns) h = (omega arith, below_from_greatest b ns (omega arith))

pub below_from_height : (b : ℕ) (ns : List ℕ) → height_above ns < suc b → AllBelow b ns
below_from_height b [] h = tt
below_from_height b (n ∷ ns) h = below_from_greatest b (n ∷ ns) (omega arith)

-- chunks hold by other instances too, where these hold at the heights below a bound
pub chunks_map : (inst other : Instances) (s : Assignment) (b : ℕ)
    → ((p : ℕ) (xs : List ArgValue) (a : Store) (m : ℕ) → m < b → inst p xs a m → other p xs a m)
    → (cs : List Chunk) (h : Store) (ns : List ℕ) → AllBelow b ns → ChunksHold inst s cs h ns → ChunksHold other s cs h ns
chunks_map inst other s b f [] h ns l k = k
chunks_map inst other s b f (Inst i ∷ cs) h ns l k =
    let m : AllBelow b (k.2 ∷ k.3) = subst (AllBelow b) k.4 l in
    (k.0, k.1, k.2, k.3, k.4, k.5, f i.pred _ k.0 k.2 m.0 k.6, chunks_map inst other s b f cs k.1 k.3 m.1 k.7)
chunks_map inst other s b f (Block c ∷ cs) h ns l k = (k.0, k.1, k.2, k.3, chunks_map inst other s b f cs k.1 ns l k.4)
chunks_map inst other s b f (Cell c ∷ cs) h ns l k = (k.0, k.1, k.2, k.3, chunks_map inst other s b f cs k.1 ns l k.4)

pub bound_law : BoundLaw
bound_law preds zero b p args h n k l = absurd k
bound_law preds (suc a) zero p args h n k l = absurd (omega arith)
bound_law preds (suc a) (suc b) p args h n k l =
    let e : n ≡ height_above k.2.3 = k.2.9 in
    let m : AllBelow b k.2.3 = below_from_height b k.2.3 (omega arith) in (
      k.0,
      k.1,
      (
        k.2.0,
        k.2.1,
        k.2.2,
        k.2.3,
        k.2.4,
        k.2.5,
        k.2.6,
        k.2.7,
        chunks_map (HoldsBelow preds a) (HoldsBelow preds b) k.2.2 b (λ q xs t j o w. bound_law preds a b q xs t j w o) k.2.1.heap.chunks h k.2.3 m k.2.8,
        e,
      ),
    )
