-- The facts of a goal are true where its precondition holds.
use Rattle.std.proofs.Common.{◌≡◌, sym, ap, ◌∙◌, ℕ, Bool, true, false, cond, not, ◌||◌, List, [], ◌∷◌, ◌++◌, flat_map, ℤ}
use Rattle.std.specs.Prelude.{is_some}
use Rattle.std.specs.Ordering.{int_cmp}
use Rattle.std.specs.FinMap.{FinMap, get}
use Rattle.std.proofs.lemmas.Bool.{false≢true}
use Rattle.cyp_goal.specs.Facts.{all_apart, apart, block_addresses, cell_addresses, facts}
use Rattle.cyp_heap.proofs.Unions.{some_or_none, union_left}
use Rattle.cyp_heap.specs.Assertions.{SideHolds}
use Rattle.cyp_heap.specs.Instances.{ChunksHold, InstanceHolds, Instances}
use Rattle.cyp_heap.specs.Stores.{IsDisjointUnion, Store}
use Rattle.cyp_heap.specs.declared.chunk.Chunk.{Chunk}
use Rattle.cyp_heap.specs.declared.chunk.Chunk.TheVariants.{Block, Cell, Inst}
use Rattle.cyp_heap.specs.declared.goal.Goal.{Goal}
use Rattle.cyp_heap.specs.declared.pred.Preds.{Preds}
use Rattle.cyp_kernel.proofs.HeapParts.{get_single, map_union_sym}
use Rattle.cyp_step.specs.Shown.{shown}
use Rattle.cyp_term.proofs.Entailment.{entailed_law}
use Rattle.cyp_term.specs.Entailment.{entailed}
use Rattle.cyp_term.specs.Meaning.{AllTrue, Assignment, Entails, value}
use Rattle.cyp_term.specs.Terms.{base_eq, term_eq}
use Rattle.cyp_term.specs.declared.lit.Lit.{Lit}
use Rattle.cyp_term.specs.declared.lit.Lit.TheVariants.{Ne}
use Rattle.cyp_term.specs.declared.term.Term.{Term}

pub true_join : (s : Assignment) (xs ys : List Lit) → AllTrue s xs → AllTrue s ys → AllTrue s (xs ++ ys)
true_join s [] ys a b = b
true_join s (x ∷ xs) ys a b = (a.0, true_join s xs ys a.1 b)

pub true_left : (s : Assignment) (xs ys : List Lit) → AllTrue s (xs ++ ys) → AllTrue s xs
true_left s [] ys a = tt
true_left s (x ∷ xs) ys a = (a.0, true_left s xs ys a.1)

pub true_right : (s : Assignment) (xs ys : List Lit) → AllTrue s (xs ++ ys) → AllTrue s ys
true_right s [] ys a = a
true_right s (x ∷ xs) ys a = true_right s xs ys a.1

with_apart : (s : Assignment) (b : Bool) (t r : Term) (ls : List Lit) → (value s t ≡ value s r → ⊥) → AllTrue s ls → AllTrue s (cond b (Ne t r ∷ []) [] ++ ls)
with_apart s true t r ls n h = (n, h)
with_apart s false t r ls n h = h

module _ {A : Type 0} (s : Assignment) where
  -- each address has an entry
  AllIn : FinMap int_cmp A → List Term → Type 0
  AllIn m [] = Unit {0}
  AllIn m (t ∷ ts) = (is_some (get m (value s t)) ≡ true) × AllIn m ts

  in_whole : (m a b : FinMap int_cmp A) → IsDisjointUnion m a b → (ts : List Term) → AllIn b ts → AllIn m ts
  unfolding AllIn
  in_whole m a b u [] h = tt
  in_whole m a b u (t ∷ ts) h = (ap is_some (union_left m b a (map_union_sym m a b u) (value s t) h.0).1 ∙ h.0, in_whole m a b u ts h.1)

  one_apart : (m a b : FinMap int_cmp A) → IsDisjointUnion m a b → (t : Term) → is_some (get a (value s t)) ≡ true → (ts : List Term) → AllIn b ts
      → AllTrue s (flat_map (apart t) ts)
  unfolding AllIn
  one_apart m a b u t h [] k = tt
  one_apart m a b u t h (r ∷ ts) k =
      with_apart s (not (base_eq t.base r.base) || term_eq t r) t r (flat_map (apart t) ts)
      (λ e. some_or_none (get b (value s r)) (ap (get b) (sym e) ∙ (union_left m a b u (value s t) h).0) k.0)
      (one_apart m a b u t h ts k.1)

module _ (inst : Instances) (s : Assignment) where
  cells_in : (cs : List Chunk) (h : Store) (ns : List ℕ) → ChunksHold inst s cs h ns → AllIn s h.cells (cell_addresses cs)
  unfolding AllIn
  cells_in [] h ns k = tt
  cells_in (Inst i ∷ cs) h ns k = in_whole s h.cells k.0.cells k.1.cells k.5.0 (cell_addresses cs) (cells_in cs k.1 k.3 k.7)
  cells_in (Block i ∷ cs) h ns k = in_whole s h.cells k.0.cells k.1.cells k.2.0 (cell_addresses cs) (cells_in cs k.1 ns k.4)
  cells_in (Cell i ∷ cs) h ns k =
      let v : is_some (get k.0.cells (value s i.at)) ≡ true = ap is_some (ap (λ (m : FinMap int_cmp ℤ). get m (value s i.at)) k.3.1 ∙ get_single (value s i.at) (value s i.content)) in
      (ap is_some (union_left h.cells k.0.cells k.1.cells k.2.0 (value s i.at) v).1 ∙ v, in_whole s h.cells k.0.cells k.1.cells k.2.0 (cell_addresses cs) (cells_in cs k.1 ns k.4))

  blocks_in : (cs : List Chunk) (h : Store) (ns : List ℕ) → ChunksHold inst s cs h ns → AllIn s h.blocks (block_addresses cs)
  unfolding AllIn
  blocks_in [] h ns k = tt
  blocks_in (Inst i ∷ cs) h ns k = in_whole s h.blocks k.0.blocks k.1.blocks k.5.1 (block_addresses cs) (blocks_in cs k.1 k.3 k.7)
  blocks_in (Cell i ∷ cs) h ns k = in_whole s h.blocks k.0.blocks k.1.blocks k.2.1 (block_addresses cs) (blocks_in cs k.1 ns k.4)
  blocks_in (Block i ∷ cs) h ns k =
      let v : is_some (get k.0.blocks (value s i.at)) ≡ true = ap is_some (ap (λ (m : FinMap int_cmp ℕ). get m (value s i.at)) k.3.2 ∙ get_single (value s i.at) i.size) in
      (ap is_some (union_left h.blocks k.0.blocks k.1.blocks k.2.1 (value s i.at) v).1 ∙ v, in_whole s h.blocks k.0.blocks k.1.blocks k.2.1 (block_addresses cs) (blocks_in cs k.1 ns k.4))

  cells_apart : (cs : List Chunk) (h : Store) (ns : List ℕ) → ChunksHold inst s cs h ns → AllTrue s (all_apart (cell_addresses cs))
  cells_apart [] h ns k = tt
  cells_apart (Inst i ∷ cs) h ns k = cells_apart cs k.1 k.3 k.7
  cells_apart (Block i ∷ cs) h ns k = cells_apart cs k.1 ns k.4
  cells_apart (Cell i ∷ cs) h ns k =
      let v : is_some (get k.0.cells (value s i.at)) ≡ true = ap is_some (ap (λ (m : FinMap int_cmp ℤ). get m (value s i.at)) k.3.1 ∙ get_single (value s i.at) (value s i.content)) in
      true_join s (flat_map (apart i.at) (cell_addresses cs)) (all_apart (cell_addresses cs))
      (one_apart s h.cells k.0.cells k.1.cells k.2.0 i.at v (cell_addresses cs) (cells_in cs k.1 ns k.4)) (cells_apart cs k.1 ns k.4)

  blocks_apart : (cs : List Chunk) (h : Store) (ns : List ℕ) → ChunksHold inst s cs h ns → AllTrue s (all_apart (block_addresses cs))
  blocks_apart [] h ns k = tt
  blocks_apart (Inst i ∷ cs) h ns k = blocks_apart cs k.1 k.3 k.7
  blocks_apart (Cell i ∷ cs) h ns k = blocks_apart cs k.1 ns k.4
  blocks_apart (Block i ∷ cs) h ns k =
      let v : is_some (get k.0.blocks (value s i.at)) ≡ true = ap is_some (ap (λ (m : FinMap int_cmp ℕ). get m (value s i.at)) k.3.2 ∙ get_single (value s i.at) i.size) in
      true_join s (flat_map (apart i.at) (block_addresses cs)) (all_apart (block_addresses cs))
      (one_apart s h.blocks k.0.blocks k.1.blocks k.2.1 i.at v (block_addresses cs) (blocks_in cs k.1 ns k.4)) (blocks_apart cs k.1 ns k.4)

pub facts_true : (preds : Preds) (g : Goal) (s : Assignment) (h : Store) (ns : List ℕ) → SideHolds preds s g.pure_pre g.pre.chunks h ns → AllTrue s (facts g)
facts_true preds g s h ns k =
    true_join s (g.pure_pre ++ all_apart (cell_addresses g.pre.chunks)) (all_apart (block_addresses g.pre.chunks))
    (true_join s g.pure_pre (all_apart (cell_addresses g.pre.chunks)) k.0 (cells_apart (InstanceHolds preds) s g.pre.chunks h ns k.1))
    (blocks_apart (InstanceHolds preds) s g.pre.chunks h ns k.1)

pub shown_true : (g : Goal) (ls : List Lit) → shown g ls ≡ true → Entails (facts g) ls
shown_true g ls h = (entailed_law (facts g) ls).0 (both _ (entailed (facts g) ls) h)
  where
    both : (a b : Bool) → elim a [ true ↦ b | false ↦ false ] ≡ true → b ≡ true
    both true b h = h
    both false b h = absurd (false≢true h)
