-- Where an instance with a cardinality holds, the unfolding of one of its clauses does, at lesser cardinalities.
use Rattle.std.proofs.Common.{◌≡◌, refl, sym, ap, ◌∙◌, ℕ, suc, ◌+◌, ◌<◌, true, List, [], ◌∷◌, map, length, get_or, ℤ, pos, ◌+ℤ◌, ◌<ℤ◌, Option, Some, None, arith, subst}
use Rattle.std.specs.Prelude.{slice_get}
use Rattle.std.proofs.lemmas.Bool.{false≢true}
use Rattle.std.proofs.lemmas.Int.{ints}
use Rattle.cyp_heap.proofs.Applied.{apply_chunks_law}
use Rattle.cyp_heap.proofs.Bounds.{AllBelow, below_from_height, bound_law, chunks_map}
use Rattle.cyp_heap.specs.Assertions.{CardsAre}
use Rattle.cyp_heap.specs.Chunks.{apply_chunk, insts}
use Rattle.cyp_heap.specs.Formed.{inst_fits, is_card_var}
use Rattle.cyp_heap.specs.Instances.{ChunksHold, HoldsBelow, InstanceHolds, Instances, ParamsAre, arg_value, height_above}
use Rattle.cyp_heap.specs.Laws.{SameArgValues}
use Rattle.cyp_heap.specs.PredsFormed.{IsFormedPreds}
use Rattle.cyp_heap.specs.Stores.{Store}
use Rattle.cyp_heap.specs.declared.chunk.Chunk.{Chunk}
use Rattle.cyp_heap.specs.declared.chunk.Chunk.TheVariants.{Block, Cell, Inst}
use Rattle.cyp_heap.specs.declared.chunk.InstOf.{InstOf}
use Rattle.cyp_heap.specs.declared.pred.Clause.{Clause}
use Rattle.cyp_heap.specs.declared.pred.Pred.{Pred}
use Rattle.cyp_heap.specs.declared.pred.Preds.{Preds}
use Rattle.cyp_kernel.proofs.ChunkOrder.{AllHold}
use Rattle.cyp_kernel.proofs.ClauseAgrees.{clause_chunks, clause_lits, values_of}
use Rattle.cyp_kernel.proofs.GoalFacts.{true_join}
use Rattle.cyp_kernel.proofs.Opened.{new_card, opened}
use Rattle.cyp_pred.specs.Unfold.{below_card, card_var, clause_subst, count_from, int_args, set_args, unfold_clause, with_tags}
use Rattle.cyp_pred.specs.declared.unfolded.Next.{Next}
use Rattle.cyp_term.proofs.Substitution.{apply_law}
use Rattle.cyp_term.specs.Meaning.{AllTrue, Assignment, Truth, under}
use Rattle.cyp_term.specs.Terms.{apply_lit}
use Rattle.cyp_term.specs.declared.lit.Lit.{Lit}
use Rattle.cyp_term.specs.declared.subst.Subst.{Subst}
use Rattle.cyp_term.specs.declared.term.Var.{Var}

-- the cardinalities from k on are these heights
abbrev pub CardNumbers : Assignment → ℕ → List ℕ → Type 0
CardNumbers t k [] = Unit {0}
CardNumbers t k (n ∷ ns) = (t.number (card_var k) ≡ pos n) × CardNumbers t (suc k) ns

module _ (inst : Instances) (t : Assignment) where
  -- tags and cardinalities don't matter for the heap
  pub tagged : (card : Option Var) (tag k : ℕ) (cs : List Chunk) (h : Store) (ns : List ℕ) → ChunksHold inst t cs h ns → ChunksHold inst t (with_tags card tag k cs) h ns
  tagged card tag k [] h ns o = o
  tagged card tag k (Inst i ∷ cs) h ns o = (o.0, o.1, o.2, o.3, o.4, o.5, o.6, tagged card tag (suc k) cs o.1 o.3 o.7)
  tagged card tag k (Block b ∷ cs) h ns o = (o.0, o.1, o.2, o.3, tagged card tag k cs o.1 ns o.4)
  tagged card tag k (Cell c ∷ cs) h ns o = (o.0, o.1, o.2, o.3, tagged card tag k cs o.1 ns o.4)

  pub cards_tagged : (a : Var) (tag k : ℕ) (cs : List Chunk) (h : Store) (ns : List ℕ) → ChunksHold inst t cs h ns → CardNumbers t k ns → CardsAre t (with_tags (Some a) tag k cs) ns
  cards_tagged a tag k [] h ns o n = tt
  cards_tagged a tag k (Inst i ∷ cs) h ns o n =
      let m : CardNumbers t k (o.2 ∷ o.3) = subst (λ (ms : List ℕ). CardNumbers t k ms) o.4 n in
      subst (λ (ms : List ℕ). CardsAre t (with_tags (Some a) tag k (Inst i ∷ cs)) ms) (sym o.4) (m.0, cards_tagged a tag (suc k) cs o.1 o.3 o.7 m.1)
  cards_tagged a tag k (Block b ∷ cs) h ns o n = cards_tagged a tag k cs o.1 ns o.4 n
  cards_tagged a tag k (Cell c ∷ cs) h ns o n = cards_tagged a tag k cs o.1 ns o.4 n

  less_card : (x y : ℤ) (n m : ℕ) → x ≡ pos n → y ≡ pos m → n < m → (x +ℤ pos 0) <ℤ (y +ℤ pos 0)
  less_card x y n m p q l = omega (arith, ints)

  cards_below : (a : Var) (m k : ℕ) (cs : List Chunk) (h : Store) (ns : List ℕ) → t.number a ≡ pos m → ChunksHold inst t cs h ns → CardNumbers t k ns → AllBelow m ns
      → AllTrue t (below_card (Some a) (count_from k (length (insts cs))))
  cards_below a m k [] h ns e o n b = tt
  cards_below a m k (Inst i ∷ cs) h ns e o n b =
      let n' : CardNumbers t k (o.2 ∷ o.3) = subst (λ (ms : List ℕ). CardNumbers t k ms) o.4 n in
      let b' : AllBelow m (o.2 ∷ o.3) = subst (λ (ms : List ℕ). AllBelow m ms) o.4 b in
      (less_card (t.number (card_var k)) (t.number a) o.2 m n'.0 e b'.0, cards_below a m (suc k) cs o.1 o.3 e o.7 n'.1 b'.1)
  cards_below a m k (Block c ∷ cs) h ns e o n b = cards_below a m k cs o.1 ns e o.4 n b
  cards_below a m k (Cell c ∷ cs) h ns e o n b = cards_below a m k cs o.1 ns e o.4 n b

-- the new cardinalities are the heights
module _ (x : Next) (ints' sets : ℕ) (ns : List ℕ) (s w : Assignment) where
  cards_from : (d : ℕ) (rest : List ℕ) → ((i : ℕ) → get_or ns (d + i) 0 ≡ get_or rest i 0) → CardNumbers (opened x ints' sets ns s w) (x.cards + d) rest
  cards_from d [] f = tt
  cards_from d (n ∷ rest) f = (
    new_card x ints' sets ns s w d ∙ ap pos (ap (λ (y : ℕ). get_or ns y 0) (none d) ∙ f 0),
    subst (λ (y : ℕ). CardNumbers (opened x ints' sets ns s w) y rest) (next x.cards d) (cards_from (suc d) rest (λ i. ap (λ (y : ℕ). get_or ns y 0) (one d i) ∙ f (suc i))),
  )
    where
      none : (d : ℕ) → d ≡ d + 0
      none d = omega arith

      next : (a d : ℕ) → a + suc d ≡ suc (a + d)
      next a d = omega arith

      one : (d i : ℕ) → suc d + i ≡ d + suc i
      one d i = omega arith

  pub cards_are : CardNumbers (opened x ints' sets ns s w) x.cards ns
  cards_are = subst (λ (y : ℕ). CardNumbers (opened x ints' sets ns s w) y ns) (none x.cards) (cards_from 0 ns (λ i. ap (λ (y : ℕ). get_or ns y 0) (zero_plus i)))
    where
      none : (a : ℕ) → a + 0 ≡ a
      none a = omega arith

      zero_plus : (i : ℕ) → 0 + i ≡ i
      zero_plus i = omega arith

pub card_there : (o : Option Var) → is_card_var o ≡ true → (a : Var) × (o ≡ Some a)
card_there None h = absurd (false≢true h)
card_there (Some a) h = (a, refl)

all_back : (by : Subst) (t : Assignment) (ls : List Lit) → AllTrue (under by t) ls → AllTrue t (map (apply_lit by) ls)
all_back by t [] h = tt
all_back by t (l ∷ ls) h = ((apply_law by t l).1 h.0, all_back by t ls h.1)

-- the unfolding of the clause at these values of its own variables and these heights
module _ (preds : Preds) (formed : IsFormedPreds preds) (j : InstOf) (next : Next) (q : Pred) (at : slice_get preds.list j.pred ≡ Some q) (fits : inst_fits preds j ≡ true) (s w : Assignment)
    (params : ParamsAre w 0 0 q.params (map (arg_value s) j.args)) (k : ℕ) (c : Clause) (e : slice_get q.clauses k ≡ Some c) (ns : List ℕ) (h : Store) (m : ℕ) where
  abbrev pub entry_values : Assignment
  entry_values = values_of preds formed j next q at fits s w params k c e ns

  pub record EntryHolds : Type 0 where
    pub lits : AllTrue entry_values ((unfold_clause j next c).guard ∷ (unfold_clause j next c).lits)
    pub chunks : AllHold (InstanceHolds preds) entry_values (unfold_clause j next c).heap.chunks h

  pub entry_holds : (a : Var) → j.card ≡ Some a → entry_values.number a ≡ pos m → SameArgValues (map (arg_value s) j.args) (map (arg_value entry_values) j.args)
      → Truth w c.guard → AllTrue w c.lits → ChunksHold (HoldsBelow preds m) w c.heap.chunks h ns → m ≡ height_above ns → EntryHolds
  entry_holds a card value_is kept guard lits chunks height =
      let by : Subst = clause_subst j.args c next in
      let t : Assignment = entry_values in
      let inst : Instances = InstanceHolds preds in
      let below : AllBelow m ns = below_from_height m ns (under_next m (height_above ns) height) in
      let whole : ChunksHold inst w c.heap.chunks h ns = chunks_map (HoldsBelow preds m) inst w m (λ p xs b i o g. bound_law preds m (suc i) p xs b i g (above i)) c.heap.chunks h ns below chunks in
      let true_lits = clause_lits preds formed j next q at fits s w params k c e ns kept (guard, lits) in
      let cs : List Chunk = map (apply_chunk by) c.heap.chunks in
      let applied : ChunksHold inst t cs h ns = (apply_chunks_law preds by t c.heap.chunks h ns).1 (clause_chunks preds formed j next q at fits s w params k c e ns kept h whole) in
      let numbers = cards_are next (length (int_args j.args)) (length (set_args j.args)) ns s w in
      let less : AllTrue t (below_card j.card (count_from next.cards (length (insts cs)))) =
      subst (λ (o : Option Var). AllTrue t (below_card o (count_from next.cards (length (insts cs))))) (sym card) (cards_below inst t a m next.cards cs h ns value_is applied numbers below) in
      record {
        lits = ((apply_law by t c.guard).1 true_lits.0, true_join t (map (apply_lit by) c.lits) (below_card j.card (count_from next.cards (length (insts cs)))) (all_back by t c.lits true_lits.1) less);
        chunks = (
          ns,
          tagged inst t j.card (suc j.tag) next.cards cs h ns applied,
          subst (λ (o : Option Var). CardsAre t (with_tags o (suc j.tag) next.cards cs) ns) (sym card) (cards_tagged inst t a (suc j.tag) next.cards cs h ns applied numbers),
        );
      }
    where
      under_next : (m n : ℕ) → m ≡ n → n < suc m
      under_next m n e = omega arith

      above : (i : ℕ) → i < suc i
      above i = omega arith
