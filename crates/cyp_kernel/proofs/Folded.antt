-- An instance holds where the unfolding of one of its clauses does.
use Rattle.std.proofs.Common.{◌≡◌, refl, sym, ℕ, zero, suc, ◌<◌, true, List, [], ◌∷◌, map, length, Option, Some, None, arith, subst}
use Rattle.std.specs.Prelude.{slice_get}
use Rattle.std.proofs.lemmas.Option.{none-some, same_Some}
use Rattle.cyp_heap.proofs.Applied.{apply_chunks_law}
use Rattle.cyp_heap.proofs.Bounds.{below_from_height, bound_law, chunks_map}
use Rattle.cyp_heap.specs.Chunks.{apply_chunk, insts}
use Rattle.cyp_heap.specs.Formed.{fits_pred, inst_fits, sorts_fit}
use Rattle.cyp_heap.specs.Instances.{ChunksHold, HoldsBelow, InstanceHolds, Instances, arg_value, height_above}
use Rattle.cyp_heap.specs.Stores.{Store}
use Rattle.cyp_heap.specs.declared.chunk.Chunk.{Chunk}
use Rattle.cyp_heap.specs.declared.chunk.Chunk.TheVariants.{Block, Cell, Inst}
use Rattle.cyp_heap.specs.declared.chunk.InstOf.{InstOf}
use Rattle.cyp_heap.specs.declared.pred.Clause.{Clause}
use Rattle.cyp_heap.specs.declared.pred.Pred.{Pred}
use Rattle.cyp_heap.specs.declared.pred.Preds.{Preds}
use Rattle.cyp_kernel.proofs.GoalFacts.{true_left}
use Rattle.cyp_kernel.proofs.UnfoldParams.{ints_bound, params_are, sets_bound}
use Rattle.cyp_pred.specs.Unfold.{below_card, clause_subst, clauses_of, count_from, int_args, new_ints, new_sets, own_ints, own_sets, set_args, unfold_clause, unfold_inst, with_tags}
use Rattle.cyp_pred.specs.declared.unfolded.Next.{Next}
use Rattle.cyp_pred.specs.declared.unfolded.Unfolded.{Unfolded}
use Rattle.cyp_term.proofs.Substitution.{apply_law}
use Rattle.cyp_term.specs.Meaning.{AllTrue, Assignment, Truth, under}
use Rattle.cyp_term.specs.Terms.{apply_lit, set_var, var_term}
use Rattle.cyp_term.specs.declared.lit.Lit.{Lit}
use Rattle.cyp_term.specs.declared.subst.Subst.{Subst}
use Rattle.cyp_term.specs.declared.term.Var.{Var}

pub all_applied : (by : Subst) (t : Assignment) (ls : List Lit) → AllTrue t (map (apply_lit by) ls) → AllTrue (under by t) ls
all_applied by t [] h = tt
all_applied by t (l ∷ ls) h = ((apply_law by t l).0 h.0, all_applied by t ls h.1)

-- tags and cardinalities don't matter for the heap
pub untagged : (inst : Instances) (t : Assignment) (card : Option Var) (tag k : ℕ) (cs : List Chunk) (h : Store) (ns : List ℕ)
    → ChunksHold inst t (with_tags card tag k cs) h ns → ChunksHold inst t cs h ns
untagged inst t card tag k [] h ns o = o
untagged inst t card tag k (Inst i ∷ cs) h ns o = (o.0, o.1, o.2, o.3, o.4, o.5, o.6, untagged inst t card tag (suc k) cs o.1 o.3 o.7)
untagged inst t card tag k (Block b ∷ cs) h ns o = (o.0, o.1, o.2, o.3, untagged inst t card tag k cs o.1 ns o.4)
untagged inst t card tag k (Cell c ∷ cs) h ns o = (o.0, o.1, o.2, o.3, untagged inst t card tag k cs o.1 ns o.4)

pub fitting_args : (j : InstOf) (o : Option Pred) (q : Pred) → o ≡ Some q → fits_pred j o ≡ true → sorts_fit j.args q.params ≡ true
fitting_args j o q e f = subst (λ (p : Option Pred). fits_pred j p ≡ true) e f

-- the clause that stands for an entry
pub clause_of_entry : (preds : Preds) (j : InstOf) (next : Next) (k : ℕ) (u : Unfolded) → slice_get (unfold_inst preds j next) k ≡ Some u
    → (q : Pred) × (c : Clause) × (slice_get preds.list j.pred ≡ Some q) × (slice_get q.clauses k ≡ Some c) × (u ≡ unfold_clause j next c)
clause_of_entry preds j next k u e = of_pred (slice_get preds.list j.pred) refl e
  where
    of_clauses : (cs : List Clause) (i : ℕ) → slice_get (map (unfold_clause j next) cs) i ≡ Some u → (c : Clause) × (slice_get cs i ≡ Some c) × (u ≡ unfold_clause j next c)
    of_clauses [] i e = absurd (none-some u e)
    of_clauses (c ∷ cs) zero e = (c, refl, sym (same_Some (unfold_clause j next c) u e))
    of_clauses (c ∷ cs) (suc i) e = of_clauses cs i e

    of_pred : (o : Option Pred) → slice_get preds.list j.pred ≡ o → slice_get (map (unfold_clause j next) (clauses_of o)) k ≡ Some u
        → (q : Pred) × (c : Clause) × (slice_get preds.list j.pred ≡ Some q) × (slice_get q.clauses k ≡ Some c) × (u ≡ unfold_clause j next c)
    of_pred None p e = absurd (none-some u e)
    of_pred (Some q) p e = let r = of_clauses q.clauses k e in (q, r.0, p, r.1, r.2)

module _ (preds : Preds) (j : InstOf) (next : Next) (q : Pred) (at : slice_get preds.list j.pred ≡ Some q) (fits : inst_fits preds j ≡ true) (t : Assignment) where
  -- the clause's unfolding holds in the heap, its instances at these heights
  pub folds : (k : ℕ) (c : Clause) → slice_get q.clauses k ≡ Some c → (h : Store) (ns : List ℕ)
      → Truth t (unfold_clause j next c).guard → AllTrue t (unfold_clause j next c).lits
      → ChunksHold (InstanceHolds preds) t (unfold_clause j next c).heap.chunks h ns
      → InstanceHolds preds j.pred (map (arg_value t) j.args) h (height_above ns)
  folds k c e h ns guard lits chunks =
      let by : Subst = clause_subst j.args c next in
      let s : Assignment = under by t in
      let n : ℕ = height_above ns in
      let plain = untagged (InstanceHolds preds) t j.card (suc j.tag) next.cards (map (apply_chunk by) c.heap.chunks) h ns chunks in
      let applied : ChunksHold (InstanceHolds preds) s c.heap.chunks h ns = (apply_chunks_law preds by t c.heap.chunks h ns).0 plain in (
        q,
        at,
        (
          k,
          c,
          s,
          ns,
          e,
          params_are by t 0 0 j.args q.params (fitting_args j (slice_get preds.list j.pred) q at fits)
              (ints_bound 0 (int_args j.args) (map var_term (new_ints next.ints (own_ints j.args c))))
              (sets_bound 0 (set_args j.args) (map set_var (new_sets next.sets (own_sets j.args c)))),
          (apply_law by t c.guard).0 guard,
          all_applied by t c.lits
              (true_left t (map (apply_lit by) c.lits) (below_card j.card (count_from next.cards (length (insts (map (apply_chunk by) c.heap.chunks))))) lits),
          chunks_map (InstanceHolds preds) (HoldsBelow preds n) s n (λ p xs a m l o. bound_law preds (suc m) n p xs a m o l) c.heap.chunks h ns
              (below_from_height n ns (above n)) applied,
          refl,
        ),
      )
    where
      above : (n : ℕ) → n < suc n
      above n = omega arith
