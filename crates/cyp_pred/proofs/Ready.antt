-- What the conditions say of one predicate and of one clause.
use Rattle.std.proofs.Common.{◌≡◌, ◌∙◌, refl, ap, sym, arith, ℕ, zero, suc, ◌+◌, ◌<◌, ◌≤◌, Bool, true, false, ◌&&◌, List, [], ◌∷◌, Some, get_or, length, map}
use Rattle.std.proofs.lemmas.Bool.{and_from, and_parts, leb-true, ltb-true}
use Rattle.std.proofs.lemmas.List.{length-map}
use Rattle.std.proofs.lemmas.Option.{slice_get_read}
use Rattle.std.specs.List.{list_all, slice_get}
use Rattle.std.specs.Prelude.{IsTrue, nat_le, nat_lt}
use Rattle.cyp_heap.specs.Chunks.{apply_chunk, insts}
use Rattle.cyp_heap.specs.Formed.{arg_sort, fits_pred, inst_fits, sorts_fit}
use Rattle.cyp_heap.specs.PredsFormed.{IsFormedPreds, is_clause_within}
use Rattle.cyp_heap.specs.declared.chunk.Arg.{Arg}
use Rattle.cyp_heap.specs.declared.chunk.InstOf.{InstOf}
use Rattle.cyp_heap.specs.declared.pred.Clause.{Clause}
use Rattle.cyp_heap.specs.declared.pred.Pred.{Pred}
use Rattle.cyp_heap.specs.declared.pred.Preds.{Preds}
use Rattle.cyp_pred.specs.Parts.{apply_clause, is_ready}
use Rattle.cyp_pred.specs.Unfold.{cards_used, clause_subst, clauses_of, own_ints, own_sets, unfold_clause}
use Rattle.cyp_pred.specs.Unfoldable.{is_numbered}
use Rattle.cyp_pred.specs.declared.unfolded.Next.{Next}
use Rattle.cyp_pred.specs.declared.unfolded.Unfolded.{Unfolded}
use Rattle.cyp_term.specs.Terms.{sort_eq}
use Rattle.cyp_term.specs.declared.subst.Subst.{Subst}
use Rattle.cyp_term.specs.declared.term.Sort.{Sort}

-- the item at a place passes a test that all pass
pub at_item : {X : Type 0} (test : X → Bool) (xs : List X) (k : ℕ) (x : X) → k < length xs → x ≡ get_or xs k x → IsTrue (list_all test xs) → IsTrue (test x)
at_item test [] k x lt e h = let none : ⊥ = omega arith in absurd none
at_item test (y ∷ ys) zero x lt e h = ap test e ∙ (and_parts (test y) (list_all test ys) h).0
at_item test (y ∷ ys) (suc k) x lt e h = at_item test ys k x (omega arith) e (and_parts (test y) (list_all test ys) h).1

-- ---- the predicate

pub pred_there : (i : InstOf) (qs : List Pred) (k : ℕ) → IsTrue (fits_pred i (slice_get qs k)) → k < length qs
pred_there i [] k h = cc
pred_there i (q ∷ qs) zero h = omega arith
pred_there i (q ∷ qs) (suc k) h = let lt : k < length qs = pred_there i qs k h in omega arith

as_many : (xs : List Arg) (ss : List Sort) → IsTrue (sorts_fit xs ss) → length xs ≡ length ss
as_many [] [] h = refl
as_many [] (s ∷ ss) h = cc
as_many (a ∷ xs) [] h = cc
as_many (a ∷ xs) (s ∷ ss) h = ap suc (as_many xs ss (and_parts (sort_eq (arg_sort a) s) (sorts_fit xs ss) h).1)

-- a test that each clause of each predicate passes
pub clauses_pass : (test : Clause → Bool) (qs : List Pred) (k : ℕ) → IsTrue (list_all (λ (q : Pred). list_all test q.clauses) qs) → IsTrue (list_all test (clauses_of (slice_get qs k)))
clauses_pass test [] k h = refl
clauses_pass test (q ∷ qs) zero h = (and_parts (list_all test q.clauses) (list_all (λ (p : Pred). list_all test p.clauses) qs) h).0
clauses_pass test (q ∷ qs) (suc k) h = clauses_pass test qs k (and_parts (list_all test q.clauses) (list_all (λ (p : Pred). list_all test p.clauses) qs) h).1

-- the first of five tests
pub first_part : (a b c d e : Bool) → IsTrue (a && b && c && d && e) → IsTrue a
first_part true b c d e h = refl
first_part false b c d e h = h

module _ (i : InstOf) (next : Next) where
  ready_all : (cs : List Clause) → IsTrue (list_all (λ c. is_clause_within c) cs) → IsTrue (list_all (λ (u : Unfolded). is_numbered u.next) (map (unfold_clause i next) cs))
      → IsTrue (list_all (is_ready i next) cs)
  ready_all [] h n = refl
  ready_all (c ∷ cs) h n =
      let p : IsTrue (is_clause_within c) × IsTrue (list_all (λ d. is_clause_within d) cs) = and_parts _ _ h in
      let q : IsTrue (is_numbered (unfold_clause i next c).next) × IsTrue (list_all (λ (u : Unfolded). is_numbered u.next) (map (unfold_clause i next) cs)) = and_parts _ _ n in
      and_from (is_ready i next c) (list_all (is_ready i next) cs)
      (and_from (nat_le (length c.heap.chunks) 8) (is_numbered (unfold_clause i next c).next) (first_part _ _ _ _ _ p.0) q.0)
      (ready_all cs p.1 q.1)

  -- the clauses of a formed specification are ready where there are numbers
  pub all_ready : (preds : Preds) → IsFormedPreds preds → IsTrue (list_all (λ (u : Unfolded). is_numbered u.next) (map (unfold_clause i next) (clauses_of (slice_get preds.list i.pred))))
      → IsTrue (list_all (is_ready i next) (clauses_of (slice_get preds.list i.pred)))
  all_ready preds formed n = ready_all (clauses_of (slice_get preds.list i.pred)) (clauses_pass (λ c. is_clause_within c) preds.list i.pred formed.clauses_within) n

  -- an instance that fits has at most 8 arguments
  pub few_args : (preds : Preds) (q : Pred) → IsFormedPreds preds → IsTrue (inst_fits preds i) → i.pred < length preds.list → q ≡ get_or preds.list i.pred q → length i.args ≤ 8
  few_args preds q formed fits lt is =
      let there : slice_get preds.list i.pred ≡ Some q = slice_get_read preds.list (length preds.list) i.pred q refl lt is in
      let fit : IsTrue (sorts_fit i.args q.params) = rw there at fits in
      let few : length q.params ≤ 8 = leb-true (length q.params) 8 (at_item (λ (p : Pred). nat_le (length p.params) 8) preds.list i.pred q lt is formed.few_params) in
      let same : length i.args ≡ length q.params = as_many i.args q.params fit in
      omega arith

module _ (i : InstOf) (next : Next) (preds : Preds) (qs : List Pred) (q : Pred) where
  -- the same of the list that the code reads
  pub few_args_at : qs ≡ preds.list → IsFormedPreds preds → IsTrue (inst_fits preds i) → q ≡ get_or qs i.pred q → length i.args ≤ 8
  few_args_at same formed fits is =
      few_args i next preds q formed fits (pred_there i preds.list i.pred fits) (is ∙ ap (λ ps. get_or ps i.pred q) same)

  clauses_are : qs ≡ preds.list → IsTrue (inst_fits preds i) → q ≡ get_or qs i.pred q → clauses_of (slice_get preds.list i.pred) ≡ q.clauses
  clauses_are same fits is =
      ap clauses_of (slice_get_read preds.list (length preds.list) i.pred q refl (pred_there i preds.list i.pred fits) (is ∙ ap (λ ps. get_or ps i.pred q) same))

  pub ready_at : (cs : List Clause) → qs ≡ preds.list → IsFormedPreds preds → IsTrue (inst_fits preds i)
      → IsTrue (list_all (λ (u : Unfolded). is_numbered u.next) (map (unfold_clause i next) (clauses_of (slice_get preds.list i.pred))))
      → q ≡ get_or qs i.pred q → cs ≡ q.clauses → IsTrue (list_all (is_ready i next) cs)
  ready_at cs same formed fits n is are =
      ap (list_all (is_ready i next)) (are ∙ sym (clauses_are same fits is)) ∙ all_ready i next preds formed n

-- ---- the clause

-- at most 8 chunks, and a number for each new variable
pub record Ready (i : InstOf) (next : Next) (c : Clause) : Type 0 where
  pub chunks : length c.heap.chunks ≤ 8
  pub ints : next.ints + own_ints i.args c < 256
  pub cards : next.cards + cards_used i.card (length (insts c.heap.chunks)) < 256
  pub sets : next.sets + own_sets i.args c < 256

-- what was made of the clause is ready
pub ready_of : (i : InstOf) (next : Next) (c : Clause) → IsTrue (is_ready i next c) → Ready i next (apply_clause (clause_subst i.args c next) c)
ready_of i next c h =
    let by : Subst = clause_subst i.args c next in
    let p : IsTrue (nat_le (length c.heap.chunks) 8) × IsTrue (is_numbered (unfold_clause i next c).next) = and_parts _ _ h in
    let n : Next = (unfold_clause i next c).next in
    let q : IsTrue (nat_lt n.ints 256 && nat_lt n.cards 256) × IsTrue (nat_lt n.sets 256) = and_parts _ _ p.1 in
    let r : IsTrue (nat_lt n.ints 256) × IsTrue (nat_lt n.cards 256) = and_parts _ _ q.0 in
    let few : length c.heap.chunks ≤ 8 = leb-true (length c.heap.chunks) 8 p.0 in
    record {
      chunks = rw (length-map c.heap.chunks (apply_chunk by)) few;
      ints = ltb-true n.ints 256 r.0;
      cards = ltb-true n.cards 256 r.1;
      sets = ltb-true n.sets 256 q.1;
    }

-- what the code made of the clause is what the definition makes
pub applied_is : (i : InstOf) (next : Next) (c applied : Clause) (by : Subst) (args : List Arg) → args ≡ i.args → by ≡ clause_subst args c next → applied ≡ apply_clause by c
    → applied ≡ apply_clause (clause_subst i.args c next) c
applied_is i next c applied by args same bound made = made ∙ ap (λ b. apply_clause b c) (bound ∙ ap (λ xs. clause_subst xs c next) same)

pub applied_ready : (i : InstOf) (next : Next) (c applied : Clause) → applied ≡ apply_clause (clause_subst i.args c next) c → IsTrue (is_ready i next c) → Ready i next applied
applied_ready i next c applied e h = rw e (ready_of i next c h)
