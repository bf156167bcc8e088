-- Predicates that are printed: they are read as what they were, and have no faults.
use Rattle.std.proofs.Common.{List, [], ap, cond, flat_map, inl, inr, map, refl, ◌++◌, ◌∙◌, ◌∷◌, ◌≡◌, ℕ, suc, zero}
use Rattle.std.specs.Prelude.{Bool, slice_get}
use Rattle.cyp_heap.specs.declared.pred.Clause.{Clause}
use Rattle.cyp_heap.specs.declared.pred.Pred.{Pred}
use Rattle.cyp_lex.specs.declared.fault.Fault.{Fault}
use Rattle.cyp_lex.specs.declared.fault.FaultKind.TheVariants.{GuardsOverlap, TooLarge}
use Rattle.cyp_term.specs.declared.lit.Lit.{Lit}
use Rattle.cyp_term.proofs.Lists.{Among}
use Rattle.cyp_names.specs.PredFaults.{extra_pred_fault, guard_of, is_pred_within, overlap_faults, overlaps, pred_limit_faults, size_faults, unproductive_fault}
use Rattle.cyp_names.specs.NameFaults.{clause_faults, clauses, fault_at, lit_place, param_names, pred_faults, repeats}
use Rattle.cyp_names.specs.Specifications.{read_clause, read_pred, read_preds}
use Rattle.cyp_text.specs.declared.tree.ClauseTree.{ClauseTree}
use Rattle.cyp_text.specs.declared.tree.PredTree.{PredTree}
use Rattle.cyp_names.proofs.NoFaults.{none_both, none_each, test_false}
use Rattle.cyp_printed.proofs.PrintedAgain.{again_clause, again_pred, again_preds, again_sorts}
use Rattle.cyp_formed.proofs.Maps.{flat_among, map_among, map_then}
use Rattle.cyp_printed.proofs.PrintedClauses.{clause_again, clause_right_again, clause_sizes_again, no_param_twice, productive_again}
use Rattle.cyp_formed.proofs.PredsRight.{clause_right, clause_within, each_part_none, once, pred_within}

-- ---- guards that stay apart

guards_apart : (guard guard' : ClauseTree → Lit) (f : ClauseTree → ClauseTree) (seen : List Lit) (cs : List ClauseTree) → ((c : ClauseTree) → Among c cs → guard' (f c) ≡ guard c) → overlap_faults guard seen cs ≡ [] → overlap_faults guard' seen (map f cs) ≡ []
guards_apart guard guard' f seen [] h e = refl
guards_apart guard guard' f seen (c ∷ cs) h e =
    λ i. first i ++ (ap (λ (ls : List Lit). overlap_faults guard' ls (map f cs)) seen_is ∙ guards_apart guard guard' f (seen ++ guard c ∷ []) cs (λ d m. h d (inr m)) parts.1) i
  where
    parts : (cond (overlaps seen (guard c)) (fault_at GuardsOverlap (lit_place c.guard)) [] ≡ []) × (overlap_faults guard (seen ++ guard c ∷ []) cs ≡ [])
    parts = none_both (cond (overlaps seen (guard c)) (fault_at GuardsOverlap (lit_place c.guard)) []) (overlap_faults guard (seen ++ guard c ∷ []) cs) e

    seen_is : seen ++ guard' (f c) ∷ [] ≡ seen ++ guard c ∷ []
    seen_is = ap (λ (l : Lit). seen ++ l ∷ []) (h c (inl refl))

    first : cond (overlaps seen (guard' (f c))) (fault_at GuardsOverlap (lit_place (f c).guard)) [] ≡ []
    first =
        ap (λ (l : Lit). cond (overlaps seen l) (fault_at GuardsOverlap (lit_place (f c).guard)) []) (h c (inl refl))
        ∙ ap (λ (t : Bool). cond t (fault_at GuardsOverlap (lit_place (f c).guard)) []) (test_false (overlaps seen (guard c)) _ [] parts.0)

-- ---- a predicate without faults

module _ (qs : List PredTree) (q : PredTree) (right : pred_faults qs q ≡ []) (limits : pred_limit_faults qs q ≡ []) where
  abbrev again : PredTree
  again = again_pred qs q

  -- each clause is read as what it was
  clause_back : (c : ClauseTree) → Among c (clauses q) → read_clause (again_preds qs) again.params (again_clause qs q.params c) ≡ read_clause qs q.params c
  clause_back c m = clause_again qs q.params c (once qs q right limits) (clause_right qs q right limits c m) (clause_within qs q right limits c m)

  pub pred_again : read_pred (again_preds qs) again ≡ read_pred qs q
  pred_again = λ i. record { name = q.name.text; params = again_sorts q.params i; clauses = clauses_are i }
    where
      clauses_are : map (read_clause (again_preds qs) again.params) (map (again_clause qs q.params) (clauses q)) ≡ map (read_clause qs q.params) (clauses q)
      clauses_are =
          map_then (again_clause qs q.params) (read_clause (again_preds qs) again.params) (λ c. read_clause (again_preds qs) again.params (again_clause qs q.params c)) (λ c. refl) (clauses q)
          ∙ map_among (λ c. read_clause (again_preds qs) again.params (again_clause qs q.params c)) (read_clause qs q.params) (clauses q) clause_back

  pub pred_right_again : pred_faults (again_preds qs) again ≡ []
  pred_right_again = λ i. names_part i ++ clauses_part i
    where
      names_part : repeats [] (param_names again.params) ≡ []
      names_part = no_param_twice qs q.params q.first (once qs q right limits) (clause_right qs q right limits q.first (inl refl)) (clause_within qs q right limits q.first (inl refl))

      none : ClauseTree → List Fault
      none c = []

      all_none : (cs : List ClauseTree) → flat_map none cs ≡ []
      all_none [] = refl
      all_none (c ∷ cs) = all_none cs

      clauses_part : flat_map (clause_faults (again_preds qs) again.params) (map (again_clause qs q.params) (clauses q)) ≡ []
      clauses_part =
          flat_among (again_clause qs q.params) (clause_faults (again_preds qs) again.params) none (clauses q) (λ c m. clause_right_again qs q.params c (once qs q right limits) (clause_right qs q right limits c m) (clause_within qs q right limits c m))
          ∙ all_none (clauses q)

  pub pred_limits_again : pred_limit_faults (again_preds qs) again ≡ []
  pred_limits_again = λ i. ((guards i ++ owners i) ++ sizes i) ++ within i
    where
      none : ClauseTree → List Fault
      none c = []

      all_none : (cs : List ClauseTree) → flat_map none cs ≡ []
      all_none [] = refl
      all_none (c ∷ cs) = all_none cs

      guards : overlap_faults (guard_of (again_preds qs) again.params) [] (map (again_clause qs q.params) (clauses q)) ≡ []
      guards = guards_apart (guard_of qs q.params) (guard_of (again_preds qs) again.params) (again_clause qs q.params) [] (clauses q) (λ c m. ap (λ (k : Clause). k.guard) (clause_back c m)) (each_part_none qs q right limits).0

      owners : flat_map unproductive_fault (map (again_clause qs q.params) (clauses q)) ≡ []
      owners =
          flat_among (again_clause qs q.params) unproductive_fault none (clauses q)
          (λ c m. productive_again qs q.params c (once qs q right limits) (clause_right qs q right limits c m) (clause_within qs q right limits c m) (none_each unproductive_fault (clauses q) (each_part_none qs q right limits).1 c m)) ∙ all_none (clauses q)

      sizes : flat_map (λ (c : ClauseTree). size_faults c.body) (map (again_clause qs q.params) (clauses q)) ≡ []
      sizes =
          flat_among (again_clause qs q.params) (λ (c : ClauseTree). size_faults c.body) none (clauses q)
          (λ c m. clause_sizes_again qs q.params c (once qs q right limits) (clause_right qs q right limits c m) (clause_within qs q right limits c m) (none_each (λ (d : ClauseTree). size_faults d.body) (clauses q) (each_part_none qs q right limits).2 c m)) ∙ all_none (clauses q)

      within : cond (is_pred_within (read_pred (again_preds qs) again)) [] (fault_at TooLarge 0) ≡ []
      within = ap (λ (p : Pred). cond (is_pred_within p) [] (fault_at TooLarge 0)) pred_again ∙ ap (λ (t : Bool). cond t [] (fault_at TooLarge 0)) (pred_within qs q right limits)

-- ---- all predicates

module _ (qs : List PredTree) (right : (q : PredTree) → Among q qs → pred_faults qs q ≡ []) (limits : (q : PredTree) → Among q qs → pred_limit_faults qs q ≡ []) where
  pub preds_again : read_preds (again_preds qs) ≡ read_preds qs
  preds_again = λ i. record { list = list_is i }
    where
      list_is : map (read_pred (again_preds qs)) (map (again_pred qs) qs) ≡ map (read_pred qs) qs
      list_is =
          map_then (again_pred qs) (read_pred (again_preds qs)) (λ q. read_pred (again_preds qs) (again_pred qs q)) (λ q. refl) qs
          ∙ map_among (λ q. read_pred (again_preds qs) (again_pred qs q)) (read_pred qs) qs (λ q m. pred_again qs q (right q m) (limits q m))

  none : PredTree → List Fault
  none q = []

  all_none : (ps : List PredTree) → flat_map none ps ≡ []
  unfolding none
  all_none [] = refl
  all_none (p ∷ ps) = all_none ps

  pub preds_right_again : flat_map (pred_faults (again_preds qs)) (again_preds qs) ≡ []
  unfolding none
  preds_right_again = flat_among (again_pred qs) (pred_faults (again_preds qs)) none qs (λ q m. pred_right_again qs q (right q m) (limits q m)) ∙ all_none qs

  pub preds_limits_again : flat_map (pred_limit_faults (again_preds qs)) (again_preds qs) ≡ []
  unfolding none
  preds_limits_again = flat_among (again_pred qs) (pred_limit_faults (again_preds qs)) none qs (λ q m. pred_limits_again qs q (right q m) (limits q m)) ∙ all_none qs

extra_mapped : (all : List PredTree) (n : ℕ) (qs : List PredTree) → extra_pred_fault (slice_get qs n) ≡ [] → extra_pred_fault (slice_get (map (again_pred all) qs) n) ≡ []
extra_mapped all n [] e = refl
extra_mapped all zero (q ∷ qs) e = absurd cc
extra_mapped all (suc n) (q ∷ qs) e = extra_mapped all n qs e

pub extra_again : (qs : List PredTree) → extra_pred_fault (slice_get qs 16) ≡ [] → extra_pred_fault (slice_get (again_preds qs) 16) ≡ []
extra_again qs e = extra_mapped qs 16 qs e
