-- The predicates that are read are formed.
use Rattle.std.proofs.Common.{List, [], ap, arith, cond, false, flat_map, inl, inr, length, map, not, refl, suc, true, zero, ℕ, ◌&&◌, ◌++◌, ◌∙◌, ◌≤◌, ◌∷◌, ◌≡◌}
use Rattle.std.specs.Prelude.{Bool, nat_le, slice_get}
use Rattle.std.specs.List.{list_all}
use Rattle.std.proofs.lemmas.List.{length-map}
use Rattle.std.proofs.lemmas.Bool.{and_from, and_parts, le-leb}
use Rattle.cyp_heap.specs.PredsFormed.{IsFormedPreds, all_clauses, clause_guards, insts_plain, is_clause_within, is_productive, none_overlap}
use Rattle.cyp_heap.specs.declared.pred.Clause.{Clause}
use Rattle.cyp_heap.specs.declared.pred.Pred.{Pred}
use Rattle.cyp_term.specs.Terms.{sort_eq}
use Rattle.cyp_term.specs.declared.lit.Lit.{Lit}
use Rattle.cyp_term.specs.declared.term.Sort.TheVariants.{Card}
use Rattle.cyp_term.proofs.Equality.{Decides-sort_eq}
use Rattle.cyp_term.proofs.Lists.{Among}
use Rattle.cyp_names.specs.Bodies.{in_kinds}
use Rattle.cyp_formed.specs.LimitFaults.{is_root_within, limit_faults}
use Rattle.cyp_names.specs.PredFaults.{extra_pred_fault, guard_of, is_pred_within, overlap_faults, pred_limit_faults, size_faults, unproductive_fault}
use Rattle.cyp_names.specs.NameFaults.{chunk_faults, clause_faults, clauses, fault_at, guard_faults, name_faults, param_names, pred_faults, proc_faults, repeats, sort_faults}
use Rattle.cyp_names.specs.Specifications.{clause_scope, read_clause, read_pred, read_preds, read_tree}
use Rattle.cyp_names.specs.Bodies.{body_uses}
use Rattle.cyp_text.specs.declared.tree.ChunkTree.{ChunkTree}
use Rattle.cyp_text.specs.declared.tree.ClauseTree.{ClauseTree}
use Rattle.cyp_text.specs.declared.tree.ParamTree.{ParamTree}
use Rattle.cyp_text.specs.declared.tree.PredTree.{PredTree}
use Rattle.cyp_text.specs.declared.tree.TextTree.{TextTree}
use Rattle.cyp_names.specs.Uses.{lit_uses, param_sort, param_uses}
use Rattle.cyp_lex.specs.declared.fault.Fault.{Fault}
use Rattle.cyp_lex.specs.declared.fault.FaultKind.TheVariants.{TooLarge}
use Rattle.cyp_formed.proofs.FormedClauses.{closed}
use Rattle.cyp_formed.proofs.FormedGuards.{counts_right, guard_right}
use Rattle.cyp_formed.proofs.FormedInstances.{kinds_among}
use Rattle.cyp_names.proofs.NoFaults.{none_both, none_each, test_true}
use Rattle.cyp_formed.proofs.FormedOwners.{none_overlaps, owns_cell, plain_insts}
use Rattle.cyp_names.proofs.NoFaults.{test_false}
use Rattle.cyp_formed.proofs.PlainSorts.{param_plain}

-- ---- lists

all_mapped : {A B : Type 0} (f : A → B) (test : B → Bool) (xs : List A) → ((x : A) → Among x xs → test (f x) ≡ true) → list_all test (map f xs) ≡ true
all_mapped f test [] h = refl
all_mapped f test (x ∷ xs) h = and_from _ _ (h x (inl refl)) (all_mapped f test xs (λ y m. h y (inr m)))

-- no predicate stands behind the last that is allowed
pub short_by : (n : ℕ) (qs : List PredTree) → extra_pred_fault (slice_get qs n) ≡ [] → length qs ≤ n
short_by n [] e = omega arith
short_by zero (q ∷ qs) e = absurd cc
short_by (suc n) (q ∷ qs) e = omega (arith, short_by n qs e)

module _ (t : TextTree) (right : name_faults t ≡ []) (within : limit_faults t ≡ []) where
  abbrev qs : List PredTree
  qs = t.preds

  preds_right : (q : PredTree) → Among q qs → pred_faults qs q ≡ []
  preds_right =
      none_each (pred_faults qs) qs (none_both (repeats [] (map (λ (q : PredTree). q.name) qs)) (flat_map (pred_faults qs) qs)
      (none_both (repeats [] (map (λ (q : PredTree). q.name) qs) ++ flat_map (pred_faults qs) qs) (proc_faults t) right).0).1

  once : (q : PredTree) → Among q qs → repeats [] (param_names q.params) ≡ []
  once q m = (none_both (repeats [] (param_names q.params)) (flat_map (clause_faults qs q.params) (clauses q)) (preds_right q m)).0

  clause_right : (q : PredTree) → Among q qs → (c : ClauseTree) → Among c (clauses q) → clause_faults qs q.params c ≡ []
  clause_right q m = none_each (clause_faults qs q.params) (clauses q) (none_both (repeats [] (param_names q.params)) (flat_map (clause_faults qs q.params) (clauses q)) (preds_right q m)).1

  -- ---- limits

  abbrev root_part : List Fault
  root_part = cond (is_root_within (read_tree t)) [] (fault_at TooLarge t.name.place)

  abbrev pred_part : List Fault
  pred_part = flat_map (pred_limit_faults qs) qs

  -- the parts of the faults of limits are none
  pub parts_none : (pred_part ≡ []) × (extra_pred_fault (slice_get qs 16) ≡ []) × (size_faults t.pre ≡ []) × (size_faults t.post ≡ []) × (root_part ≡ [])
  parts_none =
      let a = none_both (pred_part ++ extra_pred_fault (slice_get qs 16) ++ size_faults t.pre ++ size_faults t.post) root_part within in
      let b = none_both (pred_part ++ extra_pred_fault (slice_get qs 16) ++ size_faults t.pre) (size_faults t.post) a.0 in
      let c = none_both (pred_part ++ extra_pred_fault (slice_get qs 16)) (size_faults t.pre) b.0 in
      let d = none_both pred_part (extra_pred_fault (slice_get qs 16)) c.0 in
      (d.0, d.1, c.1, b.1, a.1)

  module _ (q : PredTree) (m : Among q qs) where
    abbrev overlaps_part : List Fault
    overlaps_part = overlap_faults (guard_of qs q.params) [] (clauses q)

    abbrev owners_part : List Fault
    owners_part = flat_map unproductive_fault (clauses q)

    abbrev sizes_part : List Fault
    sizes_part = flat_map (λ (c : ClauseTree). size_faults c.body) (clauses q)

    abbrev limits_part : List Fault
    limits_part = cond (is_pred_within (read_pred qs q)) [] (fault_at TooLarge q.name.place)

    pred_none : pred_limit_faults qs q ≡ []
    pred_none = none_each (pred_limit_faults qs) qs parts_none.0 q m

    three_none : (overlaps_part ++ owners_part ++ sizes_part ≡ []) × (limits_part ≡ [])
    three_none = none_both (overlaps_part ++ owners_part ++ sizes_part) limits_part pred_none

    two_none : (overlaps_part ≡ []) × (owners_part ≡ [])
    two_none = none_both overlaps_part owners_part (none_both (overlaps_part ++ owners_part) sizes_part three_none.0).0

    pred_within : is_pred_within (read_pred qs q) ≡ true
    pred_within = test_true (is_pred_within (read_pred qs q)) _ [] three_none.1

    sizes_within : (nat_le (length (read_pred qs q).params) 8 && nat_le (length (read_pred qs q).clauses) 8 ≡ true) × (list_all is_clause_within (read_pred qs q).clauses ≡ true)
    sizes_within = and_parts _ (list_all is_clause_within (read_pred qs q).clauses) pred_within

    both_within : (nat_le (length (read_pred qs q).params) 8 ≡ true) × (nat_le (length (read_pred qs q).clauses) 8 ≡ true)
    both_within = and_parts _ _ sizes_within.0

    guards_apart : none_overlap (clause_guards (read_pred qs q)) ≡ true
    guards_apart = ap none_overlap (mapped_twice (clauses q)) ∙ none_overlaps (guard_of qs q.params) [] (clauses q) two_none.0
      where
        mapped_twice : (cs : List ClauseTree) → map (λ (c : Clause). c.guard) (map (read_clause qs q.params) cs) ≡ map (guard_of qs q.params) cs
        mapped_twice [] = refl
        mapped_twice (c ∷ cs) = ap (λ (gs : List Lit). guard_of qs q.params c ∷ gs) (mapped_twice cs)

    productive : (c : ClauseTree) → Among c (clauses q) → is_productive (read_clause qs q.params c) ≡ true
    productive c k = owns_cell qs (clause_scope qs q.params c) c.body.chunks (test_false _ _ [] (none_each unproductive_fault (clauses q) two_none.1 c k))

    plain : (c : ClauseTree) → Among c (clauses q) → insts_plain (read_preds qs) (read_clause qs q.params c) ≡ true
    plain c k = plain_insts qs (clause_scope qs q.params c) (in_kinds c.body.chunks) (λ d n. chunk_right d (kinds_among c.body.chunks d n))
      where
        chunk_right : (d : ChunkTree) → Among d c.body.chunks → chunk_faults qs d ≡ []
        chunk_right =
            none_each (chunk_faults qs) c.body.chunks
            (none_both (guard_faults q.params c.guard ++ sort_faults (param_uses q.params) (lit_uses c.guard ++ body_uses qs c.body)) (flat_map (chunk_faults qs) c.body.chunks) (clause_right q m c k)).1

  -- ---- the predicates

  each_pred : (test : Pred → Bool) → ((q : PredTree) → Among q qs → test (read_pred qs q) ≡ true) → list_all test (read_preds qs).list ≡ true
  each_pred test h = all_mapped (read_pred qs) test qs h

  each_clause : (test : Pred → Clause → Bool) → ((q : PredTree) → Among q qs → (c : ClauseTree) → Among c (clauses q) → test (read_pred qs q) (read_clause qs q.params c) ≡ true) → all_clauses test (read_preds qs) ≡ true
  each_clause test h = each_pred (λ q. list_all (test q) q.clauses) (λ q m. all_mapped (read_clause qs q.params) (test (read_pred qs q)) (clauses q) (h q m))

  sort_not_card : (p : ParamTree) → not (sort_eq (param_sort p) Card) ≡ true
  sort_not_card p = by_test (sort_eq (param_sort p) Card) refl
    where
      by_test : (b : Bool) → sort_eq (param_sort p) Card ≡ b → not b ≡ true
      by_test false e = refl
      by_test true e = absurd (param_plain p ((Decides-sort_eq (param_sort p) Card).0 e))

  pub formed_preds : IsFormedPreds (read_preds qs)
  formed_preds = record {
    few = le-leb _ 16 (omega (arith, length-map qs (read_pred qs), short_by 16 qs parts_none.1));
    has_clauses = each_pred _ (λ q m. le-leb 1 (suc (length (map (read_clause qs q.params) q.others))) (omega arith));
    few_clauses = each_pred _ (λ q m. (both_within q m).1);
    few_params = each_pred _ (λ q m. (both_within q m).0);
    params_sorted = each_pred _ (λ q m. all_mapped param_sort (λ s. not (sort_eq s Card)) q.params (λ p k. sort_not_card p));
    guards_plain = each_clause _ (λ q m c k. guard_right qs q.params c (once q m) (clause_right q m c k));
    guards_apart = each_pred _ (λ q m. guards_apart q m);
    params_counted = each_clause _ (λ q m c k. counts_right qs q.params c (once q m) (clause_right q m c k));
    closed = each_clause _ (λ q m c k. closed qs q.params c (once q m) (clause_right q m c k));
    instances_plain = each_clause _ (λ q m c k. plain q m c k);
    productive = each_clause _ (λ q m c k. productive q m c k);
    clauses_within = each_pred _ (λ q m. (sizes_within q m).1);
  }
