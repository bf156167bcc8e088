-- A predicate without faults: its clauses have none.
use Rattle.std.proofs.Common.{List, [], cond, flat_map, length, true, ◌++◌, ◌≡◌, ◌&&◌}
use Rattle.std.specs.Prelude.{nat_le}
use Rattle.std.specs.List.{list_all}
use Rattle.std.proofs.lemmas.Bool.{and_parts}
use Rattle.cyp_heap.specs.PredsFormed.{is_clause_within}
use Rattle.cyp_lex.specs.declared.fault.Fault.{Fault}
use Rattle.cyp_lex.specs.declared.fault.FaultKind.TheVariants.{TooLarge}
use Rattle.cyp_term.proofs.Lists.{Among, Among-map, each_at}
use Rattle.cyp_names.specs.PredFaults.{guard_of, is_pred_within, overlap_faults, pred_limit_faults, size_faults, unproductive_fault}
use Rattle.cyp_names.specs.NameFaults.{clause_faults, clauses, fault_at, param_names, pred_faults, repeats}
use Rattle.cyp_names.specs.Specifications.{read_clause, read_pred}
use Rattle.cyp_text.specs.declared.tree.ClauseTree.{ClauseTree}
use Rattle.cyp_text.specs.declared.tree.PredTree.{PredTree}
use Rattle.cyp_names.proofs.NoFaults.{none_both, none_each, test_true}

module _ (qs : List PredTree) (q : PredTree) (right : pred_faults qs q ≡ []) (limits : pred_limit_faults qs q ≡ []) where
  pub once : repeats [] (param_names q.params) ≡ []
  once = (none_both (repeats [] (param_names q.params)) (flat_map (clause_faults qs q.params) (clauses q)) right).0

  pub clause_right : (c : ClauseTree) → Among c (clauses q) → clause_faults qs q.params c ≡ []
  clause_right = none_each (clause_faults qs q.params) (clauses q) (none_both (repeats [] (param_names q.params)) (flat_map (clause_faults qs q.params) (clauses q)) right).1

  abbrev overlap_part : List Fault
  overlap_part = overlap_faults (guard_of qs q.params) [] (clauses q)

  abbrev owner_part : List Fault
  owner_part = flat_map unproductive_fault (clauses q)

  abbrev size_part : List Fault
  size_part = flat_map (λ (c : ClauseTree). size_faults c.body) (clauses q)

  abbrev limit_part : List Fault
  limit_part = cond (is_pred_within (read_pred qs q)) [] (fault_at TooLarge q.name.place)

  pub each_part_none : (overlap_part ≡ []) × (owner_part ≡ []) × (size_part ≡ []) × (limit_part ≡ [])
  each_part_none =
      let a = none_both (overlap_part ++ owner_part ++ size_part) limit_part limits in
      let b = none_both (overlap_part ++ owner_part) size_part a.0 in
      let c = none_both overlap_part owner_part b.0 in
      (c.0, c.1, b.1, a.1)

  pub pred_within : is_pred_within (read_pred qs q) ≡ true
  pred_within = test_true (is_pred_within (read_pred qs q)) _ [] each_part_none.3

  pub clause_within : (c : ClauseTree) → Among c (clauses q) → is_clause_within (read_clause qs q.params c) ≡ true
  clause_within c m =
      each_at is_clause_within (read_clause qs q.params c) (read_pred qs q).clauses
      (and_parts (nat_le (length (read_pred qs q).params) 8 && nat_le (length (read_pred qs q).clauses) 8) (list_all is_clause_within (read_pred qs q).clauses) pred_within).1
      (Among-map (read_clause qs q.params) c (clauses q) m)
