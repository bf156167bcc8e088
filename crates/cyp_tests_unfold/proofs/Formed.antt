-- The predicate of lists is formed.
use Rattle.std.proofs.Common.{◌≡◌, refl, ap, Bool, true, ◌&&◌, [], ◌∷◌}
use Rattle.cyp_heap.specs.PredsFormed.{IsFormedPreds, clause_guards, none_overlap}
use Rattle.cyp_heap.specs.declared.pred.Pred.{Pred}
use Rattle.cyp_term.specs.Entailment.{arrangement_fits, arrangements, class_literals, satisfiable}
use Rattle.cyp_term.specs.Integers.{all_cases, both, eliminate, eliminate_all, feasible, ints_fit, joined}
use Rattle.cyp_term.specs.Regions.{all_set_vars, all_terms, regions_fit}
use Rattle.cyp_term.specs.declared.term.Sort.TheVariants.{Int, Set}
use Rattle.cyp_tests_unfold.specs.Lists.{empty_clause, lists, node_clause}

abbrev pub list_pred : Pred
list_pred = record { name = []; params = Int ∷ Set ∷ []; clauses = empty_clause ∷ node_clause ∷ [] }

apart : none_overlap (clause_guards list_pred) ≡ true
unfolding joined eliminate eliminate_all feasible both all_cases ints_fit arrangements class_literals arrangement_fits satisfiable regions_fit all_terms all_set_vars
apart = refl

pub lists_formed : IsFormedPreds lists
lists_formed = record {
  few = refl;
  has_clauses = refl;
  few_clauses = refl;
  few_params = refl;
  params_sorted = refl;
  guards_plain = refl;
  guards_apart = ap (λ (b : Bool). b && true) apart;
  params_counted = refl;
  closed = refl;
  instances_plain = refl;
  productive = refl;
  clauses_within = refl;
}
