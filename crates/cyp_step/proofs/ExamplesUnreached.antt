-- Nodes that no derivation reaches: there too a rule is allowed only where it is said to be.
use Rattle.std.proofs.Common.{◌≡◌, ℕ, pos, [], ◌∷◌, None, Some, false, true, refl, map}
use Rattle.std.specs.List.{list_any}
use Rattle.cyp_heap.proofs.Short.{K, X, cell, k, no_preds, node, x}
use Rattle.cyp_heap.specs.declared.goal.Goal.{Goal}
use Rattle.cyp_heap.specs.declared.goal.Link.{Link}
use Rattle.cyp_heap.specs.declared.goal.Node.{Node}
use Rattle.cyp_measure.specs.Decrease.{decreases}
use Rattle.cyp_step.specs.Calling.{is_callable}
use Rattle.cyp_step.specs.Changes.{new_int}
use Rattle.cyp_step.specs.Shown.{shown}
use Rattle.cyp_step.specs.Step.{premises}
use Rattle.cyp_step.specs.declared.rule.Rule.TheVariants.{ByCall, ByPick}
use Rattle.cyp_term.specs.Entailment.{arrangement_fits, arrangements, class_literals, entailed, satisfiable}
use Rattle.cyp_term.specs.Integers.{all_cases, both, eliminate, eliminate_all, feasible, ints_fit, joined}
use Rattle.cyp_term.specs.Regions.{all_set_vars, all_terms, regions_fit}
use Rattle.cyp_term.specs.Terms.{apply_term}
use Rattle.cyp_term.specs.declared.lit.Lit.TheVariants.{Le, Lt}
use Rattle.cyp_term.specs.declared.subst.Subst.{Subst}
use Rattle.cyp_term.specs.declared.term.Term.{Term}
use Rattle.cyp_unify.specs.Matches.{match_at}
use Rattle.cyp_unify.specs.declared.found.Match.{Match}

-- ---- an existential that stands nowhere

abbrev idle_exist : Node
idle_exist = node no_preds (x 0 ∷ []) (x 2 ∷ []) [] (cell (X 0) (X 1) ∷ []) [] (cell (X 0) (X 1) ∷ [])

-- the number of a new variable is above its number
above_idle : new_int idle_exist ≡ x 3
above_idle = refl

-- ---- a cardinality as an existential

abbrev open_card : Node
open_card = node no_preds [] (k 0 ∷ []) [] [] (Le (K 0) (K 1) ∷ []) []

card_not_picked : premises open_card (ByPick (k 1)) ≡ None
card_not_picked = refl

-- ---- a measure that passes 2 ^ 32

-- k with an offset
abbrev K+ : ℕ → ℕ → Term
K+ n c = record { base = Some (k n); offset = pos c }

abbrev image : Subst
image = record { ints = record { var = k 0; to = K+ 1 1 } ∷ []; sets = [] }

-- a companion that asks for nothing, whose measure is the greatest offset above `k0`, which is led to `k1 + 1`
abbrev far_link : Link
far_link = record { goal = (node no_preds [] [] [] [] [] []).goal; own = K+ 0 4294967296 ∷ []; map = image; tuple = K 3 ∷ [] }

abbrev far_goal : Goal
far_goal = (node no_preds [] [] (Lt (K+ 1 4294967296) (K 4) ∷ Lt (K 4) (K 3) ∷ []) [] [] []).goal

abbrev far : Node
far = record { preds = no_preds; goal = far_goal; links = far_link ∷ [] }

abbrev found : Match
found = record { by = image; pairs = []; need = []; mends = [] }

matched : match_at far far_link [] ≡ Some found
matched = refl

-- the measure after binding is below the tuple
would_fall : list_any (shown far_goal) (decreases far_link.tuple (map (apply_term image) far_link.own)) ≡ true
unfolding joined eliminate eliminate_all feasible both all_cases ints_fit arrangements class_literals arrangement_fits satisfiable entailed regions_fit all_terms all_set_vars
would_fall = refl

-- but it is no term
not_callable : is_callable far far_link found ≡ false
unfolding joined eliminate eliminate_all feasible both all_cases ints_fit arrangements class_literals arrangement_fits satisfiable entailed regions_fit all_terms all_set_vars
not_callable = refl

not_called : premises far (ByCall (record { link = 0; pairs = [] })) ≡ None
unfolding joined eliminate eliminate_all feasible both all_cases ints_fit arrangements class_literals arrangement_fits satisfiable entailed regions_fit all_terms all_set_vars
not_called = refl
