-- Derivations for tests, computed.
use Rattle.std.proofs.Common.{◌≡◌, ◌∙◌, List, [], ◌∷◌, refl, sym, subst, lit<}
use Rattle.std.specs.List.{Contains}
use Rattle.cyp_heap.specs.Keeps.{KeepsNode}
use Rattle.cyp_heap.specs.declared.goal.Node.{Node}
use Rattle.cyp_kernel.specs.Companions.{Proof}
use Rattle.cyp_moves.specs.Moves.{moves}
use Rattle.cyp_space.specs.Alts.{AltOf}
use Rattle.cyp_space.specs.declared.solved.Solved.{Solved}
use Rattle.cyp_step.specs.declared.rule.Rule.{Rule}
use Rattle.cyp_step.specs.declared.rule.Rule.TheVariants.{ByEmp, ByFrame, ByInconsistent, ByWrite}
use Rattle.cyp_term.specs.Entailment.{arrangement_fits, arrangements, class_literals, entailed, satisfiable}
use Rattle.cyp_term.specs.Integers.{all_cases, both, eliminate, eliminate_all, feasible, ints_fit, joined}
use Rattle.cyp_term.specs.Regions.{all_set_vars, all_terms, regions_fit}
use Rattle.cyp_tree.specs.Derivations.{Derived, More, NoMore, plain_derivation, plain_derivations}
use Rattle.cyp_tests_print.specs.PrintedExamples.{before, done, error_proof, impossible, store_proof, stored}
use Rattle.cyp_print.specs.Found.{IsFound}

-- ---- the nodes

pub done_keeps : KeepsNode done
done_keeps = record { within = refl; fits = refl; linked = record { few = refl; goals_within = refl; goals_fit = refl; grows = refl; short = refl; own_as_long = refl }; low = refl }

pub stored_keeps : KeepsNode stored
stored_keeps = record { within = refl; fits = refl; linked = record { few = refl; goals_within = refl; goals_fit = refl; grows = refl; short = refl; own_as_long = refl }; low = refl }

pub before_keeps : KeepsNode before
before_keeps = record { within = refl; fits = refl; linked = record { few = refl; goals_within = refl; goals_fit = refl; grows = refl; short = refl; own_as_long = refl }; low = refl }

pub impossible_keeps : KeepsNode impossible
impossible_keeps = record { within = refl; fits = refl; linked = record { few = refl; goals_within = refl; goals_fit = refl; grows = refl; short = refl; own_as_long = refl }; low = refl }

-- ---- the moves

abbrev end_move : AltOf Rule Node
end_move = record { rule = ByEmp; cost = 0; premises = [] }

abbrev frame_move : AltOf Rule Node
frame_move = record { rule = ByFrame 0; cost = 1; premises = done ∷ [] }

abbrev store_move : AltOf Rule Node
store_move = record { rule = ByWrite 0; cost = 1; premises = stored ∷ [] }

abbrev error_move : AltOf Rule Node
error_move = record { rule = ByInconsistent; cost = 0; premises = [] }

end_moves : moves 2 done ≡ end_move ∷ []
unfolding joined eliminate eliminate_all feasible both all_cases ints_fit arrangements class_literals arrangement_fits satisfiable entailed regions_fit all_terms all_set_vars
end_moves = refl

frame_moves : moves 2 stored ≡ frame_move ∷ []
unfolding joined eliminate eliminate_all feasible both all_cases ints_fit arrangements class_literals arrangement_fits satisfiable entailed regions_fit all_terms all_set_vars
frame_moves = refl

store_moves : moves 2 before ≡ store_move ∷ []
unfolding joined eliminate eliminate_all feasible both all_cases ints_fit arrangements class_literals arrangement_fits satisfiable entailed regions_fit all_terms all_set_vars
store_moves = refl

error_moves : moves 2 impossible ≡ error_move ∷ []
unfolding joined eliminate eliminate_all feasible both all_cases ints_fit arrangements class_literals arrangement_fits satisfiable entailed regions_fit all_terms all_set_vars
error_moves = refl

only_one : (ms : List (AltOf Rule Node)) (a : AltOf Rule Node) → ms ≡ a ∷ [] → Contains ms a
only_one ms a e = subst (λ (xs : List (AltOf Rule Node)). Contains xs a) (sym e) (0, lit< tt, refl)

-- ---- the derivations

pub store_found : IsFound store_proof
store_found = (
  2,
  (
    (1, only_one (moves 2 before) store_move store_moves),
    (
      (
        (1, only_one (moves 2 stored) frame_move frame_moves),
        (((0, only_one (moves 2 done) end_move end_moves), tt), tt),
      ),
      tt,
    ),
  ),
)

pub error_found : IsFound error_proof
error_found = (2, ((0, only_one (moves 2 impossible) error_move error_moves), tt))

-- ---- the same, built part by part

pub with_part : (s part : Solved Rule Node) (n m : Node) (r : Rule) (parts : List (Solved Rule Node)) (d : Proof) → plain_derivation s ≡ Derived n r (plain_derivations parts) → n ≡ m
    → parts ≡ part ∷ [] → plain_derivation part ≡ d → plain_derivation s ≡ Derived m r (More d NoMore)
with_part s part n m r parts d e ne pe de = e ∙ (λ k. Derived (ne k) r (plain_derivations (pe k))) ∙ (λ k. Derived m r (More (de k) NoMore))

pub without_part : (s : Solved Rule Node) (n m : Node) (r : Rule) (parts : List (Solved Rule Node)) → plain_derivation s ≡ Derived n r (plain_derivations parts) → n ≡ m → parts ≡ []
    → plain_derivation s ≡ Derived m r NoMore
without_part s n m r parts e ne pe = e ∙ (λ k. Derived (ne k) r (plain_derivations (pe k)))
