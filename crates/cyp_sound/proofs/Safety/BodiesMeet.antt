-- The body of each place of a derivation meets its goal in runs of at most k steps, where the procedures meet theirs in runs of fewer.
use Rattle.cyp_goal.specs.Normal.{Renaming}
use Rattle.cyp_heap.specs.PredsFormed.{IsFormedPreds}
use Rattle.cyp_heap.specs.declared.goal.Goal.{Goal}
use Rattle.cyp_heap.specs.declared.goal.Node.{Node}
use Rattle.cyp_heap.specs.declared.pred.Preds.{Preds}
use Rattle.cyp_kernel.proofs.Allowed.{mapped_some}
use Rattle.cyp_kernel.proofs.SteadyRules.{premises_steady}
use Rattle.cyp_kernel.specs.Accepted.{AllStepsHold, StepsHold, part_nodes, root_node}
use Rattle.cyp_kernel.specs.Companions.{Proof, Proofs, called_count, calls, calls_in, is_called}
use Rattle.cyp_kernel.specs.Compile.{bodies, body, bound_count, renamed_names, renamings, with_new_name, with_proc}
use Rattle.cyp_kernel.specs.Meets.{BodyMeets, IsNaming, ProcedureMeets}
use Rattle.cyp_kernel.specs.Naming.{Names, expr_of}
use Rattle.cyp_kernel.specs.NormalRules.{AllMeetRenamed}
use Rattle.cyp_kernel.specs.Statements.{rule_body}
use Rattle.cyp_kernel.specs.SteadyLaws.{IsSteadyNode}
use Rattle.cyp_prog.specs.Programs.{End, Invoking, Procedure, Then}
use Rattle.cyp_sound.proofs.Safety.CalledBody.{called_body}
use Rattle.cyp_sound.proofs.Safety.CompanionGoals.{link_goals}
use Rattle.cyp_sound.proofs.Safety.EveryRule.{each_rule}
use Rattle.cyp_sound.proofs.Safety.PassedNames.{premises_are_passed_on, IsPassedOn}
use Rattle.cyp_sound.proofs.Safety.PassedProcedures.{PartsMeet, callee_meets, parts_meet}
use Rattle.cyp_sound.proofs.Safety.Procedures.{at_uncalled, chosen, AllProceduresMeet, CompanionsMeet, ProceduresMeet}
use Rattle.cyp_sound.proofs.Safety.RawPremises.{goals_after}
use Rattle.cyp_step.specs.Nodes.{IsOver}
use Rattle.cyp_step.specs.Step.{nodes_of, renamed_premises}
use Rattle.cyp_step.specs.declared.rule.Rule.{Rule}
use Rattle.cyp_term.specs.Terms.{var_term}
use Rattle.cyp_tree.specs.Derivations.{Derived, More, NoMore}
use Rattle.std.proofs.Common.{◌≡◌, sym, ap, ◌∙◌, ℕ, suc, ◌+◌, true, false, List, [], ◌∷◌, map, Some, subst}
use Rattle.std.proofs.lemmas.Bool.{both_ways, or_left, or_right}
use Rattle.std.proofs.lemmas.List.Elements.{recursion_from_All}
use Rattle.std.specs.List.{AllByRecursion}

pub first_same : (x y : Node) (xs ys : List Node) → x ∷ xs ≡ y ∷ ys → x ≡ y
first_same x y xs ys e = cc

pub later_same : (x y : Node) (xs ys : List Node) → x ∷ xs ≡ y ∷ ys → xs ≡ ys
later_same x y xs ys e = cc

pub no_more : (x : Node) (xs : List Node) → [] ≡ x ∷ xs → ⊥
no_more x xs e = cc

-- the renamings that the premises of an accepted place have
pub record Premises (n : Node) (r : Rule) (ds : Proofs) : Type 0 where
  pub renamed : List Renaming
  pub renamed_is : renamed_premises n r ≡ Some renamed
  pub nodes : nodes_of renamed ≡ part_nodes ds
  pub steady : AllByRecursion (IsOver n.preds IsSteadyNode) (part_nodes ds)

pub premises_of : (n : Node) (r : Rule) (ds : Proofs) → IsFormedPreds n.preds → IsSteadyNode n → StepsHold (Derived n r ds) → Premises n r ds
premises_of n r ds formed steady steps =
    let a = mapped_some nodes_of (renamed_premises n r) (part_nodes ds) steps.0 in
    record { renamed = a.0; renamed_is = a.1; nodes = a.2; steady = recursion_from_All (IsOver n.preds IsSteadyNode) (part_nodes ds) (premises_steady n r (part_nodes ds) formed steady steps.0) }

-- what is passed on to a list of premises, whose companions have these goals
pub record IsNamed (goals : List Goal) (names : Names) (m : ℕ) (s : Renaming) : Type 0 where
  pub goals_are : link_goals s.node.links ≡ goals
  pub naming : IsNaming (renamed_names names s) s.node.goal.program (suc m)

all_named : (n : Node) (r : Rule) (names : Names) (m : ℕ) (rs : List Renaming) → AllByRecursion (IsPassedOn n r names m) rs
    → AllByRecursion (IsNamed (goals_after n r) (with_new_name n r (suc m) names) (bound_count r m)) rs
all_named n r names m [] h = tt
all_named n r names m (s ∷ rs) h = (record { goals_are = h.0.goals; naming = h.0.naming }, all_named n r names m rs h.1)

pub named_premises : (n : Node) (r : Rule) (names : Names) (m : ℕ) (rs : List Renaming) → IsNaming names n.goal.program (suc m) → renamed_premises n r ≡ Some rs
    → AllByRecursion (IsNamed (goals_after n r) (with_new_name n r (suc m) names) (bound_count r m)) rs
named_premises n r names m rs naming e = all_named n r names m rs (recursion_from_All (IsPassedOn n r names m) rs (premises_are_passed_on n r names m rs naming e))

-- what is needed of companions by the first of several derivations, and by the others
module _ (ps : List Procedure) (preds : Preds) (k : ℕ) (goals : List Goal) (procs : List ℕ) (d : Proof) (ds : Proofs) (w : PartsMeet ps preds k goals procs (More d ds)) where
  pub first_part : CompanionsMeet ps preds k goals procs d
  first_part = record { as_many = w.as_many; meet = λ i g e c. w.meet i g e (or_left (calls i d) (calls_in i ds) c) }

  pub other_parts : PartsMeet ps preds k goals procs ds
  other_parts = record { as_many = w.as_many; meet = λ i g e c. w.meet i g e (or_right (calls i d) (calls_in i ds) c) }

module _ (ps : List Procedure) (k : ℕ) where
  -- the statements of a place's rule, in the procedure `self`, where the bodies of its premises meet their goals
  module _ (n : Node) (r : Rule) (ds : Proofs) (self next : ℕ) (names : Names) (m : ℕ) (procs : List ℕ) where
    abbrev Below : Premises n r ds → Type 0
    Below w =
        AllMeetRenamed ps (with_new_name n r (suc m) names) k w.renamed (bodies next (with_new_name n r (suc m) names) w.renamed (bound_count r m) (with_proc r self procs) ds)

    abbrev Placed : Type 0
    Placed =
        BodyMeets ps n.preds n.goal names k
        (rule_body n names procs (suc m) r (bodies next (with_new_name n r (suc m) names) (renamings (renamed_premises n r)) (bound_count r m) (with_proc r self procs) ds))

    placed : (w : Premises n r ds) → IsFormedPreds n.preds → IsSteadyNode n → IsNaming names n.goal.program (suc m) → CompanionsMeet ps n.preds k (link_goals n.links) procs (Derived n r ds) → Below w → Placed
    placed w formed steady naming companions all =
        subst (λ (xs : List Renaming). BodyMeets ps n.preds n.goal names k (rule_body n names procs (suc m) r (bodies next (with_new_name n r (suc m) names) xs (bound_count r m) (with_proc r self procs) ds)))
        (sym (ap renamings w.renamed_is))
        (each_rule r ps n w.renamed (bodies next (with_new_name n r (suc m) names) w.renamed (bound_count r m) (with_proc r self procs) ds) names procs (suc m) k formed steady naming w.renamed_is
        (callee_meets ps n procs k r ds companions) all)

  mutual
    pub body_right : (d : Proof) (next : ℕ) (names : Names) (m : ℕ) (procs : List ℕ) → StepsHold d → IsFormedPreds (root_node d).preds → IsSteadyNode (root_node d)
        → IsNaming names (root_node d).goal.program (suc m) → CompanionsMeet ps (root_node d).preds k (link_goals (root_node d).links) procs d → ProceduresMeet ps k next d
        → BodyMeets ps (root_node d).preds (root_node d).goal names k (body false 0 next names m procs d)
    body_right (Derived n r ds) next names m procs steps formed steady naming companions procedures =
        chosen (BodyMeets ps n.preds n.goal names k) (is_called n r ds) (Then (Invoking next (map (λ v. expr_of names (var_term v)) n.goal.program)) End)
        (rule_body n names procs (suc m) r (bodies next (with_new_name n r (suc m) names) (renamings (renamed_premises n r)) (bound_count r m) (with_proc r 0 procs) ds))
        (λ e. called_body ps n.preds n.goal names next k (procedures.0 e))
        (λ e.
        let own : is_called n r ds ≡ true → ProcedureMeets ps n.preds n.goal 0 k = λ x. absurd (both_ways (is_called n r ds) e x) in
        let w = premises_of n r ds formed steady steps in
        placed n r ds 0 next names m procs w formed steady naming companions
        (bodies_right ds n.preds (goals_after n r) w.renamed next (with_new_name n r (suc m) names) (bound_count r m) (with_proc r 0 procs) w.nodes steps.1 w.steady formed
        (named_premises n r names m w.renamed naming w.renamed_is) (parts_meet ps n k 0 procs ds r companions own) (at_uncalled (λ (j : ℕ). AllProceduresMeet ps k j ds) next (is_called n r ds) e procedures.1)))

    pub bodies_right : (ds : Proofs) (preds : Preds) (goals : List Goal) (rs : List Renaming) (next : ℕ) (names : Names) (m : ℕ) (procs : List ℕ) → nodes_of rs ≡ part_nodes ds → AllStepsHold ds
        → AllByRecursion (IsOver preds IsSteadyNode) (part_nodes ds) → IsFormedPreds preds → AllByRecursion (IsNamed goals names m) rs → PartsMeet ps preds k goals procs ds → AllProceduresMeet ps k next ds
        → AllMeetRenamed ps names k rs (bodies next names rs m procs ds)
    bodies_right NoMore preds goals [] next names m procs e steps steady formed named parts procedures = tt
    bodies_right NoMore preds goals (s ∷ rs) next names m procs e steps steady formed named parts procedures = absurd (no_more s.node (nodes_of rs) (sym e))
    bodies_right (More d ds) preds goals [] next names m procs e steps steady formed named parts procedures = absurd (no_more (root_node d) (part_nodes ds) e)
    bodies_right (More d ds) preds goals (s ∷ rs) next names m procs e steps steady formed named parts procedures =
        let same : s.node ≡ root_node d = first_same s.node (root_node d) (nodes_of rs) (part_nodes ds) e in
        let over : (root_node d).preds ≡ preds = steady.0.same in
        let companions : CompanionsMeet ps (root_node d).preds k (link_goals (root_node d).links) procs d =
        subst (λ (gs : List Goal). CompanionsMeet ps (root_node d).preds k gs procs d) (sym named.0.goals_are ∙ ap (λ (x : Node). link_goals x.links) same)
        (subst (λ (x : Preds). CompanionsMeet ps x k goals procs d) (sym over) (first_part ps preds k goals procs d ds parts)) in
        let naming : IsNaming (renamed_names names s) (root_node d).goal.program (suc m) = subst (λ (x : Node). IsNaming (renamed_names names s) x.goal.program (suc m)) same named.0.naming in (
          subst (λ (x : Node). BodyMeets ps x.preds x.goal (renamed_names names s) k (body false 0 next (renamed_names names s) m procs d)) (sym same)
              (body_right d next (renamed_names names s) m procs steps.0 (subst IsFormedPreds (sym over) formed) steady.0.fact naming companions procedures.0),
          bodies_right ds preds goals rs (next + called_count d) names m procs (later_same s.node (root_node d) (nodes_of rs) (part_nodes ds) e) steps.1 steady.1 formed named.1
              (other_parts ps preds k goals procs d ds parts) procedures.1,
        )

  -- the statements of a place's rule, in the procedure `self`
  pub rule_right : (n : Node) (r : Rule) (ds : Proofs) (self next : ℕ) (names : Names) (m : ℕ) (procs : List ℕ) → StepsHold (Derived n r ds) → IsFormedPreds n.preds → IsSteadyNode n
      → IsNaming names n.goal.program (suc m) → CompanionsMeet ps n.preds k (link_goals n.links) procs (Derived n r ds) → (is_called n r ds ≡ true → ProcedureMeets ps n.preds n.goal self k)
      → AllProceduresMeet ps k next ds → Placed n r ds self next names m procs
  rule_right n r ds self next names m procs steps formed steady naming companions own procedures =
      let w = premises_of n r ds formed steady steps in
      placed n r ds self next names m procs w formed steady naming companions
      (bodies_right ds n.preds (goals_after n r) w.renamed next (with_new_name n r (suc m) names) (bound_count r m) (with_proc r self procs) w.nodes steps.1 w.steady formed
      (named_premises n r names m w.renamed naming w.renamed_is) (parts_meet ps n k self procs ds r companions own) procedures)
