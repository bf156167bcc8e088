-- The body of each place of a derivation fits.
use Rattle.cyp_compile.proofs.Keeping.Callees.{CompanionsTake, PartsTake, Takes, callee_takes, first_part, other_parts, parts_take}
use Rattle.cyp_compile.proofs.Keeping.NamesBound.{IsCalled, IsNamed, named_premises}
use Rattle.cyp_compile.proofs.Keeping.RuleFits.{Fits, exprs_fit, rule_fits}
use Rattle.cyp_goal.specs.Normal.{Renaming}
use Rattle.cyp_heap.specs.declared.goal.Goal.{Goal}
use Rattle.cyp_heap.specs.declared.goal.Node.{Node}
use Rattle.cyp_kernel.proofs.Allowed.{mapped_some}
use Rattle.cyp_kernel.proofs.ForgetVars.{in_from_among}
use Rattle.cyp_kernel.specs.Accepted.{AllStepsHold, StepsHold, part_nodes, root_node}
use Rattle.cyp_kernel.specs.Companions.{Proof, Proofs, called_count, is_called}
use Rattle.cyp_kernel.specs.Compile.{auxiliary_name, bodies, body, bound_count, procedure, procedures, procedures_in, renamed_names, renamings, with_new_name, with_proc}
use Rattle.cyp_kernel.specs.Naming.{Names, expr_of}
use Rattle.cyp_kernel.specs.Statements.{rule_body}
use Rattle.cyp_prog.specs.Programs.{End, Invoking, Procedure, Then}
use Rattle.cyp_prog.specs.Rules.{HasParams}
use Rattle.cyp_sound.proofs.Safety.BodiesMeet.{first_same, later_same, no_more}
use Rattle.cyp_sound.proofs.Safety.CompanionGoals.{link_goals}
use Rattle.cyp_sound.proofs.Safety.Procedures.{HasFrom, chosen}
use Rattle.cyp_sound.proofs.Safety.RawPremises.{goals_after}
use Rattle.cyp_sound.proofs.Safety.Rounds.{at_first, either_from, first_of_two, length-procedures, second_of_two}
use Rattle.cyp_step.specs.Shown.{is_program_expr}
use Rattle.cyp_step.specs.Step.{all_normal, nodes_of, raws, renamed_premises}
use Rattle.cyp_step.specs.declared.rule.Rule.{Rule}
use Rattle.cyp_term.proofs.Lists.{each_from}
use Rattle.cyp_term.specs.Terms.{var_term}
use Rattle.cyp_term.specs.declared.term.Var.{Var}
use Rattle.cyp_tree.specs.Derivations.{Derived, More, NoMore}
use Rattle.std.proofs.Common.{◌≡◌, refl, sym, ap, ◌∙◌, ℕ, suc, ◌+◌, true, false, length, List, [], ◌∷◌, map, Option, Some, subst}
use Rattle.std.proofs.lemmas.Bool.{both_ways}
use Rattle.std.proofs.lemmas.List.{length-map}
use Rattle.std.proofs.lemmas.Option.{option_and_then_some}
use Rattle.std.specs.List.{AllByRecursion}
use Rattle.std.specs.Prelude.{slice_get}

-- the renamings that the premises of an accepted place have, and what they were before the normal form
pub record Premises (n : Node) (r : Rule) (ds : Proofs) : Type 0 where
  pub left : List Node
  pub left_is : raws n r ≡ Some left
  pub renamed : List Renaming
  pub renamed_is : renamed_premises n r ≡ Some renamed
  pub nodes : nodes_of renamed ≡ part_nodes ds

left_by : (n : Node) (r : Rule) (rs : List Renaming) → renamed_premises n r ≡ Some rs → (ms : List Node) × (raws n r ≡ Some ms)
left_by n r rs e = option_and_then_some all_normal (raws n r) rs e (λ ms is d. (ms, is))

pub premises_of : (n : Node) (r : Rule) (ds : Proofs) → StepsHold (Derived n r ds) → Premises n r ds
premises_of n r ds steps =
    let a = mapped_some nodes_of (renamed_premises n r) (part_nodes ds) steps.0 in
    let b = left_by n r a.0 a.1 in
    record { left = b.0; left_is = b.1; renamed = a.0; renamed_is = a.1; nodes = a.2 }

-- a call on the program variables themselves
called_fits : (ps : List Procedure) (n : Node) (names : Names) (m p : ℕ) (q : Procedure) → IsCalled names n.goal.program m → slice_get ps p ≡ Some q → q.params ≡ length n.goal.program
    → Fits ps m (Then (Invoking p (map (λ v. expr_of names (var_term v)) n.goal.program)) End)
called_fits ps n names m p q naming at same z =
    let as_many : q.params ≡ length (map (λ (v : Var). expr_of names (var_term v)) n.goal.program) = same ∙ sym (length-map n.goal.program (λ (v : Var). expr_of names (var_term v))) in (
      (
        subst (λ (o : Option Procedure). HasParams (length (map (λ (v : Var). expr_of names (var_term v)) n.goal.program)) o) (sym at) as_many,
        exprs_fit ps n names m naming var_term n.goal.program
            (each_from (λ (v : Var). is_program_expr n.goal (var_term v)) n.goal.program (λ v k. in_from_among v n.goal.program k)),
      ),
      tt,
    )

module _ (ps : List Procedure) (main : List ℕ) where
  module _ (n : Node) (r : Rule) (ds : Proofs) (self next : ℕ) (names : Names) (m : ℕ) (procs : List ℕ) where
    abbrev Below : Premises n r ds → Type 0
    Below w = AllByRecursion (Fits ps (bound_count r m)) (bodies next (with_new_name n r (suc m) names) w.renamed (bound_count r m) (with_proc r self procs) ds)

    abbrev Placed : Type 0
    Placed =
        Fits ps m
        (rule_body n names procs (suc m) r (bodies next (with_new_name n r (suc m) names) (renamings (renamed_premises n r)) (bound_count r m) (with_proc r self procs) ds))

    placed : (w : Premises n r ds) → IsCalled names n.goal.program m → CompanionsTake ps (link_goals n.links) procs (Derived n r ds) → Below w → Placed
    placed w naming companions all =
        subst (λ (xs : List Renaming). Fits ps m (rule_body n names procs (suc m) r (bodies next (with_new_name n r (suc m) names) xs (bound_count r m) (with_proc r self procs) ds)))
        (sym (ap renamings w.renamed_is))
        (rule_fits ps n names m naming r procs (bodies next (with_new_name n r (suc m) names) w.renamed (bound_count r m) (with_proc r self procs) ds) w.left w.left_is
        (callee_takes ps n procs r ds companions) all)

  mutual
    pub body_fits : (d : Proof) (next : ℕ) (names : Names) (m : ℕ) (procs : List ℕ) → StepsHold d → IsCalled names (root_node d).goal.program m
        → CompanionsTake ps (link_goals (root_node d).links) procs d → HasFrom ps next (procedures main next procs d) → Fits ps m (body false 0 next names m procs d)
    body_fits (Derived n r ds) next names m procs steps naming companions has =
        let own : Procedure = procedure (auxiliary_name main next) next procs (Derived n r ds) in
        let two = either_from ps (is_called n r ds) next (own ∷ procedures_in main (suc next) (with_proc r next procs) ds) (procedures_in main next (with_proc r 0 procs) ds) has in
        chosen (Fits ps m) (is_called n r ds) (Then (Invoking next (map (λ v. expr_of names (var_term v)) n.goal.program)) End)
        (rule_body n names procs (suc m) r (bodies next (with_new_name n r (suc m) names) (renamings (renamed_premises n r)) (bound_count r m) (with_proc r 0 procs) ds))
        (λ e. called_fits ps n names m next own naming (at_first ps next own (procedures_in main (suc next) (with_proc r next procs) ds) (two.0 e)) refl)
        (λ e.
        let none : is_called n r ds ≡ true → Takes ps n.goal 0 = λ x. absurd (both_ways (is_called n r ds) e x) in
        let w = premises_of n r ds steps in
        placed n r ds 0 next names m procs w naming companions
        (bodies_fit ds (goals_after n r) w.renamed next (with_new_name n r (suc m) names) (bound_count r m) (with_proc r 0 procs) w.nodes steps.1
        (named_premises n r names m naming w.renamed w.renamed_is) (parts_take ps n 0 procs ds r companions none) (two.1 e)))

    pub bodies_fit : (ds : Proofs) (goals : List Goal) (rs : List Renaming) (next : ℕ) (names : Names) (m : ℕ) (procs : List ℕ) → nodes_of rs ≡ part_nodes ds → AllStepsHold ds
        → AllByRecursion (IsNamed goals names m) rs → PartsTake ps goals procs ds → HasFrom ps next (procedures_in main next procs ds) → AllByRecursion (Fits ps m) (bodies next names rs m procs ds)
    bodies_fit NoMore goals rs next names m procs e steps named parts has = tt
    bodies_fit (More d ds) goals [] next names m procs e steps named parts has = absurd (no_more (root_node d) (part_nodes ds) e)
    bodies_fit (More d ds) goals (s ∷ rs) next names m procs e steps named parts has =
        let same : s.node ≡ root_node d = first_same s.node (root_node d) (nodes_of rs) (part_nodes ds) e in
        let companions : CompanionsTake ps (link_goals (root_node d).links) procs d =
        subst (λ (gs : List Goal). CompanionsTake ps gs procs d) (sym named.0.goals_are ∙ ap (λ (x : Node). link_goals x.links) same) (first_part ps goals procs d ds parts) in
        let naming : IsCalled (renamed_names names s) (root_node d).goal.program m = subst (λ (x : Node). IsCalled (renamed_names names s) x.goal.program m) same named.0.naming in (
          body_fits d next (renamed_names names s) m procs steps.0 naming companions
              (first_of_two ps next (procedures main next procs d) (procedures_in main (next + called_count d) procs ds) has),
          bodies_fit ds goals rs (next + called_count d) names m procs (later_same s.node (root_node d) (nodes_of rs) (part_nodes ds) e) steps.1 named.1
              (other_parts ps goals procs d ds parts)
              (second_of_two ps next (called_count d) (procedures main next procs d) (procedures_in main (next + called_count d) procs ds) (length-procedures d main next procs) has),
        )

  -- the statements of a place's rule, in the procedure `self`
  pub rule_at : (n : Node) (r : Rule) (ds : Proofs) (self next : ℕ) (names : Names) (m : ℕ) (procs : List ℕ) → StepsHold (Derived n r ds) → IsCalled names n.goal.program m
      → CompanionsTake ps (link_goals n.links) procs (Derived n r ds) → (is_called n r ds ≡ true → Takes ps n.goal self)
      → HasFrom ps next (procedures_in main next (with_proc r self procs) ds) → Placed n r ds self next names m procs
  rule_at n r ds self next names m procs steps naming companions own has =
      let w = premises_of n r ds steps in
      placed n r ds self next names m procs w naming companions
      (bodies_fit ds (goals_after n r) w.renamed next (with_new_name n r (suc m) names) (bound_count r m) (with_proc r self procs) w.nodes steps.1
      (named_premises n r names m naming w.renamed w.renamed_is) (parts_take ps n self procs ds r companions own) has)
