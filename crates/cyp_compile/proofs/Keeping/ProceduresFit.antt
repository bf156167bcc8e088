-- Each procedure of a derivation's program fits.
use Rattle.cyp_compile.proofs.Keeping.BodiesFit.{premises_of, rule_at}
use Rattle.cyp_compile.proofs.Keeping.Callees.{CompanionsTake, PartsTake, Takes, first_part, other_parts, parts_take}
use Rattle.cyp_compile.proofs.Keeping.NamesBound.{IsNamed, named_premises, params_called}
use Rattle.cyp_compile.proofs.Keeping.RuleFits.{Fits}
use Rattle.cyp_goal.specs.Normal.{Renaming}
use Rattle.cyp_heap.specs.declared.goal.Goal.{Goal}
use Rattle.cyp_heap.specs.declared.goal.Link.{Link}
use Rattle.cyp_heap.specs.declared.goal.Node.{Node}
use Rattle.cyp_kernel.specs.Accepted.{AllStepsHold, StepsHold, part_nodes, root_node}
use Rattle.cyp_kernel.specs.Companions.{Proof, Proofs, called_count, is_called}
use Rattle.cyp_kernel.specs.Compile.{auxiliary_name, bound_count, main_name, procedure, procedures, procedures_in, program_of, with_new_name, with_proc}
use Rattle.cyp_kernel.specs.Naming.{Names, param_names}
use Rattle.cyp_prog.specs.Programs.{Procedure}
use Rattle.cyp_prog.specs.Rules.{HasParams}
use Rattle.cyp_sound.proofs.Safety.CompanionGoals.{link_goals}
use Rattle.cyp_sound.proofs.Safety.Procedures.{HasFrom}
use Rattle.cyp_sound.proofs.Safety.RawPremises.{goals_after}
use Rattle.cyp_sound.proofs.Safety.Rounds.{GoalsAre, at_first, behind_first, either_from, first_of_two, length-procedures, second_of_two}
use Rattle.cyp_step.specs.Step.{nodes_of}
use Rattle.cyp_step.specs.declared.rule.Rule.{Rule}
use Rattle.cyp_term.proofs.Lists.{Every-append}
use Rattle.cyp_tree.specs.Derivations.{Derived, More, NoMore}
use Rattle.std.proofs.Common.{◌≡◌, refl, sym, ap, ℕ, suc, ◌+◌, Bool, true, false, length, List, [], ◌∷◌, Option, Some, arith, subst}
use Rattle.std.proofs.lemmas.Bool.{both_ways}
use Rattle.std.proofs.lemmas.Option.{none-some}
use Rattle.std.specs.List.{AllByRecursion}
use Rattle.std.specs.Prelude.{slice_get}

-- the procedure's body fits among its parameters
abbrev pub ProcedureBodyFits : List Procedure → Procedure → Type 0
ProcedureBodyFits ps q = Fits ps q.params q.body

goals_of : (goals : List Goal) (names : Names) (m : ℕ) (rs : List Renaming) (xs : List Node) → nodes_of rs ≡ xs → AllByRecursion (IsNamed goals names m) rs → AllByRecursion (GoalsAre goals) xs
goals_of goals names m rs xs e h = subst (AllByRecursion (GoalsAre goals)) e (each goals names m rs h)
  where
    each : (goals : List Goal) (names : Names) (m : ℕ) (rs : List Renaming) → AllByRecursion (IsNamed goals names m) rs → AllByRecursion (GoalsAre goals) (nodes_of rs)
    each goals names m [] h = tt
    each goals names m (s ∷ rs) h = (h.0.goals_are, each goals names m rs h.1)

-- the companions' goals at each premise
premise_goals : (n : Node) (r : Rule) (ds : Proofs) → StepsHold (Derived n r ds) → AllByRecursion (GoalsAre (goals_after n r)) (part_nodes ds)
premise_goals n r ds steps =
    let w = premises_of n r ds steps in
    goals_of (goals_after n r) (with_new_name n r (suc (length n.goal.program)) (param_names n)) (bound_count r (length n.goal.program)) w.renamed (part_nodes ds) w.nodes
    (named_premises n r (param_names n) (length n.goal.program) (params_called n) w.renamed w.renamed_is)

either_fit : (ps : List Procedure) (t : Bool) (a b : List Procedure) → (t ≡ true → AllByRecursion (ProcedureBodyFits ps) a) → (t ≡ false → AllByRecursion (ProcedureBodyFits ps) b)
    → AllByRecursion (ProcedureBodyFits ps) (elim t [ true ↦ a | false ↦ b ])
either_fit ps true a b p q = p refl
either_fit ps false a b p q = q refl

-- a procedure that is there takes what its goal has
there_takes : (ps : List Procedure) (name : List ℕ) (self : ℕ) (procs : List ℕ) (n : Node) (r : Rule) (ds : Proofs) → slice_get ps self ≡ Some (procedure name self procs (Derived n r ds)) → Takes ps n.goal self
there_takes ps name self procs n r ds at = subst (λ (o : Option Procedure). HasParams (length n.goal.program) o) (sym at) refl

module _ (ps : List Procedure) (main : List ℕ) where
  -- the procedure that begins at a place
  own_fits : (n : Node) (r : Rule) (ds : Proofs) (name : List ℕ) (self : ℕ) (procs : List ℕ) → StepsHold (Derived n r ds) → CompanionsTake ps (link_goals n.links) procs (Derived n r ds)
      → Takes ps n.goal self → HasFrom ps (suc self) (procedures_in main (suc self) (with_proc r self procs) ds) → ProcedureBodyFits ps (procedure name self procs (Derived n r ds))
  own_fits n r ds name self procs steps companions own has =
      rule_at ps main n r ds self (suc self) (param_names n) (length n.goal.program) procs steps (params_called n) companions (λ e. own) has

  mutual
    pub procedures_fit : (d : Proof) (next : ℕ) (procs : List ℕ) → StepsHold d → CompanionsTake ps (link_goals (root_node d).links) procs d → HasFrom ps next (procedures main next procs d)
        → AllByRecursion (ProcedureBodyFits ps) (procedures main next procs d)
    procedures_fit (Derived n r ds) next procs steps companions has =
        let own : Procedure = procedure (auxiliary_name main next) next procs (Derived n r ds) in
        let below : List Procedure = procedures_in main (suc next) (with_proc r next procs) ds in
        let goals = premise_goals n r ds steps in
        let two = either_from ps (is_called n r ds) next (own ∷ below) (procedures_in main next (with_proc r 0 procs) ds) has in
        either_fit ps (is_called n r ds) (own ∷ below) (procedures_in main next (with_proc r 0 procs) ds)
        (λ e.
        let takes : Takes ps n.goal next = there_takes ps (auxiliary_name main next) next procs n r ds (at_first ps next own below (two.0 e)) in
        let later : HasFrom ps (suc next) below = behind_first ps next own below (two.0 e) in (
          own_fits n r ds (auxiliary_name main next) next procs steps companions takes later,
          all_fit ds (goals_after n r) (suc next) (with_proc r next procs) steps.1 goals (parts_take ps n next procs ds r companions (λ x. takes)) later,
        ))
        (λ e.
        all_fit ds (goals_after n r) next (with_proc r 0 procs) steps.1 goals (parts_take ps n 0 procs ds r companions (λ x. absurd (both_ways (is_called n r ds) e x))) (two.1 e))

    pub all_fit : (ds : Proofs) (goals : List Goal) (next : ℕ) (procs : List ℕ) → AllStepsHold ds → AllByRecursion (GoalsAre goals) (part_nodes ds) → PartsTake ps goals procs ds
        → HasFrom ps next (procedures_in main next procs ds) → AllByRecursion (ProcedureBodyFits ps) (procedures_in main next procs ds)
    all_fit NoMore goals next procs steps are parts has = tt
    all_fit (More d ds) goals next procs steps are parts has =
        let first : List Procedure = procedures main next procs d in
        let others : List Procedure = procedures_in main (next + called_count d) procs ds in
        let companions : CompanionsTake ps (link_goals (root_node d).links) procs d = subst (λ (gs : List Goal). CompanionsTake ps gs procs d) (sym are.0) (first_part ps goals procs d ds parts) in
        Every-append (ProcedureBodyFits ps) first others (procedures_fit d next procs steps.0 companions (first_of_two ps next first others has))
        (all_fit ds goals (next + called_count d) procs steps.1 are.1 (other_parts ps goals procs d ds parts)
        (second_of_two ps next (called_count d) first others (length-procedures d main next procs) has))

-- ---- the whole program

module _ (name : List ℕ) (n : Node) (r : Rule) (ds : Proofs) (steps : StepsHold (Derived n r ds)) (alone : n.links ≡ []) where
  abbrev whole : List Procedure
  whole = program_of name (Derived n r ds)

  no_companions : CompanionsTake whole (link_goals n.links) [] (Derived n r ds)
  no_companions = record {
    as_many = ap (λ (ls : List Link). length (link_goals ls)) (sym alone);
    takes = λ i g e c. absurd (none-some g (subst (λ (ls : List Link). slice_get (link_goals ls) i ≡ Some g) alone e));
  }

  has_all : HasFrom whole 1 (procedures_in (main_name name) 1 (with_proc r 0 []) ds)
  has_all i q e = subst (λ (j : ℕ). slice_get whole j ≡ Some q) (next i) e
    where
      next : (i : ℕ) → suc i ≡ 1 + i
      next i = omega arith

  main_takes : Takes whole n.goal 0
  main_takes = there_takes whole (main_name name) 0 [] n r ds refl

  pub whole_fits : AllByRecursion (ProcedureBodyFits whole) whole
  whole_fits = (
    own_fits whole (main_name name) n r ds (main_name name) 0 [] steps no_companions main_takes has_all,
    all_fit whole (main_name name) ds (goals_after n r) 1 (with_proc r 0 []) steps.1 (premise_goals n r ds steps)
        (parts_take whole n 0 [] ds r no_companions (λ e. main_takes)) has_all,
  )
