-- Where the procedures keep to their time in runs of fewer than k steps, they do so in runs of at most k steps. So they do in all runs.
use Rattle.cyp_goal.specs.Normal.{Renaming}
use Rattle.cyp_heap.specs.Assertions.{SideHolds}
use Rattle.cyp_heap.specs.PredsFormed.{IsFormedPreds}
use Rattle.cyp_heap.specs.Stores.{Store}
use Rattle.cyp_heap.specs.declared.goal.Goal.{Goal}
use Rattle.cyp_heap.specs.declared.goal.Link.{Link}
use Rattle.cyp_heap.specs.declared.goal.Node.{Node}
use Rattle.cyp_heap.specs.declared.pred.Preds.{Preds}
use Rattle.cyp_kernel.specs.Accepted.{AllStepsHold, StepsHold, part_nodes, root_node}
use Rattle.cyp_kernel.specs.Bound.{body_length, bound, longest}
use Rattle.cyp_kernel.specs.Companions.{Proof, Proofs, called_count, is_called}
use Rattle.cyp_kernel.specs.Compile.{auxiliary_name, bound_count, procedure, procedures, procedures_in, with_new_name, with_proc}
use Rattle.cyp_kernel.specs.Meets.{ProcedureMeets, body_state}
use Rattle.cyp_kernel.specs.Naming.{param_names}
use Rattle.cyp_kernel.specs.SteadyLaws.{IsSteadyNode}
use Rattle.cyp_machine.specs.Allocations.{RunAllocates}
use Rattle.cyp_machine.specs.States.{State, entry_body, start as begin}
use Rattle.cyp_machine.specs.Values.{params_from}
use Rattle.cyp_prog.specs.Programs.{Body, Procedure}
use Rattle.cyp_sound.proofs.Safety.BodiesMeet.{first_part, named_premises, other_parts, premises_of}
use Rattle.cyp_sound.proofs.Safety.CompanionGoals.{link_goals}
use Rattle.cyp_sound.proofs.Safety.PassedNames.{params_are_named}
use Rattle.cyp_sound.proofs.Safety.PassedProcedures.{PartsMeet, parts_meet}
use Rattle.cyp_sound.proofs.Safety.Procedures.{at_called, at_either, at_uncalled, AllProceduresMeet, CompanionsMeet, HasFrom, ProceduresMeet}
use Rattle.cyp_sound.proofs.Safety.RawPremises.{goals_after}
use Rattle.cyp_sound.proofs.Safety.Rounds.{either_from, GoalsAre, at_first, behind_first, first_of_two, goals_of, length-procedures, param_values, second_of_two}
use Rattle.cyp_sound.proofs.Time.BodiesKeepTime.{plain_premises, rule_timed}
use Rattle.cyp_sound.proofs.Time.Growth.{one_step_more}
use Rattle.cyp_sound.proofs.Time.KeepsTime.{AtPlace, ProcedureKeepsTime}
use Rattle.cyp_sound.proofs.Time.KnownCompanions.{companion_by, links_after, own_companion}
use Rattle.cyp_sound.proofs.Time.Levels.{levels_length}
use Rattle.cyp_sound.proofs.Time.Measures.{Companion, LexAtMost, call_measure, companions_of, measure_at, numbers_of}
use Rattle.cyp_sound.proofs.Time.OpenedMeasures.{clamped_holds, opened_measure, clamped}
use Rattle.cyp_sound.proofs.Time.OpenedPlaces.{Opens, called_opens, companion_is, links_are, opens}
use Rattle.cyp_sound.proofs.Time.PassedProcedures.{PartsKeepTime, first_keeps, others_keep, parts_keep}
use Rattle.cyp_sound.proofs.Time.Plain.{IsPlain}
use Rattle.cyp_sound.proofs.Time.Procedures.{AllProceduresKeepTime, CompanionsKeepTime, ProceduresKeepTime}
use Rattle.cyp_step.specs.Nodes.{IsOver}
use Rattle.cyp_step.specs.Step.{nodes_of, raws}
use Rattle.cyp_step.specs.Unfolding.{open_link}
use Rattle.cyp_step.specs.declared.rule.Rule.{Rule}
use Rattle.cyp_step.specs.declared.rule.Rule.TheVariants.{ByOpen}
use Rattle.cyp_term.specs.Meaning.{Assignment}
use Rattle.cyp_tree.specs.Derivations.{Derived, More, NoMore}
use Rattle.std.proofs.Common.{◌≡◌, sym, ap, ◌∙◌, ℕ, zero, suc, ◌+◌, ◌<◌, ◌≤◌, max, true, length, List, [], ◌∷◌, ◌++◌, map, ℤ, Option, Some, inl, arith, subst}
use Rattle.std.proofs.lemmas.Bool.{both_ways}
use Rattle.std.proofs.lemmas.Option.{none-some, same_Some}
use Rattle.std.specs.List.{AllByRecursion}
use Rattle.std.specs.Prelude.{slice_get}

-- a procedure's body is at most as long as the longest
pub within_longest : (ps : List Procedure) (p : ℕ) (q : Procedure) → slice_get ps p ≡ Some q → body_length q.body ≤ longest ps
within_longest [] p q e = absurd (none-some q e)
within_longest (x ∷ ps) zero q e = subst (λ (y : Procedure). body_length y.body ≤ max (body_length x.body) (longest ps)) (same_Some x q e) (left (body_length x.body) (longest ps))
  where
    left : (a b : ℕ) → a ≤ max a b
    left a b = omega arith
within_longest (x ∷ ps) (suc p) q e = right (body_length q.body) (body_length x.body) (longest ps) (within_longest ps p q e)
  where
    right : (a b c : ℕ) → a ≤ c → a ≤ max b c
    right a b c l = omega arith

pub nodes_know : (cs : List Companion) (rs : List Renaming) (xs : List Node) → nodes_of rs ≡ xs → AllByRecursion (λ (s : Renaming). companions_of s.node.links ≡ cs) rs
    → AllByRecursion (λ (x : Node). companions_of x.links ≡ cs) xs
nodes_know cs rs xs e h = subst (AllByRecursion (λ (x : Node). companions_of x.links ≡ cs)) e (each rs h)
  where
    each : (rs : List Renaming) → AllByRecursion (λ (s : Renaming). companions_of s.node.links ≡ cs) rs → AllByRecursion (λ (x : Node). companions_of x.links ≡ cs) (nodes_of rs)
    each [] h = tt
    each (s ∷ rs) h = (h.0, each rs h.1)

module _ (ps : List Procedure) (k : ℕ) where
  -- the procedure of a place that is called
  module _ (n : Node) (r : Rule) (ds : Proofs) (name : List ℕ) (self : ℕ) (procs : List ℕ) (steps : StepsHold (Derived n r ds)) (formed : IsFormedPreds n.preds) (steady : IsSteadyNode n) (plain : IsPlain n)
      (companions : CompanionsMeet ps n.preds k (link_goals n.links) procs (Derived n r ds)) (own : is_called n r ds ≡ true → ProcedureMeets ps n.preds n.goal self k) (below : AllProceduresMeet ps k (suc self) ds)
      (timed : CompanionsKeepTime ps n.preds k (companions_of n.links) procs (Derived n r ds)) (own_time : is_called n r ds ≡ true → ProcedureKeepsTime ps n.preds (own_companion n r) self k)
      (below_time : AllProceduresKeepTime ps k (suc self) ds) (at : slice_get ps self ≡ Some (procedure name self procs (Derived n r ds))) where
    abbrev body : Body
    body = (procedure name self procs (Derived n r ds)).body

    -- each run of the procedure from values that belong to the place
    pub own_in_time : (began : List ℕ) (s : Assignment) (h : Store) (ns : List ℕ) (z : ℕ) → SideHolds n.preds s n.goal.pure_pre n.goal.pre.chunks h ns → AtPlace (links_after n r) s h z began
        → (m e : ℕ) (t : State) → m ≤ k → RunAllocates ps m e (begin ps self (map s.number n.goal.program) h) t → suc (z + m + e) ≤ bound (suc (longest ps)) began z
    own_in_time began s h ns z pre place m e t l run =
        one_step_more ps began (body_length body) z (z + m + e) (within_longest ps self (procedure name self procs (Derived n r ds)) at)
        (rule_timed ps k began n r ds self (suc self) (param_names n) (length n.goal.program) procs steps formed steady plain (params_are_named n) companions own below timed own_time below_time
        s h ns (params_from 1 (map s.number n.goal.program)) z pre (λ v i. param_values s.number n.goal.program 1 v i) place m e t l
        (subst (λ (o : Option Procedure). RunAllocates ps m e (body_state h (params_from 1 (map s.number n.goal.program)) (entry_body o)) t) at run))

    by_open : (i : ℕ) → r ≡ ByOpen i → (xs : List Node) → raws n r ≡ Some xs → ProcedureKeepsTime ps n.preds (own_companion n r) self (suc k)
    by_open i same xs is =
        let o : Opens n i = opens n i xs (ap (raws n) (sym same) ∙ is) in
        let c : Companion = companion_by n (open_link n i o.inst ∷ []) in
        let known : own_companion n r ≡ c = ap (own_companion n) same ∙ companion_is n i o in
        let links : links_after n r ≡ n.links ++ open_link n i o.inst ∷ [] = ap (links_after n) same ∙ links_are n i o in
        subst (λ (x : Companion). ProcedureKeepsTime ps n.preds x self (suc k)) (sym known)
        (λ u h ns z pre cells within m e t l run.
        let cl = clamped_holds n i o.inst u h ns z steady within pre in
        let s : Assignment = clamped z u in
        let began : List ℕ = call_measure u c in
        let start_is : measure_at s (n.links ++ open_link n i o.inst ∷ []) ≡ began = opened_measure n i o.inst s ∙ sym cl.3 in
        own_in_time began s h ns z cl.1
        (record {
          cells = cells;
          cards = cl.0;
          below = subst (λ (ls : List Link). LexAtMost (measure_at s ls) began) (sym links) (inl start_is);
          long = levels_length c.ends (numbers_of u c.own);
        })
        m e t (less m k l) (subst (λ (zs : List ℤ). RunAllocates ps m e (begin ps self zs h) t) cl.2 run))
      where
        less : (m k : ℕ) → m < suc k → m ≤ k
        less m k l = omega arith

    pub own_round_time : is_called n r ds ≡ true → ProcedureKeepsTime ps n.preds (own_companion n r) self (suc k)
    own_round_time e =
        let w = premises_of n r ds formed steady steps in
        let v = plain_premises n r ds formed steady plain steps w in
        called_opens n r ds e (λ i same. by_open i same v.raw v.raw_is)

  mutual
    round_time : (d : Proof) (main : List ℕ) (next : ℕ) (procs : List ℕ) → HasFrom ps next (procedures main next procs d) → StepsHold d → IsFormedPreds (root_node d).preds → IsSteadyNode (root_node d)
        → IsPlain (root_node d) → CompanionsMeet ps (root_node d).preds k (link_goals (root_node d).links) procs d → ProceduresMeet ps k next d
        → CompanionsKeepTime ps (root_node d).preds k (companions_of (root_node d).links) procs d → ProceduresKeepTime ps k next d → ProceduresKeepTime ps (suc k) next d
    round_time (Derived n r ds) main next procs has steps formed steady plain companions safe timed old =
        let own : Procedure = procedure (auxiliary_name main next) next procs (Derived n r ds) in
        let two = either_from ps (is_called n r ds) next (own ∷ procedures_in main (suc next) (with_proc r next procs) ds) (procedures_in main next (with_proc r 0 procs) ds) has in
        let w = premises_of n r ds formed steady steps in
        let v = plain_premises n r ds formed steady plain steps w in
        let goals = goals_of (goals_after n r) (with_new_name n r (suc (length n.goal.program)) (param_names n)) (bound_count r (length n.goal.program)) w.renamed (part_nodes ds) w.nodes
        (named_premises n r (param_names n) (length n.goal.program) w.renamed (params_are_named n) w.renamed_is) in
        let known = nodes_know (companions_of (links_after n r)) w.renamed (part_nodes ds) w.nodes v.known in (
          (λ e.
              own_round_time n r ds (auxiliary_name main next) next procs steps formed steady plain companions safe.0 (at_called (λ (j : ℕ). AllProceduresMeet ps k j ds) next (is_called n r ds) e safe.1) timed old.0
              (at_called (λ (j : ℕ). AllProceduresKeepTime ps k j ds) next (is_called n r ds) e old.1) (at_first ps next own (procedures_in main (suc next) (with_proc r next procs) ds) (two.0 e)) e),
          at_either (λ (j : ℕ). AllProceduresKeepTime ps (suc k) j ds) next (is_called n r ds)
              (λ e.
              rounds_time ds n.preds (goals_after n r) (companions_of (links_after n r)) main (suc next) (with_proc r next procs)
              (behind_first ps next own (procedures_in main (suc next) (with_proc r next procs) ds) (two.0 e)) steps.1 w.steady v.plain goals known formed
              (parts_meet ps n k next procs ds r companions safe.0) (at_called (λ (j : ℕ). AllProceduresMeet ps k j ds) next (is_called n r ds) e safe.1) (parts_keep ps n k next procs ds v.raw r v.raw_is timed old.0)
              (at_called (λ (j : ℕ). AllProceduresKeepTime ps k j ds) next (is_called n r ds) e old.1))
              (λ e.
              rounds_time ds n.preds (goals_after n r) (companions_of (links_after n r)) main next (with_proc r 0 procs) (two.1 e) steps.1 w.steady v.plain goals known formed
              (parts_meet ps n k 0 procs ds r companions (λ x. absurd (both_ways (is_called n r ds) e x))) (at_uncalled (λ (j : ℕ). AllProceduresMeet ps k j ds) next (is_called n r ds) e safe.1)
              (parts_keep ps n k 0 procs ds v.raw r v.raw_is timed (λ x. absurd (both_ways (is_called n r ds) e x))) (at_uncalled (λ (j : ℕ). AllProceduresKeepTime ps k j ds) next (is_called n r ds) e old.1)),
        )

    pub rounds_time : (ds : Proofs) (preds : Preds) (goals : List Goal) (cs : List Companion) (main : List ℕ) (next : ℕ) (procs : List ℕ) → HasFrom ps next (procedures_in main next procs ds) → AllStepsHold ds
        → AllByRecursion (IsOver preds IsSteadyNode) (part_nodes ds) → AllByRecursion IsPlain (part_nodes ds) → AllByRecursion (GoalsAre goals) (part_nodes ds)
        → AllByRecursion (λ (x : Node). companions_of x.links ≡ cs) (part_nodes ds) → IsFormedPreds preds → PartsMeet ps preds k goals procs ds → AllProceduresMeet ps k next ds
        → PartsKeepTime ps preds k cs procs ds → AllProceduresKeepTime ps k next ds → AllProceduresKeepTime ps (suc k) next ds
    rounds_time NoMore preds goals cs main next procs has steps steady plain are known formed parts safe timed old = tt
    rounds_time (More d ds) preds goals cs main next procs has steps steady plain are known formed parts safe timed old =
        let over : (root_node d).preds ≡ preds = steady.0.same in
        let companions : CompanionsMeet ps (root_node d).preds k (link_goals (root_node d).links) procs d =
        subst (λ (gs : List Goal). CompanionsMeet ps (root_node d).preds k gs procs d) (sym are.0)
        (subst (λ (x : Preds). CompanionsMeet ps x k goals procs d) (sym over) (first_part ps preds k goals procs d ds parts)) in
        let keeping : CompanionsKeepTime ps (root_node d).preds k (companions_of (root_node d).links) procs d =
        subst (λ (xs : List Companion). CompanionsKeepTime ps (root_node d).preds k xs procs d) (sym known.0)
        (subst (λ (x : Preds). CompanionsKeepTime ps x k cs procs d) (sym over) (first_keeps ps preds k cs procs d ds timed)) in (
          round_time d main next procs (first_of_two ps next (procedures main next procs d) (procedures_in main (next + called_count d) procs ds) has) steps.0 (subst IsFormedPreds (sym over) formed)
              steady.0.fact plain.0 companions safe.0 keeping old.0,
          rounds_time ds preds goals cs main (next + called_count d) procs
              (second_of_two ps next (called_count d) (procedures main next procs d) (procedures_in main (next + called_count d) procs ds) (length-procedures d main next procs) has) steps.1 steady.1 plain.1 are.1 known.1
              formed (other_parts ps preds k goals procs d ds parts) safe.1 (others_keep ps preds k cs procs d ds timed) old.1,
        )
