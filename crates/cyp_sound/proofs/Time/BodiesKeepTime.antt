-- The body of each place of a derivation keeps to its time in runs of at most k steps, where the procedures do so in runs of fewer.
use Rattle.cyp_goal.specs.Normal.{Renaming}
use Rattle.cyp_heap.specs.Assertions.{SideHolds}
use Rattle.cyp_heap.specs.PredsFormed.{IsFormedPreds}
use Rattle.cyp_heap.specs.Stores.{Store}
use Rattle.cyp_heap.specs.declared.goal.Goal.{Goal}
use Rattle.cyp_heap.specs.declared.goal.Node.{Node}
use Rattle.cyp_heap.specs.declared.pred.Preds.{Preds}
use Rattle.cyp_kernel.specs.Accepted.{AllStepsHold, StepsHold, part_nodes, root_node}
use Rattle.cyp_kernel.specs.Companions.{Proof, Proofs, called_count, is_called}
use Rattle.cyp_kernel.specs.Compile.{bodies, body, bound_count, renamed_names, renamings, with_new_name, with_proc}
use Rattle.cyp_kernel.specs.Meets.{AreNamed, IsNaming, ProcedureMeets}
use Rattle.cyp_kernel.specs.Naming.{Names, expr_of}
use Rattle.cyp_kernel.specs.NormalRules.{AllMeetRenamed}
use Rattle.cyp_kernel.specs.Statements.{rule_body}
use Rattle.cyp_kernel.specs.SteadyLaws.{IsSteadyNode}
use Rattle.cyp_machine.specs.Values.{Values}
use Rattle.cyp_prog.specs.Programs.{Body, End, Invoking, Procedure, Then}
use Rattle.cyp_sound.proofs.Safety.BodiesMeet.{IsNamed, Premises, bodies_right, first_part, first_same, later_same, named_premises, no_more, other_parts, premises_of}
use Rattle.cyp_sound.proofs.Safety.CompanionGoals.{link_goals}
use Rattle.cyp_sound.proofs.Safety.PassedProcedures.{PartsMeet, callee_meets, parts_meet}
use Rattle.cyp_sound.proofs.Safety.Procedures.{at_uncalled, chosen, AllProceduresMeet, CompanionsMeet, ProceduresMeet}
use Rattle.cyp_sound.proofs.Safety.RawPremises.{goals_after}
use Rattle.cyp_sound.proofs.Time.CalledBody.{called_in_time}
use Rattle.cyp_sound.proofs.Time.EveryRule.{every_timed}
use Rattle.cyp_sound.proofs.Time.KeepsTime.{AtPlace, BodyKeepsTime, KeepsTime, ProcedureKeepsTime}
use Rattle.cyp_sound.proofs.Time.KnownCompanions.{premises_know_companions, links_after, own_companion}
use Rattle.cyp_sound.proofs.Time.Measures.{Companion, companions_of}
use Rattle.cyp_sound.proofs.Time.OpenedPlaces.{Opens, at_rule, called_opens, companion_is, opens}
use Rattle.cyp_sound.proofs.Time.PassedProcedures.{PartsKeepTime, callee_keeps_time, first_keeps, others_keep, parts_keep}
use Rattle.cyp_sound.proofs.Time.Plain.{IsPlain}
use Rattle.cyp_sound.proofs.Time.PlainPremises.{premises_plain}
use Rattle.cyp_sound.proofs.Time.Procedures.{AllProceduresKeepTime, CompanionsKeepTime, ProceduresKeepTime}
use Rattle.cyp_sound.proofs.Time.RuleLaws.{AllKeepTime}
use Rattle.cyp_step.specs.Nodes.{IsOver}
use Rattle.cyp_step.specs.Step.{all_normal, nodes_of, raws, renamed_premises}
use Rattle.cyp_step.specs.declared.rule.Rule.{Rule}
use Rattle.cyp_step.specs.declared.rule.Rule.TheVariants.{ByOpen}
use Rattle.cyp_term.specs.Meaning.{Assignment}
use Rattle.cyp_term.specs.Terms.{var_term}
use Rattle.cyp_tree.specs.Derivations.{Derived, More, NoMore}
use Rattle.std.proofs.Common.{◌≡◌, sym, ap, ◌∙◌, ℕ, suc, ◌+◌, true, false, List, [], ◌∷◌, map, Some, subst}
use Rattle.std.proofs.lemmas.Bool.{both_ways}
use Rattle.std.proofs.lemmas.List.Elements.{recursion_from_All}
use Rattle.std.proofs.lemmas.Option.{option_and_then_some}
use Rattle.std.specs.List.{AllByRecursion}

-- what is known at each premise of an accepted place, beside what its body's safety needs
pub record PlainPremises (n : Node) (r : Rule) (ds : Proofs) (w : Premises n r ds) : Type 0 where
  pub raw : List Node
  pub raw_is : raws n r ≡ Some raw
  pub plain : AllByRecursion IsPlain (part_nodes ds)
  pub known : AllByRecursion (λ (s : Renaming). companions_of s.node.links ≡ companions_of (links_after n r)) w.renamed

pub plain_premises : (n : Node) (r : Rule) (ds : Proofs) → IsFormedPreds n.preds → IsSteadyNode n → IsPlain n → StepsHold (Derived n r ds) → (w : Premises n r ds) → PlainPremises n r ds w
plain_premises n r ds formed steady plain steps w =
    option_and_then_some all_normal (raws n r) w.renamed w.renamed_is (λ xs is d. record {
      raw = xs;
      raw_is = is;
      plain = recursion_from_All IsPlain (part_nodes ds) (premises_plain n r (part_nodes ds) formed steady plain steps.0);
      known = recursion_from_All (λ (s : Renaming). companions_of s.node.links ≡ companions_of (links_after n r)) w.renamed (premises_know_companions n r w.renamed w.renamed_is);
    })

module _ (ps : List Procedure) (k : ℕ) (start : List ℕ) where
  -- the body of a called place
  module _ (n : Node) (r : Rule) (ds : Proofs) (names : Names) (next : ℕ) (xs : List Node) where
    called : raws n r ≡ Some xs → IsSteadyNode n → IsPlain n → is_called n r ds ≡ true → ProcedureMeets ps n.preds n.goal next k → ProcedureKeepsTime ps n.preds (own_companion n r) next k
        → BodyKeepsTime ps n names k start (Then (Invoking next (map (λ v. expr_of names (var_term v)) n.goal.program)) End)
    called is steady plain e safe timed = called_opens n r ds e (λ i same. by_open i same)
      where
        by_open : (i : ℕ) → r ≡ ByOpen i → BodyKeepsTime ps n names k start (Then (Invoking next (map (λ v. expr_of names (var_term v)) n.goal.program)) End)
        by_open i same =
            let o : Opens n i = opens n i xs (ap (raws n) (sym same) ∙ is) in
            called_in_time ps n i o.inst names next k start o.at o.room steady plain safe
            (subst (λ (c : Companion). ProcedureKeepsTime ps n.preds c next k) (ap (own_companion n) same ∙ companion_is n i o) timed)

  -- the statements of a place's rule, in the procedure `self`
  module _ (n : Node) (r : Rule) (ds : Proofs) (self next : ℕ) (names : Names) (m : ℕ) (procs : List ℕ) where
    abbrev there : List Body
    there = bodies next (with_new_name n r (suc m) names) (renamings (renamed_premises n r)) (bound_count r m) (with_proc r self procs) ds

    abbrev RuleKeepsTime : Type 0
    RuleKeepsTime =
        (s : Assignment) (h : Store) (ns : List ℕ) (vs : Values) (z : ℕ) → SideHolds n.preds s n.goal.pure_pre n.goal.pre.chunks h ns → AreNamed names vs s n.goal.program
        → AtPlace (links_after n r) s h z start → KeepsTime ps k h vs (rule_body n names procs (suc m) r there) z start

    placed : (w : Premises n r ds) → IsFormedPreds n.preds → IsSteadyNode n → IsPlain n → IsNaming names n.goal.program (suc m)
        → CompanionsMeet ps n.preds k (link_goals n.links) procs (Derived n r ds) → CompanionsKeepTime ps n.preds k (companions_of n.links) procs (Derived n r ds)
        → AllMeetRenamed ps (with_new_name n r (suc m) names) k w.renamed (bodies next (with_new_name n r (suc m) names) w.renamed (bound_count r m) (with_proc r self procs) ds)
        → AllKeepTime ps (with_new_name n r (suc m) names) k start w.renamed (bodies next (with_new_name n r (suc m) names) w.renamed (bound_count r m) (with_proc r self procs) ds)
        → RuleKeepsTime
    placed w formed steady plain naming companions timed safe all s h ns vs z pre named place =
        subst (λ (xs : List Renaming). KeepsTime ps k h vs (rule_body n names procs (suc m) r (bodies next (with_new_name n r (suc m) names) xs (bound_count r m) (with_proc r self procs) ds)) z start)
        (sym (ap renamings w.renamed_is))
        (every_timed r ps n w.renamed (bodies next (with_new_name n r (suc m) names) w.renamed (bound_count r m) (with_proc r self procs) ds) names procs (suc m) k start formed steady plain naming w.renamed_is
        (callee_meets ps n procs k r ds companions) (callee_keeps_time ps n procs k r ds timed) safe all s h ns vs z pre named place)

  mutual
    pub body_timed : (d : Proof) (next : ℕ) (names : Names) (m : ℕ) (procs : List ℕ) → StepsHold d → IsFormedPreds (root_node d).preds → IsSteadyNode (root_node d) → IsPlain (root_node d)
        → IsNaming names (root_node d).goal.program (suc m) → CompanionsMeet ps (root_node d).preds k (link_goals (root_node d).links) procs d → ProceduresMeet ps k next d
        → CompanionsKeepTime ps (root_node d).preds k (companions_of (root_node d).links) procs d → ProceduresKeepTime ps k next d
        → BodyKeepsTime ps (root_node d) names k start (body false 0 next names m procs d)
    body_timed (Derived n r ds) next names m procs steps formed steady plain naming companions procedures timed timed_procs =
        let w = premises_of n r ds formed steady steps in
        let v = plain_premises n r ds formed steady plain steps w in
        chosen (BodyKeepsTime ps n names k start) (is_called n r ds) (Then (Invoking next (map (λ v. expr_of names (var_term v)) n.goal.program)) End) (rule_body n names procs (suc m) r (there n r ds 0 next names m procs))
        (λ e. called n r ds names next v.raw v.raw_is steady plain e (procedures.0 e) (timed_procs.0 e))
        (λ e s h ns vs z pre named place.
        let no : is_called n r ds ≡ true → ProcedureMeets ps n.preds n.goal 0 k = λ x. absurd (both_ways (is_called n r ds) e x) in
        let no_time : is_called n r ds ≡ true → ProcedureKeepsTime ps n.preds (own_companion n r) 0 k = λ x. absurd (both_ways (is_called n r ds) e x) in
        let naming' = named_premises n r names m w.renamed naming w.renamed_is in
        let parts = parts_meet ps n k 0 procs ds r companions no in
        let procedures' = at_uncalled (λ (j : ℕ). AllProceduresMeet ps k j ds) next (is_called n r ds) e procedures.1 in
        placed n r ds 0 next names m procs w formed steady plain naming companions timed
        (bodies_right ps k ds n.preds (goals_after n r) w.renamed next (with_new_name n r (suc m) names) (bound_count r m) (with_proc r 0 procs) w.nodes steps.1 w.steady formed naming' parts procedures')
        (bodies_timed ds n.preds (goals_after n r) (companions_of (links_after n r)) w.renamed next (with_new_name n r (suc m) names) (bound_count r m) (with_proc r 0 procs) w.nodes steps.1 w.steady v.plain formed
        naming' v.known parts procedures' (parts_keep ps n k 0 procs ds v.raw r v.raw_is timed no_time) (at_uncalled (λ (j : ℕ). AllProceduresKeepTime ps k j ds) next (is_called n r ds) e timed_procs.1))
        s h ns vs z pre named (at_rule n r v.raw s h z start v.raw_is plain place))

    pub bodies_timed : (ds : Proofs) (preds : Preds) (goals : List Goal) (cs : List Companion) (rs : List Renaming) (next : ℕ) (names : Names) (m : ℕ) (procs : List ℕ) → nodes_of rs ≡ part_nodes ds
        → AllStepsHold ds → AllByRecursion (IsOver preds IsSteadyNode) (part_nodes ds) → AllByRecursion IsPlain (part_nodes ds) → IsFormedPreds preds → AllByRecursion (IsNamed goals names m) rs
        → AllByRecursion (λ (s : Renaming). companions_of s.node.links ≡ cs) rs → PartsMeet ps preds k goals procs ds → AllProceduresMeet ps k next ds → PartsKeepTime ps preds k cs procs ds
        → AllProceduresKeepTime ps k next ds → AllKeepTime ps names k start rs (bodies next names rs m procs ds)
    bodies_timed NoMore preds goals cs [] next names m procs e steps steady plain formed named known parts procedures timed timed_procs = tt
    bodies_timed NoMore preds goals cs (s ∷ rs) next names m procs e steps steady plain formed named known parts procedures timed timed_procs = absurd (no_more s.node (nodes_of rs) (sym e))
    bodies_timed (More d ds) preds goals cs [] next names m procs e steps steady plain formed named known parts procedures timed timed_procs = absurd (no_more (root_node d) (part_nodes ds) e)
    bodies_timed (More d ds) preds goals cs (s ∷ rs) next names m procs e steps steady plain formed named known parts procedures timed timed_procs =
        let same : s.node ≡ root_node d = first_same s.node (root_node d) (nodes_of rs) (part_nodes ds) e in
        let over : (root_node d).preds ≡ preds = steady.0.same in
        let companions : CompanionsMeet ps (root_node d).preds k (link_goals (root_node d).links) procs d =
        subst (λ (gs : List Goal). CompanionsMeet ps (root_node d).preds k gs procs d) (sym named.0.goals_are ∙ ap (λ (x : Node). link_goals x.links) same)
        (subst (λ (x : Preds). CompanionsMeet ps x k goals procs d) (sym over) (first_part ps preds k goals procs d ds parts)) in
        let keeping : CompanionsKeepTime ps (root_node d).preds k (companions_of (root_node d).links) procs d =
        subst (λ (xs : List Companion). CompanionsKeepTime ps (root_node d).preds k xs procs d) (sym known.0 ∙ ap (λ (x : Node). companions_of x.links) same)
        (subst (λ (x : Preds). CompanionsKeepTime ps x k cs procs d) (sym over) (first_keeps ps preds k cs procs d ds timed)) in
        let naming : IsNaming (renamed_names names s) (root_node d).goal.program (suc m) = subst (λ (x : Node). IsNaming (renamed_names names s) x.goal.program (suc m)) same named.0.naming in (
          subst (λ (x : Node). BodyKeepsTime ps x (renamed_names names s) k start (body false 0 next (renamed_names names s) m procs d)) (sym same)
              (body_timed d next (renamed_names names s) m procs steps.0 (subst IsFormedPreds (sym over) formed) steady.0.fact plain.0 naming companions procedures.0 keeping timed_procs.0),
          bodies_timed ds preds goals cs rs (next + called_count d) names m procs (later_same s.node (root_node d) (nodes_of rs) (part_nodes ds) e) steps.1 steady.1 plain.1 formed named.1 known.1
              (other_parts ps preds k goals procs d ds parts) procedures.1 (others_keep ps preds k cs procs d ds timed) timed_procs.1,
        )

  -- the statements of a place's rule, in the procedure `self`
  pub rule_timed : (n : Node) (r : Rule) (ds : Proofs) (self next : ℕ) (names : Names) (m : ℕ) (procs : List ℕ) → StepsHold (Derived n r ds) → IsFormedPreds n.preds → IsSteadyNode n → IsPlain n
      → IsNaming names n.goal.program (suc m) → CompanionsMeet ps n.preds k (link_goals n.links) procs (Derived n r ds) → (is_called n r ds ≡ true → ProcedureMeets ps n.preds n.goal self k)
      → AllProceduresMeet ps k next ds → CompanionsKeepTime ps n.preds k (companions_of n.links) procs (Derived n r ds)
      → (is_called n r ds ≡ true → ProcedureKeepsTime ps n.preds (own_companion n r) self k) → AllProceduresKeepTime ps k next ds → RuleKeepsTime n r ds self next names m procs
  rule_timed n r ds self next names m procs steps formed steady plain naming companions own procedures timed own_time timed_procs =
      let w = premises_of n r ds formed steady steps in
      let v = plain_premises n r ds formed steady plain steps w in
      let naming' = named_premises n r names m w.renamed naming w.renamed_is in
      let parts = parts_meet ps n k self procs ds r companions own in
      placed n r ds self next names m procs w formed steady plain naming companions timed
      (bodies_right ps k ds n.preds (goals_after n r) w.renamed next (with_new_name n r (suc m) names) (bound_count r m) (with_proc r self procs) w.nodes steps.1 w.steady formed naming' parts procedures)
      (bodies_timed ds n.preds (goals_after n r) (companions_of (links_after n r)) w.renamed next (with_new_name n r (suc m) names) (bound_count r m) (with_proc r self procs) w.nodes steps.1 w.steady v.plain formed
      naming' v.known parts procedures (parts_keep ps n k self procs ds v.raw r v.raw_is timed own_time) timed_procs)
