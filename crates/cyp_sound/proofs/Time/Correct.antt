-- The program of an accepted derivation keeps to its bound, and is correct.
use Rattle.cyp_goal.proofs.Live.{among_in}
use Rattle.cyp_goal.specs.Normal.{Renaming, normal}
use Rattle.cyp_goal.specs.Raw.{is_sorted}
use Rattle.cyp_heap.proofs.Heights.{side_heights_law}
use Rattle.cyp_heap.specs.Assertions.{SideHolds}
use Rattle.cyp_heap.specs.Chunks.{in_order, without}
use Rattle.cyp_heap.specs.Formed.{IsFormed}
use Rattle.cyp_heap.specs.Goals.{goal_vars}
use Rattle.cyp_heap.specs.Instances.{InstanceHolds}
use Rattle.cyp_heap.specs.PredsFormed.{IsFormedPreds}
use Rattle.cyp_heap.specs.Stores.{Store, cell_count}
use Rattle.cyp_heap.specs.declared.goal.Goal.{Goal}
use Rattle.cyp_heap.specs.declared.goal.Link.{Link}
use Rattle.cyp_heap.specs.declared.goal.Node.{Node}
use Rattle.cyp_heap.specs.declared.pred.Preds.{Preds}
use Rattle.cyp_kernel.proofs.NormalMeaning.{formed_is_ready, normal_keeps}
use Rattle.cyp_kernel.proofs.SteadyRules.{root_is_steady}
use Rattle.cyp_kernel.specs.Accepted.{IsAccepted, StepsHold, lead_of, opened, part_nodes, root_node}
use Rattle.cyp_kernel.specs.Bound.{led_by, measure, step_bound}
use Rattle.cyp_kernel.specs.Companions.{Proof, Proofs, called_count, is_called}
use Rattle.cyp_kernel.specs.Compile.{bound_count, main_name, program_of, with_new_name, with_proc}
use Rattle.cyp_kernel.specs.Correct.{kept_params, old_names, unlinked}
use Rattle.cyp_kernel.specs.Naming.{param_names}
use Rattle.cyp_kernel.specs.SteadyLaws.{IsSteadyNode}
use Rattle.cyp_machine.specs.Allocations.{allocated}
use Rattle.cyp_machine.specs.Runs.{Run}
use Rattle.cyp_machine.specs.States.{State, start as begin}
use Rattle.cyp_measure.specs.Levels.{levels}
use Rattle.cyp_prog.specs.Programs.{Procedure}
use Rattle.cyp_sound.proofs.Safety.BodiesMeet.{named_premises, premises_of}
use Rattle.cyp_sound.proofs.Safety.PassedNames.{params_are_named}
use Rattle.cyp_sound.proofs.Safety.PassedProcedures.{parts_meet}
use Rattle.cyp_sound.proofs.Safety.RawPremises.{goals_after}
use Rattle.cyp_sound.proofs.Safety.Rounds.{accepted_is_safe, all_rounds, goals_of, has_all, no_companions}
use Rattle.cyp_sound.proofs.Time.BodiesKeepTime.{plain_premises}
use Rattle.cyp_sound.proofs.Time.KeepsTime.{ProcedureKeepsTime}
use Rattle.cyp_sound.proofs.Time.KnownCompanions.{links_after, own_companion}
use Rattle.cyp_sound.proofs.Time.Leads.{cards_within, lead_numbers, normal_ordered, numbered}
use Rattle.cyp_sound.proofs.Time.Levels.{levels_length}
use Rattle.cyp_sound.proofs.Time.Measures.{IsWithin, companions_of, ends_of, levels_of, measure_at, numbers_of}
use Rattle.cyp_sound.proofs.Time.OpenedMeasures.{clamped_side, opened_measure, clamped}
use Rattle.cyp_sound.proofs.Time.OpenedPlaces.{Opens, links_are, opens}
use Rattle.cyp_sound.proofs.Time.PassedProcedures.{parts_keep}
use Rattle.cyp_sound.proofs.Time.Plain.{CardsAlone, IsPlain, is_card}
use Rattle.cyp_sound.proofs.Time.PlainRoots.{root_plain}
use Rattle.cyp_sound.proofs.Time.Procedures.{AllProceduresKeepTime, CompanionsKeepTime, ProceduresKeepTime}
use Rattle.cyp_sound.proofs.Time.Rounds.{nodes_know, own_in_time, own_round_time, rounds_time}
use Rattle.cyp_sound.specs.Laws.{AcceptedIsCorrect, IsFit}
use Rattle.cyp_step.specs.Changes.{pre_of}
use Rattle.cyp_step.specs.Nodes.{IsOver}
use Rattle.cyp_step.specs.Step.{raws}
use Rattle.cyp_step.specs.Unfolding.{card_terms, cards_of, last_tuple}
use Rattle.cyp_step.specs.declared.rule.Rule.{Rule}
use Rattle.cyp_step.specs.declared.rule.Rule.TheVariants.{ByAlloc, ByCall, ByClose, ByEmp, ByFrame, ByFree, ByInconsistent, ByOpen, ByPick, ByRead, ByWrite}
use Rattle.cyp_term.proofs.Lists.{Among}
use Rattle.cyp_term.specs.Meaning.{Assignment}
use Rattle.cyp_term.specs.declared.term.Term.{Term}
use Rattle.cyp_term.specs.declared.term.Var.{Var}
use Rattle.cyp_tree.specs.Derivations.{Derived, More, NoMore}
use Rattle.std.proofs.Common.{◌≡◌, refl, sym, ap, ◌∙◌, ℕ, zero, suc, ◌+◌, ◌-◌, ◌<◌, ◌≤◌, true, cond, length, List, [], ◌∷◌, ◌++◌, map, take, ℤ, Option, Some, None, inl, arith, subst}
use Rattle.std.proofs.lemmas.Bool.{and_parts}
use Rattle.std.proofs.lemmas.List.{length-map}
use Rattle.std.proofs.lemmas.Option.{none-some}
use Rattle.std.specs.Prelude.{slice_get, IsTrue}

-- ---- no runs

none : (m : ℕ) → m < 0 → ⊥
none m l = omega arith

mutual
  none_yet : (ps : List Procedure) (d : Proof) (next : ℕ) → ProceduresKeepTime ps 0 next d
  none_yet ps (Derived n r ds) next = ((λ e u h ns z pre cells within m x t l run. absurd (none m l)), none_yet_below ps ds (cond (is_called n r ds) (suc next) next))

  none_yet_below : (ps : List Procedure) (ds : Proofs) (next : ℕ) → AllProceduresKeepTime ps 0 next ds
  none_yet_below ps NoMore next = tt
  none_yet_below ps (More d ds) next = (none_yet ps d next, none_yet_below ps ds (next + called_count d))

-- ---- the measure of the root

take_all : (xs : List ℕ) (k : ℕ) → length xs ≡ k → take k xs ≡ xs
take_all [] zero e = refl
take_all [] (suc k) e = refl
take_all (x ∷ xs) zero e = cc
take_all (x ∷ xs) (suc k) e = ap (λ ys. x ∷ ys) (take_all xs k (less (length xs) k e))
  where
    less : (a b : ℕ) → suc a ≡ suc b → a ≡ b
    less a b e = omega arith

take_whole : (xs : List ℕ) (k : ℕ) → length xs ≡ k → take (k - 0) xs ≡ xs
take_whole xs k e = ap (λ (a : ℕ). take a xs) (same k) ∙ take_all xs k e
  where
    same : (k : ℕ) → k - 0 ≡ k
    same k = omega arith

root_measure : (n : Node) (r : Rule) (ms : List Node) (s : Assignment) (h : Store) (ns : List ℕ) → n.links ≡ [] → IsSteadyNode n → in_order (pre_of n) ≡ true → raws n r ≡ Some ms
    → SideHolds n.preds s n.goal.pure_pre n.goal.pre.chunks h ns → measure_at s (links_after n r) ≡ measure (opened r) ns
root_measure n (ByOpen i) ms s h ns alone steady order is pre =
    let o : Opens n i = opens n i ms is in
    let a : List Term = card_terms o.inst.card in
    let b : List Term = cards_of (without (pre_of n) i) in
    let own : List ℕ = numbers_of s (a ++ b) in
    let cards = and_parts _ _ (and_parts _ _ steady.node.raw.fits).0 in
    let led : own ≡ led_by i ns = lead_numbers s (pre_of n) ns i o.inst order cards.1 (numbered (InstanceHolds n.preds) s (pre_of n) h ns pre.1 pre.2) o.at in
    ap (measure_at s) (links_are n i o)
    ∙ opened_measure n i o.inst s
    ∙ ap (λ (ls : List Link). levels_of (ends_of ls ++ length (last_tuple ls ++ a ++ b) ∷ []) (numbers_of s (last_tuple ls ++ a ++ b))) alone
    ∙ ap (λ (xs : List ℕ). levels (xs ∷ [])) (take_whole own (length (a ++ b)) (length-map (a ++ b) _) ∙ led)
root_measure n ByInconsistent ms s h ns alone steady order is pre = ap (measure_at s) alone
root_measure n ByEmp ms s h ns alone steady order is pre = ap (measure_at s) alone
root_measure n (ByRead i) ms s h ns alone steady order is pre = ap (measure_at s) alone
root_measure n (ByFrame i) ms s h ns alone steady order is pre = ap (measure_at s) alone
root_measure n (ByWrite i) ms s h ns alone steady order is pre = ap (measure_at s) alone
root_measure n (ByFree i) ms s h ns alone steady order is pre = ap (measure_at s) alone
root_measure n ByAlloc ms s h ns alone steady order is pre = ap (measure_at s) alone
root_measure n (ByCall c) ms s h ns alone steady order is pre = ap (measure_at s) alone
root_measure n (ByClose c) ms s h ns alone steady order is pre = ap (measure_at s) alone
root_measure n (ByPick u) ms s h ns alone steady order is pre = ap (measure_at s) alone

measure_long : (o : Option ℕ) (ns : List ℕ) → length (measure o ns) ≡ 68
measure_long None ns = levels_length [] []
measure_long (Some i) ns =
    ap (λ (xs : List ℕ). length (levels (xs ∷ []))) (sym (take_whole (led_by i ns) (length (led_by i ns)) refl)) ∙ levels_length (length (led_by i ns) ∷ []) (led_by i ns)

-- ---- all rounds

module _ (name : List ℕ) (n : Node) (r : Rule) (ds : Proofs) (steps : StepsHold (Derived n r ds)) (formed : IsFormedPreds n.preds)
    (steady : IsSteadyNode n) (alone : n.links ≡ []) (plain : IsPlain n) where
  abbrev ps : List Procedure
  ps = program_of name (Derived n r ds)

  none_keep : (k : ℕ) → CompanionsKeepTime ps n.preds k (companions_of n.links) [] (Derived n r ds)
  none_keep k = record {
    as_many = ap (λ (ls : List Link). length (companions_of ls)) (sym alone);
    keep = λ i c e q. absurd (none-some c (subst (λ (ls : List Link). slice_get (companions_of ls) i ≡ Some c) alone e));
  }

  pub all_rounds_time : (k : ℕ) → (is_called n r ds ≡ true → ProcedureKeepsTime ps n.preds (own_companion n r) 0 k) × AllProceduresKeepTime ps k 1 ds
  all_rounds_time zero = ((λ e u h ns z pre cells within m x t l run. absurd (none m l)), none_yet_below ps ds 1)
  all_rounds_time (suc k) =
      let old = all_rounds_time k in
      let safe = all_rounds name n r ds steps formed steady alone k in
      let lone = no_companions name n r ds steps formed steady alone k in
      let w = premises_of n r ds formed steady steps in
      let v = plain_premises n r ds formed steady plain steps w in
      let goals = goals_of (goals_after n r) (with_new_name n r (suc (length n.goal.program)) (param_names n)) (bound_count r (length n.goal.program)) w.renamed (part_nodes ds) w.nodes
      (named_premises n r (param_names n) (length n.goal.program) w.renamed (params_are_named n) w.renamed_is) in
      let known = nodes_know (companions_of (links_after n r)) w.renamed (part_nodes ds) w.nodes v.known in (
        own_round_time ps k n r ds (main_name name) 0 [] steps formed steady plain lone (λ e. safe.0) safe.1 (none_keep k) old.0 old.1 refl,
        rounds_time ps k ds n.preds (goals_after n r) (companions_of (links_after n r)) (main_name name) 1 (with_proc r 0 []) (has_all name n r ds steps formed steady alone) steps.1 w.steady v.plain
            goals known formed (parts_meet ps n k 0 [] ds r lone (λ e. safe.0)) safe.1 (parts_keep ps n k 0 [] ds v.raw r v.raw_is (none_keep k) old.0) old.1,
      )

  -- each run of the main procedure from a heap of the root's precondition
  pub main_in_time : in_order (pre_of n) ≡ true → CardsAlone n.goal → (u : Assignment) (h : Store) (ns : List ℕ) → SideHolds n.preds u n.goal.pure_pre n.goal.pre.chunks h ns
      → (m : ℕ) (t : State) → Run ps m (begin ps 0 (map u.number n.goal.program) h) t → m ≤ step_bound ps (measure (opened r) ns) (suc (cell_count h))
  main_in_time order cards u h ns pre m t run =
      let z : ℕ = suc (cell_count h) in
      let w = premises_of n r ds formed steady steps in
      let v = plain_premises n r ds formed steady plain steps w in
      let safe = all_rounds name n r ds steps formed steady alone m in
      let old = all_rounds_time m in
      let within : (v : Var) → Among v (goal_vars n.goal) → is_card v ≡ true → IsWithin z (u.number v) =
      λ v k e.
      let x =
      cards_within u (cell_count h) (pre_of n) ns (numbered (InstanceHolds n.preds) u (pre_of n) h ns pre.1 pre.2) (side_heights_law n.preds formed u n.goal.pure_pre n.goal.pre.chunks h ns pre) v
      (cards v (among_in v (goal_vars n.goal) k) e) in
      (x.0, x.1, wider (cell_count h) x.0 x.2) in
      let cl = clamped_side n u h ns z steady within pre in
      let s : Assignment = clamped z u in
      let moved : Run ps m (begin ps 0 (map s.number n.goal.program) h) t = subst (λ (zs : List ℤ). Run ps m (begin ps 0 zs h) t) cl.2 run in
      let e : ℕ = allocated ps m (begin ps 0 (map s.number n.goal.program) h) t moved in
      least z m e (step_bound ps (measure (opened r) ns) z)
      (own_in_time ps m n r ds (main_name name) 0 [] steps formed steady plain (no_companions name n r ds steps formed steady alone m) (λ x. safe.0) safe.1 (none_keep m) old.0 old.1 refl
      (measure (opened r) ns) s h ns z cl.1
      (record { cells = same z; cards = cl.0; below = inl (root_measure n r v.raw s h ns alone steady order v.raw_is cl.1); long = measure_long (opened r) ns })
      m e t (same m) (moved, refl))
    where
      same : (a : ℕ) → a ≤ a
      same a = omega arith

      wider : (b x : ℕ) → x ≤ b → x ≤ suc b
      wider b x l = omega arith

      least : (z m e b : ℕ) → suc (z + m + e) ≤ b → m ≤ b
      least z m e b l = omega arith

-- ---- the root of a goal

main_timely : (name : List ℕ) (d : Proof) → StepsHold d → IsFormedPreds (root_node d).preds → IsSteadyNode (root_node d) → (root_node d).links ≡ [] → IsPlain (root_node d)
    → in_order (root_node d).goal.pre.chunks ≡ true → CardsAlone (root_node d).goal → (u : Assignment) (h : Store) (ns : List ℕ)
    → SideHolds (root_node d).preds u (root_node d).goal.pure_pre (root_node d).goal.pre.chunks h ns
    → (m : ℕ) (t : State) → Run (program_of name d) m (begin (program_of name d) 0 (map u.number (root_node d).goal.program) h) t
    → m ≤ step_bound (program_of name d) (measure (lead_of d) ns) (suc (cell_count h))
main_timely name (Derived n r ds) steps formed steady alone plain order cards = main_in_time name n r ds steps formed steady alone plain order cards

pub accepted_is_timely : (name : List ℕ) (preds : Preds) (g : Goal) (r : Renaming) (d : Proof)
    → IsFormedPreds preds → IsFormed preds g → IsFit preds g → IsTrue (is_sorted (unlinked preds g)) → normal (unlinked preds g) ≡ Some r → IsAccepted r.node d
    → (s : Assignment) (h : Store) (ns : List ℕ) → SideHolds preds s g.pure_pre g.pre.chunks h ns
    → (n : ℕ) (t : State) → Run (program_of name d) n (begin (program_of name d) 0 (map s.number (kept_params preds g)) h) t
    → n ≤ step_bound (program_of name d) (measure (lead_of d) ns) (suc (cell_count h))
accepted_is_timely name preds g r d formed fine fit sorted e accepted s h ns pre m t run =
    let root : IsOver preds IsSteadyNode r.node = root_is_steady preds g r fine sorted e in
    let facts = root_plain preds g r fine sorted fit.post_small fit.preds_small e in
    let back : r.node ≡ root_node d = sym accepted.0 in
    let kept = normal_keeps (unlinked preds g) r (formed_is_ready preds g fine sorted) e s h ns pre in
    let args : map s.number (kept_params preds g) ≡ map kept.0.number r.node.goal.program = ap (λ (o : Option Renaming). map s.number (old_names o)) e ∙ sym kept.2 in
    main_timely name d accepted.2 (subst (λ (x : Node). IsFormedPreds x.preds) back (subst IsFormedPreds (sym root.same) formed)) (subst IsSteadyNode back root.fact)
    (subst (λ (x : Node). x.links ≡ []) back accepted.1) (subst IsPlain back facts.0) (subst (λ (x : Node). in_order x.goal.pre.chunks ≡ true) back (normal_ordered (unlinked preds g) r fit.order e))
    (subst (λ (x : Node). CardsAlone x.goal) back facts.1) kept.0 h ns (subst (λ (x : Node). SideHolds x.preds kept.0 x.goal.pure_pre x.goal.pre.chunks h ns) back kept.1) m t
    (subst (λ (zs : List ℤ). Run (program_of name d) m (begin (program_of name d) 0 zs h) t) (args ∙ ap (λ (x : Node). map kept.0.number x.goal.program) back) run)

pub accepted_is_correct : AcceptedIsCorrect
accepted_is_correct name preds g r d formed fine fit sorted e accepted s h ns pre n t run =
    let safe = accepted_is_safe name preds g r d formed fine sorted e accepted s h ns pre n t run in
    record { no_fault = safe.no_fault; in_time = accepted_is_timely name preds g r d formed fine fit sorted e accepted s h ns pre n t run; meets_post = safe.meets_post }
