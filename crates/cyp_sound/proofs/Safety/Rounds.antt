-- Where the procedures meet their goals in runs of fewer than k steps, they do so in runs of at most k steps. So they do in all runs.
use Rattle.cyp_goal.specs.Normal.{Renaming}
use Rattle.cyp_heap.specs.PredsFormed.{IsFormedPreds}
use Rattle.cyp_heap.specs.declared.goal.Goal.{Goal}
use Rattle.cyp_heap.specs.declared.goal.Link.{Link}
use Rattle.cyp_heap.specs.declared.goal.Node.{Node}
use Rattle.cyp_heap.specs.declared.pred.Preds.{Preds}
use Rattle.cyp_kernel.proofs.NormalMeaning.{formed_is_ready, normal_keeps}
use Rattle.cyp_kernel.proofs.SteadyRules.{root_is_steady}
use Rattle.cyp_kernel.specs.Accepted.{AllStepsHold, StepsHold, part_nodes, root_node}
use Rattle.cyp_kernel.specs.Companions.{Proof, Proofs, called_count, called_counts, is_called}
use Rattle.cyp_kernel.specs.Compile.{auxiliary_name, bound_count, main_name, procedure, procedures, procedures_in, program_of, with_new_name, with_proc}
use Rattle.cyp_kernel.specs.Correct.{kept_params, old_names, unlinked}
use Rattle.cyp_kernel.specs.Meets.{BodyMeets, ProcedureMeets, body_state}
use Rattle.cyp_kernel.specs.Naming.{Names, name_of, param_names}
use Rattle.cyp_kernel.specs.SteadyLaws.{IsSteadyNode}
use Rattle.cyp_machine.specs.Runs.{Run}
use Rattle.cyp_machine.specs.States.{entry_body, start}
use Rattle.cyp_machine.specs.Values.{lookup, params_from}
use Rattle.cyp_pred.specs.Unfold.{count_from}
use Rattle.cyp_prog.specs.Programs.{Procedure}
use Rattle.cyp_sound.proofs.Safety.BodiesMeet.{IsNamed, first_part, named_premises, other_parts, premises_of, rule_right}
use Rattle.cyp_sound.proofs.Safety.CompanionGoals.{link_goals}
use Rattle.cyp_sound.proofs.Safety.PassedNames.{params_are_named}
use Rattle.cyp_sound.proofs.Safety.PassedProcedures.{PartsMeet, parts_meet}
use Rattle.cyp_sound.proofs.Safety.Procedures.{at_called, at_either, at_uncalled, AllProceduresMeet, CompanionsMeet, HasFrom, ProceduresMeet}
use Rattle.cyp_sound.proofs.Safety.RawPremises.{goals_after}
use Rattle.cyp_sound.specs.Laws.{AcceptedIsSafe}
use Rattle.cyp_step.specs.Nodes.{IsOver}
use Rattle.cyp_step.specs.Step.{nodes_of}
use Rattle.cyp_step.specs.declared.rule.Rule.{Rule}
use Rattle.cyp_term.proofs.Equality.{Decides-var_eq}
use Rattle.cyp_term.specs.Terms.{var_eq, var_in}
use Rattle.cyp_term.specs.declared.term.Var.{Var}
use Rattle.cyp_tree.specs.Derivations.{Derived, More, NoMore}
use Rattle.std.proofs.Common.{◌≡◌, refl, sym, ap, ◌∙◌, ℕ, zero, suc, ◌+◌, ◌<◌, ◌≤◌, Bool, true, false, cond, length, List, [], ◌∷◌, ◌++◌, map, ℤ, Option, Some, inl, inr, arith, subst}
use Rattle.std.proofs.lemmas.Bool.{both_ways, eq-eqb, false≢true, ne_eqb, or_cases}
use Rattle.std.proofs.lemmas.List.{length-append}
use Rattle.std.proofs.lemmas.Option.{none-some}
use Rattle.std.specs.List.{AllByRecursion}
use Rattle.std.specs.Prelude.{slice_get, zip}

-- ---- the values of parameters

-- the names of later parameters are later numbers
later_name : (xs : List Var) (a : ℕ) (v : Var) → var_in v xs ≡ true → a ≤ name_of (zip xs (count_from a (length xs))) v
later_name [] a v h = absurd (false≢true h)
later_name (x ∷ xs) a v h = at (var_eq x v) refl (λ k. later_name xs (suc a) v k)
  where
    at : (c : Bool) → var_eq x v ≡ c → (var_in v xs ≡ true → suc a ≤ name_of (zip xs (count_from (suc a) (length xs))) v) → a ≤ cond c a (name_of (zip xs (count_from (suc a) (length xs))) v)
    at true e more = same a
      where
        same : (a : ℕ) → a ≤ a
        same a = omega arith
    at false e more = less a (name_of (zip xs (count_from (suc a) (length xs))) v) (more (in_rest e))
      where
        less : (a b : ℕ) → suc a ≤ b → a ≤ b
        less a b l = omega arith

        in_rest : var_eq x v ≡ false → var_in v xs ≡ true
        in_rest e = elim (or_cases (var_eq v x) (var_in v xs) h) [
          | inl k ↦ absurd (both_ways (var_eq x v) e ((Decides-var_eq x v).1 (sym ((Decides-var_eq v x).0 k))))
          | inr k ↦ k
        ]

-- each parameter has its argument's value
pub param_values : (f : Var → ℤ) (xs : List Var) (a : ℕ) (v : Var) → var_in v xs ≡ true → lookup (params_from a (map f xs)) (name_of (zip xs (count_from a (length xs))) v) ≡ f v
param_values f [] a v h = absurd (false≢true h)
param_values f (x ∷ xs) a v h = at (var_eq x v) refl (param_values f xs (suc a) v) (later_name xs (suc a) v)
  where
    rest : ℕ
    rest = name_of (zip xs (count_from (suc a) (length xs))) v

    at : (c : Bool) → var_eq x v ≡ c → (var_in v xs ≡ true → lookup (params_from (suc a) (map f xs)) rest ≡ f v) → (var_in v xs ≡ true → suc a ≤ rest)
        → lookup (params_from a (f x ∷ map f xs)) (cond c a rest) ≡ f v
    at true e more above = ap (λ (c : Bool). cond c (f x) (lookup (params_from (suc a) (map f xs)) a)) (eq-eqb a a refl) ∙ ap f ((Decides-var_eq x v).0 e)
    at false e more above =
        let there = in_rest e in
        ap (λ (c : Bool). cond c (f x) (lookup (params_from (suc a) (map f xs)) rest)) (ne_eqb a rest (apart a rest (above there))) ∙ more there
      where
        apart : (a b : ℕ) → suc a ≤ b → a ≡ b → ⊥
        apart a b l e = omega arith

        in_rest : var_eq x v ≡ false → var_in v xs ≡ true
        in_rest e = elim (or_cases (var_eq v x) (var_in v xs) h) [
          | inl k ↦ absurd (both_ways (var_eq x v) e ((Decides-var_eq x v).1 (sym ((Decides-var_eq v x).0 k))))
          | inr k ↦ k
        ]

-- a procedure meets the goal that its body meets
procedure_meets : (ps : List Procedure) (n : Node) (p k : ℕ) (q : Procedure) → slice_get ps p ≡ Some q → BodyMeets ps n.preds n.goal (param_names n) k q.body
    → ProcedureMeets ps n.preds n.goal p (suc k)
procedure_meets ps n p k q at body s h ns pre m t l r =
    body s h ns (params_from 1 (map s.number n.goal.program)) pre (λ v e. param_values s.number n.goal.program 1 v e) m t (less m k l)
    (subst (λ (o : Option Procedure). Run ps m (body_state h (params_from 1 (map s.number n.goal.program)) (entry_body o)) t) at r)
  where
    less : (m k : ℕ) → m < suc k → m ≤ k
    less m k l = omega arith

-- ---- parts of the program

get_left : (a b : List Procedure) (i : ℕ) (q : Procedure) → slice_get a i ≡ Some q → slice_get (a ++ b) i ≡ Some q
get_left [] b i q e = absurd (none-some q e)
get_left (x ∷ a) b zero q e = e
get_left (x ∷ a) b (suc i) q e = get_left a b i q e

get_right : (a b : List Procedure) (i : ℕ) (q : Procedure) → slice_get b i ≡ Some q → slice_get (a ++ b) (length a + i) ≡ Some q
get_right [] b i q e = subst (λ (j : ℕ). slice_get b j ≡ Some q) (none i) e
  where
    none : (i : ℕ) → i ≡ 0 + i
    none i = omega arith
get_right (x ∷ a) b i q e = subst (λ (j : ℕ). slice_get (x ∷ a ++ b) j ≡ Some q) (more (length a) i) (get_right a b i q e)
  where
    more : (a i : ℕ) → suc (a + i) ≡ suc a + i
    more a i = omega arith

pub first_of_two : (ps : List Procedure) (k : ℕ) (a b : List Procedure) → HasFrom ps k (a ++ b) → HasFrom ps k a
first_of_two ps k a b w i q e = w i q (get_left a b i q e)

pub second_of_two : (ps : List Procedure) (k c : ℕ) (a b : List Procedure) → length a ≡ c → HasFrom ps k (a ++ b) → HasFrom ps (k + c) b
second_of_two ps k c a b l w i q e =
    subst (λ (j : ℕ). slice_get ps j ≡ Some q) (ap (λ (x : ℕ). k + (x + i)) l ∙ sum k c i) (w (length a + i) q (get_right a b i q e))
  where
    sum : (k c i : ℕ) → k + (c + i) ≡ k + c + i
    sum k c i = omega arith

pub behind_first : (ps : List Procedure) (k : ℕ) (p : Procedure) (b : List Procedure) → HasFrom ps k (p ∷ b) → HasFrom ps (suc k) b
behind_first ps k p b w i q e = subst (λ (j : ℕ). slice_get ps j ≡ Some q) (sum k i) (w (suc i) q e)
  where
    sum : (k i : ℕ) → k + suc i ≡ suc k + i
    sum k i = omega arith

pub at_first : (ps : List Procedure) (k : ℕ) (p : Procedure) (b : List Procedure) → HasFrom ps k (p ∷ b) → slice_get ps k ≡ Some p
at_first ps k p b w = subst (λ (j : ℕ). slice_get ps j ≡ Some p) (sum k) (w 0 p refl)
  where
    sum : (k : ℕ) → k + 0 ≡ k
    sum k = omega arith

-- the procedures of a called place, or of one that isn't
pub either_from : (ps : List Procedure) (t : Bool) (next : ℕ) (a b : List Procedure) → HasFrom ps next (elim t [ true ↦ a | false ↦ b ]) → (t ≡ true → HasFrom ps next a) × (t ≡ false → HasFrom ps next b)
either_from ps true next a b w = ((λ e. w), λ e. cc)
either_from ps false next a b w = ((λ e. cc), λ e. w)

-- ---- one round

-- there are as many procedures as called companions
either-length : (t : Bool) (ps qs : List Procedure) (c : ℕ) → length ps ≡ suc c → length qs ≡ c → length {A = Procedure} (elim t [ true ↦ ps | false ↦ qs ]) ≡ cond t (suc c) c
either-length true ps qs c p q = p
either-length false ps qs c p q = q

mutual
  pub length-procedures : (d : Proof) (main : List ℕ) (next : ℕ) (procs : List ℕ) → length (procedures main next procs d) ≡ called_count d
  length-procedures (Derived n r ds) main next procs =
      either-length (is_called n r ds) _ _ (called_counts ds) (ap suc (length-procedures_in ds main (suc next) (with_proc r next procs)))
      (length-procedures_in ds main next (with_proc r 0 procs))

  pub length-procedures_in : (ds : Proofs) (main : List ℕ) (next : ℕ) (procs : List ℕ) → length (procedures_in main next procs ds) ≡ called_counts ds
  length-procedures_in NoMore main next procs = refl
  length-procedures_in (More d ds) main next procs =
      let first = length-procedures d main next procs in
      let later = length-procedures_in ds main (next + called_count d) procs in
      omega (arith, length-append (procedures main next procs d) (procedures_in main (next + called_count d) procs ds))

-- nothing is asked of runs of fewer than no steps
nothing : (ps : List Procedure) (n : Node) (p : ℕ) → ProcedureMeets ps n.preds n.goal p 0
nothing ps n p s h ns pre m t l r = absurd (none m l)
  where
    none : (m : ℕ) → m < 0 → ⊥
    none m l = omega arith

-- the companions' goals at each premise
abbrev pub GoalsAre : List Goal → Node → Type 0
GoalsAre goals x = link_goals x.links ≡ goals

pub goals_of : (goals : List Goal) (names : Names) (m : ℕ) (rs : List Renaming) (xs : List Node) → nodes_of rs ≡ xs → AllByRecursion (IsNamed goals names m) rs → AllByRecursion (GoalsAre goals) xs
goals_of goals names m rs xs e h = subst (AllByRecursion (GoalsAre goals)) e (each rs h)
  where
    each : (rs : List Renaming) → AllByRecursion (IsNamed goals names m) rs → AllByRecursion (GoalsAre goals) (nodes_of rs)
    each [] h = tt
    each (s ∷ rs) h = (h.0.goals_are, each rs h.1)

module _ (ps : List Procedure) (k : ℕ) where
  -- the procedure of a place whose goal is called
  module _ (n : Node) (r : Rule) (ds : Proofs) (name : List ℕ) (self : ℕ) (procs : List ℕ) (steps : StepsHold (Derived n r ds)) (formed : IsFormedPreds n.preds) (steady : IsSteadyNode n)
      (companions : CompanionsMeet ps n.preds k (link_goals n.links) procs (Derived n r ds)) (own : is_called n r ds ≡ true → ProcedureMeets ps n.preds n.goal self k)
      (below : AllProceduresMeet ps k (suc self) ds) where
    pub own_round : slice_get ps self ≡ Some (procedure name self procs (Derived n r ds)) → ProcedureMeets ps n.preds n.goal self (suc k)
    own_round at =
        procedure_meets ps n self k (procedure name self procs (Derived n r ds)) at
        (rule_right ps k n r ds self (suc self) (param_names n) (length n.goal.program) procs steps formed steady (params_are_named n) companions own below)

  mutual
    round : (d : Proof) (main : List ℕ) (next : ℕ) (procs : List ℕ) → HasFrom ps next (procedures main next procs d) → StepsHold d → IsFormedPreds (root_node d).preds → IsSteadyNode (root_node d)
        → CompanionsMeet ps (root_node d).preds k (link_goals (root_node d).links) procs d → ProceduresMeet ps k next d → ProceduresMeet ps (suc k) next d
    round (Derived n r ds) main next procs has steps formed steady companions old =
        let own : Procedure = procedure (auxiliary_name main next) next procs (Derived n r ds) in
        let two = either_from ps (is_called n r ds) next (own ∷ procedures_in main (suc next) (with_proc r next procs) ds) (procedures_in main next (with_proc r 0 procs) ds) has in
        let w = premises_of n r ds formed steady steps in
        let goals = goals_of (goals_after n r) (with_new_name n r (suc (length n.goal.program)) (param_names n)) (bound_count r (length n.goal.program)) w.renamed (part_nodes ds) w.nodes
        (named_premises n r (param_names n) (length n.goal.program) w.renamed (params_are_named n) w.renamed_is) in (
          (λ e.
              own_round n r ds (auxiliary_name main next) next procs steps formed steady companions old.0 (at_called (λ (j : ℕ). AllProceduresMeet ps k j ds) next (is_called n r ds) e old.1)
              (at_first ps next own (procedures_in main (suc next) (with_proc r next procs) ds) (two.0 e))),
          at_either (λ (j : ℕ). AllProceduresMeet ps (suc k) j ds) next (is_called n r ds)
              (λ e.
              rounds ds n.preds (goals_after n r) main (suc next) (with_proc r next procs) (behind_first ps next own (procedures_in main (suc next) (with_proc r next procs) ds) (two.0 e)) steps.1
              w.steady goals formed (parts_meet ps n k next procs ds r companions old.0) (at_called (λ (j : ℕ). AllProceduresMeet ps k j ds) next (is_called n r ds) e old.1))
              (λ e.
              rounds ds n.preds (goals_after n r) main next (with_proc r 0 procs) (two.1 e) steps.1 w.steady goals formed
              (parts_meet ps n k 0 procs ds r companions (λ x. absurd (both_ways (is_called n r ds) e x))) (at_uncalled (λ (j : ℕ). AllProceduresMeet ps k j ds) next (is_called n r ds) e old.1)),
        )

    -- the procedures below a place
    pub rounds : (ds : Proofs) (preds : Preds) (goals : List Goal) (main : List ℕ) (next : ℕ) (procs : List ℕ) → HasFrom ps next (procedures_in main next procs ds) → AllStepsHold ds
        → AllByRecursion (IsOver preds IsSteadyNode) (part_nodes ds) → AllByRecursion (GoalsAre goals) (part_nodes ds) → IsFormedPreds preds → PartsMeet ps preds k goals procs ds
        → AllProceduresMeet ps k next ds → AllProceduresMeet ps (suc k) next ds
    rounds NoMore preds goals main next procs has steps steady are formed parts old = tt
    rounds (More d ds) preds goals main next procs has steps steady are formed parts old =
        let over : (root_node d).preds ≡ preds = steady.0.same in
        let companions : CompanionsMeet ps (root_node d).preds k (link_goals (root_node d).links) procs d =
        subst (λ (gs : List Goal). CompanionsMeet ps (root_node d).preds k gs procs d) (sym are.0)
        (subst (λ (x : Preds). CompanionsMeet ps x k goals procs d) (sym over) (first_part ps preds k goals procs d ds parts)) in (
          round d main next procs (first_of_two ps next (procedures main next procs d) (procedures_in main (next + called_count d) procs ds) has) steps.0 (subst IsFormedPreds (sym over) formed)
              steady.0.fact companions old.0,
          rounds ds preds goals main (next + called_count d) procs
              (second_of_two ps next (called_count d) (procedures main next procs d) (procedures_in main (next + called_count d) procs ds) (length-procedures d main next procs) has) steps.1 steady.1 are.1 formed
              (other_parts ps preds k goals procs d ds parts) old.1,
        )

-- ---- all rounds

mutual
  none_yet : (ps : List Procedure) (d : Proof) (next : ℕ) → ProceduresMeet ps 0 next d
  none_yet ps (Derived n r ds) next = ((λ e. nothing ps n next), none_yet_below ps ds (cond (is_called n r ds) (suc next) next))

  none_yet_below : (ps : List Procedure) (ds : Proofs) (next : ℕ) → AllProceduresMeet ps 0 next ds
  none_yet_below ps NoMore next = tt
  none_yet_below ps (More d ds) next = (none_yet ps d next, none_yet_below ps ds (next + called_count d))

-- the main procedure and those of the companions below
module _ (name : List ℕ) (n : Node) (r : Rule) (ds : Proofs) (steps : StepsHold (Derived n r ds)) (formed : IsFormedPreds n.preds) (steady : IsSteadyNode n) (alone : n.links ≡ []) where
  abbrev pub whole : List Procedure
  whole = program_of name (Derived n r ds)

  pub no_companions : (k : ℕ) → CompanionsMeet whole n.preds k (link_goals n.links) [] (Derived n r ds)
  no_companions k = record {
    as_many = ap (λ (ls : List Link). length (link_goals ls)) (sym alone);
    meet = λ i g e c. absurd (none-some g (subst (λ (ls : List Link). slice_get (link_goals ls) i ≡ Some g) alone e));
  }

  pub has_all : HasFrom whole 1 (procedures_in (main_name name) 1 (with_proc r 0 []) ds)
  has_all i q e = subst (λ (j : ℕ). slice_get whole j ≡ Some q) (next i) e
    where
      next : (i : ℕ) → suc i ≡ 1 + i
      next i = omega arith

  pub all_rounds : (k : ℕ) → ProcedureMeets whole n.preds n.goal 0 k × AllProceduresMeet whole k 1 ds
  all_rounds zero = (nothing whole n 0, none_yet_below whole ds 1)
  all_rounds (suc k) =
      let old = all_rounds k in
      let w = premises_of n r ds formed steady steps in
      let goals = goals_of (goals_after n r) (with_new_name n r (suc (length n.goal.program)) (param_names n)) (bound_count r (length n.goal.program)) w.renamed (part_nodes ds) w.nodes
      (named_premises n r (param_names n) (length n.goal.program) w.renamed (params_are_named n) w.renamed_is) in (
        own_round whole k n r ds (main_name name) 0 [] steps formed steady (no_companions k) (λ e. old.0) old.1 refl,
        rounds whole k ds n.preds (goals_after n r) (main_name name) 1 (with_proc r 0 []) has_all steps.1 w.steady goals formed
            (parts_meet whole n k 0 [] ds r (no_companions k) (λ e. old.0)) old.1,
      )

main_meets : (name : List ℕ) (d : Proof) → StepsHold d → IsFormedPreds (root_node d).preds → IsSteadyNode (root_node d) → (root_node d).links ≡ []
    → (k : ℕ) → ProcedureMeets (program_of name d) (root_node d).preds (root_node d).goal 0 k
main_meets name (Derived n r ds) steps formed steady alone k = (all_rounds name n r ds steps formed steady alone k).0

pub accepted_is_safe : AcceptedIsSafe
accepted_is_safe name preds g r d formed fine sorted e accepted s h ns pre m t run =
    let root : IsOver preds IsSteadyNode r.node = root_is_steady preds g r fine sorted e in
    let back : r.node ≡ root_node d = sym accepted.0 in
    let main =
    main_meets name d accepted.2 (subst (λ (x : Node). IsFormedPreds x.preds) back (subst IsFormedPreds (sym root.same) formed)) (subst IsSteadyNode back root.fact)
    (subst (λ (x : Node). x.links ≡ []) back accepted.1) (suc m) in
    let meets : ProcedureMeets (program_of name d) r.node.preds r.node.goal 0 (suc m) = subst (λ (x : Node). ProcedureMeets (program_of name d) x.preds x.goal 0 (suc m)) accepted.0 main in
    let kept = normal_keeps (unlinked preds g) r (formed_is_ready preds g fine sorted) e s h ns pre in
    let args : map s.number (kept_params preds g) ≡ map kept.0.number r.node.goal.program = ap (λ (o : Option Renaming). map s.number (old_names o)) e ∙ sym kept.2 in
    let met = meets kept.0 h ns kept.1 m t (last m) (subst (λ (zs : List ℤ). Run (program_of name d) m (start (program_of name d) 0 zs h) t) args run) in
    record { no_fault = met.no_fault; meets_post = λ x. kept.3 t.store (met.meets_post x) }
  where
    last : (m : ℕ) → m < suc m
    last m = omega arith
