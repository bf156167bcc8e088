-- Read is sound: the cell is there, and the new variable has the value of its content.
use Rattle.std.proofs.Common.{◌≡◌, refl, sym, ap, ◌∙◌, ℕ, zero, suc, ◌≤◌, [], ◌∷◌, ◌++◌, List, Option, Some, true, ℤ, subst}
use Rattle.std.specs.FinMap.{get}
use Rattle.std.specs.Prelude.{is_some, slice_get, slice_set}
use Rattle.std.proofs.lemmas.Bool.{and_parts}
use Rattle.std.proofs.lemmas.Option.{same_Some}
use Rattle.cyp_goal.proofs.EachVar.{EachPart}
use Rattle.cyp_goal.specs.Raw.{term_fits}
use Rattle.cyp_heap.specs.Assertions.{SideHolds}
use Rattle.cyp_heap.specs.Instances.{InstanceHolds, Instances}
use Rattle.cyp_heap.specs.declared.chunk.CellAt.{CellAt}
use Rattle.cyp_heap.specs.declared.chunk.Chunk.{Chunk}
use Rattle.cyp_heap.specs.declared.chunk.Chunk.TheVariants.{Cell}
use Rattle.cyp_heap.specs.declared.goal.Node.{Node}
use Rattle.cyp_kernel.proofs.AgreeVars.{AgreeAt, is_number_var, side_by_vars, value_same}
use Rattle.cyp_kernel.proofs.Allowed.{where_true_parts}
use Rattle.cyp_kernel.proofs.BodyRuns.{begun_run, less_suc, no_fault_there, one_premise, same_post}
use Rattle.cyp_kernel.proofs.ForgetVars.{among_from_in, met_by_others}
use Rattle.cyp_kernel.proofs.GoalFacts.{true_join}
use Rattle.cyp_kernel.proofs.HeapCells.{cards_set, cell_there, same_content}
use Rattle.cyp_kernel.proofs.NamedValues.{expr_is, named_with_new}
use Rattle.cyp_kernel.proofs.NewNumber.{new_out, old_parts, put_here, put_kept, put_new, put_number}
use Rattle.cyp_kernel.proofs.Offsets.{plus-zero}
use Rattle.cyp_kernel.proofs.SteadyParts.{chunk_sorted_at, chunk_vars_among, sorted_goal}
use Rattle.cyp_kernel.specs.Meets.{MeetsSoFar, body_state}
use Rattle.cyp_kernel.specs.Naming.{expr_of}
use Rattle.cyp_kernel.specs.RuleLaws.{AllMeet, RuleLaw}
use Rattle.cyp_kernel.specs.Statements.{chunk_address, first_body, pre_cell_at}
use Rattle.cyp_machine.specs.Runs.{Run}
use Rattle.cyp_machine.specs.States.{State}
use Rattle.cyp_machine.specs.Values.{expr_value}
use Rattle.cyp_machine.specs.declared.cause.Cause.TheVariants.{ReadMissing}
use Rattle.cyp_prog.specs.Programs.{Loading, Then}
use Rattle.cyp_prog.specs.declared.stmt.Expr.{Expr}
use Rattle.cyp_step.specs.Changes.{add_pre, new_int, pre_of}
use Rattle.cyp_step.specs.FlatRules.{raw_read}
use Rattle.cyp_step.specs.Shown.{is_program_expr}
use Rattle.cyp_step.specs.declared.rule.Rule.TheVariants.{ByRead}
use Rattle.cyp_term.proofs.Lists.{Among-right}
use Rattle.cyp_term.specs.Meaning.{Assignment, value}
use Rattle.cyp_term.specs.Terms.{term_vars, var_term}
use Rattle.cyp_term.specs.declared.lit.Lit.TheVariants.{Eq}
use Rattle.cyp_term.specs.declared.term.Sort.TheVariants.{Int}
use Rattle.cyp_term.specs.declared.term.Var.{Var}

abbrev pub read_node : Node → ℕ → CellAt → Node
read_node n i c =
    let y : Var = new_int n in
    let m : Node = add_pre n (Eq (var_term y) c.content ∷ []) (slice_set (pre_of n) i (Cell (record { at = c.at; content = var_term y }))) in
    record m { goal = record m.goal { program = n.goal.program ++ y ∷ [] } }

pub read_parts : (n : Node) (i : ℕ) (o : Option Chunk) (ms : List Node) → raw_read n i o ≡ Some ms
    → (c : CellAt) × (o ≡ Some (Cell c)) × (is_program_expr n.goal c.at ≡ true) × (ms ≡ read_node n i c ∷ [])
read_parts n i (Some (Cell c)) ms is =
    let a = where_true_parts _ _ ms is in
    let p = and_parts _ _ a.0 in
    let q = and_parts _ _ p.0 in
    (c, refl, q.0, sym (same_Some _ ms a.1))
read_parts n i o ms is = cc

pub by_read : (i : ℕ) → RuleLaw (ByRead i)
by_read i ps n ms bs names procs next k steady formed naming is callees all s h ns vs pre named m t le r =
    let w = read_parts n i (slice_get (pre_of n) i) ms is in
    let c : CellAt = w.0 in
    let inst : Instances = InstanceHolds n.preds in
    let y : Var = new_int n in
    let z : ℤ = value s c.content in
    let u : Assignment = put_number s y z in
    let parts : EachPart (AgreeAt s u) n = put_new n s (z ∷ []) in
    let sorted = sorted_goal n steady in
    let premise = one_premise ps (names ++ (y, next) ∷ []) k (read_node n i c) bs (subst (λ (xs : List Node). AllMeet ps (names ++ (y, next) ∷ []) k xs bs) w.3 all) in
    let at : expr_value vs (expr_of names (pre_cell_at n i)) ≡ value s c.at =
    ap (λ (o : Option Chunk). expr_value vs (expr_of names (chunk_address o))) w.1 ∙ expr_is names vs s n.goal c.at named w.2 in
    let there : get h.cells (expr_value vs (expr_of names (pre_cell_at n i))) ≡ Some z = ap (get h.cells) at ∙ cell_there inst s (pre_of n) i c h ns w.1 pre.1 in
    let side : SideHolds n.preds u n.goal.pure_pre (pre_of n) h ns = side_by_vars s u n.preds n.goal.pure_pre (pre_of n) h ns sorted.pure_pre sorted.pre parts.pure_pre parts.pre pre in
    let same : value s c.content ≡ value u c.content =
    value_same s u c.content (and_parts (term_fits is_number_var c.at) (term_fits is_number_var c.content) (chunk_sorted_at (pre_of n) i (Cell c) w.1 sorted.pre)).1
    (λ v k. parts.pre v (chunk_vars_among (pre_of n) i (Cell c) w.1 v (Among-right v (term_vars c.at) (term_vars c.content) k))) in
    let bare : value u (var_term y) ≡ z = plus-zero (u.number y) ∙ put_here s y z in
    let after : SideHolds n.preds u (n.goal.pure_pre ++ Eq (var_term y) c.content ∷ []) (slice_set (pre_of n) i (Cell (record { at = c.at; content = var_term y }))) h ns = (
      true_join u n.goal.pure_pre (Eq (var_term y) c.content ∷ []) side.0 (bare ∙ same, tt),
      same_content inst u (pre_of n) i c (var_term y) h ns w.1 (sym same ∙ sym bare) side.1,
      cards_set inst u (pre_of n) i c (record { at = c.at; content = var_term y }) ns w.1 side.2,
    ) in
    let old = old_parts n in
    let new_names =
    named_with_new names vs s u n.goal.program y next naming (new_out n n.goal.program old.program) named (λ v e. put_kept n Int s (z ∷ []) v (old.program v (among_from_in v n.goal.program e))) in
    go (expr_of names (pre_cell_at n i)) z there (u.number y) (put_here s y z)
    (λ j x l q. same_post n.preds (read_node n i c).goal n.goal u s x (met_by_others n.preds n.goal s u x.store sorted.pure_post sorted.post parts.pure_post parts.post)
    (premise u h ns ((next, u.number y) ∷ vs) after new_names j x l q)) m t le r
  where
    go : (x : Expr) (z : ℤ) → get h.cells (expr_value vs x) ≡ Some z → (z' : ℤ) → z' ≡ z
        → ((j : ℕ) (u : State) → j ≤ k → Run ps j (body_state h ((next, z') ∷ vs) (first_body bs)) u → MeetsSoFar n.preds n.goal s u)
        → (m : ℕ) (t : State) → m ≤ k → Run ps m (body_state h vs (Then (Loading next x) (first_body bs))) t → MeetsSoFar n.preds n.goal s t
    go x z there z' e after zero t le r =
        begun_run n.preds n.goal s h vs (Loading next x) (first_body bs) t (no_fault_there (is_some (get h.cells (expr_value vs x))) ReadMissing (ap is_some there)) r
    go x z there z' e after (suc j) t le r =
        let same : r.1.0 ≡ z' = same_Some r.1.0 z (sym r.1.1 ∙ there) ∙ sym e in
        after j t (less_suc j k le)
        (subst (λ (v : ℤ). Run ps j (body_state h ((next, v) ∷ vs) (first_body bs)) t) same (subst (λ (u : State). Run ps j u t) r.1.2 r.2))
