-- Write is sound: the cell is there, and it gets the content that the focus has.
use Rattle.std.proofs.Common.{◌≡◌, sym, ap, ◌∙◌, ℕ, [], ◌∷◌, ◌++◌, List, Option, Some, true, subst}
use Rattle.std.specs.FinMap.{get}
use Rattle.std.specs.Prelude.{is_some, slice_get, slice_set}
use Rattle.std.proofs.lemmas.Bool.{and_parts}
use Rattle.std.proofs.lemmas.Option.{same_Some}
use Rattle.cyp_heap.specs.Assertions.{SideHolds}
use Rattle.cyp_heap.specs.Instances.{InstanceHolds, Instances}
use Rattle.cyp_heap.specs.declared.chunk.CellAt.{CellAt}
use Rattle.cyp_heap.specs.declared.chunk.Chunk.{Chunk}
use Rattle.cyp_heap.specs.declared.chunk.Chunk.TheVariants.{Cell}
use Rattle.cyp_heap.specs.declared.goal.Node.{Node}
use Rattle.cyp_kernel.proofs.Allowed.{taken_false, taken_true}
use Rattle.cyp_kernel.proofs.BodyRuns.{one_premise, same_post}
use Rattle.cyp_kernel.proofs.GoalFacts.{true_join}
use Rattle.cyp_kernel.proofs.HeapCells.{cards_set, cell_there, write_cell, written}
use Rattle.cyp_kernel.proofs.NamedValues.{expr_is}
use Rattle.cyp_kernel.proofs.StoreRuns.{store_right}
use Rattle.cyp_kernel.specs.Naming.{expr_of}
use Rattle.cyp_kernel.specs.RuleLaws.{AllMeet, RuleLaw}
use Rattle.cyp_kernel.specs.Statements.{chunk_address, chunk_content, first_body, focus_content, pre_cell_at}
use Rattle.cyp_machine.specs.Values.{expr_value}
use Rattle.cyp_step.specs.Changes.{add_pre, pre_of}
use Rattle.cyp_step.specs.FlatRules.{raw_write}
use Rattle.cyp_step.specs.Shown.{is_program_expr}
use Rattle.cyp_step.specs.declared.rule.Rule.TheVariants.{ByWrite}
use Rattle.cyp_term.specs.Meaning.{value}
use Rattle.cyp_unify.specs.Frames.{focus}

abbrev pub written_node : Node → ℕ → CellAt → CellAt → Node
written_node n i c f = add_pre n [] (slice_set (pre_of n) i (Cell (record { at = c.at; content = f.content })))

-- the focus is a cell, the chunk is a cell, both are given by program expressions, and the content is put into the cell
pub record Writes (n : Node) (i : ℕ) (fo co : Option Chunk) (ms : List Node) : Type 0 where
  pub focus : CellAt
  pub cell : CellAt
  pub focus_is : fo ≡ Some (Cell focus)
  pub cell_is : co ≡ Some (Cell cell)
  pub address : is_program_expr n.goal cell.at ≡ true
  pub content : is_program_expr n.goal focus.content ≡ true
  pub premise : ms ≡ written_node n i cell focus ∷ []

pub write_parts : (n : Node) (i : ℕ) (fo co : Option Chunk) (ms : List Node) → raw_write n i fo co ≡ Some ms → Writes n i fo co ms
write_parts n i (Some (Cell f)) (Some (Cell c)) ms is =
    let a = taken_true _ _ ms is in
    let b = taken_true _ _ ms a.1 in
    let d = taken_false _ _ ms b.1 in
    let p = and_parts _ _ a.0 in
    let q = and_parts _ _ p.0 in
    record { focus = f; cell = c; focus_is = λ i. Some (Cell f); cell_is = λ i. Some (Cell c); address = q.1; content = p.1; premise = sym (same_Some _ ms d.1) }
write_parts n i fo co ms is = cc

pub by_write : (i : ℕ) → RuleLaw (ByWrite i)
by_write i ps n ms bs names procs next k steady formed naming is callees all s h ns vs pre named m t le r =
    let w = write_parts n i (focus n.goal) (slice_get (pre_of n) i) ms is in
    let inst : Instances = InstanceHolds n.preds in
    let node : Node = written_node n i w.cell w.focus in
    let premise = one_premise ps names k node bs (subst (λ (xs : List Node). AllMeet ps names k xs bs) w.premise all) in
    let at : expr_value vs (expr_of names (pre_cell_at n i)) ≡ value s w.cell.at =
    ap (λ (o : Option Chunk). expr_value vs (expr_of names (chunk_address o))) w.cell_is ∙ expr_is names vs s n.goal w.cell.at named w.address in
    let content : expr_value vs (expr_of names (focus_content n)) ≡ value s w.focus.content =
    ap (λ (o : Option Chunk). expr_value vs (expr_of names (chunk_content o))) w.focus_is ∙ expr_is names vs s n.goal w.focus.content named w.content in
    let there : is_some (get h.cells (value s w.cell.at)) ≡ true = ap is_some (cell_there inst s (pre_of n) i w.cell h ns w.cell_is pre.1) in
    let after : SideHolds n.preds s (n.goal.pure_pre ++ []) (slice_set (pre_of n) i (Cell (record { at = w.cell.at; content = w.focus.content }))) (written h (value s w.cell.at) (value s w.focus.content)) ns = (
      true_join s n.goal.pure_pre [] pre.0 tt,
      write_cell inst s (pre_of n) i w.cell w.focus.content h ns w.cell_is pre.1,
      cards_set inst s (pre_of n) i w.cell (record { at = w.cell.at; content = w.focus.content }) ns w.cell_is pre.2,
    ) in
    store_right ps n.preds n.goal s h vs k (expr_of names (pre_cell_at n i)) (expr_of names (focus_content n)) (value s w.cell.at) (value s w.focus.content) (first_body bs) at content there
    (λ j u l q. same_post n.preds node.goal n.goal s s u (λ p. p) (premise s (written h (value s w.cell.at) (value s w.focus.content)) ns vs after named j u l q)) m t le r
