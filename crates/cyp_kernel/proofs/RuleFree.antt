-- Free is sound: the block and its cells are there, and without them the other chunks hold.
use Rattle.std.proofs.Common.{◌≡◌, refl, sym, ap, ◌∙◌, ℕ, zero, suc, ◌≤◌, [], ◌∷◌, ◌++◌, List, None, Option, Some, true, ℤ, map, subst}
use Rattle.std.specs.FinMap.{FinMap, empty, get, insert, remove}
use Rattle.std.specs.Ordering.{int_cmp}
use Rattle.std.specs.Prelude.{slice_get}
use Rattle.std.proofs.lemmas.Bool.{and_parts}
use Rattle.std.proofs.lemmas.Option.{none-some, same_Some}
use Rattle.cyp_heap.proofs.Unions.{union_left}
use Rattle.cyp_heap.specs.Assertions.{SideHolds}
use Rattle.cyp_heap.specs.Chunks.{without}
use Rattle.cyp_heap.specs.Instances.{ChunksHold, InstanceHolds, Instances}
use Rattle.cyp_heap.specs.Stores.{IsDisjointUnion, Store}
use Rattle.cyp_heap.specs.BlockValue.{BlockValue}
use Rattle.cyp_heap.specs.declared.chunk.Chunk.{Chunk}
use Rattle.cyp_heap.specs.declared.chunk.Chunk.TheVariants.{Block}
use Rattle.cyp_heap.specs.declared.goal.Node.{Node}
use Rattle.cyp_kernel.proofs.Allowed.{mapped_some, taken_true}
use Rattle.cyp_kernel.proofs.BodyRuns.{begun_run, less_suc, no_fault_there, one_premise, same_post}
use Rattle.cyp_kernel.proofs.ChunkOrder.{place_out}
use Rattle.cyp_kernel.proofs.GoalFacts.{true_join}
use Rattle.cyp_kernel.proofs.HeapParts.{get_single, union_with_none}
use Rattle.cyp_kernel.proofs.HeapRemoved.{addresses_of, cells_out, remove_single}
use Rattle.cyp_kernel.proofs.NamedValues.{expr_is}
use Rattle.cyp_kernel.specs.Meets.{MeetsSoFar, body_state}
use Rattle.cyp_kernel.specs.Naming.{expr_of}
use Rattle.cyp_kernel.specs.RuleLaws.{AllMeet, RuleLaw}
use Rattle.cyp_kernel.specs.Statements.{chunk_address, first_body, pre_cell_at}
use Rattle.cyp_machine.proofs.Options.{some_there}
use Rattle.cyp_machine.specs.Faults.{is_whole}
use Rattle.cyp_machine.specs.Runs.{Run}
use Rattle.cyp_machine.specs.States.{State}
use Rattle.cyp_machine.specs.Steps.{addresses, has_all, remove_all}
use Rattle.cyp_machine.specs.Values.{expr_value}
use Rattle.cyp_machine.specs.declared.cause.Cause.TheVariants.{FreeMissing}
use Rattle.cyp_prog.specs.Programs.{Giving, Then}
use Rattle.cyp_prog.specs.declared.stmt.Expr.{Expr}
use Rattle.cyp_step.specs.Changes.{add_pre, pre_of}
use Rattle.cyp_step.specs.FlatRules.{block_cells, raw_free, without_cells}
use Rattle.cyp_step.specs.Shown.{is_program_expr}
use Rattle.cyp_step.specs.declared.rule.Rule.TheVariants.{ByFree}
use Rattle.cyp_term.specs.Meaning.{value}

-- the heap without the block and its cells
abbrev pub freed : Store → ℤ → ℕ → Store
freed g z size = record { cells = remove_all g.cells (addresses z size); blocks = remove g.blocks z }

-- the chunk is a block at a program expression, and its cells are taken out of the other chunks
pub record Frees (n : Node) (i : ℕ) (o : Option Chunk) (ms : List Node) : Type 0 where
  pub block : BlockValue
  pub block_is : o ≡ Some (Block block)
  pub address : is_program_expr n.goal block.at ≡ true
  pub left : List Chunk
  pub cells : without_cells (block_cells block.at block.size) (without (pre_of n) i) ≡ Some left
  pub premise : ms ≡ add_pre n [] left ∷ []

pub free_parts : (n : Node) (i : ℕ) (o : Option Chunk) (ms : List Node) → raw_free n i o ≡ Some ms → Frees n i o ms
free_parts n i (Some (Block b)) ms is =
    let a = taken_true _ _ ms is in
    let d = mapped_some (λ (cs : List Chunk). add_pre n [] cs ∷ []) _ ms a.1 in
    record { block = b; block_is = refl; address = (and_parts _ _ a.0).1; left = d.0; cells = d.1; premise = sym d.2 }
free_parts n i o ms is = cc

pub by_free : (i : ℕ) → RuleLaw (ByFree i)
by_free i ps n ms bs names procs next k steady formed naming is callees all s h ns vs pre named m t le r =
    let w = free_parts n i (slice_get (pre_of n) i) ms is in
    let b : BlockValue = w.block in
    let inst : Instances = InstanceHolds n.preds in
    let node : Node = add_pre n [] w.left in
    let premise = one_premise ps names k node bs (subst (λ (xs : List Node). AllMeet ps names k xs bs) w.premise all) in
    let z : ℤ = value s b.at in
    let at : expr_value vs (expr_of names (pre_cell_at n i)) ≡ z =
    ap (λ (o : Option Chunk). expr_value vs (expr_of names (chunk_address o))) w.block_is ∙ expr_is names vs s n.goal b.at named w.address in
    let out = place_out inst s (pre_of n) i (Block b) h w.block_is (ns, pre.1, pre.2) in
    let rest : Store = out.rest in
    let cells = cells_out inst s (block_cells b.at b.size) (without (pre_of n) i) w.left rest out.others.0 w.cells out.others.1 out.others.2 in
    let single : IsDisjointUnion h.blocks (insert empty z b.size) rest.blocks = subst (λ (m : FinMap int_cmp ℕ). IsDisjointUnion h.blocks m rest.blocks) out.one.2 out.union.1 in
    let no_cell : IsDisjointUnion h.cells empty rest.cells = subst (λ (m : FinMap int_cmp ℤ). IsDisjointUnion h.cells m rest.cells) out.one.1 out.union.0 in
    let same_cells : h.cells ≡ rest.cells = union_with_none h.cells rest.cells no_cell in
    let there : get h.blocks z ≡ Some b.size =
    let one : get out.part.blocks z ≡ Some b.size = ap (λ (m : FinMap int_cmp ℕ). get m z) out.one.2 ∙ get_single z b.size in
    (union_left h.blocks out.part.blocks rest.blocks out.union.1 z (some_there (get out.part.blocks z) b.size one)).1 ∙ one in
    let addresses_are : map (value s) (block_cells b.at b.size) ≡ addresses z b.size = addresses_of s b.at b.size in
    let addresses_back = sym addresses_are in
    let cells_back = sym same_cells in
    let blocks_back = sym (remove_single h.blocks rest.blocks z b.size single) in
    let all_there : has_all h.cells (addresses z b.size) ≡ true = (λ j. has_all (same_cells j) (addresses_back j)) ∙ cells.there in
    let after : SideHolds n.preds s (n.goal.pure_pre ++ []) w.left (freed h z b.size) cells.heights = (
      true_join s n.goal.pure_pre [] pre.0 tt,
      subst (λ (a : Store). ChunksHold inst s w.left a cells.heights)
          (λ j. record { cells = remove_all (cells_back j) (addresses_are j); blocks = blocks_back j }) cells.holds,
      cells.cards,
    ) in
    go (expr_of names (pre_cell_at n i)) z b.size at there all_there
    (λ j u l q. same_post n.preds node.goal n.goal s s u (λ p. p) (premise s (freed h z b.size) cells.heights vs after named j u l q)) m t le r
  where
    whole : (g : Store) (z : ℤ) (o : Option ℕ) (size : ℕ) → o ≡ Some size → has_all g.cells (addresses z size) ≡ true → is_whole g z o ≡ true
    whole g z None size e a = absurd (none-some size e)
    whole g z (Some j) size e a = ap (λ (q : ℕ). has_all g.cells (addresses z q)) (same_Some j size e) ∙ a

    go : (x : Expr) (z : ℤ) (size : ℕ) → expr_value vs x ≡ z → get h.blocks z ≡ Some size → has_all h.cells (addresses z size) ≡ true
        → ((j : ℕ) (u : State) → j ≤ k → Run ps j (body_state (freed h z size) vs (first_body bs)) u → MeetsSoFar n.preds n.goal s u)
        → (m : ℕ) (t : State) → m ≤ k → Run ps m (body_state h vs (Then (Giving x) (first_body bs))) t → MeetsSoFar n.preds n.goal s t
    go x z size p there all_there after zero t le r =
        begun_run n.preds n.goal s h vs (Giving x) (first_body bs) t
        (no_fault_there (is_whole h (expr_value vs x) (get h.blocks (expr_value vs x))) FreeMissing
        (subst (λ (y : ℤ). is_whole h y (get h.blocks y) ≡ true) (sym p) (whole h z (get h.blocks z) size there all_there))) r
    go x z size p there all_there after (suc j) t le r =
        let same : r.1.0 ≡ size = same_Some r.1.0 size (sym r.1.1 ∙ ap (get h.blocks) p ∙ there) in
        after j t (less_suc j k le)
        (subst (λ (y : ℤ). Run ps j (body_state (freed h y size) vs (first_body bs)) t) p
        (subst (λ (q : ℕ). Run ps j (body_state (freed h (expr_value vs x) q) vs (first_body bs)) t) same (subst (λ (u : State). Run ps j u t) r.1.3 r.2)))
