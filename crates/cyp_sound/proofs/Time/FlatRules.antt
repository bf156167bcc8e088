-- The rules that unfold nothing and call nothing keep to their time.
use Rattle.cyp_goal.proofs.EachVar.{EachPart}
use Rattle.cyp_goal.specs.Facts.{facts}
use Rattle.cyp_goal.specs.Raw.{term_fits}
use Rattle.cyp_heap.proofs.CellCounts.{union_count}
use Rattle.cyp_heap.proofs.Unions.{union_left}
use Rattle.cyp_heap.specs.Assertions.{SideHolds}
use Rattle.cyp_heap.specs.BlockValue.{BlockValue}
use Rattle.cyp_heap.specs.Chunks.{without}
use Rattle.cyp_heap.specs.Instances.{ChunksHold, InstanceHolds, Instances}
use Rattle.cyp_heap.specs.Stores.{Store, cell_count, IsDisjointUnion}
use Rattle.cyp_heap.specs.declared.chunk.CellAt.{CellAt}
use Rattle.cyp_heap.specs.declared.chunk.Chunk.{Chunk}
use Rattle.cyp_heap.specs.declared.chunk.Chunk.TheVariants.{Block, Cell}
use Rattle.cyp_heap.specs.declared.goal.Node.{Node}
use Rattle.cyp_kernel.proofs.AgreeVars.{AgreeAt, is_number_var, side_by_vars, value_same}
use Rattle.cyp_kernel.proofs.Allowed.{taken_false, taken_some, taken_true, where_true_parts}
use Rattle.cyp_kernel.proofs.BodyRuns.{one_premise}
use Rattle.cyp_kernel.proofs.ChunkOrder.{place_out}
use Rattle.cyp_kernel.proofs.ForgetVars.{among_from_in}
use Rattle.cyp_kernel.proofs.FramePairs.{pair_of_focus}
use Rattle.cyp_kernel.proofs.GoalFacts.{facts_true, true_join}
use Rattle.cyp_kernel.proofs.HeapCells.{cards_set, cell_there, same_content, write_cell, written}
use Rattle.cyp_kernel.proofs.HeapParts.{get_single, union_with_none, union_sym}
use Rattle.cyp_kernel.proofs.HeapRemoved.{addresses_of, cells_out, remove_single}
use Rattle.cyp_kernel.proofs.NamedValues.{expr_is, named_with_new}
use Rattle.cyp_kernel.proofs.NewNumber.{new_out, old_parts, put_here, put_kept, put_new, put_number, numbers_are, put_numbers, int_var}
use Rattle.cyp_kernel.proofs.Offsets.{plus-zero}
use Rattle.cyp_kernel.proofs.RuleAlloc.{alloc_parts, alloc_node, alloc_chunks, taken, kept_side, cells_in}
use Rattle.cyp_kernel.proofs.RuleClose.{close_parts, closed_node}
use Rattle.cyp_kernel.proofs.RuleFrame.{framed_node}
use Rattle.cyp_kernel.proofs.RuleFree.{free_parts, freed}
use Rattle.cyp_kernel.proofs.RuleRead.{read_node, read_parts}
use Rattle.cyp_kernel.proofs.RuleWrite.{written_node, write_parts}
use Rattle.cyp_kernel.proofs.SteadyParts.{chunk_sorted_at, chunk_vars_among, sorted_goal}
use Rattle.cyp_kernel.specs.Meets.{MeetsSoFar, body_state}
use Rattle.cyp_kernel.specs.Naming.{Names, expr_of}
use Rattle.cyp_kernel.specs.RuleLaws.{AllMeet}
use Rattle.cyp_kernel.specs.Statements.{first_body, chunk_address, pre_cell_at, chunk_content, focus_content, block_size, focus_size}
use Rattle.cyp_machine.proofs.FramedRuns.{framing}
use Rattle.cyp_machine.proofs.Options.{some_there}
use Rattle.cyp_machine.specs.Runs.{Run}
use Rattle.cyp_machine.specs.States.{State}
use Rattle.cyp_machine.specs.Steps.{addresses, remove_all, IsFree}
use Rattle.cyp_machine.specs.Values.{expr_value}
use Rattle.cyp_prog.specs.Programs.{Loading, Giving, Taking, Storing}
use Rattle.cyp_sound.proofs.Time.CalledBody.{end_in_time}
use Rattle.cyp_sound.proofs.Time.OpenedMeasures.{bare_last}
use Rattle.cyp_sound.proofs.Time.Plain.{is_card}
use Rattle.cyp_sound.proofs.Time.RuleLaws.{AllKeepBefore, TimedRawLaw}
use Rattle.cyp_sound.proofs.Time.Statements.{one_keeps, place_moves, step_in_time}
use Rattle.cyp_sound.specs.Kept.{is_small}
use Rattle.cyp_step.specs.Changes.{add_post, post_of, pre_of, add_pre, new_int}
use Rattle.cyp_step.specs.FlatRules.{equal_vars, first_exist, block_cells, pair_at}
use Rattle.cyp_step.specs.declared.rule.Rule.TheVariants.{ByAlloc, ByClose, ByEmp, ByFrame, ByFree, ByInconsistent, ByPick, ByRead, ByWrite}
use Rattle.cyp_term.proofs.Entailment.{satisfiable_law}
use Rattle.cyp_term.proofs.Equality.{Decides-sort_eq}
use Rattle.cyp_term.proofs.Lists.{Among-right}
use Rattle.cyp_term.specs.Entailment.{satisfiable}
use Rattle.cyp_term.specs.Meaning.{Assignment, value}
use Rattle.cyp_term.specs.Terms.{term_vars, var_term, sort_eq, var_eq}
use Rattle.cyp_term.specs.declared.lit.Lit.TheVariants.{Eq}
use Rattle.cyp_term.specs.declared.term.Sort.{Sort}
use Rattle.cyp_term.specs.declared.term.Sort.TheVariants.{Int, Card}
use Rattle.cyp_term.specs.declared.term.Var.{Var}
use Rattle.cyp_unify.specs.Frames.{focus, frame_pairs}
use Rattle.cyp_unify.specs.declared.found.Pair.{Pair}
use Rattle.std.proofs.Common.{◌≡◌, refl, sym, ap, ◌∙◌, ℕ, suc, ◌+◌, ◌≤◌, ◌==◌, ◌&&◌, Bool, true, false, cond, length, List, [], ◌∷◌, ◌++◌, map, Option, Some, ℤ, arith, subst}
use Rattle.std.proofs.lemmas.Bool.{and_parts, both_ways, leb-true}
use Rattle.std.proofs.lemmas.Option.{same_Some, none-some}
use Rattle.std.specs.FinMap.{FinMap, empty, get, insert}
use Rattle.std.specs.List.{list_all}
use Rattle.std.specs.Ordering.{int_cmp}
use Rattle.std.specs.Prelude.{slice_get, slice_set}

pub inconsistent_in_time : TimedRawLaw ByInconsistent
inconsistent_in_time ps n ms bs names procs next k start formed steady plain naming is callee timed safe all s h ns vs z pre named place =
    let no_one = taken_false (satisfiable (facts n.goal)) (Some []) ms is in
    absurd (both_ways (satisfiable (facts n.goal)) no_one.0 ((satisfiable_law (facts n.goal)).1 (s, facts_true n.preds n.goal s h ns pre)))

pub emp_in_time : TimedRawLaw ByEmp
emp_in_time ps n ms bs names procs next k start formed steady plain naming is callee timed safe all s h ns vs z pre named place = end_in_time ps start k z h vs

pub pick_in_time : (v : Var) → TimedRawLaw (ByPick v)
pick_in_time v ps n ms bs names procs next k start formed steady plain naming is callee timed safe all s h ns vs z pre named place =
    let a = taken_some (first_exist n.goal) _ ms is in
    let b = where_true_parts _ _ ms a.2 in
    let node : Node = add_post n (equal_vars a.0 v ∷ []) (post_of n) in
    one_keeps ps names k start node bs (subst (λ (xs : List Node). AllKeepBefore ps names k start xs bs) (sym (same_Some _ ms b.1)) all) s h ns vs z pre named place

pub close_in_time : (c : ℕ) → TimedRawLaw (ByClose c)
close_in_time c ps n ms bs names procs next k start formed steady plain naming is callee timed safe all s h ns vs z pre named place =
    let w = close_parts n c (focus n.goal) ms is in
    one_keeps ps names k start (closed_node n w.2) bs (subst (λ (xs : List Node). AllKeepBefore ps names k start xs bs) w.4 all) s h ns vs z pre named place

-- ---- one statement

abbrev no_change : Assignment → Assignment → Type 0
no_change s u = (v : Var) → is_card v ≡ true → s.number v ≡ u.number v

int_beside : (k : ℕ) (v : Var) → is_card v ≡ true → var_eq (int_var k) v ≡ false
int_beside k v e = ap (λ (o : Sort). sort_eq Int o && (k == v.number)) ((Decides-sort_eq v.sort Card).0 e)

-- integers that are put leave the cardinalities
put_cards : (s : Assignment) (k : ℕ) (zs : List ℤ) → no_change s (put_numbers s k zs)
put_cards s k [] v e = refl
put_cards s k (z ∷ zs) v e = put_cards s (suc k) zs v e ∙ sym (ap (λ (b : Bool). cond b z ((put_numbers s (suc k) zs).number v)) (int_beside k v e))

steps_on : (z a : ℕ) → z ≤ suc z + a
steps_on z a = omega arith

pub write_in_time : (i : ℕ) → TimedRawLaw (ByWrite i)
write_in_time i ps n ms bs names procs next k start formed steady plain naming is callee timed safe all s h ns vs z pre named place =
    let w = write_parts n i (focus n.goal) (slice_get (pre_of n) i) ms is in
    let inst : Instances = InstanceHolds n.preds in
    let node : Node = written_node n i w.cell w.focus in
    let premise = one_keeps ps names k start node bs (subst (λ (xs : List Node). AllKeepBefore ps names k start xs bs) w.premise all) in
    let at : expr_value vs (expr_of names (pre_cell_at n i)) ≡ value s w.cell.at =
    ap (λ (o : Option Chunk). expr_value vs (expr_of names (chunk_address o))) w.cell_is ∙ expr_is names vs s n.goal w.cell.at named w.address in
    let content : expr_value vs (expr_of names (focus_content n)) ≡ value s w.focus.content =
    ap (λ (o : Option Chunk). expr_value vs (expr_of names (chunk_content o))) w.focus_is ∙ expr_is names vs s n.goal w.focus.content named w.content in
    let new : Store = written h (value s w.cell.at) (value s w.focus.content) in
    let after : SideHolds n.preds s (n.goal.pure_pre ++ []) (slice_set (pre_of n) i (Cell (record { at = w.cell.at; content = w.focus.content }))) new ns = (
      true_join s n.goal.pure_pre [] pre.0 tt,
      write_cell inst s (pre_of n) i w.cell w.focus.content h ns w.cell_is pre.1,
      cards_set inst s (pre_of n) i w.cell (record { at = w.cell.at; content = w.focus.content }) ns w.cell_is pre.2,
    ) in
    step_in_time ps k start h vs (Storing (expr_of names (pre_cell_at n i)) (expr_of names (focus_content n))) (first_body bs) z 0 refl (few tt) (one tt) place.cells
    (λ t st. record {
      heap = new;
      values = vs;
      state_is = st.1 ∙ (λ x. body_state (written h (at x) (content x)) vs (first_body bs));
      follows = λ room.
          premise s new ns vs (suc z + 0) after named
          (place_moves n.links s s h new z (suc z + 0) start (bare_last n.links plain.links) (λ v e. refl) (steps_on z 0) room place);
    })
  where
    few : Unit {0} → 0 ≤ 8
    few x = omega arith

    one : Unit {0} → 1 ≤ 1
    one x = omega arith

pub free_in_time : (i : ℕ) → TimedRawLaw (ByFree i)
free_in_time i ps n ms bs names procs next k start formed steady plain naming is callee timed safe all s h ns vs z pre named place =
    let w = free_parts n i (slice_get (pre_of n) i) ms is in
    let b : BlockValue = w.block in
    let inst : Instances = InstanceHolds n.preds in
    let node : Node = add_pre n [] w.left in
    let premise = one_keeps ps names k start node bs (subst (λ (xs : List Node). AllKeepBefore ps names k start xs bs) w.premise all) in
    let x : ℤ = value s b.at in
    let at : expr_value vs (expr_of names (pre_cell_at n i)) ≡ x =
    ap (λ (o : Option Chunk). expr_value vs (expr_of names (chunk_address o))) w.block_is ∙ expr_is names vs s n.goal b.at named w.address in
    let out = place_out inst s (pre_of n) i (Block b) h w.block_is (ns, pre.1, pre.2) in
    let rest : Store = out.rest in
    let cells = cells_out inst s (block_cells b.at b.size) (without (pre_of n) i) w.left rest out.others.0 w.cells out.others.1 out.others.2 in
    let single : IsDisjointUnion h.blocks (insert empty x b.size) rest.blocks = subst (λ (m : FinMap int_cmp ℕ). IsDisjointUnion h.blocks m rest.blocks) out.one.2 out.union.1 in
    let no_cell : IsDisjointUnion h.cells empty rest.cells = subst (λ (m : FinMap int_cmp ℤ). IsDisjointUnion h.cells m rest.cells) out.one.1 out.union.0 in
    let same_cells : h.cells ≡ rest.cells = union_with_none h.cells rest.cells no_cell in
    let there : get h.blocks x ≡ Some b.size =
    let one : get out.part.blocks x ≡ Some b.size = ap (λ (m : FinMap int_cmp ℕ). get m x) out.one.2 ∙ get_single x b.size in
    (union_left h.blocks out.part.blocks rest.blocks out.union.1 x (some_there (get out.part.blocks x) b.size one)).1 ∙ one in
    let addresses_are : map (value s) (block_cells b.at b.size) ≡ addresses x b.size = addresses_of s b.at b.size in
    let cells_back = sym same_cells in
    let blocks_back = sym (remove_single h.blocks rest.blocks x b.size single) in
    let new : Store = freed h x b.size in
    let after : SideHolds n.preds s (n.goal.pure_pre ++ []) w.left new cells.heights = (
      true_join s n.goal.pure_pre [] pre.0 tt,
      subst (λ (a : Store). ChunksHold inst s w.left a cells.heights)
          (λ j. record { cells = remove_all (cells_back j) (addresses_are j); blocks = blocks_back j }) cells.holds,
      cells.cards,
    ) in
    step_in_time ps k start h vs (Giving (expr_of names (pre_cell_at n i))) (first_body bs) z 0 refl (few tt) (one tt) place.cells
    (λ t st.
    let same : st.0 ≡ b.size = same_Some st.0 b.size (sym st.1 ∙ ap (get h.blocks) at ∙ there) in
    record {
      heap = new;
      values = vs;
      state_is = st.3 ∙ (λ y. body_state (freed h (at y) (same y)) vs (first_body bs));
      follows = λ room.
          premise s new cells.heights vs (suc z + 0) after named
          (place_moves n.links s s h new z (suc z + 0) start (bare_last n.links plain.links) (λ v e. refl) (steps_on z 0) room place);
    })
  where
    few : Unit {0} → 0 ≤ 8
    few x = omega arith

    one : Unit {0} → 1 ≤ 1
    one x = omega arith

pub read_in_time : (i : ℕ) → TimedRawLaw (ByRead i)
read_in_time i ps n ms bs names procs next k start formed steady plain naming is callee timed safe all s h ns vs z pre named place =
    let w = read_parts n i (slice_get (pre_of n) i) ms is in
    let c : CellAt = w.0 in
    let inst : Instances = InstanceHolds n.preds in
    let y : Var = new_int n in
    let x : ℤ = value s c.content in
    let u : Assignment = put_number s y x in
    let parts : EachPart (AgreeAt s u) n = put_new n s (x ∷ []) in
    let sorted = sorted_goal n steady.raw.steady in
    let more : Names = names ++ (y, next) ∷ [] in
    let premise = one_keeps ps more k start (read_node n i c) bs (subst (λ (xs : List Node). AllKeepBefore ps more k start xs bs) w.3 all) in
    let at : expr_value vs (expr_of names (pre_cell_at n i)) ≡ value s c.at =
    ap (λ (o : Option Chunk). expr_value vs (expr_of names (chunk_address o))) w.1 ∙ expr_is names vs s n.goal c.at named w.2 in
    let there : get h.cells (expr_value vs (expr_of names (pre_cell_at n i))) ≡ Some x = ap (get h.cells) at ∙ cell_there inst s (pre_of n) i c h ns w.1 pre.1 in
    let side : SideHolds n.preds u n.goal.pure_pre (pre_of n) h ns = side_by_vars s u n.preds n.goal.pure_pre (pre_of n) h ns sorted.pure_pre sorted.pre parts.pure_pre parts.pre pre in
    let same : value s c.content ≡ value u c.content =
    value_same s u c.content (and_parts (term_fits is_number_var c.at) (term_fits is_number_var c.content) (chunk_sorted_at (pre_of n) i (Cell c) w.1 sorted.pre)).1
    (λ v k. parts.pre v (chunk_vars_among (pre_of n) i (Cell c) w.1 v (Among-right v (term_vars c.at) (term_vars c.content) k))) in
    let bare : value u (var_term y) ≡ x = plus-zero (u.number y) ∙ put_here s y x in
    let after : SideHolds n.preds u (n.goal.pure_pre ++ Eq (var_term y) c.content ∷ []) (slice_set (pre_of n) i (Cell (record { at = c.at; content = var_term y }))) h ns = (
      true_join u n.goal.pure_pre (Eq (var_term y) c.content ∷ []) side.0 (bare ∙ same, tt),
      same_content inst u (pre_of n) i c (var_term y) h ns w.1 (sym same ∙ sym bare) side.1,
      cards_set inst u (pre_of n) i c (record { at = c.at; content = var_term y }) ns w.1 side.2,
    ) in
    let old = old_parts n in
    let new_names =
    named_with_new names vs s u n.goal.program y next naming (new_out n n.goal.program old.program) named (λ v e. put_kept n Int s (x ∷ []) v (old.program v (among_from_in v n.goal.program e))) in
    step_in_time ps k start h vs (Loading next (expr_of names (pre_cell_at n i))) (first_body bs) z 0 refl (few tt) (one tt) place.cells
    (λ t st.
    let read : st.0 ≡ u.number y = same_Some st.0 x (sym st.1 ∙ there) ∙ sym (put_here s y x) in
    record {
      heap = h;
      values = (next, u.number y) ∷ vs;
      state_is = st.2 ∙ (λ j. body_state h ((next, read j) ∷ vs) (first_body bs));
      follows = λ room.
          premise u h ns ((next, u.number y) ∷ vs) (suc z + 0) after new_names
          (place_moves n.links s u h h z (suc z + 0) start (bare_last n.links plain.links) (put_cards s y.number (x ∷ [])) (steps_on z 0) room place);
    })
  where
    few : Unit {0} → 0 ≤ 8
    few x = omega arith

    one : Unit {0} → 1 ≤ 1
    one x = omega arith

pub frame_in_time : (i : ℕ) → TimedRawLaw (ByFrame i)
frame_in_time i ps n ms bs names procs next k start formed steady plain naming is callee timed safe all s h ns vs z pre named place m e t le r =
    let a = taken_some (pair_at i (frame_pairs n.goal)) _ ms is in
    let p : Pair = a.0 in
    let b = taken_true _ _ ms a.2 in
    let w = pair_of_focus (focus n.goal) (pre_of n) i p a.1 in
    let c : Chunk = w.1 in
    let ms_is = sym (same_Some _ ms b.1) in
    let premise = one_premise ps names k (framed_node n i p) bs (subst (λ (xs : List Node). AllMeet ps names k xs bs) ms_is safe) in
    let keeps = one_keeps ps names k start (framed_node n i p) bs (subst (λ (xs : List Node). AllKeepBefore ps names k start xs bs) ms_is all) in
    let inst : Instances = InstanceHolds n.preds in
    let out = place_out inst s (pre_of n) i c h w.3 (ns, pre.1, pre.2) in
    let small : State = body_state out.rest vs (first_body bs) in
    let large : State = body_state h vs (first_body bs) in
    let begin : SideHolds n.preds s (n.goal.pure_pre ++ []) (without (pre_of n) i) out.rest out.others.0 = (true_join s n.goal.pure_pre [] pre.0 tt, out.others.1, out.others.2) in
    let goes : (j : ℕ) (x : State) → j ≤ k → Run ps j small x → MeetsSoFar n.preds (framed_node n i p).goal s x = λ j x l y. premise s out.rest out.others.0 vs begin named j x l y in
    let framed = framing ps k out.part large small (union_sym h out.part out.rest out.union, refl) (λ j x l y. (goes j x l y).no_fault) in
    let d = framed.1 m t le r.0 in
    keeps s out.rest out.others.0 vs z begin named
    (place_moves n.links s s h out.rest z z start (bare_last n.links plain.links) (λ v e. refl) (same z) (room (cell_count out.part) (cell_count out.rest) (cell_count h) z (union_count h out.part out.rest out.union) place.cells) place)
    m e d.0 le (d.1, d.3 ∙ r.1)
  where
    same : (z : ℕ) → z ≤ z
    same z = omega arith

    room : (a b c z : ℕ) → c ≡ a + b → suc c ≤ z → suc b ≤ z
    room a b c z p l = omega arith

-- the focus of a node whose blocks are small
small_focus : (cs : List Chunk) (f : BlockValue) → slice_get cs 0 ≡ Some (Block f) → list_all is_small cs ≡ true → f.size ≤ 8
small_focus [] f e h = absurd (none-some (Block f) e)
small_focus (c ∷ cs) f e h =
    leb-true f.size 8 (subst (λ (x : Chunk). is_small x ≡ true) (same_Some c (Block f) e) (and_parts (is_small c) (list_all is_small cs) h).0)

pub alloc_in_time : TimedRawLaw ByAlloc
alloc_in_time ps n ms bs names procs next k start formed steady plain naming is callee timed safe all s h ns vs z pre named place =
    let w = alloc_parts n (focus n.goal) ms is in
    let f : BlockValue = w.0 in
    let more : Names = names ++ (new_int n, next) ∷ [] in
    let premise = one_keeps ps more k start (alloc_node n f) bs (subst (λ (xs : List Node). AllKeepBefore ps more k start xs bs) w.2 all) in
    let size : focus_size n ≡ f.size = ap block_size w.1 in
    step_in_time ps k start h vs (Taking next (focus_size n)) (first_body bs) z f.size size (small_focus (post_of n) f w.1 plain.post_small) (one tt) place.cells
    (λ t st.
    let a : ℤ = st.0 in
    let zs : List ℤ = st.1 in
    let long : length zs ≡ f.size = st.2 ∙ size in
    let free : IsFree h a (length zs) = subst (λ (q : ℕ). IsFree h a q) (size ∙ sym long) st.3 in
    let x : Var = new_int n in
    let u : Assignment = put_numbers s x.number (a ∷ zs) in
    let old = old_parts n in
    let base : u.number x ≡ a = (numbers_are s x.number (a ∷ zs)).0 in
    let kept = kept_side n steady.raw.steady s h ns pre a zs free in
    let heap = cells_in n steady.raw.steady s h ns pre a zs free in
    let new : Store = taken h a f.size zs in
    let after : (q : ℕ) → length zs ≡ q → SideHolds n.preds u (n.goal.pure_pre ++ []) (alloc_chunks n q) (taken h a q zs) heap.0 =
    λ q e. subst (λ (q : ℕ). SideHolds n.preds u (n.goal.pure_pre ++ []) (alloc_chunks n q) (taken h a q zs) heap.0) e (true_join u n.goal.pure_pre [] kept.0 tt, heap.1, heap.2) in
    let new_names =
    named_with_new names vs s u n.goal.program x next naming (new_out n n.goal.program old.program) named (λ v e. put_kept n Int s (a ∷ zs) v (old.program v (among_from_in v n.goal.program e))) in
    record {
      heap = new;
      values = (next, u.number x) ∷ vs;
      state_is = st.5 ∙ (λ j. body_state (taken h a (size j) zs) ((next, sym base j) ∷ vs) (first_body bs));
      follows = λ room.
          premise u new heap.0 ((next, u.number x) ∷ vs) (suc z + f.size) (after f.size long) new_names
          (place_moves n.links s u h new z (suc z + f.size) start (bare_last n.links plain.links) (put_cards s x.number (a ∷ zs)) (steps_on z f.size) room place);
    })
  where
    one : Unit {0} → 1 ≤ 1
    one x = omega arith
