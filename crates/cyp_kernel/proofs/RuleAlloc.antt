-- Alloc is sound: the new block is beside the heap, and the new variables are its base and its contents.
use Rattle.std.proofs.Common.{◌≡◌, refl, sym, ap, ◌∙◌, ℕ, zero, suc, ◌≤◌, [], ◌∷◌, ◌++◌, List, Option, Some, map, length, ℤ, pos, ◌<ℤ◌, subst}
use Rattle.std.specs.FinMap.{empty, insert}
use Rattle.std.proofs.lemmas.Option.{same_Some}
use Rattle.cyp_goal.proofs.EachVar.{EachPart}
use Rattle.cyp_heap.proofs.Unions.{empty_beside, one_beside}
use Rattle.cyp_heap.specs.Assertions.{SideHolds}
use Rattle.cyp_heap.specs.BlockValue.{BlockValue}
use Rattle.cyp_heap.specs.Chunks.{put, put_all}
use Rattle.cyp_heap.specs.Instances.{InstanceHolds, Instances}
use Rattle.cyp_heap.specs.Stores.{Store}
use Rattle.cyp_heap.specs.declared.chunk.Chunk.{Chunk}
use Rattle.cyp_heap.specs.declared.chunk.Chunk.TheVariants.{Block}
use Rattle.cyp_heap.specs.declared.goal.Node.{Node}
use Rattle.cyp_kernel.proofs.AgreeVars.{AgreeAt, side_by_vars}
use Rattle.cyp_kernel.proofs.Allowed.{where_true_parts}
use Rattle.cyp_kernel.proofs.BodyRuns.{begun_run, less_suc, one_premise, same_post}
use Rattle.cyp_kernel.proofs.ChunkOrder.{AllHold, put_all_holds, put_holds}
use Rattle.cyp_kernel.proofs.ForgetVars.{among_from_in, met_by_others}
use Rattle.cyp_kernel.proofs.GoalFacts.{true_join, true_left}
use Rattle.cyp_kernel.proofs.HeapAdded.{cells_at, new_cells_hold}
use Rattle.cyp_kernel.proofs.NamedValues.{named_with_new}
use Rattle.cyp_kernel.proofs.NewNumber.{new_out, numbers_are, old_parts, put_kept, put_new, put_numbers}
use Rattle.cyp_kernel.proofs.Offsets.{plus-zero}
use Rattle.cyp_kernel.proofs.SteadyParts.{sorted_goal}
use Rattle.cyp_kernel.specs.Meets.{BodyMeets, IsNaming, AreNamed, MeetsSoFar, body_state}
use Rattle.cyp_kernel.specs.Naming.{Names}
use Rattle.cyp_kernel.specs.RuleLaws.{AllMeet, RuleLaw}
use Rattle.cyp_kernel.specs.Statements.{block_size, first_body, focus_size}
use Rattle.cyp_kernel.specs.Steady.{IsSteady}
use Rattle.cyp_machine.proofs.CellUnions.{union_insert_all}
use Rattle.cyp_machine.specs.Runs.{Run}
use Rattle.cyp_machine.specs.States.{State}
use Rattle.cyp_machine.specs.Steps.{IsFree, insert_all}
use Rattle.cyp_machine.specs.Values.{Values}
use Rattle.cyp_pred.specs.Unfold.{new_ints}
use Rattle.cyp_prog.specs.Programs.{Body, Procedure, Taking, Then}
use Rattle.cyp_step.specs.Changes.{add_post, add_pre, new_int, post_of, pre_of}
use Rattle.cyp_step.specs.FlatRules.{new_cells, raw_alloc}
use Rattle.cyp_step.specs.declared.rule.Rule.TheVariants.{ByAlloc}
use Rattle.cyp_term.specs.Meaning.{Assignment, value}
use Rattle.cyp_term.specs.Terms.{plus, var_term}
use Rattle.cyp_term.specs.declared.lit.Lit.TheVariants.{Eq}
use Rattle.cyp_term.specs.declared.term.Sort.TheVariants.{Int}
use Rattle.cyp_term.specs.declared.term.Var.{Var}
use Rattle.cyp_unify.specs.Frames.{focus}

-- the chunks after an allocation of so many cells
abbrev pub alloc_chunks : Node → ℕ → List Chunk
alloc_chunks n size =
    let z : Var = new_int n in
    put_all (put (pre_of n) (Block (record { at = var_term z; size = size }))) (new_cells (var_term z) 0 (map var_term (new_ints (suc z.number) size)))

abbrev pub alloc_node : Node → BlockValue → Node
alloc_node n f =
    let z : Var = new_int n in
    let q : Node = add_post (add_pre n [] (alloc_chunks n f.size)) (Eq f.at (var_term z) ∷ []) (post_of n) in
    record q { goal = record q.goal { program = n.goal.program ++ z ∷ [] } }

pub alloc_parts : (n : Node) (o : Option Chunk) (ms : List Node) → raw_alloc n o ≡ Some ms → (f : BlockValue) × (o ≡ Some (Block f)) × (ms ≡ alloc_node n f ∷ [])
alloc_parts n (Some (Block f)) ms is = (f, refl, sym (same_Some _ ms (where_true_parts _ _ ms is).1))
alloc_parts n o ms is = cc

-- the heap with the new block and its cells
abbrev pub taken : Store → ℤ → ℕ → List ℤ → Store
taken h a size zs = record { cells = insert_all h.cells a zs; blocks = insert h.blocks a size }

-- the block and the cells are put among the chunks
module _ (n : Node) (steady : IsSteady n) (s : Assignment) (h : Store) (ns : List ℕ) (pre : SideHolds n.preds s n.goal.pure_pre n.goal.pre.chunks h ns) (a : ℤ) (zs : List ℤ) (free : IsFree h a (length zs)) where
  abbrev pub inst : Instances
  inst = InstanceHolds n.preds

  -- the new variable is the base, and those behind it are the contents
  abbrev pub taken_values : Assignment
  taken_values = put_numbers s (new_int n).number (a ∷ zs)

  base_value_is : value taken_values (var_term (new_int n)) ≡ a
  base_value_is = plus-zero (taken_values.number (new_int n)) ∙ (numbers_are s (new_int n).number (a ∷ zs)).0

  pub kept_side : SideHolds n.preds taken_values n.goal.pure_pre (pre_of n) h ns
  kept_side =
      let sorted = sorted_goal n steady in
      let parts = put_new n s (a ∷ zs) in
      side_by_vars s taken_values n.preds n.goal.pure_pre (pre_of n) h ns sorted.pure_pre sorted.pre parts.pure_pre parts.pre pre

  block_in : AllHold inst taken_values (put (pre_of n) (Block (record { at = var_term (new_int n); size = length zs }))) (record { cells = h.cells; blocks = insert h.blocks a (length zs) })
  block_in =
      let one : Store = record { cells = empty; blocks = insert empty a (length zs) } in
      let back = sym base_value_is in
      put_holds inst taken_values (pre_of n) (Block (record { at = var_term (new_int n); size = length zs })) (record { cells = h.cells; blocks = insert h.blocks a (length zs) }) one h
      (empty_beside h.cells, one_beside h.blocks a (length zs) free.2)
      (subst (λ (y : ℤ). pos 0 <ℤ y) back free.0, refl, (λ i. insert empty (back i) (length zs)))
      (ns, kept_side.1, kept_side.2)

  pub cells_in : AllHold inst taken_values (alloc_chunks n (length zs)) (taken h a (length zs) zs)
  cells_in =
      let z : Var = new_int n in
      let with_block : Store = record { cells = h.cells; blocks = insert h.blocks a (length zs) } in
      let bare : value taken_values (plus (var_term z) (pos 0)) ≡ a = base_value_is in
      put_all_holds inst taken_values (put (pre_of n) (Block (record { at = var_term z; size = length zs }))) (new_cells (var_term z) 0 (map var_term (new_ints (suc z.number) (length zs))))
      (taken h a (length zs) zs) (cells_at a zs) with_block
      (union_insert_all h.cells empty h.cells (empty_beside h.cells) a zs free.1, empty_beside (insert h.blocks a (length zs)))
      (new_cells_hold inst taken_values (var_term z) 0 (suc z.number) a zs free.0 bare (numbers_are s z.number (a ∷ zs)).1)
      block_in

-- what the premise's body does after the allocation is right for the node
after_alloc : (ps : List Procedure) (n : Node) (f : BlockValue) (names : Names) (next k : ℕ) (b : Body) → IsSteady n → IsNaming names n.goal.program next
    → BodyMeets ps n.preds (alloc_node n f).goal (names ++ (new_int n, next) ∷ []) k b
    → (s : Assignment) (h : Store) (ns : List ℕ) (vs : Values) → SideHolds n.preds s n.goal.pure_pre n.goal.pre.chunks h ns → AreNamed names vs s n.goal.program
    → (a : ℤ) (zs : List ℤ) → length zs ≡ f.size → IsFree h a f.size
    → (j : ℕ) (t : State) → j ≤ k → Run ps j (body_state (taken h a f.size zs) ((next, a) ∷ vs) b) t → MeetsSoFar n.preds n.goal s t
after_alloc ps n f names next k b steady naming premise s h ns vs pre named a zs long free j t le r =
    let z : Var = new_int n in
    let free' : IsFree h a (length zs) = subst (λ (q : ℕ). IsFree h a q) (sym long) free in
    let u : Assignment = put_numbers s z.number (a ∷ zs) in
    let parts : EachPart (AgreeAt s u) n = put_new n s (a ∷ zs) in
    let old = old_parts n in
    let sorted = sorted_goal n steady in
    let base : u.number z ≡ a = (numbers_are s z.number (a ∷ zs)).0 in
    let kept = kept_side n steady s h ns pre a zs free' in
    let heap = cells_in n steady s h ns pre a zs free' in
    let after : (size : ℕ) → length zs ≡ size → SideHolds n.preds u (n.goal.pure_pre ++ []) (alloc_chunks n size) (taken h a size zs) heap.0 =
    λ size e. subst (λ (q : ℕ). SideHolds n.preds u (n.goal.pure_pre ++ []) (alloc_chunks n q) (taken h a q zs) heap.0) e (true_join u n.goal.pure_pre [] kept.0 tt, heap.1, heap.2) in
    let new_names =
    named_with_new names vs s u n.goal.program z next naming (new_out n n.goal.program old.program) named (λ v e. put_kept n Int s (a ∷ zs) v (old.program v (among_from_in v n.goal.program e))) in
    let done = premise u (taken h a f.size zs) heap.0 ((next, u.number z) ∷ vs) (after f.size long) new_names j t le
    (subst (λ (y : ℤ). Run ps j (body_state (taken h a f.size zs) ((next, y) ∷ vs) b) t) (sym base) r) in
    same_post n.preds (alloc_node n f).goal n.goal u s t
    (λ p. met_by_others n.preds n.goal s u t.store sorted.pure_post sorted.post parts.pure_post parts.post
    (p.0, p.1, p.2, (true_left p.0 n.goal.pure_post (Eq f.at (var_term z) ∷ []) p.3.0, p.3.1, p.3.2))) done

pub by_alloc : RuleLaw ByAlloc
by_alloc ps n ms bs names procs next k steady formed naming is callees all s h ns vs pre named m t le r =
    let w = alloc_parts n (focus n.goal) ms is in
    let more : Names = names ++ (new_int n, next) ∷ [] in
    let premise = one_premise ps more k (alloc_node n w.0) bs (subst (λ (xs : List Node). AllMeet ps more k xs bs) w.2 all) in
    let size : focus_size n ≡ w.0.size = ap block_size w.1 in
    go (focus_size n) w.0.size size (after_alloc ps n w.0 names next k (first_body bs) steady naming premise s h ns vs pre named) m t le r
  where
    go : (size' size : ℕ) → size' ≡ size
        → ((a : ℤ) (zs : List ℤ) → length zs ≡ size → IsFree h a size
        → (j : ℕ) (u : State) → j ≤ k → Run ps j (body_state (taken h a size zs) ((next, a) ∷ vs) (first_body bs)) u → MeetsSoFar n.preds n.goal s u)
        → (m : ℕ) (t : State) → m ≤ k → Run ps m (body_state h vs (Then (Taking next size') (first_body bs))) t → MeetsSoFar n.preds n.goal s t
    go size' size e after zero t le r = begun_run n.preds n.goal s h vs (Taking next size') (first_body bs) t refl r
    go size' size e after (suc j) t le r =
        let a : ℤ = r.1.0 in
        let zs : List ℤ = r.1.1 in
        after a zs (r.1.2 ∙ e) (subst (λ (q : ℕ). IsFree h a q) e r.1.3) j t (less_suc j k le)
        (subst (λ (q : ℕ). Run ps j (body_state (taken h a q zs) ((next, a) ∷ vs) (first_body bs)) t) e (subst (λ (u : State). Run ps j u t) r.1.5 r.2))
