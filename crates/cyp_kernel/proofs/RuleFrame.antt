-- Frame is sound: the premise's body runs beside the chunk, which is the focus at the end.
use Rattle.std.proofs.Common.{◌≡◌, refl, sym, ap, ◌∙◌, ℕ, ◌≤◌, [], ◌∷◌, ◌++◌, List, None, Option, Some, true, subst}
use Rattle.std.specs.Prelude.{is_none, slice_get}
use Rattle.std.proofs.lemmas.Bool.{false≢true}
use Rattle.std.proofs.lemmas.Option.{none-some, same_Some}
use Rattle.cyp_goal.proofs.EachVar.{Each}
use Rattle.cyp_goal.proofs.LinksFit.{FitsPost, FitsPre}
use Rattle.cyp_heap.proofs.Listings.{by_values}
use Rattle.cyp_heap.proofs.SameChunks.{SameChunk}
use Rattle.cyp_heap.specs.Assertions.{CardIs, CardsAre, SideHolds}
use Rattle.cyp_heap.specs.Chunks.{chunk_vars, without}
use Rattle.cyp_heap.specs.Instances.{ChunksHold, InstanceHolds, Instances}
use Rattle.cyp_heap.specs.Stores.{Store}
use Rattle.cyp_heap.specs.declared.chunk.Chunk.{Chunk}
use Rattle.cyp_heap.specs.declared.chunk.Chunk.TheVariants.{Block, Cell, Inst}
use Rattle.cyp_heap.specs.declared.goal.Node.{Node}
use Rattle.cyp_heap.specs.declared.pred.Preds.{Preds}
use Rattle.cyp_kernel.proofs.AgreeVars.{AgreeAt, same_by_vars}
use Rattle.cyp_kernel.proofs.Allowed.{taken_some, taken_true}
use Rattle.cyp_kernel.proofs.BodyRuns.{one_premise}
use Rattle.cyp_kernel.proofs.ChunkOrder.{OneAt, first_holds, place_out}
use Rattle.cyp_kernel.proofs.FramePairs.{InstFits, frame_same, pair_of_focus}
use Rattle.cyp_kernel.proofs.GoalFacts.{true_join, true_left, true_right}
use Rattle.cyp_kernel.proofs.HeapParts.{OneHolds, one_same, union_sym}
use Rattle.cyp_kernel.proofs.SteadyParts.{chunk_sorted_at, chunk_vars_among, post_chunk_fits, pre_apart, pre_chunk_fits, sorted_goal}
use Rattle.cyp_kernel.specs.Meets.{MeetsSoFar, body_state}
use Rattle.cyp_kernel.specs.RuleLaws.{AllMeet, RuleLaw}
use Rattle.cyp_kernel.specs.Statements.{first_body}
use Rattle.cyp_machine.proofs.FramedRuns.{framing, last_beside}
use Rattle.cyp_machine.specs.Runs.{Run}
use Rattle.cyp_machine.specs.States.{State, frames_ended, has_ended}
use Rattle.cyp_step.specs.Changes.{add_post, add_pre, post_of, pre_of}
use Rattle.cyp_step.specs.FlatRules.{pair_at}
use Rattle.cyp_step.specs.declared.rule.Rule.TheVariants.{ByFrame}
use Rattle.cyp_term.specs.Meaning.{AllTrue, Assignment}
use Rattle.cyp_term.specs.declared.lit.Lit.{Lit}
use Rattle.cyp_term.specs.declared.term.Var.{Var}
use Rattle.cyp_unify.specs.Frames.{focus, frame_lits, frame_pairs}
use Rattle.cyp_unify.specs.declared.found.Pair.{Pair}

pub head_out : {A : Type 0} (xs : List A) (x : A) → slice_get xs 0 ≡ Some x → x ∷ without xs 0 ≡ xs
head_out [] x e = absurd (none-some x e)
head_out (y ∷ xs) x e = ap (λ z. z ∷ xs) (sym (same_Some y x e))

pre_fits : (preds : Preds) (c : Chunk) → FitsPre preds c → InstFits preds c
pre_fits preds (Inst i) h = h.0
pre_fits preds (Block b) h = tt
pre_fits preds (Cell c) h = tt

post_fits : (preds : Preds) (c : Chunk) → FitsPost preds c → InstFits preds c
post_fits preds (Inst i) h = h.0
post_fits preds (Block b) h = tt
post_fits preds (Cell c) h = tt

-- a chunk's heap without its cardinality, and with the cardinality that it doesn't have
bare : (inst : Instances) (s : Assignment) (c : Chunk) (a : Store) → OneAt inst s c a → OneHolds inst s c a
bare inst s (Inst i) a o = (o.0, o.1)
bare inst s (Block b) a o = o
bare inst s (Cell c) a o = o

pub no_card : (t : Assignment) (c : Option Var) (m : ℕ) → is_none c ≡ true → CardIs t c m
no_card t None m e = tt
no_card t (Some v) m e = absurd (false≢true e)

uncarded : (preds : Preds) (inst : Instances) (s : Assignment) (c : Chunk) (a : Store) → FitsPost preds c → OneHolds inst s c a → OneAt inst s c a
uncarded preds inst s (Inst i) a h o = (o.0, o.1, no_card s i.card o.0 h.1)
uncarded preds inst s (Block b) a h o = o
uncarded preds inst s (Cell c) a h o = o

frames_same : (x y : State) → y.frames ≡ x.frames → has_ended y ≡ true → has_ended x ≡ true
frames_same x y e h = ap frames_ended (sym e) ∙ h

abbrev pub framed_node : Node → ℕ → Pair → Node
framed_node n i p = add_post (add_pre n [] (without (pre_of n) i)) p.lits (without (post_of n) 0)

pub by_frame : (i : ℕ) → RuleLaw (ByFrame i)
by_frame i ps n ms bs names procs next k steady formed naming is callees all s h ns vs pre named m t le r =
    let a = taken_some (pair_at i (frame_pairs n.goal)) _ ms is in
    let p : Pair = a.0 in
    let b = taken_true _ _ ms a.2 in
    let w = pair_of_focus (focus n.goal) (pre_of n) i p a.1 in
    let f : Chunk = w.0 in
    let c : Chunk = w.1 in
    let sorted = sorted_goal n steady in
    let premise = one_premise ps names k (framed_node n i p) bs (subst (λ (xs : List Node). AllMeet ps names k xs bs) (sym (same_Some _ ms b.1)) all) in
    let inst : Instances = InstanceHolds n.preds in
    let out = place_out inst s (pre_of n) i c h w.3 (ns, pre.1, pre.2) in
    let small : State = body_state out.rest vs (first_body bs) in
    let large : State = body_state h vs (first_body bs) in
    let start : SideHolds n.preds s (n.goal.pure_pre ++ []) (without (pre_of n) i) out.rest out.others.0 = (true_join s n.goal.pure_pre [] pre.0 tt, out.others.1, out.others.2) in
    let goes : (j : ℕ) (x : State) → j ≤ k → Run ps j small x → MeetsSoFar n.preds (framed_node n i p).goal s x = λ j x l y. premise s out.rest out.others.0 vs start named j x l y in
    let framed = framing ps k out.part large small (union_sym h out.part out.rest out.union, refl) (λ j x l y. (goes j x l y).no_fault) in
    let d = framed.1 m t le r in
    let last = last_beside ps out.part m large small t d.0 d.2 in
    record {
      no_fault = framed.0 m t le r;
      meets_post = λ ended.
          let met = (goes m d.0 le d.1).meets_post (frames_same d.0 t last.1 ended) in
          let u : Assignment = met.0 in
          let agree : Each (AgreeAt s u) (chunk_vars c) = λ v x. met.2 v (pre_apart n steady v (chunk_vars_among (pre_of n) i c w.3 v x)) in
          let lits : AllTrue u (frame_lits f c) = subst (λ (ls : List Lit). AllTrue u ls) w.5 (true_right u n.goal.pure_post p.lits met.3.0) in
          let focus_fits = post_chunk_fits n steady 0 f w.2 in
          let same : SameChunk u u c f = frame_same n.preds u f c (post_fits n.preds f focus_fits) (pre_fits n.preds c (pre_chunk_fits n steady i c w.3)) w.4 lits in
          let one : OneHolds inst u f out.part =
          one_same inst (by_values n.preds) u u c f out.part same
          (one_same inst (by_values n.preds) s u c c out.part (same_by_vars s u c (chunk_sorted_at (pre_of n) i c w.3 sorted.pre) agree) (bare inst s c out.part out.one)) in
          let whole = first_holds inst u f (without (post_of n) 0) t.store out.part d.0.store (union_sym t.store d.0.store out.part last.0) (uncarded n.preds inst u f out.part focus_fits one) (met.1, met.3.1, met.3.2) in
          let back : f ∷ without (post_of n) 0 ≡ post_of n = head_out (post_of n) f w.2 in (
            u,
            whole.0,
            met.2,
            (
              true_left u n.goal.pure_post p.lits met.3.0,
              subst (λ (cs : List Chunk). ChunksHold inst u cs t.store whole.0) back whole.1,
              subst (λ (cs : List Chunk). CardsAre u cs whole.0) back whole.2,
            ),
          );
    }
