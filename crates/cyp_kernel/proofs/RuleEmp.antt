-- Emp is sound: the heap is empty on both sides, and the pure postcondition follows from the facts.
use Rattle.std.proofs.Common.{◌≡◌, sym, ◌&&◌, ◌==◌, [], List, Some, length, subst}
use Rattle.std.proofs.lemmas.Bool.{and_parts}
use Rattle.cyp_heap.specs.Assertions.{CardsAre}
use Rattle.cyp_heap.specs.Instances.{ChunksHold, InstanceHolds}
use Rattle.cyp_heap.specs.Stores.{no_store}
use Rattle.cyp_heap.specs.declared.chunk.Chunk.{Chunk}
use Rattle.cyp_kernel.proofs.Allowed.{empty_list, taken_true}
use Rattle.cyp_kernel.proofs.BodyRuns.{ended_run}
use Rattle.cyp_kernel.proofs.ForgetVars.{agree_self}
use Rattle.cyp_kernel.proofs.GoalFacts.{facts_true, shown_true}
use Rattle.cyp_kernel.specs.RuleLaws.{RuleLaw}
use Rattle.cyp_step.specs.Changes.{post_of, pre_of}
use Rattle.cyp_step.specs.Shown.{shown}
use Rattle.cyp_step.specs.declared.rule.Rule.TheVariants.{ByEmp}

pub by_emp : RuleLaw ByEmp
by_emp ps n ms bs names procs next k steady formed naming is callees all s h ns vs pre named m t le r =
    let a = taken_true (length (pre_of n) == 0 && length (post_of n) == 0 && length n.goal.exist == 0) _ ms is in
    let b = taken_true (shown n.goal n.goal.pure_post) (Some []) ms a.1 in
    let c = and_parts (length (pre_of n) == 0 && length (post_of n) == 0) (length n.goal.exist == 0) a.0 in
    let d = and_parts (length (pre_of n) == 0) (length (post_of n) == 0) c.0 in
    let no_pre = empty_list (pre_of n) d.0 in
    let no_post = empty_list (post_of n) d.1 in
    let nothing : (h ≡ no_store) × (ns ≡ []) = subst (λ (cs : List Chunk). ChunksHold (InstanceHolds n.preds) s cs h ns) no_pre pre.1 in
    let chunks : ChunksHold (InstanceHolds n.preds) s n.goal.post.chunks h [] = subst (λ (cs : List Chunk). ChunksHold (InstanceHolds n.preds) s cs h []) (sym no_post) (nothing.0, λ i. []) in
    let cards : CardsAre s n.goal.post.chunks [] = subst (λ (cs : List Chunk). CardsAre s cs []) (sym no_post) tt in
    ended_run ps n.preds n.goal s h vs m t
    (s, [], (λ v x. agree_self v.sort s v), (shown_true n.goal n.goal.pure_post b.0 s (facts_true n.preds n.goal s h ns pre), chunks, cards)) r
