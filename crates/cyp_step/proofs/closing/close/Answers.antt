use Rattle.std.proofs.Common.{◌≡◌, ◌∙◌, ◌∷◌, [], Bor, IsTrue, Some, ap, option_map, slice_get, subst, sym}
use Rattle.std.proofs.lemmas.Bool.{ltb-true}
use Rattle.cyp_heap.specs.Formed.{insts_fit}
use Rattle.cyp_heap.specs.declared.chunk.Chunk.TheVariants.{Inst}
use Rattle.cyp_heap.specs.declared.chunk.InstOf.{InstOf}
use Rattle.cyp_heap.specs.declared.goal.Goal.{Goal}
use Rattle.cyp_step.proofs.CanUnfold.{card_missing}
use Rattle.cyp_step.proofs.CloseSteps.{closed_as, entry_missing, entry_there, fit_closed, left_as}
use Rattle.cyp_step.proofs.ClosedNodes.{focus_card, focus_fits, no_entry, not_closed, too_deep}
use Rattle.cyp_step.proofs.FlatFits.{for_some}
use Rattle.cyp_step.proofs.OpenSteps.{inst_missing, inst_there, none_from, within_from}
use Rattle.cyp_step.specs.Changes.{post_of}
use Rattle.cyp_step.specs.declared.rule.Rule.TheVariants.{ByClose}
use Rattle.cyp_step.proofs.closing.close.Goals as goal

pub returns-in_default : goal.returns-in_default
returns-in_default c =
    let n = c.args.node.now in
    not_closed n c.args.clause (inst_missing 0 c.chunks.result.now (post_of n) _ (c.chunks.ensures.chunks ∙ ap (λ (g : Goal). g.post.chunks) c.goal-goal.ensures.goal) c.inst_in.ensures (ap (option_map (λ (r : Bor InstOf). r.now)) (none_from c.inst_in.result c.in_default.not-Some)))

pub returns-then-not-can_be_raised : goal.returns-then-not-can_be_raised
returns-then-not-can_be_raised c =
    let n = c.args.node.now in
    let at = (inst_there 0 c.chunks.result.now (post_of c.args.node.now) _ (c.chunks.ensures.chunks ∙ ap (λ (g : Goal). g.post.chunks) c.goal-goal.ensures.goal) c.inst_in.ensures c.in-Some.inst.now (ap (option_map (λ (r : Bor InstOf). r.now)) c.in-Some.is)) in
    too_deep n c.args.clause c.in-Some.inst.now at (sym c.can_be_raised.ensures ∙ c.if-not-can_be_raised.true)

pub one_entry-requires-clause-fits : goal.one_entry-requires-clause-fits
one_entry-requires-clause-fits c =
    let n = c.args.node.now in
    let at = (inst_there 0 c.chunks.result.now (post_of c.args.node.now) _ (c.chunks.ensures.chunks ∙ ap (λ (g : Goal). g.post.chunks) c.goal-goal.ensures.goal) c.inst_in.ensures c.in-Some.inst.now (ap (option_map (λ (r : Bor InstOf). r.now)) c.in-Some.is)) in
    focus_fits n c.args.clause c.in-Some.inst.now at c.goal-goal.ensures.keeps

pub one_entry-requires-clause-card : goal.one_entry-requires-clause-card
one_entry-requires-clause-card c =
    let n = c.args.node.now in
    let at = (inst_there 0 c.chunks.result.now (post_of c.args.node.now) _ (c.chunks.ensures.chunks ∙ ap (λ (g : Goal). g.post.chunks) c.goal-goal.ensures.goal) c.inst_in.ensures c.in-Some.inst.now (ap (option_map (λ (r : Bor InstOf). r.now)) c.in-Some.is)) in
    card_missing c.in-Some.inst.now.card (focus_card n c.args.clause c.in-Some.inst.now at c.goal-goal.ensures.keeps)

pub one_entry-requires-clause-tag : goal.one_entry-requires-clause-tag
one_entry-requires-clause-tag c =
    let n = c.args.node.now in
    ltb-true c.in-Some.inst.now.tag 255 (sym c.can_be_raised.ensures ∙ c.if-not-can_be_raised.false)

pub returns-in_default-2 : goal.returns-in_default-2
returns-in_default-2 c =
    let n = c.args.node.now in
    let at = (inst_there 0 c.chunks.result.now (post_of c.args.node.now) _ (c.chunks.ensures.chunks ∙ ap (λ (g : Goal). g.post.chunks) c.goal-goal.ensures.goal) c.inst_in.ensures c.in-Some.inst.now (ap (option_map (λ (r : Bor InstOf). r.now)) c.in-Some.is)) in
    no_entry n c.args.clause c.in-Some.inst.now at (entry_missing n c.args.clause c.in-Some.inst.now c.in_ok-next.next c.in_ok-next.ensures.next _ c.in_ok-entry.ensures (none_from _ c.in_default-2.not-Some))

pub closed_goal-requires : goal.closed_goal-requires
closed_goal-requires c =
    let n = c.args.node.now in
    let at = (inst_there 0 c.chunks.result.now (post_of c.args.node.now) _ (c.chunks.ensures.chunks ∙ ap (λ (g : Goal). g.post.chunks) c.goal-goal.ensures.goal) c.inst_in.ensures c.in-Some.inst.now (ap (option_map (λ (r : Bor InstOf). r.now)) c.in-Some.is)) in
    within_from c.goal-goal.result.now.post.chunks 0 _ (subst (λ (g : Goal). slice_get g.post.chunks 0 ≡ Some (Inst c.in-Some.inst.now)) (sym c.goal-goal.ensures.goal) at)

pub left-requires : goal.left-requires
left-requires c =
    let n = c.args.node.now in
    let at = (inst_there 0 c.chunks.result.now (post_of c.args.node.now) _ (c.chunks.ensures.chunks ∙ ap (λ (g : Goal). g.post.chunks) c.goal-goal.ensures.goal) c.inst_in.ensures c.in-Some.inst.now (ap (option_map (λ (r : Bor InstOf). r.now)) c.in-Some.is)) in
    for_some (λ h. IsTrue (insts_fit n.preds h)) (Some c.in_ok-closed.closed) (fit_closed n c.args.clause c.in-Some.inst.now c.in_ok-next.next c.in_ok-next.ensures.next at (sym c.can_be_raised.ensures ∙ c.if-not-can_be_raised.false) c.in-Some-2.entry (entry_there n c.args.clause c.in-Some.inst.now c.in_ok-next.next c.in_ok-next.ensures.next _ c.in-Some-2.entry c.in_ok-entry.ensures c.in-Some-2.is) c.in_ok-closed.closed c.goal-goal.result.now c.goal-goal.ensures.goal c.in_ok-closed.ensures c.goal-goal.ensures.keeps c.get.result.now (c.get.ensures ∙ c.preds.ensures.preds) c.list-formed.ensures.formed)

pub returns : goal.returns
returns c =
    let n = c.args.node.now in
    let at = (inst_there 0 c.chunks.result.now (post_of c.args.node.now) _ (c.chunks.ensures.chunks ∙ ap (λ (g : Goal). g.post.chunks) c.goal-goal.ensures.goal) c.inst_in.ensures c.in-Some.inst.now (ap (option_map (λ (r : Bor InstOf). r.now)) c.in-Some.is)) in
    left_as n (ByClose c.args.clause) (Some (record n { goal = c.in_ok-closed.closed } ∷ [])) c.left.result (closed_as n c.args.clause c.in-Some.inst.now c.in_ok-next.next c.in_ok-next.ensures.next at (sym c.can_be_raised.ensures ∙ c.if-not-can_be_raised.false) c.in-Some-2.entry (entry_there n c.args.clause c.in-Some.inst.now c.in_ok-next.next c.in_ok-next.ensures.next _ c.in-Some-2.entry c.in_ok-entry.ensures c.in-Some-2.is) c.in_ok-closed.closed c.goal-goal.result.now c.goal-goal.ensures.goal c.in_ok-closed.ensures) c.left.ensures
