use Rattle.std.proofs.Common.{◌∙◌, Bor, ap, option_map, sym}
use Rattle.cyp_heap.specs.declared.chunk.InstOf.{InstOf}
use Rattle.cyp_heap.specs.declared.goal.Goal.{Goal}
use Rattle.cyp_step.proofs.OpenSteps.{entries_are, entries_wide, fit_each, inst_missing, inst_there, none_from, opened_as, room_tag, tested_as, within_from}
use Rattle.cyp_step.proofs.OpenedNodes.{its_card, its_fit, no_room, not_opened, not_tested, opened_wide}
use Rattle.cyp_step.proofs.CanUnfold.{card_there}
use Rattle.cyp_step.specs.Changes.{pre_of}
use Rattle.cyp_step.proofs.opening.open.Goals as goal

pub returns-in_default : goal.returns-in_default
returns-in_default c =
    let n = c.args.node.now in
    not_opened n c.args.place (inst_missing c.args.place c.chunks.result.now (pre_of n) _ (c.chunks.ensures.chunks ∙ ap (λ (g : Goal). g.pre.chunks) c.goal.ensures.goal) c.inst_in.ensures (ap (option_map (λ (r : Bor InstOf). r.now)) (none_from c.inst_in.result c.in_default.not-Some)))

pub returns-then-not-has_room : goal.returns-then-not-has_room
returns-then-not-has_room c =
    let n = c.args.node.now in
    let at = (inst_there c.args.place c.chunks.result.now (pre_of c.args.node.now) _ (c.chunks.ensures.chunks ∙ ap (λ (g : Goal). g.pre.chunks) c.goal.ensures.goal) c.inst_in.ensures c.in-Some.inst.now (ap (option_map (λ (r : Bor InstOf). r.now)) c.in-Some.is)) in
    no_room n c.args.place c.in-Some.inst.now at (sym c.has_room.ensures ∙ c.if-not-has_room.true)

pub all_entries-requires-clause-fits : goal.all_entries-requires-clause-fits
all_entries-requires-clause-fits c =
    let n = c.args.node.now in
    let at = (inst_there c.args.place c.chunks.result.now (pre_of c.args.node.now) _ (c.chunks.ensures.chunks ∙ ap (λ (g : Goal). g.pre.chunks) c.goal.ensures.goal) c.inst_in.ensures c.in-Some.inst.now (ap (option_map (λ (r : Bor InstOf). r.now)) c.in-Some.is)) in
    its_fit n c.args.place c.in-Some.inst.now at c.goal.ensures.keeps

pub all_entries-requires-clause-card : goal.all_entries-requires-clause-card
all_entries-requires-clause-card c =
    let n = c.args.node.now in
    let at = (inst_there c.args.place c.chunks.result.now (pre_of c.args.node.now) _ (c.chunks.ensures.chunks ∙ ap (λ (g : Goal). g.pre.chunks) c.goal.ensures.goal) c.inst_in.ensures c.in-Some.inst.now (ap (option_map (λ (r : Bor InstOf). r.now)) c.in-Some.is)) in
    card_there c.in-Some.inst.now.card (its_card n c.args.place c.in-Some.inst.now at c.goal.ensures.keeps)

pub all_entries-requires-clause-tag : goal.all_entries-requires-clause-tag
all_entries-requires-clause-tag c =
    let n = c.args.node.now in
    room_tag n c.in-Some.inst.now (sym c.has_room.ensures ∙ c.if-not-has_room.false)

pub returns-in_default-2 : goal.returns-in_default-2
returns-in_default-2 c =
    let n = c.args.node.now in
    let at = (inst_there c.args.place c.chunks.result.now (pre_of c.args.node.now) _ (c.chunks.ensures.chunks ∙ ap (λ (g : Goal). g.pre.chunks) c.goal.ensures.goal) c.inst_in.ensures c.in-Some.inst.now (ap (option_map (λ (r : Bor InstOf). r.now)) c.in-Some.is)) in
    opened_wide n c.args.place c.in-Some.inst.now at (entries_wide n c.args.place c.in-Some.inst.now at c.in_ok-next.next c.in_ok-next.ensures.next _ c.in_ok-entries.ensures (none_from _ c.in_default-2.not-Some))

pub returns-then-not-are_testable : goal.returns-then-not-are_testable
returns-then-not-are_testable c =
    let n = c.args.node.now in
    let at = (inst_there c.args.place c.chunks.result.now (pre_of c.args.node.now) _ (c.chunks.ensures.chunks ∙ ap (λ (g : Goal). g.pre.chunks) c.goal.ensures.goal) c.inst_in.ensures c.in-Some.inst.now (ap (option_map (λ (r : Bor InstOf). r.now)) c.in-Some.is)) in
    not_tested n c.args.place c.in-Some.inst.now at (sym (tested_as n c.args.place c.in-Some.inst.now at c.in_ok-next.next c.in_ok-next.ensures.next c.in-Some-2.entries (entries_are n c.args.place c.in-Some.inst.now at c.in_ok-next.next c.in_ok-next.ensures.next _ c.in-Some-2.entries c.in_ok-entries.ensures c.in-Some-2.is) c.goal-2.result.now c.as_slice.result.now c.are_testable.result c.goal-2.ensures.goal c.as_slice.ensures c.are_testable.ensures) ∙ c.if-not-are_testable.true)

pub open_link-requires : goal.open_link-requires
open_link-requires c =
    let n = c.args.node.now in
    record { at = inst_there c.args.place c.chunks.result.now (pre_of c.args.node.now) _ (c.chunks.ensures.chunks ∙ ap (λ (g : Goal). g.pre.chunks) c.goal.ensures.goal) c.inst_in.ensures c.in-Some.inst.now (ap (option_map (λ (r : Bor InstOf). r.now)) c.in-Some.is) }

pub open_premises-requires-clause-place : goal.open_premises-requires-clause-place
open_premises-requires-clause-place c =
    let n = c.args.node.now in
    let at = (inst_there c.args.place c.chunks.result.now (pre_of c.args.node.now) _ (c.chunks.ensures.chunks ∙ ap (λ (g : Goal). g.pre.chunks) c.goal.ensures.goal) c.inst_in.ensures c.in-Some.inst.now (ap (option_map (λ (r : Bor InstOf). r.now)) c.in-Some.is)) in
    within_from (pre_of n) c.args.place _ at

pub open_premises-requires-clause-fits : goal.open_premises-requires-clause-fits
open_premises-requires-clause-fits c =
    let n = c.args.node.now in
    let at = (inst_there c.args.place c.chunks.result.now (pre_of c.args.node.now) _ (c.chunks.ensures.chunks ∙ ap (λ (g : Goal). g.pre.chunks) c.goal.ensures.goal) c.inst_in.ensures c.in-Some.inst.now (ap (option_map (λ (r : Bor InstOf). r.now)) c.in-Some.is)) in
    fit_each n c.args.place c.in-Some.inst.now at c.in_ok-next.next c.in_ok-next.ensures.next c.in-Some-2.entries (entries_are n c.args.place c.in-Some.inst.now at c.in_ok-next.next c.in_ok-next.ensures.next _ c.in-Some-2.entries c.in_ok-entries.ensures c.in-Some-2.is) (sym c.has_room.ensures ∙ c.if-not-has_room.false) (sym (tested_as n c.args.place c.in-Some.inst.now at c.in_ok-next.next c.in_ok-next.ensures.next c.in-Some-2.entries (entries_are n c.args.place c.in-Some.inst.now at c.in_ok-next.next c.in_ok-next.ensures.next _ c.in-Some-2.entries c.in_ok-entries.ensures c.in-Some-2.is) c.goal-2.result.now c.as_slice.result.now c.are_testable.result c.goal-2.ensures.goal c.as_slice.ensures c.are_testable.ensures) ∙ c.if-not-are_testable.false) c.in_ok-link.link c.in_ok-link.ensures c.goal.ensures.keeps c.get.result.now (c.get.ensures ∙ c.preds.ensures.preds) c.list-formed.ensures.formed

pub returns : goal.returns
returns c =
    let n = c.args.node.now in
    let at = (inst_there c.args.place c.chunks.result.now (pre_of c.args.node.now) _ (c.chunks.ensures.chunks ∙ ap (λ (g : Goal). g.pre.chunks) c.goal.ensures.goal) c.inst_in.ensures c.in-Some.inst.now (ap (option_map (λ (r : Bor InstOf). r.now)) c.in-Some.is)) in
    opened_as n c.args.place c.in-Some.inst.now at c.in_ok-next.next c.in_ok-next.ensures.next c.in-Some-2.entries (entries_are n c.args.place c.in-Some.inst.now at c.in_ok-next.next c.in_ok-next.ensures.next _ c.in-Some-2.entries c.in_ok-entries.ensures c.in-Some-2.is) (sym c.has_room.ensures ∙ c.if-not-has_room.false) (sym (tested_as n c.args.place c.in-Some.inst.now at c.in_ok-next.next c.in_ok-next.ensures.next c.in-Some-2.entries (entries_are n c.args.place c.in-Some.inst.now at c.in_ok-next.next c.in_ok-next.ensures.next _ c.in-Some-2.entries c.in_ok-entries.ensures c.in-Some-2.is) c.goal-2.result.now c.as_slice.result.now c.are_testable.result c.goal-2.ensures.goal c.as_slice.ensures c.are_testable.ensures) ∙ c.if-not-are_testable.false) c.in_ok-link.link c.in_ok-link.ensures c.in_ok-open_premises.field-0 c.in_ok-open_premises.ensures
