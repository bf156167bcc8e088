use Rattle.std.proofs.Common.{[], Option, ◌++◌, ◌∙◌, ◌≡◌}
use Rattle.std.proofs.lemmas.Result.{IfOk-weaker}
use Rattle.cyp_lex.specs.declared.fault.Fault.{Fault}
use Rattle.cyp_names.proofs.EachKind.{added_alone, added_twice}
use Rattle.cyp_names.specs.LeastFaults.{proc_sorts}
use Rattle.cyp_names.specs.Bodies.{body_uses}
use Rattle.cyp_names.specs.NameFaults.{sort_faults}
use Rattle.cyp_names.specs.FaultOrder.{least_fault}
use Rattle.cyp_names.specs.Uses.{param_uses}
use Rattle.cyp_names.proofs.name_faults.procedure_sort_fault.Goals as goal

pub returns : goal.returns
returns c =
    let tree = c.args.tree.now in
    let qs = c.as_slice-preds.result.now in
    let seen : c.add_params.new.uses.items ≡ param_uses tree.params =
    added_alone c.new-seen.result.items c.add_params.new.uses.items (param_uses c.as_slice.result.now) c.new-seen.ensures.items c.in_ok-add_params.ensures
    ∙ (λ i. param_uses (c.as_slice.ensures i)) in
    let uses : c.as_slice-2.result.now ≡ body_uses tree.preds tree.pre ++ body_uses tree.preds tree.post =
    c.as_slice-2.ensures.value
    ∙ added_twice [] c.add_body.new.uses.items c.add_body-2.new.uses.items (body_uses qs tree.pre) (body_uses qs tree.post)
    (body_uses tree.preds tree.pre ++ body_uses tree.preds tree.post)
    (added_alone c.new-uses.result.items c.add_body.new.uses.items (body_uses qs tree.pre) c.new-uses.ensures.items c.in_ok-add_body.ensures)
    c.in_ok-add_body-2.ensures (λ i. body_uses (c.as_slice-preds.ensures i) tree.pre ++ body_uses (c.as_slice-preds.ensures i) tree.post) in
    IfOk-weaker c.sort_fault.result (λ (f : Option Fault). f ≡ least_fault (sort_faults c.add_params.new.uses.items c.as_slice-2.result.now))
    (λ (f : Option Fault). f ≡ least_fault (proc_sorts tree)) (λ f e. e ∙ (λ i. least_fault (sort_faults (seen i) (uses i)))) c.sort_fault.ensures
