use Rattle.std.proofs.Common.{List, ap, flat_map, ◌∙◌}
use Rattle.cyp_names.proofs.EachKind.{added_alone}
use Rattle.cyp_names.proofs.LesserFaults.{least_of_two}
use Rattle.cyp_names.specs.LeastFaults.{set_guard_fault}
use Rattle.cyp_names.specs.NameFaults.{unbound_fault}
use Rattle.cyp_names.specs.FaultOrder.{least_fault}
use Rattle.cyp_names.specs.Uses.{Use, lit_uses}
use Rattle.cyp_names.proofs.clauses.guard_fault.Goals as goal

pub returns : goal.returns
returns c =
    let params = c.args.params.now in
    let guard = c.args.guard.now in
    least_of_two c.set_guard_fault.result c.unbound_faults-unbound.result c.lesser.result (set_guard_fault guard) (flat_map (unbound_fault params) (lit_uses guard))
    c.set_guard_fault.ensures
    (c.unbound_faults-unbound.ensures
    ∙ ap (λ (us : List Use). least_fault (flat_map (unbound_fault params) us))
    (c.as_slice.ensures.value
    ∙ added_alone c.new-uses.result.items c.add_literal.new.uses.items (lit_uses guard) c.new-uses.ensures.items c.in_ok-add_literal.ensures))
    c.lesser.ensures
