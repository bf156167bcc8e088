use Rattle.std.proofs.Common.{◌∙◌}
use Rattle.cyp_step.proofs.FactsFit.{facts_and_post_fit}
use Rattle.cyp_step.proofs.showing.can_end.Goals as goal

pub satisfiable-requires : goal.satisfiable-requires
satisfiable-requires c =
    facts_and_post_fit c.args.goal.now c.requires c.as_slice.result.now c.in_ok-lits.lits c.in_ok-copy.field-0 c.in_ok-lits.ensures c.in_ok-copy.ensures
    (c.as_slice.ensures ∙ c.in_ok-append.ensures.ok)
