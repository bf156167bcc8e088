use Rattle.std.proofs.Common.{◌∙◌}
use Rattle.cyp_step.proofs.FactsFit.{facts_fit}
use Rattle.cyp_step.proofs.showing.can_hold.Goals as goal

pub satisfiable-requires : goal.satisfiable-requires
satisfiable-requires c = facts_fit c.args.goal.now c.requires c.as_slice.result.now (c.as_slice.ensures ∙ c.in_ok-facts.ensures)
