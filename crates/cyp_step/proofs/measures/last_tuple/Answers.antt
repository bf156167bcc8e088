use Rattle.std.proofs.Common.{arith, ◌∙◌}
use Rattle.cyp_step.proofs.LastTuples.{tuple_of_last}
use Rattle.cyp_step.proofs.measures.last_tuple.Goals as goal

pub returns : goal.returns
returns c = c.in_ok-tuple.ensures ∙ tuple_of_last c.args.links.now c.index-links-links.result (λ e. omega (arith, e))
