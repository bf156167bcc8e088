use Rattle.cyp_goal.proofs.LeastTerms.{least_there}
use Rattle.cyp_goal.proofs.addresses.add_least.Goals as goal

pub unreachable-requires : goal.unreachable-requires
unreachable-requires c = cc (least_there c.args.base c.args.terms.now c.requires, c.in-None.ensures)
