use Rattle.std.proofs.Common.{ap, ◌∙◌}
use Rattle.cyp_machine.proofs.Rests.{followed-end}
use Rattle.cyp_machine.specs.Rests.{block, blocks}
use Rattle.cyp_machine.specs.Steps.{followed_by}
use Rattle.cyp_machine.proofs.frame.Frame.new.Goals as goal

pub returns : goal.returns
returns c = λ i. record {
  values = c.args.values.items;
  rest = (ap (λ ls. followed_by (block c.args.body.now) (blocks ls)) c.new.ensures.items ∙ followed-end (block c.args.body.now)) i;
}
