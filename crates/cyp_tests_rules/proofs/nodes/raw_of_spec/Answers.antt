use Rattle.std.proofs.Common.{◌∙◌}
use Rattle.cyp_tests_rules.proofs.Roots.{fits_copy}
use Rattle.cyp_tests_rules.proofs.nodes.raw_of_spec.Goals as goal

pub new-requires-2 : goal.new-requires-2
new-requires-2 c =
    fits_copy c.args.spec.now.preds c.args.spec.now.goal c.preds.ensures.keeps.formed c.in_ok-preds.preds c.in_ok-goal.goal (c.in_ok-preds.ensures ∙ c.preds.ensures.preds) (c.in_ok-goal.ensures ∙ c.goal.ensures.goal)
