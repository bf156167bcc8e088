use Rattle.std.proofs.Common.{ap₂, rules, ◌∙◌}
use Rattle.clap.specs.Simple.{with_rule}
use Rattle.cyp_words.proofs.Parses.{app_more}
use Rattle.cyp_words.proofs.options.parser.Goals as goal

pub loop-choice-preserved : goal.loop-choice-preserved
loop-choice-preserved c =
    c.in_ok-parser.ensures.shape (search rules) ∙ ap₂ with_rule c.loop-choice.invariant c.arg.ensures.rule ∙ app_more c.args.choices.now c.loop-choice.choice-index _ c.loop-choice-test.true
