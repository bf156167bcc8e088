use Rattle.std.proofs.Common.{◌≡◌, take}
use Rattle.clap.specs.Simple.{app_of}
use Rattle.cyp_words.specs.Rules.{app}
use Rattle.cyp_words.proofs.options.parser.Given as goal

abbrev pub invariant-loop-choice : goal.invariant-loop-choice
invariant-loop-choice l = app_of l.parser ≡ app (take l.choice-index l.choices)
