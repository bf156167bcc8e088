use Rattle.std.proofs.Common.{map, rules, string_bytes, ◌∙◌}
use Rattle.clap.specs.Simple.{app_of}
use Rattle.cyp_words.proofs.Found.{refuses_unready}
use Rattle.cyp_words.proofs.Parses.{parse_err, parse_ok}
use Rattle.cyp_words.proofs.options.parsed.Goals as goal

pub returns-then-not-are_ready : goal.returns-then-not-are_ready
returns-then-not-are_ready c = refuses_unready c.args.choices.now (map string_bytes c.args.words.now) (search rules)

pub returns-in-Ok : goal.returns-in-Ok
returns-in-Ok c =
    parse_ok c.args.choices.now (map string_bytes c.args.words.now) (app_of c.in_ok-parser.parser) c.in-Ok.matches c.in_ok-parser.ensures (search rules) c.in-Ok.ensures.kinds c.in-Ok.ensures.matches

pub returns : goal.returns
returns c =
    parse_err c.args.choices.now (map string_bytes c.args.words.now) (app_of c.in_ok-parser.parser) c.in-Err.error c.in_ok-parser.ensures (search rules) c.in-Err.ensures.kinds
    (λ e. c.in_default.not-OutOfMemory (c.kind.ensures ∙ e))
