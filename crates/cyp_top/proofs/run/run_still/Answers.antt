use Rattle.std.proofs.Common.{Err, Option, Some, inl, inr, false, map, subst, sym, ◌∙◌, ◌≡◌, ap}
use Rattle.std.specs.Prelude.{option_map, string_bytes}
use Rattle.cyp_term.specs.Answers.{GivesWhere}
use Rattle.cyp_term.specs.declared.fail.Fail.{Fail}
use Rattle.cyp_top.specs.Answers.{Answers, End}
use Rattle.cyp_top.specs.Asked.{asked}
use Rattle.cyp_top.specs.Correctness.{AppendsCorrect}
use Rattle.cyp_top.specs.Output.{is_search}
use Rattle.cyp_top.proofs.AskedSearches.{asked_by, none_is_no_search}
use Rattle.cyp_top.proofs.CorrectTexts.{answer_correct}
use Rattle.cyp_top.proofs.Sending.{refused_answers}
use Rattle.cyp_words.specs.Commands.{command_value}
use Rattle.cyp_words.specs.declared.command.Usage.{Usage as UsageValue}
use Rattle.cyp_words.specs.Words.{Command, one_worker_command_of}
use Rattle.cyp_top.proofs.run.run_still.Goals as goal

pub returns-in-Ok-clause-answer : goal.returns-in-Ok-clause-answer
returns-in-Ok-clause-answer g c =
    let source : End = record { told = g.S.Source.left c.args.source.now; faults = g.S.Source.faults c.args.source.now } in
    let source' : End = record { told = g.S.Source.left c.obey.new.source; faults = g.S.Source.faults c.obey.new.source } in
    let before : End = record { told = g.K.Sink.taken c.args.sink.now; faults = g.K.Sink.faults c.args.sink.now } in
    let after : End = record { told = g.K.Sink.taken c.obey.new.sink; faults = g.K.Sink.faults c.obey.new.sink } in
    subst (λ (d : Option Command). Answers d source source' before after c.obey.result)
    (sym (asked_by (one_worker_command_of (map string_bytes c.args.words.now)) c.in-Ok.command c.in-Ok.ensures).0) c.obey.ensures.answer

pub returns-in-Ok-clause-correct : goal.returns-in-Ok-clause-correct
returns-in-Ok-clause-correct g c e =
    let source : End = record { told = g.S.Source.left c.args.source.now; faults = g.S.Source.faults c.args.source.now } in
    let source' : End = record { told = g.S.Source.left c.obey.new.source; faults = g.S.Source.faults c.obey.new.source } in
    let before : End = record { told = g.K.Sink.taken c.args.sink.now; faults = g.K.Sink.faults c.args.sink.now } in
    let after : End = record { told = g.K.Sink.taken c.obey.new.sink; faults = g.K.Sink.faults c.obey.new.sink } in
    subst (λ (d : Option Command). AppendsCorrect d source.told before.told after.told)
    (sym (asked_by (one_worker_command_of (map string_bytes c.args.words.now)) c.in-Ok.command c.in-Ok.ensures).0)
    (answer_correct (Some (asked c.in-Ok.command)) source source' before after c.obey.result c.obey.ensures.answer e)

pub returns-in-Ok-clause-usage : goal.returns-in-Ok-clause-usage
returns-in-Ok-clause-usage g c e =
    ap is_search (asked_by (one_worker_command_of (map string_bytes c.args.words.now)) c.in-Ok.command c.in-Ok.ensures).0 ∙ c.obey.ensures.usage e

pub returns-in-Ok-clause-refused : goal.returns-in-Ok-clause-refused
returns-in-Ok-clause-refused g c e =
    elim (c.obey.ensures.refused (sym (ap is_search (asked_by (one_worker_command_of (map string_bytes c.args.words.now)) c.in-Ok.command c.in-Ok.ensures).0) ∙ e)) [
      | inl u ↦ inl u
      | inr w ↦ inr (inl w)
    ]

pub returns-in-Ok-clause-unread : goal.returns-in-Ok-clause-unread
returns-in-Ok-clause-unread g c e =
    c.obey.ensures.unread (sym (ap is_search (asked_by (one_worker_command_of (map string_bytes c.args.words.now)) c.in-Ok.command c.in-Ok.ensures).0) ∙ e)

pub returns-in-Err-Named-clause-answer : goal.returns-in-Err-Named-clause-answer
returns-in-Err-Named-clause-answer g c =
    let source : End = record { told = g.S.Source.left c.args.source.now; faults = g.S.Source.faults c.args.source.now } in
    let before : End = record { told = g.K.Sink.taken c.args.sink.now; faults = g.K.Sink.faults c.args.sink.now } in
    let after : End = record { told = g.K.Sink.taken c.refuse.new.sink; faults = g.K.Sink.faults c.refuse.new.sink } in
    let words : Option Command = one_worker_command_of (map string_bytes c.args.words.now) in
    refused_answers words (none_is_no_search words (subst (λ (f : Fail UsageValue). GivesWhere (option_map command_value words) (Err f)) c.in-Err-Named.field-0-is c.in-Err-Named.ensures)) source before after c.refuse.result c.refuse.ensures.sends

pub returns-in-Err-Named-clause-usage : goal.returns-in-Err-Named-clause-usage
returns-in-Err-Named-clause-usage g c e =
    let words : Option Command = one_worker_command_of (map string_bytes c.args.words.now) in
    none_is_no_search words (subst (λ (f : Fail UsageValue). GivesWhere (option_map command_value words) (Err f)) c.in-Err-Named.field-0-is c.in-Err-Named.ensures)
