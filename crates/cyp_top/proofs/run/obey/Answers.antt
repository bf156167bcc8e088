use Rattle.std.proofs.Common.{Some, ap, false, ◌≡◌}
use Rattle.cyp_top.specs.Answers.{End}
use Rattle.cyp_top.specs.Asked.{asked}
use Rattle.cyp_top.specs.Output.{is_search}
use Rattle.cyp_top.proofs.Sending.{refused_answers}
use Rattle.cyp_words.specs.declared.command.Command.{Command as CommandValue}
use Rattle.cyp_top.proofs.run.obey.Goals as goal

pub returns-in-RunOn-clause-answer : goal.returns-in-RunOn-clause-answer
returns-in-RunOn-clause-answer g c =
    let source : End = record { told = g.S.Source.left c.args.source.now; faults = g.S.Source.faults c.args.source.now } in
    let before : End = record { told = g.K.Sink.taken c.args.sink.now; faults = g.K.Sink.faults c.args.sink.now } in
    let after : End = record { told = g.K.Sink.taken c.refuse.new.sink; faults = g.K.Sink.faults c.refuse.new.sink } in
    let no_search : is_search (Some (asked c.args.command.now)) ≡ false = ap (λ (w : CommandValue). is_search (Some (asked w))) c.in-RunOn.is in
    refused_answers (Some (asked c.args.command.now)) no_search source before after c.refuse.result c.refuse.ensures.sends

pub returns-in-Gen-clause-answer : goal.returns-in-Gen-clause-answer
returns-in-Gen-clause-answer g c =
    let source : End = record { told = g.S.Source.left c.args.source.now; faults = g.S.Source.faults c.args.source.now } in
    let before : End = record { told = g.K.Sink.taken c.args.sink.now; faults = g.K.Sink.faults c.args.sink.now } in
    let after : End = record { told = g.K.Sink.taken c.refuse-in-Gen.new.sink; faults = g.K.Sink.faults c.refuse-in-Gen.new.sink } in
    let no_search : is_search (Some (asked c.args.command.now)) ≡ false = ap (λ (w : CommandValue). is_search (Some (asked w))) c.in-Gen.is in
    refused_answers (Some (asked c.args.command.now)) no_search source before after c.refuse-in-Gen.result c.refuse-in-Gen.ensures.sends
