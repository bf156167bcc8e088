use Rattle.std.proofs.Common.{Some, ap, length, subst, sym, ◌∙◌, ◌≤◌}
use Rattle.std.proofs.lemmas.Option.{IfSome_then}
use Rattle.cyp_io.specs.Whole.{ReadingCounts, ReadsAll}
use Rattle.cyp_top.specs.Given.{plain_answer}
use Rattle.cyp_moves.specs.Moves.{is_built}
use Rattle.cyp_top.specs.Asked.{search_of}
use Rattle.cyp_top.specs.Synthesis.{IsSpecOutput}
use Rattle.cyp_words.specs.Words.{Synth}
use Rattle.cyp_top.proofs.Sending.{all_read, long_refused, sends_answer, too_long}
use Rattle.cyp_top.proofs.run.synthesise.Goals as goal

pub returns-in-Ok-Long-clause-answer : goal.returns-in-Ok-Long-clause-answer
returns-in-Ok-Long-clause-answer g c =
    let left = g.S.Source.left c.args.source.now in
    let left' = g.S.Source.left c.read_all.new.source in
    let faults = g.S.Source.faults c.args.source.now in
    let faults' = g.S.Source.faults c.read_all.new.source in
    let read = subst (ReadsAll left left' 65536) c.in-Ok-Long.field-0-is c.in-Ok-Long.ensures.bytes in
    sends_answer (Some (Synth (search_of c.args.settings.now c.args.extras))) (record { told = left; faults = faults }) (record { told = left'; faults = faults' })
    (record { told = g.K.Sink.taken c.args.sink.now; faults = g.K.Sink.faults c.args.sink.now })
    (record { told = g.K.Sink.taken c.send.new.sink; faults = g.K.Sink.faults c.send.new.sink })
    long_refused c.send.result (subst (ReadingCounts faults faults') c.in-Ok-Long.field-0-is c.in-Ok-Long.ensures.cause)
    (IfSome_then left read (λ bytes h. (h.1, too_long (search_of c.args.settings.now c.args.extras) bytes h.0))) tt c.send.ensures

pub returns-clause-answer : goal.returns-clause-answer
returns-clause-answer g c =
    let left = g.S.Source.left c.args.source.now in
    let left' = g.S.Source.left c.read_all.new.source in
    let faults = g.S.Source.faults c.args.source.now in
    let faults' = g.S.Source.faults c.read_all.new.source in
    let read = subst (ReadsAll left left' 65536) c.in-Ok-Whole.field-0-is c.in-Ok-Whole.ensures.bytes in
    let o = plain_answer c.in-Ok.answer in
    let is = rw c.as_slice.ensures at c.in-Ok.ensures in
    let sent = rw (c.text-in-Ok.ensures, c.status.ensures.value) at c.send-in-Ok.ensures in
    sends_answer (Some (Synth (search_of c.args.settings.now c.args.extras))) (record { told = left; faults = faults }) (record { told = left'; faults = faults' })
    (record { told = g.K.Sink.taken c.args.sink.now; faults = g.K.Sink.faults c.args.sink.now })
    (record { told = g.K.Sink.taken c.send-in-Ok.new.sink; faults = g.K.Sink.faults c.send-in-Ok.new.sink })
    o c.send-in-Ok.result (subst (ReadingCounts faults faults') c.in-Ok-Whole.field-0-is c.in-Ok-Whole.ensures.cause)
    (IfSome_then left read.1 (λ bytes h. (h.1 ∙ ap Some (sym (all_read (search_of c.args.settings.now c.args.extras) bytes (subst (λ b. length b ≤ 65536) (sym h.0) read.0))), subst (λ b. IsSpecOutput is_built (search_of c.args.settings.now c.args.extras) b o) (sym h.0) is))) (rw c.status.ensures.value at c.status.ensures.said) sent
