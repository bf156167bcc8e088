use Rattle.std.proofs.Common.{◌∙◌, ◌+◌, ◌++◌, List, ap, append-nil, drop, map, sym}
use Rattle.std.proofs.lemmas.List.{drop_all}
use Rattle.cyp_prog.specs.ProgramText.{Bytes, procedure_text, procedures_text}
use Rattle.cyp_prog.specs.Programs.{plain_proc}
use Rattle.cyp_prog.specs.Rules.{names_of}
use Rattle.cyp_prog.specs.declared.stmt.Proc.{Proc}
use Rattle.cyp_prog.proofs.Appending.{gone_over}
use Rattle.cyp_prog.proofs.Items.{drop_item}
use Rattle.cyp_prog.proofs.write.write_program.Goals as goal

pub loop-proc-preserved : goal.loop-proc-preserved
loop-proc-preserved c =
    let ps = c.procs-procs.result.now in
    let names : List Bytes = names_of (map plain_proc ps) in
    let i = c.loop-proc.proc-index in
    let left = drop_item ps i c.proc-item.result c.loop-proc-test.true c.proc-item.is in
    gone_over c.loop-proc.text.items c.add_proc.new.text.items (procedure_text names (plain_proc c.proc-item.result))
    (procedures_text names (map plain_proc (drop i ps))) (procedures_text names (map plain_proc (drop (i + 1) ps))) (procedures_text names (map plain_proc ps))
    c.in_ok-add_proc.ensures (ap (λ (xs : List Proc). procedures_text names (map plain_proc xs)) left) c.loop-proc.invariant

pub returns : goal.returns
returns c =
    let ps = c.procs-procs.result.now in
    let names : List Bytes = names_of (map plain_proc ps) in
    c.from_vec.ensures
    ∙ sym (append-nil c.loop-proc.text.items)
    ∙ ap (λ (xs : List Proc). c.loop-proc.text.items ++ procedures_text names (map plain_proc xs)) (sym (drop_all c.loop-proc.proc-index ps c.loop-proc-test.false))
    ∙ c.loop-proc.invariant
    ∙ ap (λ (xs : List Proc). procedures_text (names_of (map plain_proc xs)) (map plain_proc xs)) c.procs-procs.ensures.procs
