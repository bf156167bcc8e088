use Rattle.std.proofs.Common.{[], ◌∷◌, ◌∙◌, ◌++◌, ap, map, sym}
use Rattle.std.specs.Prelude.{codes, slice_get}
use Rattle.std.proofs.lemmas.Result.{on_ok_weaker}
use Rattle.cyp_prog.specs.PrintedLists.{proc_name}
use Rattle.cyp_prog.specs.ProgramText.{Bytes, blanks, expr_text, join_with_comma, line}
use Rattle.cyp_prog.proofs.Appending.{named_line}
use Rattle.cyp_prog.proofs.Names.{name_of_place}
use Rattle.cyp_prog.proofs.write.add_call.Goals as goal

pub returns : goal.returns
returns c =
    let args : Bytes = join_with_comma (map expr_text c.args.args.now) in
    let name : Bytes = proc_name (slice_get c.args.procs.now c.args.place) in
    on_ok_weaker c.add-2.result
    (λ e. named_line c.args.text.now.items c.add_blanks.new.text.items c.add_name.new.text.items c.add.new.text.items c.add_args.new.text.items c.add-2.new.text.items
    (blanks c.args.level) name (codes "(") args (codes ");") (10 ∷ [])
    c.in_ok-add_blanks.ensures c.in_ok-add_name.ensures c.in_ok-add.ensures c.in_ok-add_args.ensures e
    ∙ ap (λ (n : Bytes). c.args.text.now.items ++ line c.args.level (n ++ codes "(" ++ args ++ codes ");")) (sym (name_of_place c.args.procs.now c.args.place)))
    c.add-2.ensures
