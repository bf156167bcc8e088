use Rattle.std.proofs.Common.{◌++◌, ◌+◌, ◌≡◌, ◌∙◌, ◌∷◌, None, add-one, ap, append-nil, drop, get_or, pos, sym}
use Rattle.std.proofs.Math.Seq.{drop-cons}
use Rattle.std.proofs.lemmas.List.{drop_all}
use Rattle.cyp_prog.specs.PrintedLists.{arg_text}
use Rattle.cyp_prog.specs.declared.stmt.Expr.{Expr}
use Rattle.cyp_prog.proofs.Appending.{gone_over}
use Rattle.cyp_prog.proofs.Listing.{args_from, join-args}
use Rattle.cyp_prog.proofs.write.add_args.Goals as goal

pub loop-place-preserved : goal.loop-place-preserved
loop-place-preserved c =
    let i = c.loop-place.place in
    let es = c.args.args.now in
    let none : Expr = record { var = None; offset = pos 0 } in
    let left : drop i es ≡ get_or es i none ∷ drop (i + 1) es = rw add-one (drop-cons es i none c.loop-place-test.true) in
    gone_over c.loop-place.text.items c.add_arg.new.text.items (arg_text i (get_or es i none)) (args_from i (drop i es)) (args_from (i + 1) (drop (i + 1) es)) (c.args.text.now.items ++ args_from 0 es)
    c.in_ok-add_arg.ensures (ap (args_from i) left) c.loop-place.invariant

pub returns : goal.returns
returns c =
    let i = c.loop-place.place in
    let es = c.args.args.now in
    sym (append-nil c.loop-place.text.items)
    ∙ ap (λ xs. c.loop-place.text.items ++ args_from i xs) (sym (drop_all i es c.loop-place-test.false))
    ∙ c.loop-place.invariant
    ∙ ap (λ t. c.args.text.now.items ++ t) (sym (join-args es))
