use Rattle.std.proofs.Common.{◌++◌, ◌+◌, ◌-◌, ◌≡◌, ◌∙◌, ap, sym, arith, append-nil}
use Rattle.std.specs.Prelude.{codes}
use Rattle.cyp_prog.specs.ProgramText.{blanks}
use Rattle.cyp_prog.proofs.Appending.{gone_over}
use Rattle.cyp_prog.proofs.Listing.{blanks-turn}
use Rattle.cyp_prog.proofs.write.add_blanks.Goals as goal

pub loop-preserved : goal.loop-preserved
loop-preserved c =
    let i = c.loop.counter in
    let n = c.args.level in
    gone_over c.loop.text.items c.add.new.text.items (codes "  ") (blanks (n - i)) (blanks (n - (i + 1))) (c.args.text.now.items ++ blanks n)
    c.in_ok-add.ensures (blanks-turn i n c.loop-test.true) c.loop.invariant

pub returns : goal.returns
returns c =
    let none : c.args.level - c.loop.counter ≡ 0 = omega arith in
    sym (append-nil c.loop.text.items) ∙ ap (λ k. c.loop.text.items ++ blanks k) (sym none) ∙ c.loop.invariant
