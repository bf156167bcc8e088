use Rattle.std.proofs.Common.{arith, ◌<◌, ◌+◌, ◌*◌, ◌-◌, get_or}
use Rattle.cyp_lex.proofs.Laws.{too_great}
use Rattle.cyp_lex.proofs.lexer.number.Goals as goal

pub returns-then-value-greatest : goal.returns-then-value-greatest
returns-then-value-greatest c =
    let big : c.args.greatest < 10 * c.loop-d.value + (get_or c.args.digits.now c.loop-d.d-index 0 - 48) = omega arith in
    too_great c.args.greatest c.args.digits.now c.loop-d.value c.loop-d.d-index c.loop-d-test.true big c.loop-d.invariant.value
