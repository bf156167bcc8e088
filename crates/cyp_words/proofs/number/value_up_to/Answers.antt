use Rattle.std.proofs.Common.{arith, ◌<◌, ◌+◌, ◌*◌, ◌-◌, get_or}
use Rattle.cyp_lex.proofs.Laws.{too_great}
use Rattle.cyp_words.proofs.number.value_up_to.Goals as goal

pub returns-then-value-greatest : goal.returns-then-value-greatest
returns-then-value-greatest c =
    let big : c.args.greatest < 10 * c.loop-digit.value + (get_or c.args.digits.now c.loop-digit.digit-index 0 - 48) = omega arith in
    too_great c.args.greatest c.args.digits.now c.loop-digit.value c.loop-digit.digit-index c.loop-digit-test.true big c.loop-digit.invariant.value
