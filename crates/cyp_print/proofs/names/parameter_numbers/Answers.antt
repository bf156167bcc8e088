use Rattle.std.proofs.Common.{[], ◌∷◌, ◌+◌, ◌-◌}
use Rattle.cyp_pred.specs.Unfold.{count_from}
use Rattle.cyp_print.proofs.Appending.{gone_over}
use Rattle.cyp_print.proofs.Numbering.{count_from-turn}
use Rattle.cyp_print.proofs.names.parameter_numbers.Goals as goal

pub loop-number-preserved : goal.loop-number-preserved
loop-number-preserved c =
    let i = c.loop-number.number in
    let n = c.args.count in
    gone_over c.loop-number.numbers.items c.push.new.self.items ((i + 1) ∷ []) (count_from (i + 1) (n - i)) (count_from (i + 1 + 1) (n - (i + 1))) (count_from 1 n)
    c.in_ok-push.ensures.items (count_from-turn i n c.loop-number-test.true) c.loop-number.invariant
