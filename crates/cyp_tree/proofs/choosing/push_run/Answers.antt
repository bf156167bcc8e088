use Rattle.std.proofs.Common.{sym, ◌∙◌, ap, ℕ, ◌+◌, ◌-◌, ◌<◌, List, ◌++◌, arith}
use Rattle.cyp_tree.specs.Numbers.{run_from}
use Rattle.cyp_tree.proofs.Rebuilding.{push_front, run_next}
use Rattle.cyp_tree.proofs.choosing.push_run.Goals as goal

pub loop-number-preserved : goal.loop-number-preserved
loop-number-preserved c =
    let end : ℕ = c.args.run.first + c.args.run.count in
    let n : ℕ = c.loop-number.number in
    let less : n < end = omega (arith, c.loop-number-test.true) in
    ap (λ (xs : List ℕ). xs ++ run_from (n + 1) (end - (n + 1))) c.in_ok-push.ensures.items
    ∙ push_front c.loop-number.numbers.items (run_from (n + 1) (end - (n + 1))) n
    ∙ ap (λ (xs : List ℕ). c.loop-number.numbers.items ++ xs) (sym (run_next n end less))
    ∙ c.loop-number.invariant
