use Rattle.std.proofs.Common.{◌≡◌, [], ◌∷◌, drop, filter, not}
use Rattle.std.specs.List.{list_any}
use Rattle.cyp_step.specs.Shown.{is_open, shown}
use Rattle.cyp_step.proofs.showing.is_missing_some.Given as goal

abbrev pub invariant-loop-lit : goal.invariant-loop-lit
invariant-loop-lit l =
    list_any (λ m. not (shown l.goal (m ∷ []))) (filter (λ m. not (is_open l.goal m)) (drop l.lit-index l.goal.pure_post))
    ≡ list_any (λ m. not (shown l.goal (m ∷ []))) (filter (λ m. not (is_open l.goal m)) l.goal.pure_post)
