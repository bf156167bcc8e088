use Rattle.std.proofs.Common.{◌≡◌, sym, ap, ◌∙◌, true, false, is_some}
use Rattle.cyp_tree.specs.Statuses.{status}
use Rattle.cyp_tree.specs.Derivations.{chosen_derivation}
use Rattle.cyp_tree.proofs.HasDerivation.{has_derivation}
use Rattle.cyp_search.specs.Reports.{found_or_spent, verdict_at}
use Rattle.cyp_search.specs.PlainReports.{plain_verdict}
use Rattle.cyp_search.proofs.best_first.report.Goals as goal
use Rattle.cyp_search.proofs.best_first.report.Goals.{in-Failed, in-Undecided, in-Solved+in_ok-derivation-in-Solved+in-Some}

pub unreachable-requires : goal.unreachable-requires
unreachable-requires g c =
    let solved = sym c.mark.ensures ∙ c.in-Solved.is in
    let none = rw c.in-None.is at c.in_ok-derivation-in-Solved.ensures.derivation in
    let bad : false ≡ true = ap is_some none ∙ has_derivation c.args.tree.now solved in
    cc

pub returns : goal.returns
returns g c =
    let t = c.args.tree.now in
    let derivation = chosen_derivation t in
    let verdict : plain_verdict c.match-mark.verdict ≡ verdict_at (status t) derivation =
    elim c.match-mark.branch [
      | in-Failed w ↦ ap plain_verdict w.verdict-is ∙ sym (ap (λ u. verdict_at u derivation) (sym c.mark.ensures ∙ w.in-Failed.is))
      | in-Undecided w ↦ ap plain_verdict w.verdict-is ∙ sym (ap (λ u. verdict_at u derivation) (sym c.mark.ensures ∙ w.in-Undecided.is))
      | in-Solved+in_ok-derivation-in-Solved+in-Some w ↦
          let some = rw w.in-Some.is at w.in_ok-derivation-in-Solved.ensures.derivation in
          ap plain_verdict w.verdict-is ∙ ap found_or_spent some ∙ sym (ap (λ u. verdict_at u derivation) (sym c.mark.ensures ∙ w.in-Solved.is))
    ]
    in
    λ i. record { verdict = verdict i; expansions = c.args.expansions; nodes = c.count.ensures.value i; depth = c.depth.ensures i }
