use Rattle.std.proofs.Common.{rules, ◌≡◌, sym, subst, ℕ, List, [], replicate}
use Rattle.atomic_table.specs.Table.{opening}
use Rattle.cyp_cancel.specs.Views.{Maker}
use Rattle.cyp_cancel.specs.Stands.{Stands}
use Rattle.cyp_cancel.proofs.Allowed.{opens}
use Rattle.cyp_cancel.proofs.Start.{start_meets}
use Rattle.cyp_cancel.proofs.words.Words.new.Goals as goal

pub of_words-requires : goal.of_words-requires
of_words-requires c =
    let same : c.as_slice.result.now ≡ replicate c.args.workers 0 = search rules in
    subst (λ (ws : List ℕ). Stands c.args.workers (opening ws [] (Maker 0))) (sym same) (opens c.args.workers [])

pub returns-clause-rule : goal.returns-clause-rule
returns-clause-rule c = start_meets c.args.workers
