use Rattle.std.proofs.Common.{Err, None, subst, ◌≡◌}
use Rattle.cyp_goal.specs.Normal.{normal}
use Rattle.cyp_term.specs.Answers.{GivesWhere}
use Rattle.cyp_top.proofs.Roots.{no_failure}
use Rattle.cyp_top.proofs.root.root_of_spec.Goals as goal

pub unreachable-requires : goal.unreachable-requires
unreachable-requires c =
    let none : normal c.in_ok-raw.raw ≡ None = subst (λ (e : _). GivesWhere (normal c.in_ok-raw.raw) (Err e)) c.in-Err-Named.field-0-is c.in-Err-Named.ensures in
    no_failure c.args.spec.now c.raw_of_spec.ensures.keeps c.in_ok-raw.raw c.in_ok-raw.ensures.node none
