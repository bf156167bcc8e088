use Rattle.std.proofs.Common.{pos, subst}
use Rattle.cyp_diff.specs.Systems.{LeMeans}
use Rattle.cyp_diff.proofs.Levels.{eq_means}
use Rattle.cyp_diff.proofs.system.add_eq.Goals as goal

pub returns-then-add_le-clause-means : goal.returns-then-add_le-clause-means
returns-then-add_le-clause-means c =
    eq_means c.args.vars.now c.args.a.now c.args.b.now c.args.bounds.now c.add_le.new.bounds c.add_le-then-add_le.new.bounds c.add_le-then-add_le.result
    (subst (λ r. LeMeans c.args.vars.now c.args.a.now c.args.b.now (pos 0) c.args.bounds.now c.add_le.new.bounds r) c.if-add_le.true c.add_le.ensures.means) c.add_le-then-add_le.ensures.means
