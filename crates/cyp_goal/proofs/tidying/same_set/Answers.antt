use Rattle.cyp_goal.proofs.LitEquality.{Decides-set_eq, same_test}
use Rattle.cyp_term.specs.Terms.{set_eq}
use Rattle.cyp_goal.proofs.tidying.same_set.Goals as goal

pub returns : goal.returns
returns c = same_test c.same.result (set_eq c.args.a.now c.args.b.now) c.args.a.now c.args.b.now c.same.ensures (Decides-set_eq c.args.a.now c.args.b.now)
