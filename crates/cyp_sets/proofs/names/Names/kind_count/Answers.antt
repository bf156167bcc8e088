use Rattle.std.proofs.Common.{◌==◌, length, ap, arith}
use Rattle.cyp_sets.proofs.Places.{length-without_repeats}
use Rattle.cyp_sets.proofs.names.Names.kind_count.Goals as goal

pub returns-clause-few : goal.returns-clause-few
returns-clause-few c =
    let few = c.self.invariant in
    omega (arith, c.len.ensures, c.self.inside.kinds.ok.0, ap length few.kinds_once, length-without_repeats ◌==◌ c.self.inside.classes.items, few.class_each, few.few_terms)
