use Rattle.std.proofs.Common.{pos, append-nil, subst, IsTrue}
use Rattle.std.specs.Result.{IfOk}
use Rattle.cyp_term.specs.Regions.{HasSets, all_terms, class_by}
use Rattle.cyp_sets.proofs.sets.regions.Goals as goal

pub returns-clause-exact : goal.returns-clause-exact
returns-clause-exact c =
    let classes = c.args.classes.now in
    subst (λ ls. IfOk c.regions_with.result (λ b. (IsTrue b → HasSets (λ t. pos (class_by (all_terms ls) classes t)) ls) × (HasSets (λ t. pos (class_by (all_terms ls) classes t)) ls → IsTrue b))) (append-nil c.args.lits.now) c.regions_with.ensures.exact
