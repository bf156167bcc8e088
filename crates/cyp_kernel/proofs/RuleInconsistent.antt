-- Inconsistent is sound: no heap meets the precondition.
use Rattle.std.proofs.Common.{[], Some}
use Rattle.std.proofs.lemmas.Bool.{both_ways}
use Rattle.cyp_goal.specs.Facts.{facts}
use Rattle.cyp_kernel.proofs.Allowed.{taken_false}
use Rattle.cyp_kernel.proofs.GoalFacts.{facts_true}
use Rattle.cyp_kernel.specs.RuleLaws.{RuleLaw}
use Rattle.cyp_step.specs.declared.rule.Rule.TheVariants.{ByInconsistent}
use Rattle.cyp_term.proofs.Entailment.{satisfiable_law}
use Rattle.cyp_term.specs.Entailment.{satisfiable}

pub by_inconsistent : RuleLaw ByInconsistent
by_inconsistent ps n ms bs names procs next k steady formed naming is callees all s h ns vs pre named m t le r =
    let no = taken_false (satisfiable (facts n.goal)) (Some []) ms is in
    absurd (both_ways (satisfiable (facts n.goal)) no.0 ((satisfiable_law (facts n.goal)).1 (s, facts_true n.preds n.goal s h ns pre)))
