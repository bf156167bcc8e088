-- What the rule Call owes.
use Rattle.std.specs.Prelude.{List, Some, ◌≡◌, ℕ}
use Rattle.cyp_heap.specs.PredsFormed.{IsFormedPreds}
use Rattle.cyp_heap.specs.declared.goal.Node.{Node}
use Rattle.cyp_kernel.specs.Compile.{with_new_name}
use Rattle.cyp_kernel.specs.Meets.{BodyMeets, IsNaming}
use Rattle.cyp_kernel.specs.Naming.{Names}
use Rattle.cyp_kernel.specs.RuleLaws.{AllMeet, CalleeMeets}
use Rattle.cyp_kernel.specs.Statements.{rule_body}
use Rattle.cyp_kernel.specs.Steady.{IsSteady}
use Rattle.cyp_kernel.specs.SteadyLinks.{HasSteadyLinks}
use Rattle.cyp_prog.specs.Programs.{Body, Procedure}
use Rattle.cyp_step.specs.Step.{raws}
use Rattle.cyp_step.specs.declared.rule.CallBy.{CallBy}
use Rattle.cyp_step.specs.declared.rule.Rule.TheVariants.{ByCall}

-- as for the other rules, where moreover the companions' goals are as the rules ask
abbrev pub CallLaw : CallBy → Type 0
CallLaw c =
    (ps : List Procedure) (n : Node) (ms : List Node) (bs : List Body) (names : Names) (procs : List ℕ) (next k : ℕ)
    → IsSteady n → HasSteadyLinks n → IsFormedPreds n.preds → IsNaming names n.goal.program next → raws n (ByCall c) ≡ Some ms → CalleeMeets ps n procs k (ByCall c)
    → AllMeet ps (with_new_name n (ByCall c) next names) k ms bs
    → BodyMeets ps n.preds n.goal names k (rule_body n names procs next (ByCall c) bs)
