use Rattle.cyp_kernel.proofs.NormalRules.{at_nodes, call_at_nodes, through_node, through_normal}
use Rattle.cyp_kernel.proofs.RuleAlloc.{by_alloc}
use Rattle.cyp_kernel.proofs.RuleClose.{by_close}
use Rattle.cyp_kernel.proofs.RuleEmp.{by_emp}
use Rattle.cyp_kernel.proofs.RuleFrame.{by_frame}
use Rattle.cyp_kernel.proofs.RuleFree.{by_free}
use Rattle.cyp_kernel.proofs.RuleInconsistent.{by_inconsistent}
use Rattle.cyp_kernel.proofs.RuleOpen.{by_open}
use Rattle.cyp_kernel.proofs.RulePick.{by_pick}
use Rattle.cyp_kernel.proofs.RuleRead.{by_read}
use Rattle.cyp_kernel.proofs.RuleWrite.{by_write}
use Rattle.cyp_kernel.proofs.normal_rules.rules_are_sound_in_normal_form.Goals as goal
use Rattle.cyp_step.specs.declared.rule.Rule.TheVariants.{ByAlloc, ByCall, ByClose, ByEmp, ByFrame, ByFree, ByInconsistent, ByOpen, ByPick, ByRead, ByWrite}

pub returns-clause-each : goal.returns-clause-each
returns-clause-each c = through_node

pub returns-clause-at : goal.returns-clause-at
returns-clause-at c = at_nodes

pub returns-clause-inconsistent : goal.returns-clause-inconsistent
returns-clause-inconsistent c = through_normal ByInconsistent by_inconsistent

pub returns-clause-emp : goal.returns-clause-emp
returns-clause-emp c = through_normal ByEmp by_emp

pub returns-clause-read : goal.returns-clause-read
returns-clause-read c i = through_normal (ByRead i) (by_read i)

pub returns-clause-frame : goal.returns-clause-frame
returns-clause-frame c i = through_normal (ByFrame i) (by_frame i)

pub returns-clause-write : goal.returns-clause-write
returns-clause-write c i = through_normal (ByWrite i) (by_write i)

pub returns-clause-free : goal.returns-clause-free
returns-clause-free c i = through_normal (ByFree i) (by_free i)

pub returns-clause-alloc : goal.returns-clause-alloc
returns-clause-alloc c = through_normal ByAlloc by_alloc

pub returns-clause-pick : goal.returns-clause-pick
returns-clause-pick c v = through_normal (ByPick v) (by_pick v)

pub returns-clause-close : goal.returns-clause-close
returns-clause-close c k = through_normal (ByClose k) (by_close k)

pub returns-clause-open : goal.returns-clause-open
returns-clause-open c i = through_normal (ByOpen i) (by_open i)

pub returns-clause-call : goal.returns-clause-call
returns-clause-call c b = through_node (ByCall b) (call_at_nodes b)
