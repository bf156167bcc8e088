use Rattle.cyp_kernel.proofs.RuleAlloc.{by_alloc}
use Rattle.cyp_kernel.proofs.RuleEmp.{by_emp}
use Rattle.cyp_kernel.proofs.RuleFrame.{by_frame}
use Rattle.cyp_kernel.proofs.RuleFree.{by_free}
use Rattle.cyp_kernel.proofs.RuleInconsistent.{by_inconsistent}
use Rattle.cyp_kernel.proofs.RulePick.{by_pick}
use Rattle.cyp_kernel.proofs.RuleRead.{by_read}
use Rattle.cyp_kernel.proofs.RuleWrite.{by_write}
use Rattle.cyp_kernel.proofs.rules.flat_rules_are_sound.Goals as goal

pub returns-clause-inconsistent : goal.returns-clause-inconsistent
returns-clause-inconsistent c = by_inconsistent

pub returns-clause-emp : goal.returns-clause-emp
returns-clause-emp c = by_emp

pub returns-clause-read : goal.returns-clause-read
returns-clause-read c = by_read

pub returns-clause-frame : goal.returns-clause-frame
returns-clause-frame c = by_frame

pub returns-clause-write : goal.returns-clause-write
returns-clause-write c = by_write

pub returns-clause-free : goal.returns-clause-free
returns-clause-free c = by_free

pub returns-clause-alloc : goal.returns-clause-alloc
returns-clause-alloc c = by_alloc

pub returns-clause-pick : goal.returns-clause-pick
returns-clause-pick c = by_pick
