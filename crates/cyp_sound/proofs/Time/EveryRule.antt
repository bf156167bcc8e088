-- Every rule keeps to its time.
use Rattle.cyp_sound.proofs.Time.CallRule.{call_rule_in_time}
use Rattle.cyp_sound.proofs.Time.FlatRules.{alloc_in_time, close_in_time, emp_in_time, frame_in_time, free_in_time, inconsistent_in_time, pick_in_time, read_in_time, write_in_time}
use Rattle.cyp_sound.proofs.Time.OpenRule.{open_in_time}
use Rattle.cyp_sound.proofs.Time.RuleLaws.{TimedRuleLaw}
use Rattle.cyp_sound.proofs.Time.ThroughNormalForm.{through_time}
use Rattle.cyp_step.specs.declared.rule.Rule.{Rule}
use Rattle.cyp_step.specs.declared.rule.Rule.TheVariants.{ByAlloc, ByCall, ByClose, ByEmp, ByFrame, ByFree, ByInconsistent, ByOpen, ByPick, ByRead, ByWrite}

pub every_timed : (r : Rule) → TimedRuleLaw r
every_timed ByInconsistent = through_time ByInconsistent inconsistent_in_time
every_timed ByEmp = through_time ByEmp emp_in_time
every_timed (ByRead i) = through_time (ByRead i) (read_in_time i)
every_timed (ByFrame i) = through_time (ByFrame i) (frame_in_time i)
every_timed (ByWrite i) = through_time (ByWrite i) (write_in_time i)
every_timed (ByFree i) = through_time (ByFree i) (free_in_time i)
every_timed ByAlloc = through_time ByAlloc alloc_in_time
every_timed (ByCall c) = through_time (ByCall c) (call_rule_in_time c)
every_timed (ByOpen i) = through_time (ByOpen i) (open_in_time i)
every_timed (ByClose c) = through_time (ByClose c) (close_in_time c)
every_timed (ByPick u) = through_time (ByPick u) (pick_in_time u)
