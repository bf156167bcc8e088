use Rattle.std.proofs.Common.{◌≡◌, ◌++◌, drop}
use Rattle.cyp_call.specs.CallRows.{call_rules_at}
use Rattle.cyp_call.proofs.calls.call_rules.Given as goal

abbrev pub invariant-loop-link : goal.invariant-loop-link
invariant-loop-link l = l.rules.items ++ call_rules_at l.node l.link (drop l.link l.node.links) ≡ call_rules_at l.node 0 l.node.links
