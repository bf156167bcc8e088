use Rattle.cyp_call.proofs.CallTurns.{link_turn}
use Rattle.cyp_call.proofs.calls.call_rules.Goals as goal

pub loop-link-preserved : goal.loop-link-preserved
loop-link-preserved c =
    link_turn c.args.node.now c.loop-link.link c.loop-link.rules.items c.add_matches.new.rules.items _ c.loop-link.invariant c.in_ok-add_matches.ensures
