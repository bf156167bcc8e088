use Rattle.std.proofs.Common.{◌≡◌, take}
use Rattle.cyp_step.specs.Step.{nodes_of}
use Rattle.cyp_step.proofs.steps.are_nodes_of.Given as goal

abbrev pub invariant-loop-place : goal.invariant-loop-place
invariant-loop-place l = take l.place (nodes_of l.forms) ≡ take l.place l.nodes
