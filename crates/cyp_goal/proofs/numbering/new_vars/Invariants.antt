use Rattle.std.proofs.Common.{◌≡◌, ◌++◌, drop, map, take}
use Rattle.cyp_goal.specs.Named.{named}
use Rattle.cyp_goal.proofs.numbering.new_vars.Given as goal

abbrev pub invariant-loop-var : goal.invariant-loop-var
invariant-loop-var l = take l.var-index l.var-items ++ map (named l.names) (drop l.var-index l.var-items) ≡ map (named l.names) l.fn.vars
