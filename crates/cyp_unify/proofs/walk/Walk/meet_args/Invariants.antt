use Rattle.std.proofs.Common.{◌≡◌, drop, length}
use Rattle.cyp_unify.specs.Matches.{arg_positions, walk}
use Rattle.cyp_unify.proofs.walk.Walk.meet_args.Given as goal

abbrev pub invariant-loop-arg : goal.invariant-loop-arg
invariant-loop-arg l = walk l.exist l.self (arg_positions (drop (length l.yielded) l.from) (drop (length l.yielded) l.to)) ≡ walk l.exist l.initial.self (arg_positions l.from l.to)
