use Rattle.std.proofs.Common.{◌≡◌, ◌++◌, drop}
use Rattle.cyp_prog.proofs.Listing.{args_from}
use Rattle.cyp_prog.proofs.write.add_args.Given as goal

abbrev pub invariant-loop-place : goal.invariant-loop-place
invariant-loop-place l = l.text.items ++ args_from l.place (drop l.place l.args) ≡ l.fn.text.items ++ args_from 0 l.args
