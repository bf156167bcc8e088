use Rattle.std.proofs.Common.{◌≡◌, ◌++◌, drop, length}
use Rattle.cyp_unify.specs.Frames.{arg_equalities}
use Rattle.cyp_unify.proofs.frames.arg_equalities.Given as goal

abbrev pub invariant-loop-to : goal.invariant-loop-to
invariant-loop-to l = l.lits.items ++ arg_equalities (drop (length l.yielded) l.post) (drop (length l.yielded) l.pre) ≡ arg_equalities l.post l.pre
