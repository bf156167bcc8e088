use Rattle.std.proofs.Common.{[], map, take, ◌≡◌}
use Rattle.cyp_writing.specs.PrintParts.{param_of}
use Rattle.cyp_writing.specs.PrintedTrees.{params_from}
use Rattle.cyp_writing.proofs.printed_params.numbered.Given as goal

abbrev pub invariant-loop-i : goal.invariant-loop-i
invariant-loop-i l = l.params.items ≡ map param_of (params_from [] (take l.i l.sorts))
