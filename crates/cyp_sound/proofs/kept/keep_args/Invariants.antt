use Rattle.cyp_goal.specs.Named.{no_set}
use Rattle.cyp_goal.specs.Raw.{arg_fits}
use Rattle.cyp_term.specs.Terms.{is_set_var}
use Rattle.std.proofs.Common.{take, true, ◌≡◌}
use Rattle.std.specs.List.{list_all}
use Rattle.cyp_sound.proofs.kept.keep_args.Given as goal

abbrev pub invariant-loop-arg : goal.invariant-loop-arg
invariant-loop-arg l = list_all (arg_fits no_set is_set_var) (take l.arg-index l.args) ≡ true
