use Rattle.cyp_goal.specs.Named.{no_set}
use Rattle.cyp_goal.specs.Raw.{lit_fits}
use Rattle.cyp_term.specs.Terms.{is_set_var}
use Rattle.std.proofs.Common.{take, true, ◌≡◌}
use Rattle.std.specs.List.{list_all}
use Rattle.cyp_sound.proofs.kept.keep_lits.Given as goal

abbrev pub invariant-loop-lit : goal.invariant-loop-lit
invariant-loop-lit l = list_all (lit_fits no_set is_set_var) (take l.lit-index l.lits) ≡ true
