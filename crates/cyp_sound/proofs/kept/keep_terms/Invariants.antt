use Rattle.cyp_goal.specs.Named.{no_set}
use Rattle.cyp_goal.specs.Raw.{term_fits}
use Rattle.std.proofs.Common.{take, true, ◌≡◌}
use Rattle.std.specs.List.{list_all}
use Rattle.cyp_sound.proofs.kept.keep_terms.Given as goal

abbrev pub invariant-loop-term : goal.invariant-loop-term
invariant-loop-term l = list_all (term_fits no_set) (take l.term-index l.terms) ≡ true
