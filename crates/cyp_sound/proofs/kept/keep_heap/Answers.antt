use Rattle.cyp_goal.specs.Named.{parts_fit}
use Rattle.cyp_sound.proofs.Keeping.{all_fit, all_small}
use Rattle.cyp_sound.specs.Kept.{is_small}
use Rattle.std.proofs.Common.{subst, true, ◌≡◌}
use Rattle.std.specs.List.{list_all}
use Rattle.cyp_sound.proofs.kept.keep_heap.Goals as goal

pub returns-clause-fits : goal.returns-clause-fits
returns-clause-fits c = subst (λ cs. list_all parts_fit cs ≡ true) c.chunks.ensures.chunks (all_fit c.chunks.result.now c.keep_chunks.ensures)

pub returns-clause-small : goal.returns-clause-small
returns-clause-small c = subst (λ cs. list_all is_small cs ≡ true) c.chunks.ensures.chunks (all_small c.chunks.result.now c.keep_chunks.ensures)
