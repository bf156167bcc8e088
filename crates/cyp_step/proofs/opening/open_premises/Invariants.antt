use Rattle.std.proofs.Common.{◌≡◌, ◌++◌, map}
use Rattle.std.specs.List.{All}
use Rattle.std.specs.Vec.Iter.{into_iter_items}
use Rattle.cyp_step.specs.UnfoldParts.{HasFits}
use Rattle.cyp_step.specs.Unfolding.{open_premise}
use Rattle.cyp_step.proofs.opening.open_premises.Given as goal

abbrev pub invariant-loop-entry : goal.invariant-loop-entry
invariant-loop-entry l = record {
  fits : All HasFits (map (open_premise l.node l.place l.link) (into_iter_items l.entry-iterator));
  made : l.premises.items ++ map (open_premise l.node l.place l.link) (into_iter_items l.entry-iterator) ≡ map (open_premise l.node l.place l.link) l.fn.entries;
}
