use Rattle.cyp_sets.specs.Dealing.{AreRegions}
use Rattle.cyp_sets.proofs.region_lists.class_regions.Given as goal

abbrev pub invariant-loop-place : goal.invariant-loop-place
invariant-loop-place l = AreRegions l.rules l.count l.place l.lists.items
