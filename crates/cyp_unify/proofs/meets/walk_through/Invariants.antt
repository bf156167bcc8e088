use Rattle.std.proofs.Common.{◌≡◌, drop, length}
use Rattle.cyp_unify.specs.Matches.{no_walk, walk}
use Rattle.cyp_unify.specs.Meeting.{positions_of}
use Rattle.cyp_unify.proofs.meets.walk_through.Given as goal

abbrev pub invariant-loop-chunk : goal.invariant-loop-chunk
invariant-loop-chunk l = walk l.exist l.found (positions_of l.present (drop (length l.yielded) l.wanted) (drop (length l.yielded) l.places)) ≡ walk l.exist no_walk (positions_of l.present l.wanted l.places)
