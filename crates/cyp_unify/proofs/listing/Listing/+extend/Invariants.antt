use Rattle.std.proofs.Common.{◌+◌, ◌*◌, length}
use Rattle.cyp_unify.proofs.Listed.{Goes}
use Rattle.cyp_unify.proofs.listing.Listing.+extend.Given as goal

abbrev pub decreases-extend : goal.decreases-extend
decreases-extend l = 2 * length l.wanted.now

abbrev pub decreases-extend_by : goal.decreases-extend_by
decreases-extend_by l = 2 * length l.rest.now + 1

abbrev pub invariant-extend-loop-place : goal.invariant-extend-loop-place
invariant-extend-loop-place l = Goes l.present l.link l.wanted l.fn.self l.self l.place
