use Rattle.cyp_goal.proofs.FirstPlaces.{is_first, is_no_first}
use Rattle.cyp_goal.specs.SolvedSides.{solves}
use Rattle.cyp_goal.proofs.equations.Unknowns.first.Goals as goal

pub returns-in-Some : goal.returns-in-Some
returns-in-Some c =
    is_first (solves c.args.self.now) c.args.lits.now c.loop-place.place c.index-lits-place.result c.in-Some.side c.loop-place.invariant c.loop-place-test.true c.index-lits-place.is c.in-Some.ensures

pub returns : goal.returns
returns c = is_no_first (solves c.args.self.now) c.args.lits.now c.loop-place.place c.loop-place.invariant c.loop-place-test.false
