use Rattle.cyp_sets.proofs.Sayings.{says_not_same, says_not_sub}
use Rattle.cyp_sets.proofs.said.saying_of.Goals as goal

pub returns-in-NotSame : goal.returns-in-NotSame
returns-in-NotSame c = says_not_same c.args.names.now c.in-NotSame.a c.in-NotSame.b _ _ c.union_of-in-NotSame.ensures c.union_of-in-NotSame-2.ensures c.args.lit.now c.in-NotSame.is

pub returns-in-NotSub : goal.returns-in-NotSub
returns-in-NotSub c = says_not_sub c.args.names.now c.in-NotSub.a c.in-NotSub.b _ _ c.union_of-in-NotSub.ensures c.union_of-in-NotSub-2.ensures c.args.lit.now c.in-NotSub.is
