use Rattle.std.proofs.Common.{ap, sym}
use Rattle.cyp_term.specs.Terms.{negated}
use Rattle.cyp_term.specs.declared.lit.Lit.TheVariants.{Le, Lt}
use Rattle.cyp_term.proofs.Negation.{opposite_of}
use Rattle.cyp_term.proofs.lit.Lit.negated.Goals as goal

pub returns-in-Le-clause-turned : goal.returns-in-Le-clause-turned
returns-in-Le-clause-turned c = opposite_of c.args.self (Lt c.in-Le.b c.in-Le.a) (sym (ap negated c.in-Le.is))

pub returns-in-Lt-clause-turned : goal.returns-in-Lt-clause-turned
returns-in-Lt-clause-turned c = opposite_of c.args.self (Le c.in-Lt.b c.in-Lt.a) (sym (ap negated c.in-Lt.is))
