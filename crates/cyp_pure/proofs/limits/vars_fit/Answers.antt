use Rattle.cyp_pure.proofs.Counts.{few_numbers, many_numbers}
use Rattle.cyp_pure.proofs.limits.vars_fit.Goals as goal

pub returns-then-vars-sets-le-MOST_NUMBERS : goal.returns-then-vars-sets-le-MOST_NUMBERS
returns-then-vars-sets-le-MOST_NUMBERS c = few_numbers c.args.vars.now c.count_sets-sets.result c.count_sets-sets.ensures c.if-vars-sets-le-MOST_NUMBERS.true

pub returns-else-vars-sets-le-MOST_NUMBERS : goal.returns-else-vars-sets-le-MOST_NUMBERS
returns-else-vars-sets-le-MOST_NUMBERS c = many_numbers c.args.vars.now c.count_sets-sets.result c.count_sets-sets.ensures c.if-vars-sets-le-MOST_NUMBERS.false
