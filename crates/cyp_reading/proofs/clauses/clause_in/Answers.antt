use Rattle.std.proofs.Common.{arith}
use Rattle.cyp_reading.proofs.InScopes.{count_within}
use Rattle.cyp_term.specs.declared.term.Sort.TheVariants.{Int, Set}
use Rattle.cyp_reading.proofs.clauses.clause_in.Goals as goal

pub overflow_cast-ints : goal.overflow_cast-ints
overflow_cast-ints c = record { fits = omega (arith, count_within Int c.args.scope.now, count_within Set c.args.scope.now, c.requires.few) }

pub overflow_cast-sets : goal.overflow_cast-sets
overflow_cast-sets c = record { fits = omega (arith, count_within Int c.args.scope.now, count_within Set c.args.scope.now, c.requires.few) }
