-- Worked outputs of `gen`: the chain of n cells takes 2 to the n expansions on as many nodes.
use Rattle.std.proofs.Common.{refl, ◌≡◌}
use Rattle.std.specs.Fmt.{digits}
use Rattle.std.specs.Prelude.{codes}
use Rattle.cyp_term.specs.Entailment.{arrangement_fits, arrangements, class_literals, entailed, satisfiable}
use Rattle.cyp_term.specs.Integers.{all_cases, both, eliminate, eliminate_all, feasible, ints_fit, joined}
use Rattle.cyp_term.specs.Regions.{all_set_vars, all_terms, regions_fit}
use Rattle.cyp_top.specs.Chain.{gen_output}
use Rattle.cyp_top.specs.Lines.{output}
use Rattle.cyp_top.specs.declared.status.Status.TheVariants.{Program}

one_cell : gen_output 1 ≡ output (codes "gen 1\nanswer program\nexpansions 2\nnodes 2\ndepth 1\n") Program
unfolding digits satisfiable arrangements class_literals arrangement_fits ints_fit all_cases both joined eliminate eliminate_all feasible all_terms all_set_vars regions_fit entailed
one_cell = refl

two_cells : gen_output 2 ≡ output (codes "gen 2\nanswer program\nexpansions 4\nnodes 4\ndepth 2\n") Program
unfolding digits satisfiable arrangements class_literals arrangement_fits ints_fit all_cases both joined eliminate eliminate_all feasible all_terms all_set_vars regions_fit entailed
two_cells = refl
