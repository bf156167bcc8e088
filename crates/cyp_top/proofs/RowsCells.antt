-- Searches for programs on cells alone, computed: what is written, and how the search went.
use Rattle.std.proofs.Common.{◌≡◌, [], ◌∷◌, refl}
use Rattle.std.specs.Fmt.{digits}
use Rattle.std.specs.Prelude.{codes}
use Rattle.cyp_step.specs.declared.rule.Rule.TheVariants.{ByEmp, ByFrame, ByRead, ByWrite}
use Rattle.cyp_term.specs.Entailment.{arrangement_fits, arrangements, class_literals, entailed, satisfiable}
use Rattle.cyp_term.specs.Integers.{all_cases, both, eliminate, eliminate_all, feasible, ints_fit, joined}
use Rattle.cyp_term.specs.Regions.{all_set_vars, all_terms, regions_fit}
use Rattle.cyp_top.specs.Lines.{output}
use Rattle.cyp_top.specs.declared.status.Status.TheVariants.{NoProgram, Program, Spent}
use Rattle.cyp_heap.proofs.Short.{from_nothing, swap, two_at_one, write_five}
use Rattle.cyp_top.proofs.RowsShort.{run, trace}

no_cell : run 20 (codes "f") from_nothing ≡ (output (codes "no program\n") NoProgram, 1, 1, 0)
unfolding digits joined eliminate eliminate_all feasible both all_cases ints_fit arrangements class_literals arrangement_fits satisfiable entailed regions_fit all_terms all_set_vars
no_cell = refl

-- no heap has two cells at one address
contradiction : run 20 (codes "f") two_at_one ≡ (output (codes "void f(v1) {\n  error;\n}\n") Program, 1, 1, 0)
unfolding digits joined eliminate eliminate_all feasible both all_cases ints_fit arrangements class_literals arrangement_fits satisfiable entailed regions_fit all_terms all_set_vars
contradiction = refl

write : run 20 (codes "f") write_five ≡ (output (codes "void f(v1) {\n  *v1 = 5;\n}\n") Program, 3, 3, 2)
unfolding digits joined eliminate eliminate_all feasible both all_cases ints_fit arrangements class_literals arrangement_fits satisfiable entailed regions_fit all_terms all_set_vars
write = refl

write_trace : trace 20 write_five ≡ (ByWrite 0 ∷ []) ∷ (ByFrame 0 ∷ []) ∷ (ByEmp ∷ []) ∷ []
unfolding digits joined eliminate eliminate_all feasible both all_cases ints_fit arrangements class_literals arrangement_fits satisfiable entailed regions_fit all_terms all_set_vars
write_trace = refl

write_spent : run 2 (codes "f") write_five ≡ (output (codes "budget spent\n") Spent, 2, 3, 2)
unfolding digits joined eliminate eliminate_all feasible both all_cases ints_fit arrangements class_literals arrangement_fits satisfiable entailed regions_fit all_terms all_set_vars
write_spent = refl

swapped : run 20 (codes "swap") swap ≡ (output (codes "void swap(v1, v2) {\n  let v3 = *v1;\n  let v4 = *v2;\n  *v1 = v4;\n  *v2 = v3;\n}\n") Program, 7, 7, 6)
unfolding digits joined eliminate eliminate_all feasible both all_cases ints_fit arrangements class_literals arrangement_fits satisfiable entailed regions_fit all_terms all_set_vars
swapped = refl

swap_trace : trace 20 swap ≡ (ByRead 0 ∷ []) ∷ (ByRead 1 ∷ []) ∷ (ByWrite 0 ∷ []) ∷ (ByFrame 0 ∷ []) ∷ (ByWrite 0 ∷ []) ∷ (ByFrame 0 ∷ []) ∷ (ByEmp ∷ []) ∷ []
unfolding digits joined eliminate eliminate_all feasible both all_cases ints_fit arrangements class_literals arrangement_fits satisfiable entailed regions_fit all_terms all_set_vars
swap_trace = refl
