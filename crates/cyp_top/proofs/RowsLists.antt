-- Searches for programs on lists, computed: what is written, and how the search went.
use Rattle.std.proofs.Common.{◌≡◌, [], ◌∷◌, None, refl}
use Rattle.std.specs.Fmt.{digits}
use Rattle.std.specs.Prelude.{codes}
use Rattle.cyp_step.specs.declared.rule.Rule.TheVariants.{ByClose, ByEmp, ByFrame, ByFree, ByOpen, ByRead, ByWrite}
use Rattle.cyp_heap.specs.declared.goal.Node.{Node}
use Rattle.cyp_term.specs.Entailment.{arrangement_fits, arrangements, class_literals, entailed, satisfiable}
use Rattle.cyp_term.specs.Integers.{all_cases, both, eliminate, eliminate_all, feasible, ints_fit, joined}
use Rattle.cyp_term.specs.Regions.{all_set_vars, all_terms, regions_fit}
use Rattle.cyp_top.specs.Lines.{output}
use Rattle.cyp_top.specs.declared.status.Status.TheVariants.{NoProgram, Program}
use Rattle.cyp_heap.proofs.Short.{S, X, cell, clear, dispose, left_as_is, list_at, lists, node, num, out_of_reach, s, x}
use Rattle.cyp_top.proofs.RowsShort.{call, run, trace}

-- no guard can be tested
unreachable : run 20 (codes "f") out_of_reach ≡ (output (codes "no program\n") NoProgram, 1, 1, 0)
unfolding digits joined eliminate eliminate_all feasible both all_cases ints_fit arrangements class_literals arrangement_fits satisfiable entailed regions_fit all_terms all_set_vars
unreachable = refl

left : run 20 (codes "f") left_as_is ≡ (output (codes "void f(v1) {\n}\n") Program, 2, 6, 1)
unfolding digits joined eliminate eliminate_all feasible both all_cases ints_fit arrangements class_literals arrangement_fits satisfiable entailed regions_fit all_terms all_set_vars
left = refl

disposed : run 20 (codes "dispose") dispose ≡ (output (codes "void dispose(v1) {\n  if (v1 == 0) {\n  } else {\n    let v2 = *v1;\n    let v3 = *(v1 + 1);\n    free(v1);\n    dispose(v3);\n  }\n}\n") Program, 7, 12, 5)
unfolding digits joined eliminate eliminate_all feasible both all_cases ints_fit arrangements class_literals arrangement_fits satisfiable entailed regions_fit all_terms all_set_vars
disposed = refl

dispose_trace : trace 20 dispose ≡ (ByOpen 0 ∷ []) ∷ (ByEmp ∷ []) ∷ (ByRead 2 ∷ []) ∷ (ByRead 3 ∷ []) ∷ (ByFree 1 ∷ call (0 ∷ []) ∷ ByOpen 0 ∷ []) ∷ (call (0 ∷ []) ∷ ByOpen 0 ∷ []) ∷ (ByEmp ∷ []) ∷ []
unfolding digits joined eliminate eliminate_all feasible both all_cases ints_fit arrangements class_literals arrangement_fits satisfiable entailed regions_fit all_terms all_set_vars
dispose_trace = refl

cleared : run 20 (codes "clear") clear ≡ (output (codes "void clear(v1) {\n  let v2 = *v1;\n  *v1 = 0;\n  clear_1(v1, v2);\n}\nvoid clear_1(v1, v2) {\n  if (v2 == 0) {\n  } else {\n    let v3 = *v2;\n    let v4 = *(v2 + 1);\n    free(v2);\n    clear_1(v1, v4);\n  }\n}\n") Program, 14, 21, 8)
unfolding digits joined eliminate eliminate_all feasible both all_cases ints_fit arrangements class_literals arrangement_fits satisfiable entailed regions_fit all_terms all_set_vars
cleared = refl

clear_trace : trace 20 clear ≡ (ByRead 1 ∷ []) ∷ (ByWrite 1 ∷ ByOpen 0 ∷ []) ∷ (ByFrame 1 ∷ ByOpen 0 ∷ []) ∷ (ByOpen 0 ∷ []) ∷ (ByEmp ∷ []) ∷ (ByFrame 0 ∷ []) ∷ (ByEmp ∷ []) ∷ (ByFrame 0 ∷ []) ∷ (ByEmp ∷ []) ∷ (ByRead 2 ∷ []) ∷ (ByRead 3 ∷ []) ∷ (ByFree 1 ∷ call (0 ∷ []) ∷ ByOpen 0 ∷ []) ∷ (call (0 ∷ []) ∷ ByOpen 0 ∷ []) ∷ (ByEmp ∷ []) ∷ []
unfolding digits joined eliminate eliminate_all feasible both all_cases ints_fit arrangements class_literals arrangement_fits satisfiable entailed regions_fit all_terms all_set_vars
clear_trace = refl

-- void f(loc r) { r :-> a } { r :-> x ** sll(x, s) }
abbrev any_list : Node
any_list = node lists (x 0 ∷ []) (x 2 ∷ s 0 ∷ []) [] (cell (X 0) (X 1) ∷ []) [] (list_at (X 2) (S 0) None ∷ cell (X 0) (X 2) ∷ [])

empty_list : run 200 (codes "f") any_list ≡ (output (codes "void f(v1) {\n  *v1 = 0;\n}\n") Program, 4, 5, 3)
unfolding digits joined eliminate eliminate_all feasible both all_cases ints_fit arrangements class_literals arrangement_fits satisfiable entailed regions_fit all_terms all_set_vars
empty_list = refl

-- void f() { emp } { sll(0, s) }
abbrev at_zero : Node
at_zero = node lists [] (s 0 ∷ []) [] [] [] (list_at (num 0) (S 0) None ∷ [])

nothing_to_do : run 20 (codes "f") at_zero ≡ (output (codes "void f() {\n}\n") Program, 2, 2, 1)
unfolding digits joined eliminate eliminate_all feasible both all_cases ints_fit arrangements class_literals arrangement_fits satisfiable entailed regions_fit all_terms all_set_vars
nothing_to_do = refl

-- the row of the second clause is left out, for its premise is dead
dead_clause : trace 20 at_zero ≡ (ByClose 0 ∷ []) ∷ (ByEmp ∷ []) ∷ []
unfolding digits joined eliminate eliminate_all feasible both all_cases ints_fit arrangements class_literals arrangement_fits satisfiable entailed regions_fit all_terms all_set_vars
dead_clause = refl
