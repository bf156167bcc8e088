-- Worked outputs of texts with lists.
use Rattle.std.proofs.Common.{List, inl, refl, ℕ, [], ◌++◌, ◌∷◌}
use Rattle.std.specs.Fmt.{digits}
use Rattle.std.specs.Prelude.{codes}
use Rattle.cyp_lex.specs.Lexing.{lexed, name_kind, piece_at, sign_at, stands}
use Rattle.cyp_spec.proofs.ExampleForms.{sll_text, tree_of}
use Rattle.cyp_formed.specs.Reading.{judge}
use Rattle.cyp_term.specs.Entailment.{arrangement_fits, arrangements, class_literals, entailed, satisfiable}
use Rattle.cyp_term.specs.Integers.{all_cases, both, eliminate, eliminate_all, feasible, ints_fit, joined}
use Rattle.cyp_term.specs.Regions.{all_set_vars, all_terms, regions_fit}
use Rattle.cyp_top.specs.Lines.{output}
use Rattle.cyp_top.specs.WholeOutput.{IsWholeOutput}
use Rattle.cyp_top.specs.declared.status.Status.TheVariants.{Program}

abbrev dispose : List ℕ
dispose = sll_text ++ codes "void dispose(loc x) { sll(x, s) } { emp }"

dispose_said : IsWholeOutput (codes "synth" ∷ codes "--stats" ∷ []) dispose (output (codes "void dispose(v1) {\n  if (v1 == 0) {\n  } else {\n    let v2 = *v1;\n    let v3 = *(v1 + 1);\n    free(v1);\n    dispose(v3);\n  }\n}\n// expansions 7\n// nodes 12\n// depth 5\n") Program)
unfolding digits lexed piece_at sign_at stands name_kind satisfiable arrangements class_literals arrangement_fits ints_fit all_cases both joined eliminate eliminate_all feasible all_terms all_set_vars regions_fit entailed
dispose_said = (judge (tree_of dispose), inl (tree_of dispose, assumption refl, refl), refl)

-- the list stays as it is
abbrev same : List ℕ
same = sll_text ++ codes "void f(loc x) { sll(x, s) } { sll(x, s) }"

same_said : IsWholeOutput (codes "synth" ∷ []) same (output (codes "void f(v1) {\n}\n") Program)
unfolding digits lexed piece_at sign_at stands name_kind satisfiable arrangements class_literals arrangement_fits ints_fit all_cases both joined eliminate eliminate_all feasible all_terms all_set_vars regions_fit entailed
same_said = (judge (tree_of same), inl (tree_of same, assumption refl, refl), refl)

-- with an auxiliary procedure
abbrev clear : List ℕ
clear = sll_text ++ codes "void clear(loc r) { r :-> x ** sll(x, s) } { r :-> 0 }"

clear_said : IsWholeOutput (codes "synth" ∷ codes "--stats" ∷ codes "--workers" ∷ codes "8" ∷ []) clear (output (codes "void clear(v1) {\n  let v2 = *v1;\n  *v1 = 0;\n  clear_1(v1, v2);\n}\nvoid clear_1(v1, v2) {\n  if (v2 == 0) {\n  } else {\n    let v3 = *v2;\n    let v4 = *(v2 + 1);\n    free(v2);\n    clear_1(v1, v4);\n  }\n}\n// expansions 14\n// nodes 21\n// depth 8\n") Program)
unfolding digits lexed piece_at sign_at stands name_kind satisfiable arrangements class_literals arrangement_fits ints_fit all_cases both joined eliminate eliminate_all feasible all_terms all_set_vars regions_fit entailed
clear_said = (judge (tree_of clear), inl (tree_of clear, assumption refl, refl), refl)
