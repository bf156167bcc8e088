-- Worked outputs of words and bytes.
use Rattle.std.proofs.Common.{List, inl, refl, ℕ, [], ◌∷◌}
use Rattle.std.specs.Fmt.{digits}
use Rattle.std.specs.Prelude.{codes}
use Rattle.cyp_lex.specs.Lexing.{lexed, name_kind, piece_at, sign_at, stands}
use Rattle.cyp_lex.specs.declared.fault.FaultKind.TheVariants.{GuardsOverlap}
use Rattle.cyp_spec.proofs.ExampleForms.{refused, tree_of}
use Rattle.cyp_formed.specs.Reading.{judge}
use Rattle.cyp_term.specs.Entailment.{arrangement_fits, arrangements, class_literals, entailed, satisfiable}
use Rattle.cyp_term.specs.Integers.{all_cases, both, eliminate, eliminate_all, feasible, ints_fit, joined}
use Rattle.cyp_term.specs.Regions.{all_set_vars, all_terms, regions_fit}
use Rattle.cyp_top.specs.Lines.{output}
use Rattle.cyp_top.specs.WholeOutput.{IsWholeOutput}
use Rattle.cyp_top.specs.declared.status.Status.TheVariants.{NoProgram, Program, Refused, Spent}

abbrev swap : List ℕ
swap = codes "void swap(loc x, loc y) { x :-> a ** y :-> b } { x :-> b ** y :-> a }"

swapped : IsWholeOutput (codes "synth" ∷ []) swap (output (codes "void swap(v1, v2) {\n  let v3 = *v1;\n  let v4 = *v2;\n  *v1 = v4;\n  *v2 = v3;\n}\n") Program)
unfolding digits lexed piece_at sign_at stands name_kind satisfiable arrangements class_literals arrangement_fits ints_fit all_cases both joined eliminate eliminate_all feasible all_terms all_set_vars regions_fit entailed
swapped = (judge (tree_of swap), inl (tree_of swap, assumption refl, refl), refl)

-- guards that overlap
abbrev zero_twice : List ℕ
zero_twice = codes "predicate p(loc x) { | x <= 0 => { emp } | x == 0 => { emp } } void f(loc x) { emp } { emp }"

overlapping : IsWholeOutput (codes "synth" ∷ []) zero_twice (output (codes "refused: GuardsOverlap at 43\n") Refused)
unfolding digits lexed piece_at sign_at stands name_kind satisfiable arrangements class_literals arrangement_fits ints_fit all_cases both joined eliminate eliminate_all feasible all_terms all_set_vars regions_fit entailed
overlapping = (refused GuardsOverlap 43, inl (tree_of zero_twice, assumption refl, refl), refl)

-- three expansions suffice, two don't
abbrev write : List ℕ
write = codes "void f(loc x) { x :-> a } { x :-> 5 }"

write_said : IsWholeOutput (codes "synth" ∷ codes "--budget=3" ∷ []) write (output (codes "void f(v1) {\n  *v1 = 5;\n}\n") Program)
unfolding digits lexed piece_at sign_at stands name_kind satisfiable arrangements class_literals arrangement_fits ints_fit all_cases both joined eliminate eliminate_all feasible all_terms all_set_vars regions_fit entailed
write_said = (judge (tree_of write), inl (tree_of write, assumption refl, refl), refl)

write_spent : IsWholeOutput (codes "synth" ∷ codes "--budget" ∷ codes "2" ∷ []) write (output (codes "budget spent\n") Spent)
unfolding digits lexed piece_at sign_at stands name_kind satisfiable arrangements class_literals arrangement_fits ints_fit all_cases both joined eliminate eliminate_all feasible all_terms all_set_vars regions_fit entailed
write_spent = (judge (tree_of write), inl (tree_of write, assumption refl, refl), refl)

abbrev new_cell : List ℕ
new_cell = codes "void f(loc x) { emp } { x :-> 1 }"

new_cell_said : IsWholeOutput (codes "synth" ∷ []) new_cell (output (codes "no program\n") NoProgram)
unfolding digits lexed piece_at sign_at stands name_kind satisfiable arrangements class_literals arrangement_fits ints_fit all_cases both joined eliminate eliminate_all feasible all_terms all_set_vars regions_fit entailed
new_cell_said = (judge (tree_of new_cell), inl (tree_of new_cell, assumption refl, refl), refl)

-- no heap is of this precondition
abbrev one_place : List ℕ
one_place = codes "void f(loc x) { x :-> 1 ** x :-> 2 } { emp }"

one_place_said : IsWholeOutput (codes "synth" ∷ []) one_place (output (codes "void f(v1) {\n  error;\n}\n") Program)
unfolding digits lexed piece_at sign_at stands name_kind satisfiable arrangements class_literals arrangement_fits ints_fit all_cases both joined eliminate eliminate_all feasible all_terms all_set_vars regions_fit entailed
one_place_said = (judge (tree_of one_place), inl (tree_of one_place, assumption refl, refl), refl)

abbrev itself : List ℕ
itself = codes "predicate p(loc x) { | x == 0 => { emp } | x != 0 => { p(x) } } void f(loc x) { emp } { emp }"

itself_said : IsWholeOutput (codes "synth" ∷ []) itself (output (codes "refused: Unproductive at 41\n") Refused)
unfolding digits lexed piece_at sign_at stands name_kind satisfiable arrangements class_literals arrangement_fits ints_fit all_cases both joined eliminate eliminate_all feasible all_terms all_set_vars regions_fit entailed
itself_said = (judge (tree_of itself), inl (tree_of itself, assumption refl, refl), refl)
