-- Worked examples of printed specifications.
use Rattle.std.specs.Prelude.{List, None, Ok, Some, [], codes, negsuc, ℕ, ◌++◌, ◌∷◌, ◌≡◌}
use Rattle.std.proofs.Common.{refl, inl}
use Rattle.std.specs.Fmt.{digits}
use Rattle.cyp_heap.specs.declared.chunk.Arg.TheVariants.{Int as IntArg, Set as SetArg}
use Rattle.cyp_lex.specs.Lexing.{lexed, name_kind, piece_at, sign_at, stands}
use Rattle.cyp_term.specs.Entailment.{arrangement_fits, arrangements, class_literals, satisfiable}
use Rattle.cyp_term.specs.Integers.{all_cases, both, eliminate, eliminate_all, feasible, ints_fit, joined}
use Rattle.cyp_term.specs.Regions.{all_set_vars, all_terms, regions_fit}
use Rattle.cyp_term.specs.declared.lit.Lit.TheVariants.{Eq, Le, NotMember, NotSub}
use Rattle.cyp_writing.specs.Printing.{specification_text}
use Rattle.cyp_formed.specs.Reading.{IsReading}
use Rattle.cyp_names.specs.Specifications.{Specification}
use Rattle.cyp_spec.proofs.ExampleForms.{S, X, cell, goal, inst, k, no_preds, num, plus, s, sll_preds, tree_of, x}

abbrev write : Specification
write = record { preds = no_preds; name = codes "f"; goal = goal (x 0 ∷ []) [] (cell (X 0) (X 1) ∷ []) (cell (X 0) (num 5) ∷ []) }

write_printed : specification_text write ≡ codes "void f(int x1) { x1 :-> x2 } { x1 :-> 5 }\n"
unfolding digits
write_printed = refl

-- the greater of two numbers at a fixed address
abbrev greater : Specification
greater = record {
  preds = no_preds;
  name = codes "max";
  goal = record (goal (x 0 ∷ x 1 ∷ []) (x 2 ∷ []) (cell (num 8) (num 0) ∷ []) (cell (num 8) (X 2) ∷ [])) { pure_post = Le (X 0) (X 2) ∷ Le (X 1) (X 2) ∷ [] };
}

greater_printed : specification_text greater ≡ codes "void max(int x1, int x2) { (8) :-> 0 } { x1 <= x3 && x2 <= x3 ; (8) :-> x3 }\n"
unfolding digits
greater_printed = refl

abbrev sets : Specification
sets = record {
  preds = no_preds;
  name = codes "f";
  goal = record (goal [] [] [] (cell (plus 1 3) (record { base = Some (x 0); offset = negsuc 1 }) ∷ [])) {
    pure_pre =
        NotMember (X 0) (S 0)
        ∷ NotSub (record { vars = s 0 ∷ s 1 ∷ []; elems = X 0 ∷ plus 1 3 ∷ [] }) (record { vars = []; elems = [] })
        ∷ Eq (record { base = None; offset = negsuc 4 }) (num 0)
        ∷ [];
  };
}

sets_printed : specification_text sets ≡ codes "void f() { not (x1 in s1) && not (s1 ++ s2 ++ { x1, x2 + 3 } <=i { }) && - 5 == 0 ; emp } { (x2 + 3) :-> x1 - 2 }\n"
unfolding digits
sets_printed = refl

-- ---- what is printed is read

abbrev dispose : Specification
dispose = record {
  preds = sll_preds;
  name = codes "dispose";
  goal = goal (x 0 ∷ []) [] (inst (IntArg (X 0) ∷ SetArg (S 0) ∷ []) (Some (k 0)) ∷ []) [];
}

abbrev dispose_text : List ℕ
dispose_text =
    codes "predicate sll(int x1, set s1) { | x1 == 0 => { s1 =i { } ; emp } | x1 != 0 => { s1 =i s2 ++ { x2 } ; "
    ++ codes "sll(x3, s2) ** [x1, 2] ** x1 :-> x2 ** (x1 + 1) :-> x3 } }\nvoid dispose(int x1) { sll(x1, s1) } { emp }\n"

dispose_printed : specification_text dispose ≡ dispose_text
unfolding digits
dispose_printed = refl

dispose_read : IsReading dispose_text (Ok dispose)
unfolding lexed piece_at sign_at stands name_kind satisfiable arrangements class_literals arrangement_fits ints_fit all_cases both joined eliminate eliminate_all feasible all_terms all_set_vars regions_fit
dispose_read = inl (tree_of dispose_text, assumption refl, refl)
