-- Searches that guess, allocate or meet a predicate of their own, computed.
use Rattle.std.proofs.Common.{◌≡◌, ℕ, [], ◌∷◌, Some, None, refl}
use Rattle.std.specs.Fmt.{digits}
use Rattle.std.specs.Prelude.{codes, neg_ℤ, pos}
use Rattle.cyp_heap.specs.declared.chunk.Arg.TheVariants.{Int as IntArg}
use Rattle.cyp_heap.specs.declared.chunk.Chunk.TheVariants.{Inst}
use Rattle.cyp_heap.specs.declared.goal.Node.{Node}
use Rattle.cyp_heap.specs.declared.pred.Preds.{Preds}
use Rattle.cyp_step.specs.declared.rule.Rule.TheVariants.{ByAlloc, ByEmp, ByFrame, ByFree, ByOpen, ByPick, ByRead, ByWrite}
use Rattle.cyp_term.specs.Entailment.{arrangement_fits, arrangements, class_literals, entailed, satisfiable}
use Rattle.cyp_term.specs.Integers.{all_cases, both, eliminate, eliminate_all, feasible, ints_fit, joined}
use Rattle.cyp_term.specs.Regions.{all_set_vars, all_terms, regions_fit}
use Rattle.cyp_term.specs.Terms.{plus}
use Rattle.cyp_term.specs.declared.lit.Lit.TheVariants.{Eq, Le, Ne}
use Rattle.cyp_term.specs.declared.term.Sort.TheVariants.{Int}
use Rattle.cyp_top.specs.Lines.{output}
use Rattle.cyp_top.specs.declared.status.Status.TheVariants.{NoProgram, Program}
use Rattle.cyp_heap.proofs.Short.{X, X+, block, cell, k, no_preds, node, num, x}
use Rattle.cyp_top.proofs.RowsShort.{call, run, trace}

-- ---- guesses

-- void f(loc r, int a) { r :-> 0 } { a <= y && y <= a ; r :-> y }
abbrev guess : Node
guess = node no_preds (x 0 ∷ x 1 ∷ []) (x 2 ∷ []) [] (cell (X 0) (num 0) ∷ []) (Le (X 1) (X 2) ∷ Le (X 2) (X 1) ∷ []) (cell (X 0) (X 2) ∷ [])

-- the existential is guessed to be the parameter, since what is there doesn't fit
guessed : run 50 (codes "f") guess ≡ (output (codes "void f(v1, v2) {\n  *v1 = v2;\n}\n") Program, 4, 4, 3)
unfolding digits joined eliminate eliminate_all feasible both all_cases ints_fit arrangements class_literals arrangement_fits satisfiable entailed regions_fit all_terms all_set_vars
guessed = refl

guess_trace : trace 20 guess ≡ (ByPick (x 1) ∷ []) ∷ (ByWrite 0 ∷ []) ∷ (ByFrame 0 ∷ []) ∷ (ByEmp ∷ []) ∷ []
unfolding digits joined eliminate eliminate_all feasible both all_cases ints_fit arrangements class_literals arrangement_fits satisfiable entailed regions_fit all_terms all_set_vars
guess_trace = refl

-- void f(int n) { emp } { n <= e ; emp }
abbrev above : Node
above = node no_preds (x 0 ∷ []) (x 1 ∷ []) [] [] (Le (X 0) (X 1) ∷ []) []

guess_alone : run 20 (codes "f") above ≡ (output (codes "void f(v1) {\n}\n") Program, 2, 2, 1)
unfolding digits joined eliminate eliminate_all feasible both all_cases ints_fit arrangements class_literals arrangement_fits satisfiable entailed regions_fit all_terms all_set_vars
guess_alone = refl

-- ---- allocations

-- void f(loc r) { r :-> 0 } { r :-> y ** [y, 1] ** y :-> 3 }
abbrev fresh : Node
fresh = node no_preds (x 0 ∷ []) (x 1 ∷ []) [] (cell (X 0) (num 0) ∷ []) [] (block (X 1) 1 ∷ cell (X 0) (X 1) ∷ cell (X 1) (num 3) ∷ [])

allocated : run 50 (codes "f") fresh ≡ (output (codes "void f(v1) {\n  let v2 = malloc(1);\n  *v1 = v2;\n  *v2 = 3;\n}\n") Program, 7, 7, 6)
unfolding digits joined eliminate eliminate_all feasible both all_cases ints_fit arrangements class_literals arrangement_fits satisfiable entailed regions_fit all_terms all_set_vars
allocated = refl

allocation_trace : trace 20 fresh ≡ (ByAlloc ∷ []) ∷ (ByFrame 0 ∷ []) ∷ (ByWrite 0 ∷ []) ∷ (ByFrame 0 ∷ []) ∷ (ByWrite 0 ∷ []) ∷ (ByFrame 0 ∷ []) ∷ (ByEmp ∷ []) ∷ []
unfolding digits joined eliminate eliminate_all feasible both all_cases ints_fit arrangements class_literals arrangement_fits satisfiable entailed regions_fit all_terms all_set_vars
allocation_trace = refl

-- ---- other predicates

-- predicate opt(loc x) { | x == 0 => { emp } | not (x == 0) => { [x, 1] ** x :-> v } }
abbrev options : Preds
options = record {
  list = record {
    name = codes "opt";
    params = Int ∷ [];
    clauses =
        record { guard = Eq (X 0) (num 0); lits = []; heap = record { chunks = [] }; ints = 1; sets = 0 }
        ∷ record { guard = Ne (X 0) (num 0); lits = []; heap = record { chunks = block (X 0) 1 ∷ cell (X 0) (X 1) ∷ [] }; ints = 2; sets = 0 }
        ∷ [];
  } ∷ [];
}

-- void f(loc x) { opt(x) } { emp }
abbrev option : Node
option = node options (x 0 ∷ []) [] [] (Inst (record { pred = 0; args = IntArg (X 0) ∷ []; card = Some (k 0); tag = 0 }) ∷ []) [] []

option_freed : run 20 (codes "f") option ≡ (output (codes "void f(v1) {\n  if (v1 == 0) {\n  } else {\n    free(v1);\n  }\n}\n") Program, 4, 4, 2)
unfolding digits joined eliminate eliminate_all feasible both all_cases ints_fit arrangements class_literals arrangement_fits satisfiable entailed regions_fit all_terms all_set_vars
option_freed = refl

option_trace : trace 20 option ≡ (ByOpen 0 ∷ []) ∷ (ByEmp ∷ []) ∷ (ByFree 0 ∷ []) ∷ (ByEmp ∷ []) ∷ []
unfolding digits joined eliminate eliminate_all feasible both all_cases ints_fit arrangements class_literals arrangement_fits satisfiable entailed regions_fit all_terms all_set_vars
option_trace = refl

-- predicate up(loc x, int n) { | x == 0 => { emp } | not (x == 0) => { n == m - 1 ; [x, 1] ** x :-> y ** up(y, m) } }
abbrev risings : Preds
risings = record {
  list = record {
    name = codes "up";
    params = Int ∷ Int ∷ [];
    clauses =
        record { guard = Eq (X 0) (num 0); lits = []; heap = record { chunks = [] }; ints = 2; sets = 0 }
        ∷ record {
          guard = Ne (X 0) (num 0);
          lits = Eq (X 1) (plus (X 2) (neg_ℤ (pos 1))) ∷ [];
          heap = record { chunks = Inst (record { pred = 0; args = IntArg (X 3) ∷ IntArg (X 2) ∷ []; card = None; tag = 0 }) ∷ block (X 0) 1 ∷ cell (X 0) (X 3) ∷ [] };
          ints = 4;
          sets = 0;
        }
        ∷ [];
  } ∷ [];
}

-- void f(loc x, int n) { b == a + 2147483648 && a == n + 2147483648 && c <= b ; up(x, n) } { emp }, with this number
abbrev rising : ℕ → Node
rising d = node risings (x 0 ∷ x 1 ∷ []) [] (Eq (X 2) (X+ 3 d) ∷ Eq (X 3) (X+ 1 d) ∷ Le (X 4) (X 2) ∷ []) (Inst (record { pred = 0; args = IntArg (X 0) ∷ IntArg (X 1) ∷ []; card = Some (k 0); tag = 0 }) ∷ []) [] []

-- c <= n + 2 gives c <= m + 2 for the m above n, so the rest is freed by a call
small_called : trace 4 (rising 1) ≡ (ByOpen 0 ∷ []) ∷ (ByEmp ∷ []) ∷ (ByRead 2 ∷ []) ∷ (ByFree 1 ∷ call (0 ∷ []) ∷ ByOpen 0 ∷ []) ∷ []
unfolding digits joined eliminate eliminate_all feasible both all_cases ints_fit arrangements class_literals arrangement_fits satisfiable entailed regions_fit all_terms all_set_vars
small_called = refl

-- c <= m + 2 ^ 32 would be c <= n + 1 + 2 ^ 32, which is no literal
wide_not_called : trace 4 (rising 2147483648) ≡ (ByOpen 0 ∷ []) ∷ (ByEmp ∷ []) ∷ (ByRead 2 ∷ []) ∷ (ByFree 1 ∷ ByOpen 0 ∷ []) ∷ []
unfolding digits joined eliminate eliminate_all feasible both all_cases ints_fit arrangements class_literals arrangement_fits satisfiable entailed regions_fit all_terms all_set_vars
wide_not_called = refl

-- so nothing frees the whole list
wide_no_program : run 60 (codes "f") (rising 2147483648) ≡ (output (codes "no program\n") NoProgram, 15, 15, 6)
unfolding digits joined eliminate eliminate_all feasible both all_cases ints_fit arrangements class_literals arrangement_fits satisfiable entailed regions_fit all_terms all_set_vars
wide_no_program = refl
