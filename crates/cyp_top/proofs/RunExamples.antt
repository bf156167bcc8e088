-- A worked output of `run`: a cell of the block that is given back is missing.
use Rattle.std.proofs.Common.{[], Err, List, None, Ok, Option, Result, Some, ap, arith, inl, inr, is_some, pos, refl, true, ℕ, ℤ, ◌&&◌, ◌∙◌, ◌∷◌, ◌≡◌}
use Rattle.std.proofs.lemmas.Cmp.{int_cmp_total}
use Rattle.std.specs.FinMap.{get, get-from_entries}
use Rattle.std.specs.Fmt.{digits}
use Rattle.std.specs.Prelude.{codes, false}
use Rattle.cyp_lex.specs.Lexing.{lexed, name_kind, piece_at, program_tokens_of, sign_at, stands}
use Rattle.cyp_lex.specs.declared.fault.Fault.{Fault}
use Rattle.cyp_lex.specs.declared.token.Token.{Token}
use Rattle.cyp_machine.specs.Faults.{fault, is_whole, unless_there}
use Rattle.cyp_machine.specs.RunInput.{BlockPiece, CellPiece, InputTree, IsInputReading, RunInput, input_of}
use Rattle.cyp_machine.specs.declared.cause.Cause.TheVariants.{FreeMissing}
use Rattle.cyp_prog.proofs.Shallow.{few_braces}
use Rattle.cyp_prog.specs.Lexemes.{program_lexemes}
use Rattle.cyp_prog.specs.Trees.{FreeStmt, NoStmts, Stmts}
use Rattle.cyp_prog.specs.declared.tree.ExprTree.TheVariants.{Var}
use Rattle.cyp_top.specs.Lines.{output}
use Rattle.cyp_top.specs.RunOutput.{IsRunOutput, first_state}
use Rattle.cyp_top.specs.WholeOutput.{IsWholeOutput}
use Rattle.cyp_top.specs.declared.status.Status.TheVariants.{NoProgram}

abbrev found : Result (List Token) Fault → List Token
found (Ok ts) = ts
found (Err f) = []

abbrev half_block : List ℕ
half_block = codes "void f(v1) { free(v1); } start f(5) { [5, 2] ** 5 :-> 1 }"

abbrev half_tree : InputTree
half_tree = record {
  program = record {
    first = record {
      name = record { text = codes "f"; place = 5 };
      params = record { number = 1; place = 7 } ∷ [];
      body = Stmts (FreeStmt (Var (record { number = 1; place = 18 }))) NoStmts;
    };
    others = [];
  };
  start = record {
    name = record { text = codes "f"; place = 31 };
    args = record { minus = false; place = 33; n = 5 } ∷ [];
    pieces = BlockPiece 39 5 42 2 ∷ CellPiece 48 5 (record { minus = false; place = 54; n = 1 }) ∷ [];
  };
}

abbrev half_input : RunInput
half_input = input_of half_tree

half_is_read : IsInputReading half_block (Ok half_input)
unfolding lexed piece_at sign_at stands name_kind
half_is_read = record {
  tree = half_tree;
  parsed = record {
    lexemes = program_lexemes half_block (found (program_tokens_of half_block));
    says = record { tokens = found (program_tokens_of half_block); lexed = refl; said = refl };
    spelled = search;
    shallow = few_braces (program_lexemes half_block (found (program_tokens_of half_block))) (omega arith);
  };
  faultless = refl;
  said = refl;
}

the_block : get half_input.store.blocks (pos 5) ≡ Some 2
the_block = get-from_entries int_cmp_total ((pos 5, 2) ∷ []) (pos 5)

first_cell : get half_input.store.cells (pos 5) ≡ Some (pos 1)
first_cell = get-from_entries int_cmp_total ((pos 5, pos 1) ∷ []) (pos 5)

no_second_cell : get half_input.store.cells (pos 6) ≡ None
no_second_cell = get-from_entries int_cmp_total ((pos 5, pos 1) ∷ []) (pos 6)

half_faults : fault (first_state half_input) ≡ Some FreeMissing
half_faults =
    ap (λ (o : Option ℕ). unless_there (is_whole half_input.store (pos 5) o) FreeMissing) the_block
    ∙ ap (λ (o : Option ℤ). unless_there (is_some o && (is_some (get half_input.store.cells (pos 6)) && true)) FreeMissing) first_cell
    ∙ ap (λ (o : Option ℤ). unless_there (is_some o && true) FreeMissing) no_second_cell

half_runs : IsRunOutput half_input 100000 (output (codes "faulted: FreeMissing at step 1\n") NoProgram)
unfolding digits
half_runs = inr (inl (record {
  steps = 0;
  state = first_state half_input;
  cause = FreeMissing;
  within = omega arith;
  run = refl;
  faulted = half_faults;
  said = refl;
}))

half_said : IsWholeOutput (codes "run" ∷ []) half_block (output (codes "faulted: FreeMissing at step 1\n") NoProgram)
half_said = (Ok half_input, half_is_read, half_runs)
