-- Worked examples of the input of a run.
use Rattle.std.proofs.Common.{◌≡◌, ◌++◌, [], ◌∷◌, Err, List, Ok, Result, arith, drop, false, inl, inr, refl, subst, true, ℕ}
use Rattle.std.specs.FinMap.{from_entries}
use Rattle.std.specs.Prelude.{codes, neg_ℤ, pos}
use Rattle.cyp_lex.proofs.Spellings.{then_split}
use Rattle.cyp_lex.specs.Beginnings.{Begins}
use Rattle.cyp_lex.specs.Lexemes.{Lexeme, Name, Variable}
use Rattle.cyp_lex.specs.Spelling.{IsEnd, Then, all_spelling}
use Rattle.cyp_lex.specs.Lexing.{lexed, name_kind, piece_at, program_tokens_of, sign_at, stands}
use Rattle.cyp_lex.specs.declared.fault.Fault.{Fault}
use Rattle.cyp_lex.specs.declared.token.Token.{Token}
use Rattle.cyp_machine.specs.RunInput.{BlockPiece, CellPiece, InputTree, IsInputReading, RunInput, input_spelling, start_spelling}
use Rattle.cyp_prog.proofs.Exact.{reads_exact}
use Rattle.cyp_prog.proofs.ProgramLaws.{proc_reads}
use Rattle.cyp_prog.proofs.Shallow.{few_braces}
use Rattle.cyp_prog.specs.Grammar.{proc_spelling, program_spelling}
use Rattle.cyp_prog.specs.Lexemes.{program_lexemes}
use Rattle.cyp_prog.specs.Programs.{End}
use Rattle.cyp_prog.specs.Trees.{NoStmts, ProcTree}
use Rattle.cyp_prog.specs.declared.fault.ProgKind.TheVariants.{Expected, NumberRange}

found : Result (List Token) Fault → List Token
found (Ok ts) = ts
found (Err f) = []

lexemes_in : List ℕ → List Lexeme
lexemes_in bytes = program_lexemes bytes (found (program_tokens_of bytes))

-- ---- an input that is read

one_cell : List ℕ
one_cell = codes "void f(v1) { } start f(7) { [7, 1] ** 7 :-> -3 }"

one_cell_tree : InputTree
one_cell_tree = record {
  program = record { first = record { name = record { text = codes "f"; place = 5 }; params = record { number = 1; place = 7 } ∷ []; body = NoStmts }; others = [] };
  start = record {
    name = record { text = codes "f"; place = 21 };
    args = record { minus = false; place = 23; n = 7 } ∷ [];
    pieces = BlockPiece 29 7 32 1 ∷ CellPiece 38 7 (record { minus = true; place = 45; n = 3 }) ∷ [];
  };
}

one_cell_input : RunInput
one_cell_input = record {
  program = record { name = codes "f"; params = 1; body = End } ∷ [];
  entry = 0;
  args = pos 7 ∷ [];
  store = record { cells = from_entries ((pos 7, neg_ℤ (pos 3)) ∷ []); blocks = from_entries ((pos 7, 1) ∷ []) };
}

one_cell_is_read : IsInputReading one_cell (Ok one_cell_input)
unfolding lexed piece_at sign_at stands name_kind found lexemes_in one_cell one_cell_tree one_cell_input
one_cell_is_read = record {
  tree = one_cell_tree;
  parsed = record {
    lexemes = lexemes_in one_cell;
    says = record { tokens = found (program_tokens_of one_cell); lexed = refl; said = refl };
    spelled = search;
    shallow = few_braces (lexemes_in one_cell) (omega arith);
  };
  faultless = refl;
  said = refl;
}

-- ---- a size that is too great for a number of the start line

great_size : List ℕ
great_size = codes "void f() { } start f() { [5, 3000000000] }"

great_size_tree : InputTree
great_size_tree = record {
  program = record { first = record { name = record { text = codes "f"; place = 5 }; params = []; body = NoStmts }; others = [] };
  start = record {
    name = record { text = codes "f"; place = 19 };
    args = [];
    pieces = BlockPiece 26 5 29 3000000000 ∷ [];
  };
}

great_size_is_refused : IsInputReading great_size (Err (record { kind = NumberRange; place = 29 }))
unfolding lexed piece_at sign_at stands name_kind found lexemes_in great_size great_size_tree
great_size_is_refused = inr (inr (record {
  tree = great_size_tree;
  parsed = record {
    lexemes = lexemes_in great_size;
    says = record { tokens = found (program_tokens_of great_size); lexed = refl; said = refl };
    spelled = search;
    shallow = few_braces (lexemes_in great_size) (omega arith);
  };
  least = refl;
}))

-- ---- a variable for the called procedure's name

started_variable : List ℕ
started_variable = codes "void g(v2) { } start v1(0) { emp }"

g_tree : ProcTree
g_tree = record { name = record { text = codes "g"; place = 5 }; params = record { number = 2; place = 7 } ∷ []; body = NoStmts }

started_tree : InputTree
started_tree = record {
  program = record { first = g_tree; others = [] };
  start = record {
    name = record { text = codes "g"; place = 21 };
    args = record { minus = false; place = 23; n = 0 } ∷ [];
    pieces = [];
  };
}

start_word : Lexeme
start_word = record { said = Name (codes "start"); place = 15 }

v1_there : Lexeme
v1_there = record { said = Variable 1; place = 21 }

header : List Lexeme
header = lexemes_in (codes "void g(v2) { }")

-- behind a program and `start` no variable stands
no_start : (others : List ProcTree) (t : InputTree) (rest : List Lexeme) → Then (all_spelling proc_spelling others) (Then (start_spelling t.start) IsEnd) (start_word ∷ v1_there ∷ rest) → ⊥
unfolding start_word v1_there
no_start [] t rest h = cc (h.1.0.0)
no_start (o ∷ os) t rest h = cc (h.0)

no_variable : Begins input_spelling (header ++ start_word ∷ v1_there ∷ []) → ⊥
unfolding header lexemes_in found lexed piece_at sign_at stands name_kind g_tree
no_variable h =
    let behind : List Lexeme = start_word ∷ v1_there ∷ h.1 in
    let t : InputTree = h.0 in
    let program = then_split (program_spelling t.program) (start_spelling t.start) IsEnd (header ++ behind) h.2 in
    let first = then_split (proc_spelling t.program.first) (all_spelling proc_spelling t.program.others) (Then (start_spelling t.start) IsEnd) (header ++ behind) program in
    let rest = reads_exact proc_reads g_tree t.program.first (λ ls. ls ≡ behind) (Then (all_spelling proc_spelling t.program.others) (Then (start_spelling t.start) IsEnd)) (λ l ls k. refl) (λ l ls k. refl) (header ++ behind) (search) first in
    no_start t.program.others t h.1 (subst (λ ls. Then (all_spelling proc_spelling t.program.others) (Then (start_spelling t.start) IsEnd) ls) rest.1.1 rest.1.2)

started_variable_is_refused : IsInputReading started_variable (Err (record { kind = Expected; place = 21 }))
unfolding lexed piece_at sign_at stands name_kind found lexemes_in header start_word v1_there started_variable started_tree g_tree
started_variable_is_refused = inr (inl (record {
  before = header ++ start_word ∷ [];
  rest = drop 8 (lexemes_in started_variable);
  says = record { tokens = found (program_tokens_of started_variable); lexed = refl; said = refl };
  begun = (started_tree, drop 8 (lexemes_in (codes "void g(v2) { } start g(0) { emp }")), search);
  shallow = few_braces (header ++ start_word ∷ []) (omega arith);
  refused = no_variable;
  place = refl;
}))
