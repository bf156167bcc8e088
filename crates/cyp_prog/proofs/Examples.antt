-- Worked examples: the lexemes, the tree, the program and the faults of small texts.
use Rattle.std.proofs.Common.{◌≡◌, [], ◌∷◌, Err, List, Ok, Result, Some, arith, inl, inr, drop, map, refl, ℕ}
use Rattle.std.specs.List.{repeat}
use Rattle.std.specs.Prelude.{codes, pos}
use Rattle.cyp_lex.specs.Beginnings.{Begins}
use Rattle.cyp_lex.specs.Lexemes.{Lexeme, Name, Number, Reserved, Said, Symbol, Variable}
use Rattle.cyp_lex.specs.Lexing.{lexed, name_kind, piece_at, program_tokens_of, sign_at, stands}
use Rattle.cyp_lex.specs.declared.fault.Fault.{Fault}
use Rattle.cyp_lex.specs.declared.fault.FaultKind.TheVariants as lexing
use Rattle.cyp_lex.specs.declared.token.Sign.TheVariants.{Assign, Equal, LeftBrace, Minus, Semicolon, Star}
use Rattle.cyp_lex.specs.declared.token.Token.{Token}
use Rattle.cyp_lex.specs.declared.token.Word.TheVariants.{If, Void}
use Rattle.cyp_prog.proofs.Shallow.{few_braces}
use Rattle.cyp_prog.specs.Faults.{BadByte, DuplicateName, Expected, TooLarge, UnknownName, WrongArity}
use Rattle.cyp_prog.specs.Grammar.{program_spelling}
use Rattle.cyp_prog.specs.Lexemes.{program_lexemes}
use Rattle.cyp_prog.specs.Nesting.{IsTooDeep}
use Rattle.cyp_prog.specs.Programs.{End, Loading, Procedure, Storing, Then}
use Rattle.cyp_prog.specs.Reading.{IsProgramReading, IsSpelled}
use Rattle.cyp_prog.specs.Trees.{CallStmt, FreeStmt, FromCell, FromMalloc, LetStmt, NoStmts, PlaceVar, ProgramTree, Stmts, StoreStmt, Var, VarPlus, VarTree}

found : Result (List Token) Fault → List Token
found (Ok ts) = ts
found (Err f) = []

-- what the tokens of a text say
said_in : List ℕ → List Said
said_in bytes = map (λ (l : Lexeme). l.said) (program_lexemes bytes (found (program_tokens_of bytes)))

test_lexemes : said_in (codes "v1 == 2") ≡ Variable 1 ∷ Symbol Equal ∷ Number 2 ∷ []
unfolding lexed piece_at sign_at stands name_kind found said_in
test_lexemes = refl

store_lexemes : said_in (codes "*v1 = -5;") ≡ Symbol Star ∷ Variable 1 ∷ Symbol Assign ∷ Symbol Minus ∷ Number 5 ∷ Symbol Semicolon ∷ []
unfolding lexed piece_at sign_at stands name_kind found said_in
store_lexemes = refl

-- none of these is a variable
name_lexemes : said_in (codes "v0 v01 v65536 v v1x V1") ≡ Name (codes "v0") ∷ Name (codes "v01") ∷ Name (codes "v65536") ∷ Name (codes "v") ∷ Name (codes "v1x") ∷ Name (codes "V1") ∷ []
unfolding lexed piece_at sign_at stands name_kind found said_in
name_lexemes = refl

-- ---- a text that spells a program

increment : List ℕ
increment = codes "void f(v1) { let v2 = *v1; *v1 = v2 + 1; } // done"

variable_at : ℕ → ℕ → VarTree
variable_at n p = record { number = n; place = p }

increment_tree : ProgramTree
increment_tree = record {
  first = record {
    name = record { text = codes "f"; place = 5 };
    params = variable_at 1 7 ∷ [];
    body = Stmts (LetStmt (variable_at 2 17) (FromCell (PlaceVar (variable_at 1 23))))
        (Stmts (StoreStmt (PlaceVar (variable_at 1 28)) (VarPlus (variable_at 2 33) 1)) NoStmts);
  };
  others = [];
}

increment_program : List Procedure
increment_program = record {
  name = codes "f";
  params = 1;
  body = Then (Loading 2 (record { var = Some 1; offset = pos 0 }))
      (Then (Storing (record { var = Some 1; offset = pos 0 }) (record { var = Some 2; offset = pos 1 })) End);
} ∷ []

increment_is_spelled : IsSpelled increment increment_program
unfolding lexed piece_at sign_at stands name_kind found increment increment_tree increment_program variable_at
increment_is_spelled =
    let lexemes : List Lexeme = program_lexemes increment (found (program_tokens_of increment)) in
    record {
      tree = increment_tree;
      parsed = record {
        lexemes = lexemes;
        says = record { tokens = found (program_tokens_of increment); lexed = refl; said = refl };
        spelled = search;
        shallow = few_braces lexemes (omega arith);
      };
      faultless = refl;
      said = refl;
    }

-- ---- texts that are refused by the third pass

-- v2 is nowhere bound
unknown_variable_tree : ProgramTree
unknown_variable_tree = record { first = record { name = record { text = codes "f"; place = 5 }; params = variable_at 1 7 ∷ []; body = Stmts (FreeStmt (Var (variable_at 2 18))) NoStmts }; others = [] }

unknown_variable : IsProgramReading (codes "void f(v1) { free(v2); }") (Err (record { kind = UnknownName; place = 18 }))
unfolding lexed piece_at sign_at stands name_kind found unknown_variable_tree variable_at
unknown_variable =
    let tokens : List Token = found (program_tokens_of (codes "void f(v1) { free(v2); }")) in
    let lexemes : List Lexeme = program_lexemes (codes "void f(v1) { free(v2); }") tokens in
    inr (inr (record {
      tree = unknown_variable_tree;
      parsed = record { lexemes = lexemes; says = record { tokens = tokens; lexed = refl; said = refl }; spelled = search; shallow = few_braces lexemes (omega arith) };
      least = refl;
    }))

-- a binder isn't above its own place
binder_not_above_itself_tree : ProgramTree
binder_not_above_itself_tree = record { first = record { name = record { text = codes "f"; place = 5 }; params = variable_at 1 7 ∷ []; body = Stmts (LetStmt (variable_at 2 17) (FromCell (PlaceVar (variable_at 2 23)))) NoStmts }; others = [] }

binder_not_above_itself : IsProgramReading (codes "void f(v1) { let v2 = *v2; }") (Err (record { kind = UnknownName; place = 23 }))
unfolding lexed piece_at sign_at stands name_kind found binder_not_above_itself_tree variable_at
binder_not_above_itself =
    let tokens : List Token = found (program_tokens_of (codes "void f(v1) { let v2 = *v2; }")) in
    let lexemes : List Lexeme = program_lexemes (codes "void f(v1) { let v2 = *v2; }") tokens in
    inr (inr (record {
      tree = binder_not_above_itself_tree;
      parsed = record { lexemes = lexemes; says = record { tokens = tokens; lexed = refl; said = refl }; spelled = search; shallow = few_braces lexemes (omega arith) };
      least = refl;
    }))

-- f has one parameter
wrong_arity_tree : ProgramTree
wrong_arity_tree = record { first = record { name = record { text = codes "f"; place = 5 }; params = variable_at 1 7 ∷ []; body = Stmts (CallStmt (record { text = codes "f"; place = 13 }) []) NoStmts }; others = [] }

wrong_arity : IsProgramReading (codes "void f(v1) { f(); }") (Err (record { kind = WrongArity; place = 13 }))
unfolding lexed piece_at sign_at stands name_kind found wrong_arity_tree variable_at
wrong_arity =
    let tokens : List Token = found (program_tokens_of (codes "void f(v1) { f(); }")) in
    let lexemes : List Lexeme = program_lexemes (codes "void f(v1) { f(); }") tokens in
    inr (inr (record {
      tree = wrong_arity_tree;
      parsed = record { lexemes = lexemes; says = record { tokens = tokens; lexed = refl; said = refl }; spelled = search; shallow = few_braces lexemes (omega arith) };
      least = refl;
    }))

-- two procedures have one name
second_of_a_name_tree : ProgramTree
second_of_a_name_tree = record { first = record { name = record { text = codes "f"; place = 5 }; params = []; body = NoStmts }; others = record { name = record { text = codes "f"; place = 18 }; params = []; body = NoStmts } ∷ [] }

second_of_a_name : IsProgramReading (codes "void f() { } void f() { }") (Err (record { kind = DuplicateName; place = 18 }))
unfolding lexed piece_at sign_at stands name_kind found second_of_a_name_tree variable_at
second_of_a_name =
    let tokens : List Token = found (program_tokens_of (codes "void f() { } void f() { }")) in
    let lexemes : List Lexeme = program_lexemes (codes "void f() { } void f() { }") tokens in
    inr (inr (record {
      tree = second_of_a_name_tree;
      parsed = record { lexemes = lexemes; says = record { tokens = tokens; lexed = refl; said = refl }; spelled = search; shallow = few_braces lexemes (omega arith) };
      least = refl;
    }))

-- a block of nine cells
size_nine_tree : ProgramTree
size_nine_tree = record { first = record { name = record { text = codes "f"; place = 5 }; params = []; body = Stmts (LetStmt (variable_at 1 15) (FromMalloc 27 9)) NoStmts }; others = [] }

size_nine : IsProgramReading (codes "void f() { let v1 = malloc(9); }") (Err (record { kind = TooLarge; place = 27 }))
unfolding lexed piece_at sign_at stands name_kind found size_nine_tree variable_at
size_nine =
    let tokens : List Token = found (program_tokens_of (codes "void f() { let v1 = malloc(9); }")) in
    let lexemes : List Lexeme = program_lexemes (codes "void f() { let v1 = malloc(9); }") tokens in
    inr (inr (record {
      tree = size_nine_tree;
      parsed = record { lexemes = lexemes; says = record { tokens = tokens; lexed = refl; said = refl }; spelled = search; shallow = few_braces lexemes (omega arith) };
      least = refl;
    }))

-- ---- texts that are refused by an earlier pass

wrong_byte : IsProgramReading (codes "void f() { ? }") (Err (record { kind = BadByte; place = 11 }))
unfolding lexed piece_at sign_at stands name_kind
wrong_byte = inl (record { fault = record { kind = lexing.BadByte; place = 11 }; lexed = refl; kind = refl; place = refl })

no_name : Begins program_spelling (record { said = Reserved Void; place = 0 } ∷ record { said = Variable 1; place = 5 } ∷ []) → ⊥
no_name h = cc (h.2.1.0.0)

-- a variable is no procedure's name
variable_for_a_name : IsProgramReading (codes "void v1() { }") (Err (record { kind = Expected; place = 5 }))
unfolding lexed piece_at sign_at stands name_kind found second_of_a_name_tree
variable_for_a_name =
    let tokens : List Token = found (program_tokens_of (codes "void v1() { }")) in
    let void : Lexeme = record { said = Reserved Void; place = 0 } in
    let whole : List Lexeme = program_lexemes (codes "void f() { } void f() { }") (found (program_tokens_of (codes "void f() { } void f() { }"))) in
    inr (inl (record {
      before = void ∷ [];
      rest = drop 1 (program_lexemes (codes "void v1() { }") tokens);
      says = record { tokens = tokens; lexed = refl; said = refl };
      begun = (second_of_a_name_tree, drop 1 whole, search);
      shallow = few_braces (void ∷ []) (omega arith);
      refused = no_name;
      place = refl;
    }))

-- ---- nesting

brace : Lexeme
brace = record { said = Symbol LeftBrace; place = 0 }

if_there : Lexeme
if_there = record { said = Reserved If; place = 0 }

-- 127 conditionals may be round an `if`
deepest : IsTooDeep (repeat 128 (brace ∷ [])) if_there → ⊥
unfolding brace if_there
deepest h = omega (arith, h.1)

too_deep : IsTooDeep (repeat 129 (brace ∷ [])) if_there
unfolding brace if_there
too_deep = (refl, omega arith)
