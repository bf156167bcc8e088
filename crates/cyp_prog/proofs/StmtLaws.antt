-- Statements and blocks are read as they are spelled.
use Rattle.std.proofs.Common.{◌≡◌, ℕ, zero, suc, true, List, [], ◌∷◌, ◌++◌, ◌⊎◌, inl, inr, refl, sym, ap, subst, append_assoc, length, arith}
use Rattle.cyp_lex.proofs.Choices.{spell_either}
use Rattle.cyp_lex.proofs.Firsts.{NameBegins, first_reads, name_both, name_ident, name_left, or_left}
use Rattle.cyp_lex.proofs.Lists.{made}
use Rattle.cyp_lex.proofs.Mapped.{mapped_reads}
use Rattle.cyp_lex.proofs.Readings.{Apart, Reads, apart_none, none, within_self}
use Rattle.cyp_lex.proofs.Sequences.{both_reads, spell_both, then_reads}
use Rattle.cyp_lex.proofs.Singles.{one}
use Rattle.cyp_lex.proofs.Spellings.{then_split}
use Rattle.cyp_lex.proofs.Tellers.{ident_reads, sign_mark, sign_reads, word_mark, word_reads}
use Rattle.cyp_lex.specs.Lexemes.{Lexeme, Name, Reserved, Symbol}
use Rattle.cyp_lex.specs.Readers.{IsNamed, Read, ident_of, is_name, is_sign, is_word}
use Rattle.cyp_lex.specs.declared.want.Want.TheVariants.{AName, NoName}
use Rattle.cyp_lex.specs.Spelling.{Mark, Match, Then, ident, sign, word}
use Rattle.cyp_lex.specs.declared.token.Sign.TheVariants.{Assign, LeftBrace, LeftParen, RightBrace, RightParen, Semicolon, Star}
use Rattle.cyp_lex.specs.declared.token.Word.TheVariants.{Else, Error, Free, If, Let}
use Rattle.cyp_prog.proofs.ExprLaws.{args_reads, enclosed_args, expr_reads, place_reads, some_test_reads, some_test_spelling, source_reads, variable_reads}
use Rattle.cyp_prog.specs.ExprReaders.{is_sum}
use Rattle.cyp_prog.specs.Grammar.{args_spelling, expr_spelling, place_spelling, source_spelling, stmt_spelling, stmts_spelling, test_spelling, variable}
use Rattle.cyp_prog.specs.StmtReaders.{AnyBlock, AnyStmt, SomeCall, SomeElse, SomeError, SomeFree, SomeIf, SomeLet, SomeStore, begins_block, begins_free, begins_if, begins_let, begins_stmt, begins_store, block_at, block_in, block_tree, call_at, error_at, free_at, if_with, let_at, stmt_tree, stmt_with, store_at}
use Rattle.cyp_prog.specs.Trees.{BlockTree, CallStmt, ErrorStmt, FreeStmt, IfStmt, LetStmt, NoStmts, StmtTree, Stmts, StoreStmt}

-- ---- statements without blocks

semicolon_sum : Apart (is_sign Semicolon) is_sum
semicolon_sum (Symbol Semicolon) e = refl
semicolon_sum k e = absurd cc

paren_sum : Apart (is_sign RightParen) is_sum
paren_sum (Symbol RightParen) e = refl
paren_sum k e = absurd cc

abbrev call_spelling : SomeCall → List Mark
call_spelling = spell_both (one ident) (spell_both (one (sign_mark LeftParen)) (spell_both enclosed_args (one (sign_mark Semicolon))))

call_reads : (n : ℕ) → Reads n SomeCall call_spelling is_name none call_at
call_reads n = both_reads {fA = none} ident_reads (both_reads {fA = none} (sign_reads LeftParen) (both_reads {fB = none} (args_reads n) (sign_reads Semicolon) (apart_none _)) (apart_none _)) (apart_none _)

abbrev let_spelling : SomeLet → List Mark
let_spelling = spell_both (one (word_mark Let)) (spell_both (one variable) (spell_both (one (sign_mark Assign)) (spell_both source_spelling (one (sign_mark Semicolon)))))

let_reads : (n : ℕ) → Reads n SomeLet let_spelling (is_word Let) none let_at
let_reads n = both_reads {fA = none} (word_reads Let) (both_reads {fA = none} variable_reads (both_reads {fA = none} (sign_reads Assign) (both_reads {fB = none} (source_reads n) (sign_reads Semicolon) (apart_none _)) (apart_none _)) (apart_none _)) (apart_none _)

abbrev store_spelling : SomeStore → List Mark
store_spelling = spell_both (one (sign_mark Star)) (spell_both place_spelling (spell_both (one (sign_mark Assign)) (spell_both expr_spelling (one (sign_mark Semicolon)))))

store_reads : (n : ℕ) → Reads n SomeStore store_spelling (is_sign Star) none store_at
store_reads n = both_reads {fA = none} (sign_reads Star) (both_reads (place_reads n) (both_reads {fA = none} (sign_reads Assign) (both_reads {fB = none} (expr_reads n) (sign_reads Semicolon) semicolon_sum) (apart_none _)) (apart_none _)) (apart_none _)

abbrev free_spelling : SomeFree → List Mark
free_spelling = spell_both (one (word_mark Free)) (spell_both (one (sign_mark LeftParen)) (spell_both expr_spelling (spell_both (one (sign_mark RightParen)) (one (sign_mark Semicolon)))))

free_reads : (n : ℕ) → Reads n SomeFree free_spelling (is_word Free) none free_at
free_reads n = both_reads {fA = none} (word_reads Free) (both_reads {fA = none} (sign_reads LeftParen) (both_reads (expr_reads n) (both_reads {fA = none} {fB = none} (sign_reads RightParen) (sign_reads Semicolon) (apart_none _)) paren_sum) (apart_none _)) (apart_none _)

abbrev error_spelling : SomeError → List Mark
error_spelling = spell_both (one (word_mark Error)) (one (sign_mark Semicolon))

error_reads : (n : ℕ) → Reads n SomeError error_spelling (is_word Error) none error_at
error_reads n = both_reads {fA = none} {fB = none} (word_reads Error) (sign_reads Semicolon) (apart_none _)

-- ---- conditionals

-- the statements of a block and the brace that closes it
abbrev pub closed_block : BlockTree → List Mark
closed_block b = stmts_spelling b ++ sign RightBrace ∷ []

abbrev else_spelling : SomeElse → List Mark
else_spelling = spell_both (one (word_mark Else)) (spell_both (one (sign_mark LeftBrace)) closed_block)

abbrev if_spelling : SomeIf → List Mark
if_spelling = spell_both (one (word_mark If)) (spell_both some_test_spelling (spell_both (one (sign_mark LeftBrace)) (spell_both closed_block else_spelling)))

-- blocks are read in fewer lexemes
if_reads : (n : ℕ) (block : List Lexeme → Read BlockTree) → Reads n BlockTree closed_block begins_block none block → Reads (suc n) SomeIf if_spelling (is_word If) none (if_with block)
if_reads n block B = then_reads {fA = none} (word_reads If)
    (both_reads (some_test_reads n) (both_reads {fA = none} (sign_reads LeftBrace)
    (both_reads B (both_reads {fA = none} (word_reads Else) (both_reads {fA = none} (sign_reads LeftBrace) B (apart_none _)) (apart_none _)) (apart_none _)) (apart_none _)) (apart_none _)) (apart_none _)

-- ---- all statements

if_error : Apart (is_word If) (is_word Error)
if_error (Reserved If) e = refl
if_error k e = absurd cc

free_if : Apart (is_word Free) begins_if
free_if (Reserved Free) e = refl
free_if k e = absurd cc

store_free : Apart (is_sign Star) begins_free
store_free (Symbol Star) e = refl
store_free k e = absurd cc

let_store : Apart (is_word Let) begins_store
let_store (Reserved Let) e = refl
let_store k e = absurd cc

name_let : Apart is_name begins_let
name_let (Name x) e = refl
name_let k e = absurd cc

abbrev if_error_spelling : SomeIf ⊎ SomeError → List Mark
if_error_spelling = spell_either if_spelling error_spelling

abbrev free_if_spelling : SomeFree ⊎ (SomeIf ⊎ SomeError) → List Mark
free_if_spelling = spell_either free_spelling if_error_spelling

abbrev store_free_spelling : SomeStore ⊎ (SomeFree ⊎ (SomeIf ⊎ SomeError)) → List Mark
store_free_spelling = spell_either store_spelling free_if_spelling

abbrev let_store_spelling : SomeLet ⊎ (SomeStore ⊎ (SomeFree ⊎ (SomeIf ⊎ SomeError))) → List Mark
let_store_spelling = spell_either let_spelling store_free_spelling

abbrev any_spelling : AnyStmt → List Mark
any_spelling = spell_either call_spelling let_store_spelling

name_any : NameBegins AnyStmt any_spelling
name_any = name_left (name_both name_ident (both_reads {fA = none} {fB = none} {n = 0} (sign_reads LeftParen) (both_reads {fB = none} (args_reads 0) (sign_reads Semicolon) (apart_none _)) (apart_none _)))

abbrev stmt_parts : StmtTree → AnyStmt
stmt_parts (CallStmt i es) = inl (i, (tt, (es, tt)))
stmt_parts (LetStmt v s) = inr (inl (tt, (v, (tt, (s, tt)))))
stmt_parts (StoreStmt p e) = inr (inr (inl (tt, (p, (tt, (e, tt))))))
stmt_parts (FreeStmt e) = inr (inr (inr (inl (tt, (tt, (e, (tt, tt)))))))
stmt_parts (IfStmt a s b c d) = inr (inr (inr (inr (inl (tt, ((tt, (a, (s, (b, tt)))), (tt, (c, (tt, (tt, d))))))))))
stmt_parts ErrorStmt = inr (inr (inr (inr (inr (tt, tt)))))

stmt_there : (x : AnyStmt) → stmt_parts (stmt_tree x) ≡ x
stmt_there (inl x) = refl
stmt_there (inr (inl x)) = refl
stmt_there (inr (inr (inl x))) = refl
stmt_there (inr (inr (inr (inl x)))) = refl
stmt_there (inr (inr (inr (inr (inl x))))) = refl
stmt_there (inr (inr (inr (inr (inr x))))) = refl

stmt_again : (y : StmtTree) → stmt_tree (stmt_parts y) ≡ y
stmt_again (CallStmt i es) = refl
stmt_again (LetStmt v s) = refl
stmt_again (StoreStmt p e) = refl
stmt_again (FreeStmt e) = refl
stmt_again (IfStmt a s b c d) = refl
stmt_again ErrorStmt = refl

stmt_same : (y : StmtTree) → stmt_spelling y ≡ any_spelling (stmt_parts y)
stmt_same (CallStmt i es) = ap (λ (m : List Mark). ident i ∷ sign LeftParen ∷ m) (sym (append_assoc (args_spelling es) (sign RightParen ∷ []) (sign Semicolon ∷ [])))
stmt_same (LetStmt v s) = refl
stmt_same (StoreStmt p e) = refl
stmt_same (FreeStmt e) = refl
stmt_same (IfStmt a s b c d) =
    ap (λ (m : List Mark). word If ∷ (test_spelling a s b ++ (sign LeftBrace ∷ m))) (sym (append_assoc (stmts_spelling c) (sign RightBrace ∷ []) (word Else ∷ sign LeftBrace ∷ closed_block d)))
stmt_same ErrorStmt = refl

stmt_reads : (n : ℕ) (block : List Lexeme → Read BlockTree) → Reads n BlockTree closed_block begins_block none block → Reads (suc n) StmtTree stmt_spelling begins_stmt none (stmt_with block)
stmt_reads n block B = mapped_reads stmt_tree stmt_parts stmt_there stmt_again stmt_same
    (first_reads (call_reads (suc n))
    (first_reads {want = NoName} (let_reads (suc n))
    (first_reads {want = NoName} (store_reads (suc n))
    (first_reads {want = NoName} (free_reads (suc n))
    (first_reads {want = NoName} (if_reads n block B) (error_reads (suc n)) if_error (λ x. refl) (within_self _) (within_self _))
    free_if (λ x. refl) (within_self _) (within_self _))
    store_free (λ x. refl) (within_self _) (within_self _))
    let_store (λ x. refl) (within_self _) (within_self _))
    name_let name_any.shows (within_self _) (within_self _))

-- ---- blocks

stmt_close : Apart begins_stmt (is_sign RightBrace)
stmt_close (Symbol RightBrace) e = absurd cc
stmt_close k e = refl

abbrev any_block_spelling : AnyBlock → List Mark
any_block_spelling = spell_either (spell_both stmt_spelling closed_block) (one (sign_mark RightBrace))

abbrev block_parts : BlockTree → AnyBlock
block_parts (Stmts s b) = inl (s, b)
block_parts NoStmts = inr tt

block_there : (x : AnyBlock) → block_parts (block_tree x) ≡ x
block_there (inl x) = refl
block_there (inr u) = refl

block_again : (y : BlockTree) → block_tree (block_parts y) ≡ y
block_again (Stmts s b) = refl
block_again NoStmts = refl

block_same : (y : BlockTree) → closed_block y ≡ any_block_spelling (block_parts y)
block_same (Stmts s b) = append_assoc (stmt_spelling s) (stmts_spelling b) (sign RightBrace ∷ [])
block_same NoStmts = refl

stmt_begins : (x : StmtTree) (K : List Lexeme → Type 0) (l : Lexeme) (ls : List Lexeme) → Then (stmt_spelling x) K (l ∷ ls) → begins_stmt l.said ≡ true
stmt_begins (LetStmt v s) K l ls h = ap begins_stmt h.0
stmt_begins (StoreStmt p e) K l ls h = ap begins_stmt h.0
stmt_begins (FreeStmt e) K l ls h = ap begins_stmt h.0
stmt_begins (CallStmt i es) K l ls h = ap begins_stmt h.0.0
stmt_begins (IfStmt a s b c d) K l ls h = ap begins_stmt h.0
stmt_begins ErrorStmt K l ls h = ap begins_stmt h.0

no_stmt : (x : StmtTree) (K : List Lexeme → Type 0) → Then (stmt_spelling x) K [] → ⊥
no_stmt (LetStmt v s) K h = h
no_stmt (StoreStmt p e) K h = h
no_stmt (FreeStmt e) K h = h
no_stmt (CallStmt i es) K h = h
no_stmt (IfStmt a s b c d) K h = h
no_stmt ErrorStmt K h = h

-- a statement is followed by the rest of its block
behind : (s : StmtTree) (b : BlockTree) (K : List Lexeme → Type 0) (ls : List Lexeme) → Then (closed_block (Stmts s b)) K ls → Then (stmt_spelling s) (Then (closed_block b) K) ls
behind s b K ls h = then_split (stmt_spelling s) (closed_block b) K ls (subst (λ (m : List Mark). Then m K ls) (append_assoc (stmt_spelling s) (stmts_spelling b) (sign RightBrace ∷ [])) h)

block_first : (x : BlockTree) (K : List Lexeme → Type 0) (l : Lexeme) (ls : List Lexeme) → Then (closed_block x) K (l ∷ ls) → begins_block l.said ≡ true
block_first (Stmts s b) K l ls h = or_left (begins_stmt l.said) (is_sign RightBrace l.said) (stmt_begins s (Then (closed_block b) K) l ls (behind s b K (l ∷ ls) h))
block_first NoStmts K l ls h = ap begins_block h.0

block_full : (x : BlockTree) (K : List Lexeme → Type 0) → Then (closed_block x) K [] → ⊥
block_full (Stmts s b) K h = no_stmt s (Then (closed_block b) K) (behind s b K [] h)
block_full NoStmts K h = h

-- where a name stands a call may stand
name_block : (t : Lexeme) → IsNamed t → (y : AnyBlock) × (w : List Lexeme) × Match (any_block_spelling y) (t ∷ w)
name_block t n = (
  inl (CallStmt (ident_of (t.place, n.0)) [], NoStmts),
  made (Symbol LeftParen) ∷ made (Symbol RightParen) ∷ made (Symbol Semicolon) ∷ made (Symbol RightBrace) ∷ [],
  ((n.1, refl), (refl, (refl, (refl, (refl, refl))))),
)

pub block_in_reads : (n : ℕ) → Reads n BlockTree closed_block begins_block none (block_in n)
block_in_reads zero = record {
  sound = λ ts short. absurd (omega arith);
  first = block_first;
  full = block_full;
  some = NoStmts;
  shown = made (Symbol RightBrace) ∷ [];
  is_some = (refl, refl);
}
block_in_reads (suc n) = mapped_reads block_tree block_parts block_there block_again block_same
    (first_reads {want = AName} (then_reads (stmt_reads n (block_in n) (block_in_reads n)) (block_in_reads n) (apart_none _)) (sign_reads RightBrace) stmt_close name_block (within_self _) (within_self _))

-- a block is read up to behind its closing brace
pub block_reads : (n : ℕ) → Reads n BlockTree closed_block begins_block none block_at
block_reads n = record {
  sound = λ ts short. (block_in_reads (suc (length ts))).sound ts (omega arith);
  first = block_first;
  full = block_full;
  some = NoStmts;
  shown = made (Symbol RightBrace) ∷ [];
  is_some = (refl, refl);
}
