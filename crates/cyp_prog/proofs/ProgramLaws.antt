-- Procedures and programs are read as they are spelled.
use Rattle.std.proofs.Common.{◌≡◌, ℕ, zero, suc, List, [], ◌∷◌, Option, None, Some, refl, sym, ap, subst, append-nil, append_assoc, length, arith}
use Rattle.cyp_lex.proofs.Enclosures.{enclosed_reads, enclosed_spelling}
use Rattle.cyp_lex.proofs.Mapped.{mapped_reads}
use Rattle.cyp_lex.proofs.Options.{option_reads, spell_option}
use Rattle.cyp_lex.proofs.Readings.{Apart, Reads, apart_none, none, nowhere, within_self}
use Rattle.cyp_lex.proofs.Sequences.{both_reads, spell_both}
use Rattle.cyp_lex.proofs.Singles.{one}
use Rattle.cyp_lex.proofs.Tellers.{ident_reads, sign_mark, sign_reads, word_mark, word_reads}
use Rattle.cyp_lex.proofs.Wholes.{whole_reads}
use Rattle.cyp_lex.specs.Lexemes.{Lexeme, Symbol, Variable}
use Rattle.cyp_lex.specs.Readers.{is_sign, is_word, one_of, whole_of}
use Rattle.cyp_lex.specs.declared.want.Want.TheVariants.{NoName}
use Rattle.cyp_lex.specs.Spelling.{IsEnd, Mark, Match, Then, ident, sign, word}
use Rattle.cyp_lex.proofs.Stops.{IsReading}
use Rattle.cyp_lex.specs.declared.token.Sign.TheVariants.{Comma, LeftBrace, LeftParen, RightParen}
use Rattle.cyp_lex.specs.declared.token.Word.TheVariants.{Void}
use Rattle.cyp_prog.proofs.Exact.{end_avoids, reads_exact}
use Rattle.cyp_prog.proofs.ExprLaws.{variable_reads}
use Rattle.cyp_prog.proofs.StmtLaws.{block_reads, closed_block}
use Rattle.cyp_prog.specs.ExprReaders.{is_variable}
use Rattle.cyp_prog.specs.Grammar.{param_spelling, params_spelling, proc_spelling, program_spelling}
use Rattle.cyp_prog.specs.StmtReaders.{SomeProc, params_at, proc_at, proc_tree, program_at, program_in, program_tree}
use Rattle.cyp_prog.specs.Trees.{ProcTree, ProgramTree, VarTree}

-- ---- procedures

variable_comma : Apart is_variable (is_sign Comma)
variable_comma (Variable n) e = refl
variable_comma k e = absurd cc

close_comma : Apart (is_sign RightParen) (is_sign Comma)
close_comma (Symbol RightParen) e = refl
close_comma k e = absurd cc

close_variable : Apart (is_sign RightParen) is_variable
close_variable (Symbol RightParen) e = refl
close_variable k e = absurd cc

abbrev enclosed_params : List VarTree → List Mark
enclosed_params = enclosed_spelling RightParen param_spelling

params_reads : (n : ℕ) → Reads n (List VarTree) enclosed_params (one_of (is_sign RightParen) is_variable) none params_at
params_reads n = enclosed_reads (is_sign Comma) NoName RightParen (apart_none _) (nowhere _) (within_self _) variable_comma close_comma close_variable (λ x. refl) (λ m. variable_reads) n

abbrev some_proc_spelling : SomeProc → List Mark
some_proc_spelling =
    spell_both (one (word_mark Void)) (spell_both (one ident) (spell_both (one (sign_mark LeftParen)) (spell_both enclosed_params (spell_both (one (sign_mark LeftBrace)) closed_block))))

some_proc_same : (q : ProcTree) → proc_spelling q ≡ some_proc_spelling (tt, (q.name, (tt, (q.params, (tt, q.body)))))
some_proc_same q =
    ap (λ (m : List Mark). word Void ∷ ident q.name ∷ sign LeftParen ∷ m) (sym (append_assoc (params_spelling q.params) (sign RightParen ∷ []) (sign LeftBrace ∷ closed_block q.body)))

pub proc_reads : (n : ℕ) → Reads n ProcTree proc_spelling (is_word Void) none proc_at
proc_reads n = mapped_reads {spA = some_proc_spelling} proc_tree (λ q. (tt, (q.name, (tt, (q.params, (tt, q.body)))))) (λ x. refl) (λ q. refl) some_proc_same
    (both_reads {fA = none} (word_reads Void) (both_reads {fA = none} ident_reads (both_reads {fA = none} (sign_reads LeftParen)
    (both_reads (params_reads n) (both_reads {fA = none} (sign_reads LeftBrace) (block_reads n) (apart_none _)) (apart_none _)) (apart_none _)) (apart_none _)) (apart_none _))

-- ---- programs

abbrev program_parts : ProgramTree → ProcTree × Option ProgramTree
program_parts p = of p.first p.others
  where
    of : ProcTree → List ProcTree → ProcTree × Option ProgramTree
    of q [] = (q, None)
    of q (r ∷ rs) = (q, Some (record { first = r; others = rs }))

program_there : (q : ProcTree) (o : Option ProgramTree) → program_parts (program_tree (q, o)) ≡ (q, o)
program_there q None = refl
program_there q (Some p) = refl

program_again : (q : ProcTree) (qs : List ProcTree) → program_tree (program_parts (record { first = q; others = qs })) ≡ record { first = q; others = qs }
program_again q [] = refl
program_again q (r ∷ rs) = refl

program_same : (q : ProcTree) (qs : List ProcTree) → program_spelling (record { first = q; others = qs }) ≡ spell_option proc_spelling program_spelling (program_parts (record { first = q; others = qs }))
program_same q [] = refl
program_same q (r ∷ rs) = refl

program_in_reads : (n : ℕ) → Reads n ProgramTree program_spelling (is_word Void) (is_word Void) (program_in n)
program_in_reads zero = record {
  sound = λ ts short. absurd (omega arith);
  first = λ p K t w h. ap (is_word Void) h.0;
  full = λ p K h. h;
  some = record { first = (proc_reads 0).some; others = [] };
  shown = (proc_reads 0).shown;
  is_some = subst (λ (m : List Mark). Then m (λ ls. ls ≡ []) (proc_reads 0).shown) (sym (append-nil (proc_spelling (proc_reads 0).some))) (proc_reads 0).is_some;
}
program_in_reads (suc n) = mapped_reads program_tree program_parts (λ x. program_there x.0 x.1) (λ p. program_again p.first p.others) (λ p. program_same p.first p.others)
    (option_reads {fA = none} (proc_reads (suc n)) (program_in_reads n) (apart_none _) (nowhere _) (within_self _) (within_self _) (λ x. refl))

pub program_reads : (n : ℕ) → Reads n ProgramTree program_spelling (is_word Void) (is_word Void) program_at
program_reads n = record {
  sound = λ ts short. (program_in_reads (suc (length ts))).sound ts (omega arith);
  first = λ p K t w h. ap (is_word Void) h.0;
  full = λ p K h. h;
  some = (program_in_reads 0).some;
  shown = (program_in_reads 0).shown;
  is_some = (program_in_reads 0).is_some;
}

-- lexemes spell a program, or they stop at the first that no program allows
pub program_is_read : (ls : List Lexeme) → IsReading program_spelling ls (whole_of program_at ls)
program_is_read ls = whole_reads program_reads ls

-- lexemes spell one program at most
pub one_program : (s t : ProgramTree) (ls : List Lexeme) → Match (program_spelling s) ls → Match (program_spelling t) ls → s ≡ t
one_program s t ls h i = (reads_exact program_reads s t IsEnd IsEnd (end_avoids _) (end_avoids _) ls h i).0
