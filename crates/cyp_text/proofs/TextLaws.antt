-- Parameters, clauses, predicates and texts are read as they are spelled.
use Rattle.std.proofs.Common.{◌≡◌, ℕ, Bool, List, Some, refl, ap}
use Rattle.cyp_lex.specs.declared.token.Sign.TheVariants.{Bar, Comma, Implies, LeftBrace, LeftParen, RightBrace, RightParen}
use Rattle.cyp_lex.specs.declared.token.Word.TheVariants.{Int, Loc, Predicate, Set}
use Rattle.cyp_lex.specs.declared.token.Word.TheVariants.{Void}
use Rattle.cyp_lex.specs.Lexemes.{Reserved, Said, Symbol}
use Rattle.cyp_lex.specs.Spelling.{At, Mark, ident}
use Rattle.cyp_lex.specs.Readers.{sign_token, word_token, is_sign, is_word, one_of, placed, single}
use Rattle.cyp_lex.specs.declared.want.Want.TheVariants.{NoName}
use Rattle.cyp_lex.proofs.Readings.{Apart, Reads, apart_none, none, nowhere, within_self}
use Rattle.cyp_lex.proofs.Singles.{one}
use Rattle.cyp_lex.proofs.Sequences.{both_reads, spell_both}
use Rattle.cyp_lex.proofs.Mapped.{mapped_reads}
use Rattle.cyp_lex.proofs.Tellers.{Tells, ident_reads, placed_reads, sign_mark, sign_place_reads, sign_reads, word_mark, word_reads}
use Rattle.cyp_lex.proofs.Enclosures.{enclosed_reads, enclosed_spelling}
use Rattle.cyp_lex.proofs.Repeats.{repeated_spelling, repeating_reads}
use Rattle.cyp_text.specs.declared.tree.ClauseTree.{ClauseTree}
use Rattle.cyp_text.specs.declared.tree.ParamTree.{ParamTree}
use Rattle.cyp_text.specs.declared.tree.PredTree.{PredTree}
use Rattle.cyp_text.specs.declared.tree.SortTree.{SortTree}
use Rattle.cyp_text.specs.declared.tree.SortTree.TheVariants.{IntSort, LocSort, SetSort}
use Rattle.cyp_text.specs.declared.tree.TextTree.{TextTree}
use Rattle.cyp_text.specs.Grammar.{clause_spelling, in_braces, lit_spelling, param_spelling, params_spelling, pred_spelling, sort_word, text_spelling}
use Rattle.cyp_text.specs.TextReaders.{InParens, SomeClause, SomeClauses, SomeParam, SomePred, SomeProcedure, clause_at, clause_tree, clauses_at, is_sort, param_at, param_tree, params_at, params_tree, pred_at, pred_tree, procedure_at, sort_of, text_at, text_tree}
use Rattle.cyp_text.proofs.LitLaws.{lit_ends}
use Rattle.cyp_text.proofs.NotLaws.{lit_reads}
use Rattle.cyp_text.proofs.BodyLaws.{braced_reads}
use Rattle.cyp_text.proofs.Consumed.{consumes}
use Rattle.cyp_text.proofs.ListsRead.{repeating_is}
use Rattle.cyp_text.proofs.ManyReads.{same_reads, sign_refuses, word_refuses}
use Rattle.cyp_text.proofs.PartsRead.{both_refuses}

-- ---- parameters

abbrev sort_said : SortTree → Said
sort_said s = Reserved (sort_word s)

sort_only : (k : Said) (s : SortTree) → sort_of k ≡ Some s → k ≡ sort_said s
sort_only (Reserved Loc) s e = let is : LocSort ≡ s = cc in ap sort_said is
sort_only (Reserved Int) s e = let is : IntSort ≡ s = cc in ap sort_said is
sort_only (Reserved Set) s e = let is : SetSort ≡ s = cc in ap sort_said is
sort_only k s e = absurd cc

sort_back : (s : SortTree) → sort_of (sort_said s) ≡ Some s
sort_back LocSort = refl
sort_back IntSort = refl
sort_back SetSort = refl

sort_tells : Tells SortTree sort_of sort_said
sort_tells = record { only = sort_only; back = sort_back; value = LocSort }

abbrev sort_mark : ℕ × SortTree → Mark
sort_mark x = At (sort_said x.1) x.0

sort_reads : {ends : Said → Bool} {n : ℕ} → Reads n (ℕ × SortTree) (one sort_mark) is_sort ends (single (placed sort_of) NoName)
sort_reads = placed_reads {of = sort_of} {said = sort_said} {want = NoName} sort_tells (λ x. refl)

abbrev param_parts : ParamTree → SomeParam
param_parts p = ((p.place, p.sort), p.name)

pub param_reads : (n : ℕ) → Reads n ParamTree param_spelling is_sort none param_at
param_reads n = mapped_reads {spA = spell_both (one sort_mark) (one ident)} param_tree param_parts (λ x. refl) (λ p. refl) (λ p. refl) (both_reads {fA = none} sort_reads ident_reads (apart_none _))

sort_comma : Apart is_sort (is_sign Comma)
sort_comma (Symbol Comma) e = absurd cc
sort_comma k e = refl

close_comma : Apart (is_sign RightParen) (is_sign Comma)
close_comma (Symbol RightParen) e = refl
close_comma k e = absurd cc

close_sort : Apart (is_sign RightParen) is_sort
close_sort (Symbol RightParen) e = refl
close_sort k e = absurd cc

abbrev parens_spelling : InParens → List Mark
parens_spelling = spell_both (one (sign_mark LeftParen)) (enclosed_spelling RightParen param_spelling)

params_reads : (n : ℕ) → Reads n (List ParamTree) params_spelling (is_sign LeftParen) none params_at
params_reads n = mapped_reads {spA = parens_spelling} params_tree (λ ps. (tt, ps)) (λ x. refl) (λ ps. refl) (λ ps. refl)
    (both_reads {fA = none} (sign_reads LeftParen)
    (enclosed_reads (is_sign Comma) NoName RightParen (apart_none _) (nowhere _) (within_self _) sort_comma close_comma close_sort (λ x. refl) param_reads n) (apart_none _))

-- ---- clauses

implies_lit : Apart (is_sign Implies) lit_ends
implies_lit (Symbol Implies) e = refl
implies_lit k e = absurd cc

abbrev bar_mark : ℕ → Mark
bar_mark p = At (Symbol Bar) p

abbrev guarded_spelling : SomeClause → List Mark
guarded_spelling = spell_both (one bar_mark) (spell_both lit_spelling (spell_both (one (sign_mark Implies)) in_braces))

abbrev clause_parts : ClauseTree → SomeClause
clause_parts c = (c.place, (c.guard, (tt, c.body)))

pub clause_reads : (n : ℕ) → Reads n ClauseTree clause_spelling (is_sign Bar) none clause_at
clause_reads n = mapped_reads {spA = guarded_spelling} clause_tree clause_parts (λ x. refl) (λ c. refl) (λ c. refl)
    (both_reads {fA = none} (sign_place_reads Bar)
    (both_reads (lit_reads n) (both_reads {fA = none} (sign_reads Implies) (braced_reads n) (apart_none _)) implies_lit) (apart_none _))

bar_close : Apart (is_sign Bar) (is_sign RightBrace)
bar_close (Symbol Bar) e = refl
bar_close k e = absurd cc

abbrev clauses_spelling : SomeClauses → List Mark
clauses_spelling = spell_both (one (sign_mark LeftBrace)) (spell_both clause_spelling (repeated_spelling clause_spelling (one (sign_mark RightBrace))))

clauses_reads : (n : ℕ) → Reads n SomeClauses clauses_spelling (is_sign LeftBrace) none clauses_at
clauses_reads n = both_reads {fA = none} (sign_reads LeftBrace)
    (both_reads (clause_reads n) (same_reads (repeating_is (is_sign Bar) (is_sign RightBrace) clause_at (sign_token RightBrace) (consumes clause_reads) (sign_refuses RightBrace))
    (repeating_reads NoName bar_close (apart_none _) (λ x. refl) clause_reads (λ m. sign_reads RightBrace) n)) (apart_none _)) (apart_none _)

-- ---- predicates

abbrev shape_spelling : SomePred → List Mark
shape_spelling = spell_both (one (word_mark Predicate)) (spell_both (one ident) (spell_both params_spelling clauses_spelling))

abbrev pred_parts : PredTree → SomePred
pred_parts q = (tt, (q.name, (q.params, (tt, (q.first, (q.others, tt))))))

pub pred_reads : (n : ℕ) → Reads n PredTree pred_spelling (is_word Predicate) none pred_at
pred_reads n = mapped_reads {spA = shape_spelling} pred_tree pred_parts (λ x. refl) (λ q. refl) (λ q. refl)
    (both_reads {fA = none} (word_reads Predicate)
    (both_reads {fA = none} ident_reads (both_reads (params_reads n) (clauses_reads n) (apart_none _)) (apart_none _)) (apart_none _))

-- ---- texts

abbrev procedure_spelling : SomeProcedure → List Mark
procedure_spelling = spell_both (one (word_mark Void)) (spell_both (one ident) (spell_both params_spelling (spell_both in_braces in_braces)))

procedure_reads : (n : ℕ) → Reads n SomeProcedure procedure_spelling (is_word Void) none procedure_at
procedure_reads n = both_reads {fA = none} (word_reads Void)
    (both_reads {fA = none} ident_reads (both_reads (params_reads n) (both_reads (braced_reads n) (braced_reads n) (apart_none _)) (apart_none _)) (apart_none _)) (apart_none _)

predicate_void : Apart (is_word Predicate) (is_word Void)
predicate_void (Reserved Predicate) e = refl
predicate_void k e = absurd cc

abbrev text_parts : TextTree → List PredTree × SomeProcedure
text_parts t = (t.preds, (tt, (t.name, (t.params, (t.pre, t.post)))))

-- the reader of texts gives the text that is spelled, or stops at the first lexeme that nothing allows
pub text_reads : (n : ℕ) → Reads n TextTree text_spelling (one_of (is_word Predicate) (is_word Void)) none text_at
text_reads n = mapped_reads {spA = repeated_spelling pred_spelling procedure_spelling} text_tree text_parts (λ x. refl) (λ t. refl) (λ t. refl)
    (same_reads (repeating_is (is_word Predicate) (is_word Void) pred_at procedure_at (consumes pred_reads) (both_refuses NoName (is_word Void) (word_token Void) _ (word_refuses Void)))
    (repeating_reads NoName predicate_void (apart_none _) (λ x. refl) pred_reads procedure_reads n))
