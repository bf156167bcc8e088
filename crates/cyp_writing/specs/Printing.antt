-- The text of a specification.
use Rattle.std.specs.Prelude.{[], Bool, List, cond, codes, decimal, false, flat_map, map, true, ℕ, ◌&&◌, ◌++◌, ◌||◌, ◌∷◌}
use Rattle.cyp_lex.specs.Lexemes.{Name, Number, Reserved, Said, Symbol, Variable}
use Rattle.cyp_lex.specs.Spelling.{Any, At, Mark, all_spelling, ident, sign, word}
use Rattle.cyp_heap.specs.declared.pred.Pred.{Pred}
use Rattle.cyp_heap.specs.declared.pred.Preds.{Preds}
use Rattle.cyp_lex.specs.Spelled.{sign_text, word_text}
use Rattle.cyp_lex.specs.declared.token.Sign.TheVariants.{Comma, LeftBrace, LeftBracket, LeftParen, RightBrace, RightBracket, RightParen}
use Rattle.cyp_lex.specs.declared.token.Word.TheVariants.{Predicate, Void}
use Rattle.cyp_text.specs.Grammar.{clause_spelling, in_braces, params_spelling}
use Rattle.cyp_writing.specs.PrintedTrees.{body_tree, clause_tree, ident_of, param_tree, params_from}
use Rattle.cyp_names.specs.Specifications.{Specification}

-- ---- tokens with blanks

-- what stands for a token
abbrev pub said_text : Said → List ℕ
said_text (Name text) = text
said_text (Variable n) = codes "v" ++ decimal n
said_text (Number n) = decimal n
said_text (Reserved w) = word_text w
said_text (Symbol s) = sign_text s

-- no blank stands behind `(` and `[`
abbrev pub is_opening : Said → Bool
is_opening (Symbol LeftParen) = true
is_opening (Symbol LeftBracket) = true
is_opening _ = false

-- no blank stands before `)`, `]` and `,`
abbrev pub is_closing : Said → Bool
is_closing (Symbol RightParen) = true
is_closing (Symbol RightBracket) = true
is_closing (Symbol Comma) = true
is_closing _ = false

-- the token is a name
abbrev pub is_name : Said → Bool
is_name (Name text) = true
is_name _ = false

-- the token is `(`
abbrev pub is_paren : Said → Bool
is_paren (Symbol LeftParen) = true
is_paren _ = false

-- no blank stands between these two: nor between a name and its `(`
abbrev pub is_tight : Said → Said → Bool
is_tight j k = is_opening j || is_closing k || (is_name j && is_paren k)

-- the tokens behind another one, with one blank between each two that aren't tight
abbrev pub spaced_behind : Said → List Said → List ℕ
spaced_behind j [] = []
spaced_behind j (k ∷ ks) = cond (is_tight j k) [] (codes " ") ++ said_text k ++ spaced_behind k ks

-- the tokens with blanks between them
abbrev pub spaced : List Said → List ℕ
spaced [] = []
spaced (k ∷ ks) = said_text k ++ spaced_behind k ks

-- what a mark says, wherever it stands
abbrev pub mark_said : Mark → Said
mark_said (Any k) = k
mark_said (At k p) = k

-- what is spelled so, on a line
abbrev pub line_of : List Mark → List ℕ
line_of ms = spaced (map mark_said ms) ++ codes "\n"

-- ---- lines

-- the line of a predicate
abbrev pub pred_line : Preds → Pred → List ℕ
pred_line preds q = line_of (
    word Predicate ∷ ident (ident_of q.name)
    ∷ (params_spelling (map param_tree (params_from [] q.params))
    ++ (sign LeftBrace ∷ (all_spelling clause_spelling (map (clause_tree preds) q.clauses) ++ sign RightBrace ∷ []))))

-- the line of the procedure
abbrev pub proc_line : Specification → List ℕ
proc_line s = line_of (
    word Void ∷ ident (ident_of s.name)
    ∷ (params_spelling (map param_tree s.goal.program)
    ++ (in_braces (body_tree s.preds s.goal.pure_pre s.goal.pre.chunks) ++ in_braces (body_tree s.preds s.goal.pure_post s.goal.post.chunks))))

-- each predicate and then the procedure on a line
abbrev pub specification_text : Specification → List ℕ
specification_text s = flat_map (pred_line s.preds) s.preds.list ++ proc_line s
