-- How parameters, clauses, predicates and texts are read.
use Rattle.std.specs.Prelude.{Bool, List, None, Option, Some, ℕ}
use Rattle.cyp_lex.specs.declared.token.Sign.TheVariants.{Bar, Implies, LeftBrace, LeftParen, RightBrace, RightParen}
use Rattle.cyp_lex.specs.declared.token.Word.TheVariants.{Int, Loc, Predicate, Set, Void}
use Rattle.cyp_lex.specs.Lexemes.{Lexeme, Reserved, Said}
use Rattle.cyp_lex.specs.declared.ident.Ident.{Ident}
use Rattle.cyp_lex.specs.Readers.{Read, both, enclosed, ident_token, is_sign, is_word, mapped, placed, sign_place, sign_token, single, telling, word_token}
use Rattle.cyp_lex.specs.declared.want.Want.TheVariants.{NoName}
use Rattle.cyp_text.specs.LitTrees.{LitTree}
use Rattle.cyp_text.specs.declared.tree.BodyTree.{BodyTree}
use Rattle.cyp_text.specs.declared.tree.ClauseTree.{ClauseTree}
use Rattle.cyp_text.specs.declared.tree.ParamTree.{ParamTree}
use Rattle.cyp_text.specs.declared.tree.PredTree.{PredTree}
use Rattle.cyp_text.specs.declared.tree.SortTree.{SortTree}
use Rattle.cyp_text.specs.declared.tree.SortTree.TheVariants.{IntSort, LocSort, SetSort}
use Rattle.cyp_text.specs.declared.tree.TextTree.{TextTree}
use Rattle.cyp_text.specs.ListReaders.{many}
use Rattle.cyp_text.specs.LitReaders.{lit_at}
use Rattle.cyp_text.specs.BodyReaders.{body_at}

-- the sort that a word stands for
abbrev pub sort_of : Said → Option SortTree
sort_of (Reserved Loc) = Some LocSort
sort_of (Reserved Int) = Some IntSort
sort_of (Reserved Set) = Some SetSort
sort_of k = None

-- the words of sorts
abbrev pub is_sort : Said → Bool
is_sort = telling sort_of

-- a sort with its place, and a name
abbrev pub SomeParam : Type 0
SomeParam = (ℕ × SortTree) × Ident

-- the parameter
abbrev pub param_tree : SomeParam → ParamTree
param_tree x = record { sort = x.0.1; place = x.0.0; name = x.1 }

-- the word for a sort, behind its place
abbrev pub placed_sort : List Lexeme → Read (ℕ × SortTree)
placed_sort ts = single (placed sort_of) NoName ts

-- a parameter
abbrev pub param_at : List Lexeme → Read ParamTree
param_at ts = mapped param_tree (both placed_sort ident_token) ts

-- a body in its braces
abbrev pub InBraces : Type 0
InBraces = Unit {0} × (BodyTree × Unit {0})

-- the body
abbrev pub braced_tree : InBraces → BodyTree
braced_tree x = x.1.0

-- a body in its braces
abbrev pub braced_at : List Lexeme → Read BodyTree
braced_at ts = mapped braced_tree (both (sign_token LeftBrace) (both body_at (sign_token RightBrace))) ts

-- parameters in their parentheses
abbrev pub InParens : Type 0
InParens = Unit {0} × List ParamTree

-- the parameters
abbrev pub params_tree : InParens → List ParamTree
params_tree x = x.1

-- parameters in their parentheses
abbrev pub params_at : List Lexeme → Read (List ParamTree)
params_at ts = mapped params_tree (both (sign_token LeftParen) (enclosed NoName RightParen is_sort param_at)) ts

-- the parts of a clause
abbrev pub SomeClause : Type 0
SomeClause = ℕ × (LitTree × (Unit {0} × BodyTree))

-- the clause
abbrev pub clause_tree : SomeClause → ClauseTree
clause_tree x = record { place = x.0; guard = x.1.0; body = x.1.1.1 }

-- a clause
abbrev pub clause_at : List Lexeme → Read ClauseTree
clause_at ts = mapped clause_tree (both (sign_place Bar) (both lit_at (both (sign_token Implies) braced_at))) ts

-- clauses in their braces
abbrev pub SomeClauses : Type 0
SomeClauses = Unit {0} × (ClauseTree × (List ClauseTree × Unit {0}))

-- one clause or more in their braces
abbrev pub clauses_at : List Lexeme → Read SomeClauses
clauses_at ts = both (sign_token LeftBrace) (both clause_at (both (many (is_sign Bar) clause_at) (sign_token RightBrace))) ts

-- the parts of a predicate
abbrev pub SomePred : Type 0
SomePred = Unit {0} × (Ident × (List ParamTree × SomeClauses))

-- the predicate
abbrev pub pred_tree : SomePred → PredTree
pred_tree x = record { name = x.1.0; params = x.1.1.0; first = x.1.1.1.1.0; others = x.1.1.1.1.1.0 }

-- a predicate
abbrev pub pred_at : List Lexeme → Read PredTree
pred_at ts = mapped pred_tree (both (word_token Predicate) (both ident_token (both params_at clauses_at))) ts

-- the parts of the procedure
abbrev pub SomeProcedure : Type 0
SomeProcedure = Unit {0} × (Ident × (List ParamTree × (BodyTree × BodyTree)))

-- the procedure
abbrev pub procedure_at : List Lexeme → Read SomeProcedure
procedure_at ts = both (word_token Void) (both ident_token (both params_at (both braced_at braced_at))) ts

-- the specification
abbrev pub text_tree : List PredTree × SomeProcedure → TextTree
text_tree x = record { preds = x.0; name = x.1.1.0; params = x.1.1.1.0; pre = x.1.1.1.1.0; post = x.1.1.1.1.1 }

-- the predicates, and then the procedure
abbrev pub text_at : List Lexeme → Read TextTree
text_at ts = mapped text_tree (both (many (is_word Predicate) pred_at) procedure_at) ts
