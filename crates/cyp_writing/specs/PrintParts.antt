-- How the parts of a specification are spelled where they are printed.
use Rattle.std.specs.Prelude.{[], Bool, List, decimal, false, map, suc, true, zero, ℕ, ◌++◌, ◌∷◌}
use Rattle.cyp_lex.specs.Lexemes.{Number, Reserved, Symbol}
use Rattle.cyp_lex.specs.Spelling.{Any, At, Mark, ident, sign}
use Rattle.cyp_heap.specs.declared.chunk.Arg.{Arg}
use Rattle.cyp_heap.specs.declared.chunk.Chunk.{Chunk}
use Rattle.cyp_heap.specs.declared.pred.Clause.{Clause}
use Rattle.cyp_heap.specs.declared.pred.Preds.{Preds}
use Rattle.cyp_lex.specs.declared.token.Sign.TheVariants.{LeftParen, Minus, Plus, RightParen, TwoPluses}
use Rattle.cyp_lex.specs.declared.token.Word.TheVariants.{Not}
use Rattle.cyp_writing.specs.declared.printed_params.Param.{Param}
use Rattle.cyp_term.specs.declared.lit.Lit.{Lit}
use Rattle.cyp_term.specs.declared.lit.SetTerm.{SetTerm}
use Rattle.cyp_term.specs.declared.term.Term.{Term}
use Rattle.cyp_term.specs.declared.term.Var.{Var}
use Rattle.cyp_text.specs.Grammar.{arg_spelling, braces_spelling, chunk_spelling, clause_spelling, int_spelling, lit_spelling, param_spelling, set_spelling, sort_word}
use Rattle.cyp_writing.specs.PrintedTrees.{arg_tree, chunk_tree, clause_tree, ident_of, lit_tree, param_tree, set_tree, sort_letter, sort_tree, term_tree, var_ident}
use Rattle.cyp_text.specs.declared.tree.IntTree.{IntTree}
use Rattle.cyp_text.specs.declared.tree.IntTree.TheVariants.{Named}

-- a variable
abbrev pub var_marks : Var → List Mark
var_marks v = ident (var_ident v) ∷ []

-- a number of this size, which is negative or not
abbrev pub constant_marks : Bool → ℕ → List Mark
constant_marks false n = At (Number n) 0 ∷ []
constant_marks true n = At (Symbol Minus) 0 ∷ Any (Number n) ∷ []

-- what a term adds to its variable, of this size and negative or not
abbrev pub offset_marks : Bool → ℕ → List Mark
offset_marks b zero = []
offset_marks false n = sign Plus ∷ Any (Number n) ∷ []
offset_marks true n = sign Minus ∷ Any (Number n) ∷ []

-- a term
abbrev pub term_marks : Preds → Term → List Mark
term_marks preds t = int_spelling (term_tree t)

-- a set term
abbrev pub set_marks : SetTerm → List Mark
set_marks u = set_spelling (set_tree u)

-- the address of a cell
abbrev pub address_marks : IntTree → List Mark
address_marks (Named i) = ident i ∷ []
address_marks t = sign LeftParen ∷ (int_spelling t ++ sign RightParen ∷ [])

-- the elements of a set term behind its variables
abbrev pub elem_marks : List Term → List Mark
elem_marks [] = []
elem_marks ts = sign TwoPluses ∷ braces_spelling 0 (map term_tree ts)

-- a negation begins
abbrev pub negation_marks : List Mark
negation_marks = At (Reserved Not) 0 ∷ sign LeftParen ∷ []

-- a negation
abbrev pub negated_marks : List Mark → List Mark
negated_marks ms = At (Reserved Not) 0 ∷ sign LeftParen ∷ (ms ++ sign RightParen ∷ [])

-- a literal
abbrev pub lit_marks : Preds → Lit → List Mark
lit_marks preds l = lit_spelling (lit_tree l)

-- an argument
abbrev pub arg_marks : Preds → Arg → List Mark
arg_marks preds a = arg_spelling (arg_tree a)

-- a chunk
abbrev pub chunk_marks : Preds → Chunk → List Mark
chunk_marks preds c = chunk_spelling (chunk_tree preds c)

-- the parameter of a variable
abbrev pub param_of : Var → Param
param_of v = record { sort = v.sort; number = suc v.number }

-- a parameter by its number
abbrev pub numbered_marks : Param → List Mark
numbered_marks p = At (Reserved (sort_word (sort_tree p.sort))) 0 ∷ ident (ident_of (sort_letter p.sort ++ decimal p.number)) ∷ []

-- the parameter that a variable is
abbrev pub param_marks : Preds → Var → List Mark
param_marks preds v = param_spelling (param_tree v)

-- a clause
abbrev pub clause_marks : Preds → Clause → List Mark
clause_marks preds c = clause_spelling (clause_tree preds c)
