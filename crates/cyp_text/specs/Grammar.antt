-- The grammar of specifications: which lexemes spell a tree.
--
--     text   = { pred } proc
--     pred   = "predicate" NAME "(" [ params ] ")" "{" clause { clause } "}"
--     params = param { "," param }
--     param  = ( "loc" | "int" | "set" ) NAME
--     clause = "|" lit "=>" "{" body "}"
--     proc   = "void" NAME "(" [ params ] ")" "{" body "}" "{" body "}"
--     body   = [ item { ( "/\" | "&&" ) item } ";" ] heap
--     item   = "true" | lit
--     heap   = "emp" | chunk { "**" chunk }
--     chunk  = NAME ":->" int | "(" int ")" ":->" int
--            | "[" int "," NUMBER "]" | NAME "(" [ arg { "," arg } ] ")"
--     arg    = int | set
--     lit    = int ( "==" | "!=" | "<=" | "<" | ">=" | ">" ) int
--            | set ( "=i" | "<=i" ) set | int "in" set | "not" "(" lit ")"
--     int    = NUMBER | "-" NUMBER | NAME | NAME ( "+" | "-" ) NUMBER | NUMBER "+" NAME
--     set    = part { "++" part }
--     part   = NAME | "{" [ int { "," int } ] "}"
use Rattle.std.specs.Prelude.{List, [], ◌++◌, ◌∷◌, ℕ}
use Rattle.cyp_lex.specs.declared.token.Sign.{Sign}
use Rattle.cyp_lex.specs.declared.token.Sign.TheVariants.{AndAnd, AtLeast, AtMost, Bar, Comma, Equal, Greater, Implies, LeftBrace, LeftBracket, LeftParen, Less, Minus, Plus, PointsTo, RightBrace, RightBracket, RightParen, Same, Semicolon, SlashAnd, Subset, TwoPluses, TwoStars, Unequal}
use Rattle.cyp_lex.specs.declared.token.Word.{Word}
use Rattle.cyp_lex.specs.declared.token.Word.TheVariants.{Emp, In, Int, Loc, Not, Predicate, Set, True, Void}
use Rattle.cyp_lex.specs.Lexemes.{Number, Reserved, Symbol}
use Rattle.cyp_lex.specs.Spelling.{Any, At, Mark, all_spelling, ident, list_spelling, separated, sign, word}
use Rattle.cyp_text.specs.LitTrees.{Comparing, Inside, LitTree, Negation, SameSets, SubSets}
use Rattle.cyp_text.specs.declared.tree.ArgTree.{ArgTree}
use Rattle.cyp_text.specs.declared.tree.ArgTree.TheVariants.{BracesArg, TermArg, UnionArg}
use Rattle.cyp_text.specs.declared.tree.BodyTree.{BodyTree}
use Rattle.cyp_text.specs.declared.tree.ChunkTree.{ChunkTree}
use Rattle.cyp_text.specs.declared.tree.ChunkTree.TheVariants.{BlockOf, InstanceOf, NamedCell, TermCell}
use Rattle.cyp_text.specs.declared.tree.ClauseTree.{ClauseTree}
use Rattle.cyp_text.specs.declared.tree.Comparison.{Comparison}
use Rattle.cyp_text.specs.declared.tree.Comparison.TheVariants.{IsAbove, IsAtLeast, IsAtMost, IsBelow, IsEqual, IsUnequal}
use Rattle.cyp_text.specs.declared.tree.Conjunction.{Conjunction}
use Rattle.cyp_text.specs.declared.tree.Conjunction.TheVariants.{Ampersands, Slashes}
use Rattle.cyp_text.specs.declared.tree.IntTree.{IntTree}
use Rattle.cyp_text.specs.declared.tree.IntTree.TheVariants.{MinusNum, NameMinus, NamePlus, Named, Num, NumPlus}
use Rattle.cyp_text.specs.declared.tree.ItemTree.{ItemTree}
use Rattle.cyp_text.specs.declared.tree.ItemTree.TheVariants.{LitItem, TrueItem}
use Rattle.cyp_text.specs.declared.tree.ParamTree.{ParamTree}
use Rattle.cyp_text.specs.declared.tree.PartTree.{PartTree}
use Rattle.cyp_text.specs.declared.tree.PartTree.TheVariants.{Braces, PartName}
use Rattle.cyp_text.specs.declared.tree.PredTree.{PredTree}
use Rattle.cyp_text.specs.declared.tree.PureTree.{PureTree}
use Rattle.cyp_text.specs.declared.tree.PureTree.TheVariants.{Items, NoItems}
use Rattle.cyp_text.specs.declared.tree.SetTree.{SetTree}
use Rattle.cyp_text.specs.declared.tree.SortTree.{SortTree}
use Rattle.cyp_text.specs.declared.tree.SortTree.TheVariants.{IntSort, LocSort, SetSort}
use Rattle.cyp_text.specs.declared.tree.TextTree.{TextTree}

-- a number with or without a minus, a name, or the sum or difference of a name and a number
abbrev pub int_spelling : IntTree → List Mark
int_spelling (Num p n) = At (Number n) p ∷ []
int_spelling (MinusNum p n) = At (Symbol Minus) p ∷ Any (Number n) ∷ []
int_spelling (Named i) = ident i ∷ []
int_spelling (NamePlus i n) = ident i ∷ sign Plus ∷ Any (Number n) ∷ []
int_spelling (NameMinus i n) = ident i ∷ sign Minus ∷ Any (Number n) ∷ []
int_spelling (NumPlus p n i) = At (Number n) p ∷ sign Plus ∷ ident i ∷ []

-- terms in braces
abbrev pub braces_spelling : ℕ → List IntTree → List Mark
braces_spelling p ts = At (Symbol LeftBrace) p ∷ (separated (Symbol Comma) int_spelling ts ++ sign RightBrace ∷ [])

-- a name, or terms in braces
abbrev pub part_spelling : PartTree → List Mark
part_spelling (PartName i) = ident i ∷ []
part_spelling (Braces p ts) = braces_spelling p ts

-- the parts with `++` between each two
abbrev pub parts_spelling : PartTree → List PartTree → List Mark
parts_spelling u us = list_spelling (Symbol TwoPluses) part_spelling u us

-- the parts of a union with `++` between each two
abbrev pub set_spelling : SetTree → List Mark
set_spelling u = parts_spelling u.first u.others

-- the symbol of a comparison
abbrev pub comparison_sign : Comparison → Sign
comparison_sign IsEqual = Equal
comparison_sign IsUnequal = Unequal
comparison_sign IsAtMost = AtMost
comparison_sign IsBelow = Less
comparison_sign IsAtLeast = AtLeast
comparison_sign IsAbove = Greater

-- two sides with a comparison, or `in`, `=i` or `<=i`, between them; or `not` and a literal in parentheses
abbrev pub lit_spelling : LitTree → List Mark
lit_spelling (Comparing a c b) = int_spelling a ++ (sign (comparison_sign c) ∷ int_spelling b)
lit_spelling (SameSets a b) = set_spelling a ++ (sign Same ∷ set_spelling b)
lit_spelling (SubSets a b) = set_spelling a ++ (sign Subset ∷ set_spelling b)
lit_spelling (Inside a b) = int_spelling a ++ (word In ∷ set_spelling b)
lit_spelling (Negation p l) = At (Reserved Not) p ∷ sign LeftParen ∷ (lit_spelling l ++ sign RightParen ∷ [])

-- `true`, or a literal
abbrev pub item_spelling : ItemTree → List Mark
item_spelling TrueItem = word True ∷ []
item_spelling (LitItem l) = lit_spelling l

-- `/\` or `&&`
abbrev pub conjunction_sign : Conjunction → Sign
conjunction_sign Slashes = SlashAnd
conjunction_sign Ampersands = AndAnd

-- an item behind its conjunction
abbrev pub later_item : Conjunction × ItemTree → List Mark
later_item p = sign (conjunction_sign p.0) ∷ item_spelling p.1

-- a semicolon ends the items
abbrev pub pure_spelling : PureTree → List Mark
pure_spelling NoItems = []
pure_spelling (Items i is) = item_spelling i ++ (all_spelling later_item is ++ sign Semicolon ∷ [])

-- a term or a union
abbrev pub arg_spelling : ArgTree → List Mark
arg_spelling (TermArg t) = int_spelling t
arg_spelling (BracesArg p ts us) = parts_spelling (Braces p ts) us
arg_spelling (UnionArg i u us) = ident i ∷ sign TwoPluses ∷ parts_spelling u us

-- a cell, a block in brackets, or an instance with its arguments in parentheses
abbrev pub chunk_spelling : ChunkTree → List Mark
chunk_spelling (NamedCell i t) = ident i ∷ sign PointsTo ∷ int_spelling t
chunk_spelling (TermCell a t) = sign LeftParen ∷ (int_spelling a ++ (sign RightParen ∷ sign PointsTo ∷ int_spelling t))
chunk_spelling (BlockOf a p n) = sign LeftBracket ∷ (int_spelling a ++ (sign Comma ∷ At (Number n) p ∷ sign RightBracket ∷ []))
chunk_spelling (InstanceOf i xs) = ident i ∷ sign LeftParen ∷ (separated (Symbol Comma) arg_spelling xs ++ sign RightParen ∷ [])

-- `emp` stands for no chunk
abbrev pub heap_spelling : List ChunkTree → List Mark
heap_spelling [] = word Emp ∷ []
heap_spelling (c ∷ cs) = list_spelling (Symbol TwoStars) chunk_spelling c cs

-- the pure part, if there is one, and the heap
abbrev pub body_spelling : BodyTree → List Mark
body_spelling b = pure_spelling b.pure ++ heap_spelling b.chunks

-- a body between `{` and `}`
abbrev pub in_braces : BodyTree → List Mark
in_braces b = sign LeftBrace ∷ (body_spelling b ++ sign RightBrace ∷ [])

-- the word of a sort
abbrev pub sort_word : SortTree → Word
sort_word LocSort = Loc
sort_word IntSort = Int
sort_word SetSort = Set

-- the word of its sort, and the name
abbrev pub param_spelling : ParamTree → List Mark
param_spelling p = At (Reserved (sort_word p.sort)) p.place ∷ ident p.name ∷ []

-- the parameters in parentheses, with a comma between each two
abbrev pub params_spelling : List ParamTree → List Mark
params_spelling ps = sign LeftParen ∷ (separated (Symbol Comma) param_spelling ps ++ sign RightParen ∷ [])

-- a bar, the guard, `=>` and the body in braces
abbrev pub clause_spelling : ClauseTree → List Mark
clause_spelling c = At (Symbol Bar) c.place ∷ (lit_spelling c.guard ++ (sign Implies ∷ in_braces c.body))

-- `predicate`, the name, the parameters, and the clauses in braces
abbrev pub pred_spelling : PredTree → List Mark
pred_spelling q =
    word Predicate ∷ ident q.name
    ∷ (params_spelling q.params ++ (sign LeftBrace ∷ (clause_spelling q.first ++ (all_spelling clause_spelling q.others ++ sign RightBrace ∷ []))))

-- the predicates, and then `void`, the name, the parameters and the two bodies
abbrev pub text_spelling : TextTree → List Mark
text_spelling t =
    all_spelling pred_spelling t.preds ++ (word Void ∷ ident t.name ∷ (params_spelling t.params ++ (in_braces t.pre ++ in_braces t.post)))
