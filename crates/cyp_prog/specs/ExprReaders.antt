-- How expressions, places and what a `let` binds are read.
use Rattle.std.specs.Prelude.{Bool, List, None, Option, Some, false, true, ◌⊎◌, ℕ}
use Rattle.std.proofs.Common.{inl, inr}
use Rattle.cyp_lex.specs.Lexemes.{Lexeme, Said, Symbol, Variable}
use Rattle.cyp_lex.specs.Readers.{Read, both, enclosed, first_tells, is_number, is_sign, is_word, mapped, number_token, one_of, option_after, placed, placed_number, plainly, sign_token, single, telling, word_token}
use Rattle.cyp_lex.specs.declared.want.Want.TheVariants.{NoName}
use Rattle.cyp_lex.specs.declared.token.Sign.TheVariants as signs
use Rattle.cyp_lex.specs.declared.token.Word.TheVariants.{Malloc}
use Rattle.cyp_prog.specs.Trees.{ExprTree, FromCell, FromMalloc, MinusNum, Num, PlaceExpr, PlaceMinus, PlaceNum, PlaceTree, PlaceVar, SourceTree, Var, VarMinus, VarPlus, VarTree}
use Rattle.cyp_prog.specs.declared.stmt.TestSign.{TestSign}
use Rattle.cyp_prog.specs.declared.stmt.TestSign.TheVariants.{AtMost, Below, Equal, Unequal}

-- the number of a variable, of a lexeme that is one
abbrev pub variable_of : Said → Option ℕ
variable_of (Variable n) = Some n
variable_of k = None

-- the lexeme is a variable
abbrev pub is_variable : Said → Bool
is_variable = telling variable_of

-- a variable from its place and number
abbrev pub var_tree : ℕ × ℕ → VarTree
var_tree x = record { number = x.1; place = x.0 }

-- reads a variable
abbrev pub variable_token : List Lexeme → Read VarTree
variable_token ts = mapped var_tree (single (placed variable_of) NoName) ts

-- `+` is true, and `-` false
abbrev pub sum_of : Said → Option Bool
sum_of (Symbol signs.Plus) = Some true
sum_of (Symbol signs.Minus) = Some false
sum_of k = None

-- the lexeme is `+` or `-`
abbrev pub is_sum : Said → Bool
is_sum = telling sum_of

-- reads `+` or `-`
abbrev pub sum_token : List Lexeme → Read Bool
sum_token ts = single (plainly sum_of) NoName ts

-- a variable, or one with a number behind `+` or `-`
abbrev pub VarExpr : Type 0
VarExpr = VarTree × Option (Bool × ℕ)

-- reads a variable, and a number behind `+` or `-` where one of them follows
abbrev pub var_expr : List Lexeme → Read VarExpr
var_expr ts = option_after is_sum variable_token (both sum_token number_token) ts

-- a number, or one behind `-`
abbrev pub AnyNumber : Type 0
AnyNumber = ℕ ⊎ (Unit {0} × ℕ)

-- the lexeme is a number or a minus
abbrev pub begins_number : Said → Bool
begins_number = one_of is_number (is_sign signs.Minus)

-- reads a number, or one behind a minus
abbrev pub any_number : List Lexeme → Read AnyNumber
any_number ts = first_tells NoName is_number (is_sign signs.Minus) number_token (both (sign_token signs.Minus) number_token) ts

-- a number, behind whether a minus is before it
abbrev pub signed : AnyNumber → Bool × ℕ
signed (inl n) = (false, n)
signed (inr x) = (true, x.1)

-- a number, or one behind `-`
abbrev pub signed_number : List Lexeme → Read (Bool × ℕ)
signed_number ts = mapped signed any_number ts

-- an expression as it is read: one that begins with a variable, or a number
abbrev pub AnyExpr : Type 0
AnyExpr = VarExpr ⊎ AnyNumber

-- the tree of a variable, or of its sum with a number
abbrev pub sum_tree : VarTree → Option (Bool × ℕ) → ExprTree
sum_tree v None = Var v
sum_tree v (Some y) = of y.0 y.1
  where
    of : Bool → ℕ → ExprTree
    of true n = VarPlus v n
    of false n = VarMinus v n

-- a variable, and maybe a number behind `+` or `-`
abbrev pub sum_expr : List Lexeme → Read ExprTree
sum_expr ts = mapped (λ (x : VarExpr). sum_tree x.0 x.1) var_expr ts

-- the tree of an expression
abbrev pub expr_tree : AnyExpr → ExprTree
expr_tree (inl x) = sum_tree x.0 x.1
expr_tree (inr (inl n)) = Num n
expr_tree (inr (inr x)) = MinusNum x.1

-- the lexeme begins an expression
abbrev pub begins_expr : Said → Bool
begins_expr = one_of is_variable begins_number

-- reads an expression
abbrev pub expr_at : List Lexeme → Read ExprTree
expr_at ts = mapped expr_tree (first_tells NoName is_variable begins_number var_expr any_number) ts

-- an expression in parentheses
abbrev pub InParens : Type 0
InParens = Unit {0} × (ExprTree × Unit {0})

-- reads an expression in parentheses
abbrev pub in_parens : List Lexeme → Read InParens
in_parens ts = both (sign_token signs.LeftParen) (both expr_at (sign_token signs.RightParen)) ts

-- an expression in parentheses, as a place
abbrev pub paren_place : List Lexeme → Read PlaceTree
paren_place ts = mapped (λ (x : InParens). PlaceExpr x.1.0) in_parens ts

-- a place that is no variable: a number, or an expression in parentheses
abbrev pub OtherPlace : Type 0
OtherPlace = AnyNumber ⊎ InParens

-- the lexeme begins such a place
abbrev pub begins_other : Said → Bool
begins_other = one_of begins_number (is_sign signs.LeftParen)

-- reads such a place
abbrev pub other_place : List Lexeme → Read OtherPlace
other_place ts = first_tells NoName begins_number (is_sign signs.LeftParen) any_number in_parens ts

-- a place as it is read
abbrev pub AnyPlace : Type 0
AnyPlace = VarTree ⊎ OtherPlace

-- the tree of a place
abbrev pub place_tree : AnyPlace → PlaceTree
place_tree (inl v) = PlaceVar v
place_tree (inr (inl (inl n))) = PlaceNum n
place_tree (inr (inl (inr x))) = PlaceMinus x.1
place_tree (inr (inr x)) = PlaceExpr x.1.0

-- the lexeme begins a place
abbrev pub begins_place : Said → Bool
begins_place = one_of is_variable begins_other

-- reads a place
abbrev pub place_at : List Lexeme → Read PlaceTree
place_at ts = mapped place_tree (first_tells NoName is_variable begins_other variable_token other_place) ts

-- the content of a cell, or a new block
abbrev pub CellSource : Type 0
CellSource = Unit {0} × PlaceTree

-- an allocation as it is read: its size is the number
abbrev pub BlockSource : Type 0
BlockSource = Unit {0} × (Unit {0} × ((ℕ × ℕ) × Unit {0}))

-- reads an allocation
abbrev pub block_source : List Lexeme → Read BlockSource
block_source ts = both (word_token Malloc) (both (sign_token signs.LeftParen) (both placed_number (sign_token signs.RightParen))) ts

-- the content of a cell
abbrev pub cell_source : List Lexeme → Read SourceTree
cell_source ts = mapped (λ (x : CellSource). FromCell x.1) (both (sign_token signs.Star) place_at) ts

-- a new block
abbrev pub malloc_source : List Lexeme → Read SourceTree
malloc_source ts = mapped (λ (x : BlockSource). FromMalloc x.1.1.0.0 x.1.1.0.1) block_source ts

-- the tree of what a variable is bound to
abbrev pub source_tree : CellSource ⊎ BlockSource → SourceTree
source_tree (inl x) = FromCell x.1
source_tree (inr x) = FromMalloc x.1.1.0.0 x.1.1.0.1

-- the lexeme begins what a variable is bound to
abbrev pub begins_source : Said → Bool
begins_source = one_of (is_sign signs.Star) (is_word Malloc)

-- reads what a variable is bound to
abbrev pub source_at : List Lexeme → Read SourceTree
source_at ts = mapped source_tree (first_tells NoName (is_sign signs.Star) (is_word Malloc) (both (sign_token signs.Star) place_at) block_source) ts

-- reads arguments up to the closing parenthesis
abbrev pub args_at : List Lexeme → Read (List ExprTree)
args_at ts = enclosed NoName signs.RightParen begins_expr expr_at ts

-- ---- tests

-- how the two sides of a test are compared, of a lexeme that says it
abbrev pub test_of : Said → Option TestSign
test_of (Symbol signs.Equal) = Some Equal
test_of (Symbol signs.Unequal) = Some Unequal
test_of (Symbol signs.AtMost) = Some AtMost
test_of (Symbol signs.Less) = Some Below
test_of k = None

-- the lexeme says how a test compares
abbrev pub is_test : Said → Bool
is_test = telling test_of

-- reads how a test compares
abbrev pub test_token : List Lexeme → Read TestSign
test_token ts = single (plainly test_of) NoName ts

-- a test in parentheses as it is read
abbrev pub SomeTest : Type 0
SomeTest = Unit {0} × (ExprTree × (TestSign × (ExprTree × Unit {0})))

-- reads a test in parentheses
abbrev pub test_at : List Lexeme → Read SomeTest
test_at ts = both (sign_token signs.LeftParen) (both expr_at (both test_token (both expr_at (sign_token signs.RightParen)))) ts
