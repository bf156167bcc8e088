-- Expressions, places and what a `let` binds are read as they are spelled.
use Rattle.std.proofs.Common.{◌≡◌, ℕ, Bool, true, false, List, Option, Some, None, ◌⊎◌, inl, inr, refl, ap}
use Rattle.cyp_lex.proofs.Choices.{spell_either}
use Rattle.cyp_lex.proofs.Enclosures.{enclosed_reads, enclosed_spelling}
use Rattle.cyp_lex.proofs.Firsts.{first_reads}
use Rattle.cyp_lex.proofs.Mapped.{mapped_reads}
use Rattle.cyp_lex.proofs.Options.{option_reads, spell_option}
use Rattle.cyp_lex.proofs.Readings.{Apart, Reads, Within, apart_none, less_reads, none, nowhere, within_self}
use Rattle.cyp_lex.proofs.Sequences.{both_reads, spell_both}
use Rattle.cyp_lex.proofs.Singles.{one, some_is}
use Rattle.cyp_lex.proofs.Tellers.{Tells, number_mark, number_token_reads, placed_mark, placed_number_reads, placed_reads, plainly_reads, sign_mark, sign_reads, word_mark, word_reads}
use Rattle.cyp_lex.specs.Lexemes.{Number, Said, Symbol, Variable}
use Rattle.cyp_lex.specs.Readers.{is_number, is_sign, is_word, one_of}
use Rattle.cyp_lex.specs.declared.want.Want.TheVariants.{NoName}
use Rattle.cyp_lex.specs.Spelling.{Any, At, Mark}
use Rattle.cyp_lex.specs.declared.token.Sign.TheVariants as signs
use Rattle.cyp_lex.specs.declared.token.Word.TheVariants.{Malloc}
use Rattle.cyp_prog.specs.ExprReaders.{AnyExpr, AnyNumber, AnyPlace, BlockSource, CellSource, InParens, OtherPlace, SomeTest, VarExpr, any_number, args_at, begins_expr, begins_number, begins_other, begins_place, begins_source, block_source, expr_at, expr_tree, in_parens, is_sum, is_test, is_variable, other_place, place_at, place_tree, source_at, source_tree, sum_of, sum_token, test_at, test_of, test_token, var_expr, var_tree, variable_of, variable_token}
use Rattle.cyp_prog.specs.Grammar.{expr_spelling, place_spelling, source_spelling, test_sign, variable}
use Rattle.cyp_prog.specs.Trees.{ExprTree, FromCell, FromMalloc, MinusNum, Num, PlaceExpr, PlaceMinus, PlaceNum, PlaceTree, PlaceVar, SourceTree, Var, VarMinus, VarPlus, VarTree}
use Rattle.cyp_prog.specs.declared.stmt.TestSign.{TestSign}
use Rattle.cyp_prog.specs.declared.stmt.TestSign.TheVariants.{AtMost, Below, Equal, Unequal}

-- ---- single lexemes

variable_only : (k : Said) (n : ℕ) → variable_of k ≡ Some n → k ≡ Variable n
variable_only (Variable m) n e = ap (λ i. Variable i) (some_is m n e)
variable_only k n e = absurd cc

variable_tells : Tells ℕ variable_of (λ n. Variable n)
variable_tells = record { only = variable_only; back = λ n. refl; value = 1 }

abbrev variable_mark : ℕ × ℕ → Mark
variable_mark x = At (Variable x.1) x.0

pub variable_reads : {ends : Said → Bool} {n : ℕ} → Reads n VarTree (one variable) is_variable ends variable_token
variable_reads = mapped_reads {spA = one variable_mark} {spB = one variable} var_tree (λ v. (v.place, v.number)) (λ x. refl) (λ v. refl) (λ v. refl)
    (placed_reads {of = variable_of} {want = NoName} variable_tells (λ x. refl))

abbrev sum_said : Bool → Said
sum_said true = Symbol signs.Plus
sum_said false = Symbol signs.Minus

sum_only : (k : Said) (b : Bool) → sum_of k ≡ Some b → k ≡ sum_said b
sum_only (Symbol signs.Plus) true e = refl
sum_only (Symbol signs.Plus) false e = absurd cc
sum_only (Symbol signs.Minus) true e = absurd cc
sum_only (Symbol signs.Minus) false e = refl
sum_only k b e = absurd cc

sum_back : (b : Bool) → sum_of (sum_said b) ≡ Some b
sum_back true = refl
sum_back false = refl

sum_tells : Tells Bool sum_of sum_said
sum_tells = record { only = sum_only; back = sum_back; value = true }

abbrev sum_mark : Bool → Mark
sum_mark b = Any (sum_said b)

sum_reads : {ends : Said → Bool} {n : ℕ} → Reads n Bool (one sum_mark) is_sum ends sum_token
sum_reads = plainly_reads {of = sum_of} {said = sum_said} {want = NoName} sum_tells (λ x. refl)

abbrev test_said : TestSign → Said
test_said s = Symbol (test_sign s)

test_only : (k : Said) (s : TestSign) → test_of k ≡ Some s → k ≡ test_said s
test_only (Symbol signs.Equal) s e = ap test_said (some_is Equal s e)
test_only (Symbol signs.Unequal) s e = ap test_said (some_is Unequal s e)
test_only (Symbol signs.AtMost) s e = ap test_said (some_is AtMost s e)
test_only (Symbol signs.Less) s e = ap test_said (some_is Below s e)
test_only k s e = absurd cc

test_back : (s : TestSign) → test_of (test_said s) ≡ Some s
test_back Equal = refl
test_back Unequal = refl
test_back AtMost = refl
test_back Below = refl

test_tells : Tells TestSign test_of test_said
test_tells = record { only = test_only; back = test_back; value = Equal }

abbrev pub test_mark : TestSign → Mark
test_mark s = Any (test_said s)

test_reads : {ends : Said → Bool} {n : ℕ} → Reads n TestSign (one test_mark) is_test ends test_token
test_reads = plainly_reads {of = test_of} {said = test_said} {want = NoName} test_tells (λ x. refl)

-- ---- expressions

abbrev var_spelling : VarExpr → List Mark
var_spelling = spell_option (one variable) (spell_both (one sum_mark) (one number_mark))

abbrev number_spelling : AnyNumber → List Mark
number_spelling = spell_either (one number_mark) (spell_both (one (sign_mark signs.Minus)) (one number_mark))

abbrev any_spelling : AnyExpr → List Mark
any_spelling = spell_either var_spelling number_spelling

number_minus : Apart is_number (is_sign signs.Minus)
number_minus (Number n) e = refl
number_minus k e = absurd cc

number_reads : (n : ℕ) → Reads n AnyNumber number_spelling begins_number none any_number
number_reads n = first_reads {fA = none} {fB = none} {want = NoName} number_token_reads (both_reads {fA = none} (sign_reads signs.Minus) number_token_reads (apart_none _)) number_minus (λ x. refl) (nowhere _) (nowhere _)

var_reads : (n : ℕ) → Reads n VarExpr var_spelling is_variable is_sum var_expr
var_reads n = less_reads (option_reads {fA = none} {fB = none} variable_reads
    (both_reads {fA = none} {fB = none} sum_reads number_token_reads (apart_none _))
    (apart_none _) (nowhere _) (nowhere _) (within_self _) (λ x. refl))

variable_number : Apart is_variable begins_number
variable_number (Variable n) e = refl
variable_number k e = absurd cc

abbrev expr_parts : ExprTree → AnyExpr
expr_parts (Var v) = inl (v, None)
expr_parts (VarPlus v n) = inl (v, Some (true, n))
expr_parts (VarMinus v n) = inl (v, Some (false, n))
expr_parts (Num n) = inr (inl n)
expr_parts (MinusNum n) = inr (inr (tt, n))

expr_there : (x : AnyExpr) → expr_parts (expr_tree x) ≡ x
expr_there (inl x) = of x.0 x.1
  where
    of : (v : VarTree) (o : Option (Bool × ℕ)) → expr_parts (expr_tree (inl (v, o))) ≡ inl (v, o)
    of v None = refl
    of v (Some y) = sign y.0 y.1
      where
        sign : (b : Bool) (n : ℕ) → expr_parts (expr_tree (inl (v, Some (b, n)))) ≡ inl (v, Some (b, n))
        sign true n = refl
        sign false n = refl
expr_there (inr (inl n)) = refl
expr_there (inr (inr x)) = refl

expr_again : (y : ExprTree) → expr_tree (expr_parts y) ≡ y
expr_again (Var v) = refl
expr_again (VarPlus v n) = refl
expr_again (VarMinus v n) = refl
expr_again (Num n) = refl
expr_again (MinusNum n) = refl

expr_same : (y : ExprTree) → expr_spelling y ≡ any_spelling (expr_parts y)
expr_same (Var v) = refl
expr_same (VarPlus v n) = refl
expr_same (VarMinus v n) = refl
expr_same (Num n) = refl
expr_same (MinusNum n) = refl

pub expr_reads : (n : ℕ) → Reads n ExprTree expr_spelling begins_expr is_sum expr_at
expr_reads n = mapped_reads expr_tree expr_parts expr_there expr_again expr_same
    (first_reads {want = NoName} (var_reads n) (number_reads n) variable_number (λ x. refl) (within_self _) (nowhere _))

-- ---- places

close_sum : Apart (is_sign signs.RightParen) is_sum
close_sum (Symbol signs.RightParen) e = refl
close_sum k e = absurd cc

abbrev parens_spelling : InParens → List Mark
parens_spelling = spell_both (one (sign_mark signs.LeftParen)) (spell_both expr_spelling (one (sign_mark signs.RightParen)))

parens_reads : (n : ℕ) → Reads n InParens parens_spelling (is_sign signs.LeftParen) none in_parens
parens_reads n = both_reads {fA = none} (sign_reads signs.LeftParen) (both_reads {fB = none} (expr_reads n) (sign_reads signs.RightParen) close_sum) (apart_none _)

number_paren : Apart begins_number (is_sign signs.LeftParen)
number_paren (Number n) e = refl
number_paren (Symbol signs.Minus) e = refl
number_paren k e = absurd cc

abbrev other_spelling : OtherPlace → List Mark
other_spelling = spell_either number_spelling parens_spelling

other_reads : (n : ℕ) → Reads n OtherPlace other_spelling begins_other none other_place
other_reads n = first_reads {want = NoName} (number_reads n) (parens_reads n) number_paren (λ x. refl) (within_self _) (within_self _)

variable_other : Apart is_variable begins_other
variable_other (Variable n) e = refl
variable_other k e = absurd cc

abbrev place_parts : PlaceTree → AnyPlace
place_parts (PlaceVar v) = inl v
place_parts (PlaceNum n) = inr (inl (inl n))
place_parts (PlaceMinus n) = inr (inl (inr (tt, n)))
place_parts (PlaceExpr e) = inr (inr (tt, (e, tt)))

place_there : (x : AnyPlace) → place_parts (place_tree x) ≡ x
place_there (inl v) = refl
place_there (inr (inl (inl n))) = refl
place_there (inr (inl (inr x))) = refl
place_there (inr (inr x)) = refl

place_again : (y : PlaceTree) → place_tree (place_parts y) ≡ y
place_again (PlaceVar v) = refl
place_again (PlaceNum n) = refl
place_again (PlaceMinus n) = refl
place_again (PlaceExpr e) = refl

place_same : (y : PlaceTree) → place_spelling y ≡ spell_either (one variable) other_spelling (place_parts y)
place_same (PlaceVar v) = refl
place_same (PlaceNum n) = refl
place_same (PlaceMinus n) = refl
place_same (PlaceExpr e) = refl

pub place_reads : (n : ℕ) → Reads n PlaceTree place_spelling begins_place none place_at
place_reads n = mapped_reads place_tree place_parts place_there place_again place_same
    (first_reads {fA = none} {want = NoName} variable_reads (other_reads n) variable_other (λ x. refl) (within_self _) (within_self _))

-- ---- what a `let` binds

abbrev cell_spelling : CellSource → List Mark
cell_spelling = spell_both (one (sign_mark signs.Star)) place_spelling

abbrev block_spelling : BlockSource → List Mark
block_spelling = spell_both (one (word_mark Malloc)) (spell_both (one (sign_mark signs.LeftParen)) (spell_both (one placed_mark) (one (sign_mark signs.RightParen))))

block_reads : (n : ℕ) → Reads n BlockSource block_spelling (is_word Malloc) none block_source
block_reads n = both_reads {fA = none} (word_reads Malloc) (both_reads {fA = none} (sign_reads signs.LeftParen) (both_reads {fA = none} {fB = none} placed_number_reads (sign_reads signs.RightParen) (apart_none _)) (apart_none _)) (apart_none _)

star_malloc : Apart (is_sign signs.Star) (is_word Malloc)
star_malloc (Symbol s) e = refl
star_malloc k e = absurd cc

abbrev source_parts : SourceTree → CellSource ⊎ BlockSource
source_parts (FromCell p) = inl (tt, p)
source_parts (FromMalloc p n) = inr (tt, (tt, ((p, n), tt)))

source_there : (x : CellSource ⊎ BlockSource) → source_parts (source_tree x) ≡ x
source_there (inl x) = refl
source_there (inr x) = refl

source_again : (y : SourceTree) → source_tree (source_parts y) ≡ y
source_again (FromCell p) = refl
source_again (FromMalloc p n) = refl

source_same : (y : SourceTree) → source_spelling y ≡ spell_either cell_spelling block_spelling (source_parts y)
source_same (FromCell p) = refl
source_same (FromMalloc p n) = refl

pub source_reads : (n : ℕ) → Reads n SourceTree source_spelling begins_source none source_at
source_reads n = mapped_reads source_tree source_parts source_there source_again source_same
    (first_reads {want = NoName} (both_reads {fA = none} (sign_reads signs.Star) (place_reads n) (apart_none _)) (block_reads n) star_malloc (λ x. refl) (within_self _) (within_self _))

-- ---- arguments

-- what would make a list of arguments longer
abbrev args_ends : Said → Bool
args_ends (Symbol signs.Comma) = true
args_ends k = is_sum k

comma_sum : Apart (is_sign signs.Comma) is_sum
comma_sum (Symbol signs.Comma) e = refl
comma_sum k e = absurd cc

sum_in : Within is_sum args_ends
sum_in (Symbol signs.Comma) e = absurd cc
sum_in k e = e

comma_in : Within (is_sign signs.Comma) args_ends
comma_in (Symbol signs.Comma) e = refl
comma_in k e = absurd cc

expr_comma : Apart begins_expr (is_sign signs.Comma)
expr_comma (Symbol signs.Comma) e = absurd cc
expr_comma k e = refl

close_args : Apart (is_sign signs.RightParen) args_ends
close_args (Symbol signs.RightParen) e = refl
close_args k e = absurd cc

close_expr : Apart (is_sign signs.RightParen) begins_expr
close_expr (Symbol signs.RightParen) e = refl
close_expr k e = absurd cc

abbrev pub enclosed_args : List ExprTree → List Mark
enclosed_args = enclosed_spelling signs.RightParen expr_spelling

pub args_reads : (n : ℕ) → Reads n (List ExprTree) enclosed_args (one_of (is_sign signs.RightParen) begins_expr) none args_at
args_reads n = enclosed_reads args_ends NoName signs.RightParen comma_sum sum_in comma_in expr_comma close_args close_expr (λ x. refl) expr_reads n

-- ---- tests

test_sum : Apart is_test is_sum
test_sum (Symbol signs.Equal) e = refl
test_sum (Symbol signs.Unequal) e = refl
test_sum (Symbol signs.AtMost) e = refl
test_sum (Symbol signs.Less) e = refl
test_sum k e = absurd cc

abbrev pub some_test_spelling : SomeTest → List Mark
some_test_spelling = spell_both (one (sign_mark signs.LeftParen)) (spell_both expr_spelling (spell_both (one test_mark) (spell_both expr_spelling (one (sign_mark signs.RightParen)))))

pub some_test_reads : (n : ℕ) → Reads n SomeTest some_test_spelling (is_sign signs.LeftParen) none test_at
some_test_reads n = both_reads {fA = none} (sign_reads signs.LeftParen)
    (both_reads (expr_reads n) (both_reads {fA = none} test_reads (both_reads {fB = none} (expr_reads n) (sign_reads signs.RightParen) close_sum) (apart_none _)) test_sum) (apart_none _)
