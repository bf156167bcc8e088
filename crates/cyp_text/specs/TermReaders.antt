-- How terms and unions are read.
use Rattle.std.specs.Prelude.{Bool, List, None, Option, Some, false, true, ◌⊎◌, ℕ}
use Rattle.std.proofs.Common.{inl, inr}
use Rattle.cyp_lex.specs.declared.token.Sign.TheVariants.{Comma, LeftBrace, Minus, Plus, RightBrace, TwoPluses}
use Rattle.cyp_lex.specs.Lexemes.{Lexeme, Said, Symbol}
use Rattle.cyp_lex.specs.declared.ident.Ident.{Ident}
use Rattle.cyp_lex.specs.Readers.{Read, Enclosed, both, closed, enclosed, enclosed_list, first_tells, ident_token, is_name, is_number, is_sign, listing, mapped, number_token, one_of, option_after, placed_number, plainly, sign_place, sign_token, single, telling}
use Rattle.cyp_lex.specs.declared.want.Want.TheVariants.{AName, NoName}
use Rattle.cyp_text.specs.declared.tree.IntTree.{IntTree}
use Rattle.cyp_text.specs.declared.tree.IntTree.TheVariants.{MinusNum, NameMinus, NamePlus, Named, Num, NumPlus}
use Rattle.cyp_text.specs.declared.tree.PartTree.{PartTree}
use Rattle.cyp_text.specs.declared.tree.PartTree.TheVariants.{Braces, PartName}
use Rattle.cyp_text.specs.declared.tree.SetTree.{SetTree}

-- true for a plus
abbrev pub sum_sign_of : Said → Option Bool
sum_sign_of (Symbol Plus) = Some true
sum_sign_of (Symbol Minus) = Some false
sum_sign_of k = None

-- a sign that would make a longer sum
abbrev pub is_sum : Said → Bool
is_sum = telling sum_sign_of

-- a plus or a minus
abbrev pub sum_sign : List Lexeme → Read Bool
sum_sign ts = single (plainly sum_sign_of) NoName ts

-- a number with its place, and maybe a plus and a name
abbrev pub NumberTerm : Type 0
NumberTerm = (ℕ × ℕ) × Option (Unit {0} × Ident)

-- the place of a minus, and the number
abbrev pub MinusTerm : Type 0
MinusTerm = ℕ × ℕ

-- a name, and maybe a sign and a number
abbrev pub NameTerm : Type 0
NameTerm = Ident × Option (Bool × ℕ)

-- the three beginnings of a term
abbrev pub AnyTerm : Type 0
AnyTerm = NumberTerm ⊎ (MinusTerm ⊎ NameTerm)

-- a number, and maybe a plus and a name
abbrev pub number_term : List Lexeme → Read NumberTerm
number_term ts = option_after (is_sign Plus) placed_number (both (sign_token Plus) ident_token) ts

-- a minus and a number
abbrev pub minus_term : List Lexeme → Read MinusTerm
minus_term ts = both (sign_place Minus) number_token ts

-- a name, and maybe a sign and a number
abbrev pub name_term : List Lexeme → Read NameTerm
name_term ts = option_after is_sum ident_token (both sum_sign number_token) ts

-- a name plus or minus a number
abbrev pub sum_tree : Ident → Bool → ℕ → IntTree
sum_tree i true n = NamePlus i n
sum_tree i false n = NameMinus i n

-- the term that begins with a number
abbrev pub number_tree : ℕ × ℕ → Option (Unit {0} × Ident) → IntTree
number_tree a None = Num a.0 a.1
number_tree a (Some y) = NumPlus a.0 a.1 y.1

-- the term that begins with a name
abbrev pub name_tree : Ident → Option (Bool × ℕ) → IntTree
name_tree i None = Named i
name_tree i (Some y) = sum_tree i y.0 y.1

-- the term
abbrev pub int_tree : AnyTerm → IntTree
int_tree (inl x) = number_tree x.0 x.1
int_tree (inr (inl x)) = MinusNum x.0 x.1
int_tree (inr (inr x)) = name_tree x.0 x.1

-- a term that begins with a number
abbrev pub number_int : List Lexeme → Read IntTree
number_int ts = mapped (λ (x : NumberTerm). number_tree x.0 x.1) number_term ts

-- a minus and a number
abbrev pub minus_int : List Lexeme → Read IntTree
minus_int ts = mapped (λ (x : MinusTerm). MinusNum x.0 x.1) minus_term ts

-- a term that begins with a name
abbrev pub name_int : List Lexeme → Read IntTree
name_int ts = mapped (λ (x : NameTerm). name_tree x.0 x.1) name_term ts

-- a term that begins with a minus or a name
abbrev pub other_term : List Lexeme → Read (MinusTerm ⊎ NameTerm)
other_term ts = first_tells AName (is_sign Minus) is_name minus_term name_term ts

-- the lexemes that begin it
abbrev pub begins_other : Said → Bool
begins_other = one_of (is_sign Minus) is_name

-- the lexemes that begin a term
abbrev pub begins_int : Said → Bool
begins_int = one_of is_number begins_other

-- a term by its first lexeme
abbrev pub any_term : List Lexeme → Read AnyTerm
any_term ts = first_tells AName is_number begins_other number_term other_term ts

-- a term, whatever is behind it
abbrev pub any_int : List Lexeme → Read IntTree
any_int ts = mapped int_tree any_term ts

-- a term, and no sign of a sum behind it
abbrev pub int_at : List Lexeme → Read IntTree
int_at ts = closed is_sum (mapped int_tree any_term) ts

-- one term or more between commas
abbrev pub terms : List Lexeme → Read (IntTree × List IntTree)
terms = listing (is_sign Comma) (sign_token Comma) int_at

-- what is behind an opening brace
abbrev pub Inner : Type 0
Inner = Enclosed IntTree

-- none or more terms between commas, and the closing brace
abbrev pub inner : List Lexeme → Read Inner
inner ts = first_tells AName (is_sign RightBrace) begins_int (sign_token RightBrace) (both terms (sign_token RightBrace)) ts

-- the terms
abbrev pub inner_terms : Inner → List IntTree
inner_terms = enclosed_list

-- an opening brace, and what is behind it
abbrev pub braces_at : List Lexeme → Read (ℕ × Inner)
braces_at ts = both (sign_place LeftBrace) inner ts

-- terms in braces, behind the place of the brace
abbrev pub braced_terms : List Lexeme → Read (ℕ × List IntTree)
braced_terms ts = both (sign_place LeftBrace) (enclosed AName RightBrace begins_int int_at) ts

-- the part of a union
abbrev pub part_tree : (ℕ × Inner) ⊎ Ident → PartTree
part_tree (inl x) = Braces x.0 (inner_terms x.1)
part_tree (inr i) = PartName i

-- the lexemes that begin a union
abbrev pub begins_set : Said → Bool
begins_set = one_of (is_sign LeftBrace) is_name

-- a part of a union: terms in braces, or a name
abbrev pub part_at : List Lexeme → Read PartTree
part_at ts = mapped part_tree (first_tells AName (is_sign LeftBrace) is_name braces_at ident_token) ts

-- one part or more, with `++` between each two
abbrev pub parts_at : List Lexeme → Read (PartTree × List PartTree)
parts_at = listing (is_sign TwoPluses) (sign_token TwoPluses) part_at

-- the union of its parts
abbrev pub set_tree : PartTree × List PartTree → SetTree
set_tree x = record { first = x.0; others = x.1 }

-- a union
abbrev pub set_at : List Lexeme → Read SetTree
set_at ts = mapped set_tree parts_at ts
