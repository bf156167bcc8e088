-- Terms are read as they are spelled.
use Rattle.std.proofs.Common.{◌≡◌, ℕ, Bool, true, false, List, Option, Some, None, ◌⊎◌, inl, inr, refl}
use Rattle.cyp_lex.specs.declared.token.Sign.TheVariants.{Minus, Plus}
use Rattle.cyp_lex.specs.Lexemes.{Name, Number, Said, Symbol}
use Rattle.cyp_lex.specs.Spelling.{Any, At, Mark, ident}
use Rattle.cyp_lex.specs.declared.ident.Ident.{Ident}
use Rattle.cyp_lex.specs.Readers.{is_name, is_number, is_sign}
use Rattle.cyp_lex.specs.declared.want.Want.TheVariants.{NoName}
use Rattle.cyp_lex.proofs.Readings.{Apart, Reads, Within, apart_none, less_reads, none, nowhere, within_self}
use Rattle.cyp_lex.proofs.Singles.{one}
use Rattle.cyp_lex.proofs.Sequences.{both_reads, spell_both}
use Rattle.cyp_lex.proofs.Mapped.{closed_reads, mapped_reads}
use Rattle.cyp_lex.proofs.Options.{option_reads, spell_option}
use Rattle.cyp_lex.proofs.Choices.{spell_either}
use Rattle.cyp_lex.proofs.Tellers.{Tells, ident_reads, number_mark, number_token_reads, placed_mark, placed_number_reads, plainly_reads, sign_mark, sign_place_reads, sign_reads}
use Rattle.cyp_lex.proofs.Firsts.{NameBegins, first_reads, name_ident, name_mapped, name_option, name_right}
use Rattle.cyp_text.specs.declared.tree.IntTree.{IntTree}
use Rattle.cyp_text.specs.declared.tree.IntTree.TheVariants.{MinusNum, NameMinus, NamePlus, Named, Num, NumPlus}
use Rattle.cyp_text.specs.Grammar.{int_spelling}
use Rattle.cyp_text.specs.TermReaders.{AnyTerm, MinusTerm, NameTerm, NumberTerm, any_term, begins_int, begins_other, int_at, int_tree, is_sum, minus_term, name_term, number_term, other_term, sum_sign, sum_sign_of}

-- ---- the sign of a sum

abbrev sum_sign_said : Bool → Said
sum_sign_said true = Symbol Plus
sum_sign_said false = Symbol Minus

sum_sign_only : (k : Said) (b : Bool) → sum_sign_of k ≡ Some b → k ≡ sum_sign_said b
sum_sign_only (Symbol Plus) true e = refl
sum_sign_only (Symbol Plus) false e = absurd cc
sum_sign_only (Symbol Minus) true e = absurd cc
sum_sign_only (Symbol Minus) false e = refl
sum_sign_only k b e = absurd cc

sum_sign_back : (b : Bool) → sum_sign_of (sum_sign_said b) ≡ Some b
sum_sign_back true = refl
sum_sign_back false = refl

sum_sign_tells : Tells Bool sum_sign_of sum_sign_said
sum_sign_tells = record { only = sum_sign_only; back = sum_sign_back; value = true }

abbrev pub sum_sign_mark : Bool → Mark
sum_sign_mark b = Any (sum_sign_said b)

pub sum_sign_reads : {ends : Said → Bool} {n : ℕ} → Reads n Bool (one sum_sign_mark) is_sum ends sum_sign
sum_sign_reads = plainly_reads {of = sum_sign_of} {said = sum_sign_said} {want = NoName} sum_sign_tells (λ x. refl)

-- ---- the three kinds of terms

-- what would make a term longer; and no name stands behind a term
abbrev pub int_ends : Said → Bool
int_ends (Symbol Plus) = true
int_ends (Symbol Minus) = true
int_ends (Name x) = true
int_ends k = false

plus_ends : Within (is_sign Plus) int_ends
plus_ends (Symbol Plus) e = refl
plus_ends k e = absurd cc

sum_ends : Within is_sum int_ends
sum_ends (Symbol Plus) e = refl
sum_ends (Symbol Minus) e = refl
sum_ends k e = absurd cc

abbrev pub number_spelling : NumberTerm → List Mark
number_spelling = spell_option (one placed_mark) (spell_both (one (sign_mark Plus)) (one ident))

abbrev pub minus_spelling : MinusTerm → List Mark
minus_spelling = spell_both (one (λ p. At (Symbol Minus) p)) (one number_mark)

abbrev name_spelling : NameTerm → List Mark
name_spelling = spell_option (one ident) (spell_both (one sum_sign_mark) (one number_mark))

pub number_reads : (n : ℕ) → Reads n NumberTerm number_spelling is_number int_ends number_term
number_reads n = less_reads (option_reads {fA = none} {fB = none} placed_number_reads (both_reads {fA = none} {fB = none} (sign_reads Plus) ident_reads (apart_none _)) (apart_none _) (nowhere _) (nowhere _) plus_ends (λ x. refl))

pub minus_reads : (n : ℕ) → Reads n MinusTerm minus_spelling (is_sign Minus) none minus_term
minus_reads n = both_reads {fA = none} (sign_place_reads Minus) number_token_reads (apart_none _)

name_reads : (n : ℕ) → Reads n NameTerm name_spelling is_name int_ends name_term
name_reads n = less_reads (option_reads {fA = none} {fB = none} ident_reads
    (both_reads {fA = none} {fB = none} sum_sign_reads number_token_reads (apart_none _))
    (apart_none _) (nowhere _) (nowhere _) sum_ends (λ x. refl))

-- ---- which term

pub minus_name : Apart (is_sign Minus) is_name
minus_name (Symbol Minus) e = refl
minus_name k e = absurd cc

pub number_other : Apart is_number begins_other
number_other (Number n) e = refl
number_other k e = absurd cc

abbrev other_spelling : MinusTerm ⊎ NameTerm → List Mark
other_spelling = spell_either minus_spelling name_spelling

abbrev term_spelling : AnyTerm → List Mark
term_spelling = spell_either number_spelling other_spelling

name_other : NameBegins (MinusTerm ⊎ NameTerm) other_spelling
name_other = name_right (name_option _ name_ident)

name_term_begins : NameBegins AnyTerm term_spelling
name_term_begins = name_right name_other

other_reads : (n : ℕ) → Reads n (MinusTerm ⊎ NameTerm) other_spelling begins_other int_ends other_term
other_reads n = first_reads (minus_reads n) (name_reads n) minus_name name_other.shows (nowhere _) (within_self _)

term_reads : (n : ℕ) → Reads n AnyTerm term_spelling begins_int int_ends any_term
term_reads n = first_reads (number_reads n) (other_reads n) number_other name_term_begins.shows (within_self _) (within_self _)

abbrev int_parts : IntTree → AnyTerm
int_parts (Num p n) = inl ((p, n), None)
int_parts (NumPlus p n i) = inl ((p, n), Some (tt, i))
int_parts (MinusNum p n) = inr (inl (p, n))
int_parts (Named i) = inr (inr (i, None))
int_parts (NamePlus i n) = inr (inr (i, Some (true, n)))
int_parts (NameMinus i n) = inr (inr (i, Some (false, n)))

there : (x : AnyTerm) → int_parts (int_tree x) ≡ x
there (inl x) = of x.0 x.1
  where
    of : (a : ℕ × ℕ) (o : Option (Unit {0} × Ident)) → int_parts (int_tree (inl (a, o))) ≡ inl (a, o)
    of a None = refl
    of a (Some y) = refl
there (inr (inl x)) = refl
there (inr (inr x)) = of x.0 x.1
  where
    of : (i : Ident) (o : Option (Bool × ℕ)) → int_parts (int_tree (inr (inr (i, o)))) ≡ inr (inr (i, o))
    of i None = refl
    of i (Some y) = sign y.0 y.1
      where
        sign : (b : Bool) (n : ℕ) → int_parts (int_tree (inr (inr (i, Some (b, n))))) ≡ inr (inr (i, Some (b, n)))
        sign true n = refl
        sign false n = refl

again : (y : IntTree) → int_tree (int_parts y) ≡ y
again (Num p n) = refl
again (NumPlus p n i) = refl
again (MinusNum p n) = refl
again (Named i) = refl
again (NamePlus i n) = refl
again (NameMinus i n) = refl

same : (y : IntTree) → int_spelling y ≡ term_spelling (int_parts y)
same (Num p n) = refl
same (NumPlus p n i) = refl
same (MinusNum p n) = refl
same (Named i) = refl
same (NamePlus i n) = refl
same (NameMinus i n) = refl

-- the reader of terms gives the term that is spelled, or stops at the first lexeme that nothing allows
pub int_reads : (n : ℕ) → Reads n IntTree int_spelling begins_int int_ends int_at
int_reads n = closed_reads (mapped_reads int_tree int_parts there again same (term_reads n)) sum_ends (λ x. refl)

-- a term may begin with any name
pub name_int : NameBegins IntTree int_spelling
name_int = name_mapped int_tree int_parts there same name_term_begins
