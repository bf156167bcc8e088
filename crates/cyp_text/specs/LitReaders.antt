-- How literals are read.
use Rattle.std.specs.Prelude.{List, Ok, Bool, None, Option, Some, false, length, suc, true, zero, ◌⊎◌, ℕ}
use Rattle.std.proofs.Common.{inl, inr}
use Rattle.cyp_lex.specs.declared.token.Sign.TheVariants.{AtLeast, AtMost, Equal, Greater, LeftParen, Less, RightParen, Same, Subset, TwoPluses, Unequal}
use Rattle.cyp_lex.specs.declared.token.Word.TheVariants.{In, Not}
use Rattle.cyp_lex.specs.Lexemes.{Lexeme, Said, Symbol}
use Rattle.cyp_lex.specs.Readers.{Read, both, first_tells, is_word, mapped, one_of, plainly, second_tells, sign_token, single, telling, word_place, word_token, ◌>>=◌}
use Rattle.cyp_lex.specs.declared.want.Want.TheVariants.{AName, NoName}
use Rattle.cyp_text.specs.declared.lit_tree.BaseTree.{BaseTree}
use Rattle.cyp_text.specs.declared.lit_tree.BaseTree.TheVariants as bases
use Rattle.cyp_text.specs.LitTrees.{negated, LitTree}
use Rattle.cyp_text.specs.declared.tree.Comparison.{Comparison}
use Rattle.cyp_text.specs.declared.tree.Comparison.TheVariants.{IsAbove, IsAtLeast, IsAtMost, IsBelow, IsEqual, IsUnequal}
use Rattle.cyp_text.specs.declared.tree.IntTree.{IntTree}
use Rattle.cyp_text.specs.declared.tree.SetTree.{SetTree}
use Rattle.cyp_text.specs.ListReaders.{many}
use Rattle.cyp_text.specs.TermReaders.{begins_int, begins_set, int_at, set_at}

-- the comparison that a symbol stands for
abbrev pub comparison_of : Said → Option Comparison
comparison_of (Symbol Equal) = Some IsEqual
comparison_of (Symbol Unequal) = Some IsUnequal
comparison_of (Symbol AtMost) = Some IsAtMost
comparison_of (Symbol Less) = Some IsBelow
comparison_of (Symbol AtLeast) = Some IsAtLeast
comparison_of (Symbol Greater) = Some IsAbove
comparison_of k = None

-- true for `=i`
abbrev pub set_sign_of : Said → Option Bool
set_sign_of (Symbol Same) = Some true
set_sign_of (Symbol Subset) = Some false
set_sign_of k = None

-- the symbols of comparisons
abbrev pub is_comparison : Said → Bool
is_comparison = telling comparison_of

-- the symbols between two unions
abbrev pub is_set_sign : Said → Bool
is_set_sign = telling set_sign_of

-- a comparison
abbrev pub comparison : List Lexeme → Read Comparison
comparison ts = single (plainly comparison_of) NoName ts

-- `=i` or `<=i`
abbrev pub set_sign : List Lexeme → Read Bool
set_sign ts = single (plainly set_sign_of) NoName ts

-- what is behind a literal's first term
abbrev pub Related : Type 0
Related = (Comparison × IntTree) ⊎ (Unit {0} × SetTree)

-- a term and its relation
abbrev pub IntLit : Type 0
IntLit = IntTree × Related

-- two unions and their relation
abbrev pub SetLit : Type 0
SetLit = SetTree × (Bool × SetTree)

-- the two beginnings of a literal without `not`
abbrev pub Base : Type 0
Base = IntLit ⊎ SetLit

-- what may stand behind the first term
abbrev pub is_relation : Said → Bool
is_relation = one_of is_comparison (is_word In)

-- a comparison and a term, or `in` and a union
abbrev pub related : List Lexeme → Read Related
related ts = first_tells NoName is_comparison (is_word In) (both comparison int_at) (both (word_token In) set_at) ts

-- a literal that begins with a term
abbrev pub int_lit : List Lexeme → Read IntLit
int_lit ts = both int_at related ts

-- a literal that begins with a union
abbrev pub set_lit : List Lexeme → Read SetLit
set_lit ts = both set_at (both set_sign set_at) ts

-- the lexemes that begin a literal without `not`
abbrev pub begins_base : Said → Bool
begins_base = one_of begins_int begins_set

-- behind a name: it was a union's
abbrev pub is_set_tail : Said → Bool
is_set_tail (Symbol TwoPluses) = true
is_set_tail (Symbol Same) = true
is_set_tail (Symbol Subset) = true
is_set_tail k = false

-- a literal without `not`
abbrev pub base_at : List Lexeme → Read Base
base_at ts = second_tells AName begins_int begins_set is_set_tail int_lit set_lit ts

-- a literal without `not`, as a tree of its own
abbrev pub set_base : SetTree → Bool → SetTree → BaseTree
set_base a true b = bases.SameSets a b
set_base a false b = bases.SubSets a b

-- a term, and what it is compared with or lies in
abbrev pub related_base : IntTree → Related → BaseTree
related_base a (inl y) = bases.Comparing a y.0 y.1
related_base a (inr y) = bases.Inside a y.1

-- the tree of a literal that begins with a term
abbrev pub int_lit_base : IntLit → BaseTree
int_lit_base x = related_base x.0 x.1

-- the tree of a literal that begins with a union
abbrev pub set_lit_base : SetLit → BaseTree
set_lit_base x = set_base x.0 x.1.0 x.1.1

-- the tree of a literal without `not`
abbrev pub base_tree : Base → BaseTree
base_tree (inl x) = int_lit_base x
base_tree (inr x) = set_lit_base x

-- a literal that begins with a term
abbrev pub int_base : List Lexeme → Read BaseTree
int_base ts = mapped int_lit_base int_lit ts

-- a literal that begins with a union
abbrev pub set_base_at : List Lexeme → Read BaseTree
set_base_at ts = mapped set_lit_base set_lit ts

-- a literal without `not`
abbrev pub plain_base : List Lexeme → Read BaseTree
plain_base ts = mapped base_tree base_at ts

-- a place, and what is behind the parenthesis
abbrev pub place_rest : ℕ → Unit {0} × List Lexeme → Read ℕ
place_rest p y = Ok (p, y.1)

-- the place of a `not`, and its parenthesis
abbrev pub opening : List Lexeme → Read ℕ
opening ts = word_place Not ts >>= λ x. sign_token LeftParen x.1 >>= place_rest x.0

-- so many closing parentheses
abbrev pub closes : ℕ → List Lexeme → Read (Unit {0})
closes zero ts = Ok (tt, ts)
closes (suc n) ts = sign_token RightParen ts >>= λ x. closes n x.1

-- the lexemes that begin a literal
abbrev pub begins_lit : Said → Bool
begins_lit = one_of (is_word Not) begins_base

-- a negated literal, and what is behind its parentheses
abbrev pub negated_end : List ℕ → BaseTree → Unit {0} × List Lexeme → Read LitTree
negated_end ps b z = Ok (negated ps b, z.1)

-- what is negated, and as many parentheses as there are negations
abbrev pub negated_rest : List ℕ × List Lexeme → Read LitTree
negated_rest x = plain_base x.1 >>= λ y. closes (length x.0) y.1 >>= negated_end x.0 y.0

-- the negations, what they negate, and as many parentheses
abbrev pub lit_at : List Lexeme → Read LitTree
lit_at ts = many (is_word Not) opening ts >>= negated_rest
