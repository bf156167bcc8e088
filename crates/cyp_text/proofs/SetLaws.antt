-- Unions are read as they are spelled.
use Rattle.std.proofs.Common.{◌≡◌, ℕ, Bool, true, false, List, [], ◌∷◌, ◌⊎◌, inl, inr, refl}
use Rattle.cyp_lex.specs.declared.token.Sign.TheVariants.{Comma, LeftBrace, Minus, Plus, RightBrace, TwoPluses}
use Rattle.cyp_lex.specs.Lexemes.{Lexeme, Name, Said, Symbol}
use Rattle.cyp_lex.specs.Spelling.{At, Mark, ident}
use Rattle.cyp_lex.specs.declared.ident.Ident.{Ident}
use Rattle.cyp_lex.specs.Readers.{Read, both, is_name, is_sign, one_of, sign_token}
use Rattle.cyp_lex.proofs.Readings.{Apart, Reads, Within, apart_none, none, nowhere, within_self}
use Rattle.cyp_lex.proofs.Singles.{one}
use Rattle.cyp_lex.proofs.Sequences.{both_reads, spell_both}
use Rattle.cyp_lex.proofs.Mapped.{mapped_reads}
use Rattle.cyp_lex.proofs.Choices.{spell_either}
use Rattle.cyp_lex.proofs.Lists.{listed_spelling}
use Rattle.cyp_lex.proofs.Tellers.{ident_reads, sign_listing_reads, sign_mark, sign_place_reads, sign_reads}
use Rattle.cyp_lex.proofs.Firsts.{NameBegins, first_reads, name_both, name_ident, name_listed, name_mapped, name_right}
use Rattle.cyp_text.specs.declared.tree.IntTree.{IntTree}
use Rattle.cyp_text.specs.declared.tree.PartTree.{PartTree}
use Rattle.cyp_text.specs.declared.tree.PartTree.TheVariants.{Braces, PartName}
use Rattle.cyp_text.specs.declared.tree.SetTree.{SetTree}
use Rattle.cyp_text.specs.Grammar.{int_spelling, part_spelling, set_spelling}
use Rattle.cyp_text.specs.TermReaders.{Inner, begins_int, begins_set, braces_at, inner, part_at, part_tree, parts_at, set_at, set_tree, terms}
use Rattle.cyp_text.proofs.IntLaws.{int_ends, int_reads, name_int}

-- what would make a list of terms longer
abbrev pub terms_ends : Said → Bool
terms_ends (Symbol Comma) = true
terms_ends (Symbol Plus) = true
terms_ends (Symbol Minus) = true
terms_ends (Name x) = true
terms_ends k = false

comma_int : Apart (is_sign Comma) int_ends
comma_int (Symbol Comma) e = refl
comma_int k e = absurd cc

int_in : Within int_ends terms_ends
int_in (Symbol Plus) e = refl
int_in (Symbol Minus) e = refl
int_in (Name x) e = refl
int_in k e = absurd cc

comma_in : Within (is_sign Comma) terms_ends
comma_in (Symbol Comma) e = refl
comma_in k e = absurd cc

int_comma : Apart begins_int (is_sign Comma)
int_comma (Symbol Comma) e = absurd cc
int_comma k e = refl

close_ends : Apart (is_sign RightBrace) terms_ends
close_ends (Symbol RightBrace) e = refl
close_ends k e = absurd cc

abbrev pub terms_spelling : IntTree × List IntTree → List Mark
terms_spelling = listed_spelling (Symbol Comma) int_spelling

pub terms_reads : (n : ℕ) → Reads n (IntTree × List IntTree) terms_spelling begins_int terms_ends terms
terms_reads n = sign_listing_reads Comma comma_int int_in comma_in int_comma int_reads n

abbrev filled_spelling : (IntTree × List IntTree) × Unit {0} → List Mark
filled_spelling = spell_both terms_spelling (one (sign_mark RightBrace))

abbrev inner_spelling : Inner → List Mark
inner_spelling = spell_either (one (sign_mark RightBrace)) filled_spelling

abbrev filled : List Lexeme → Read ((IntTree × List IntTree) × Unit {0})
filled = both terms (sign_token RightBrace)

filled_reads : (n : ℕ) → Reads n ((IntTree × List IntTree) × Unit {0}) filled_spelling begins_int none filled
filled_reads n = both_reads (terms_reads n) (sign_reads RightBrace) close_ends

close_int : Apart (is_sign RightBrace) begins_int
close_int (Symbol RightBrace) e = refl
close_int k e = absurd cc

name_inner : NameBegins Inner inner_spelling
name_inner = name_right (name_both (name_listed (Symbol Comma) name_int) (sign_reads {ends = none} {n = 0} RightBrace))

inner_reads : (n : ℕ) → Reads n Inner inner_spelling (one_of (is_sign RightBrace) begins_int) none inner
inner_reads n = first_reads {fA = none} (sign_reads RightBrace) (filled_reads n) close_int name_inner.shows (within_self _) (within_self _)

abbrev pub braced_spelling : ℕ × Inner → List Mark
braced_spelling = spell_both (one (λ p. At (Symbol LeftBrace) p)) inner_spelling

pub braces_reads : (n : ℕ) → Reads n (ℕ × Inner) braced_spelling (is_sign LeftBrace) none braces_at
braces_reads n = both_reads {fA = none} (sign_place_reads LeftBrace) (inner_reads n) (apart_none _)

open_name : Apart (is_sign LeftBrace) is_name
open_name (Symbol LeftBrace) e = refl
open_name k e = absurd cc

abbrev pub inner_of : List IntTree → Inner
inner_of [] = inl tt
inner_of (t ∷ us) = inr ((t, us), tt)

abbrev part_parts : PartTree → (ℕ × Inner) ⊎ Ident
part_parts (PartName i) = inr i
part_parts (Braces p ts) = inl (p, inner_of ts)

part_there : (x : (ℕ × Inner) ⊎ Ident) → part_parts (part_tree x) ≡ x
part_there (inl x) = of x.0 x.1
  where
    of : (p : ℕ) (y : Inner) → part_parts (part_tree (inl (p, y))) ≡ inl (p, y)
    of p (inl u) = refl
    of p (inr y) = refl
part_there (inr i) = refl

part_again : (y : PartTree) → part_tree (part_parts y) ≡ y
part_again (PartName i) = refl
part_again (Braces p []) = refl
part_again (Braces p (t ∷ ts)) = refl

part_same : (y : PartTree) → part_spelling y ≡ spell_either braced_spelling (one ident) (part_parts y)
part_same (PartName i) = refl
part_same (Braces p []) = refl
part_same (Braces p (t ∷ ts)) = refl

name_choice : NameBegins ((ℕ × Inner) ⊎ Ident) (spell_either braced_spelling (one ident))
name_choice = name_right name_ident

pub part_reads : (n : ℕ) → Reads n PartTree part_spelling begins_set none part_at
part_reads n = mapped_reads part_tree part_parts part_there part_again part_same (first_reads {fB = none} (braces_reads n) ident_reads open_name name_choice.shows (within_self _) (within_self _))

pub name_part : NameBegins PartTree part_spelling
name_part = name_mapped part_tree part_parts part_there part_same name_choice

set_pluses : Apart begins_set (is_sign TwoPluses)
set_pluses (Symbol TwoPluses) e = absurd cc
set_pluses k e = refl

abbrev pub parts_listed : PartTree × List PartTree → List Mark
parts_listed = listed_spelling (Symbol TwoPluses) part_spelling

pub parts_reads : (n : ℕ) → Reads n (PartTree × List PartTree) parts_listed begins_set (is_sign TwoPluses) parts_at
parts_reads n = sign_listing_reads TwoPluses (apart_none _) (nowhere _) (within_self _) set_pluses part_reads n

abbrev set_parts : SetTree → PartTree × List PartTree
set_parts u = (u.first, u.others)

pub set_reads : (n : ℕ) → Reads n SetTree set_spelling begins_set (is_sign TwoPluses) set_at
set_reads n = mapped_reads set_tree set_parts (λ x. refl) (λ u. refl) (λ u. refl) (parts_reads n)

pub name_set : NameBegins SetTree set_spelling
name_set = name_mapped set_tree set_parts (λ x. refl) (λ u. refl) (name_listed (Symbol TwoPluses) name_part)
