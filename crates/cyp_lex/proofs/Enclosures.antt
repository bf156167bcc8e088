-- Readers of lists that may be empty, up to the symbol that closes them.
use Rattle.std.proofs.Common.{◌≡◌, ℕ, Bool, List, [], ◌∷◌, ◌++◌, inl, inr, refl}
use Rattle.cyp_lex.specs.declared.token.Sign.{Sign}
use Rattle.cyp_lex.specs.declared.token.Sign.TheVariants.{Comma}
use Rattle.cyp_lex.specs.Lexemes.{Lexeme, Said, Symbol}
use Rattle.cyp_lex.specs.Spelling.{Mark, separated, sign}
use Rattle.cyp_lex.specs.Readers.{Enclosed, Read, enclosed, enclosed_list, is_sign, one_of}
use Rattle.cyp_lex.specs.declared.want.Want.{Want}
use Rattle.cyp_lex.proofs.Readings.{Apart, Reads, Within, none, within_self}
use Rattle.cyp_lex.proofs.Singles.{one}
use Rattle.cyp_lex.proofs.Sequences.{both_reads, spell_both}
use Rattle.cyp_lex.proofs.Mapped.{mapped_reads}
use Rattle.cyp_lex.proofs.Choices.{SaysStart, spell_either}
use Rattle.cyp_lex.proofs.Lists.{listed_spelling}
use Rattle.cyp_lex.proofs.Tellers.{sign_listing_reads, sign_mark, sign_reads}
use Rattle.cyp_lex.proofs.Firsts.{NameBegins, first_reads, name_both, name_listed, name_right}

abbrev pub enclosed_spelling : {A : Type 0} → Sign → (A → List Mark) → List A → List Mark
enclosed_spelling close sp xs = separated (Symbol Comma) sp xs ++ sign close ∷ []

abbrev pub enclosed_parts_spelling : {A : Type 0} → Sign → (A → List Mark) → Enclosed A → List Mark
enclosed_parts_spelling close sp = spell_either (one (sign_mark close)) (spell_both (listed_spelling (Symbol Comma) sp) (one (sign_mark close)))

abbrev enclosed_of : {A : Type 0} → List A → Enclosed A
enclosed_of [] = inl tt
enclosed_of (x ∷ xs) = inr ((x, xs), tt)

-- where the things may begin with any name
pub name_enclosed : {A : Type 0} {sp : A → List Mark} (close : Sign) → NameBegins A sp → NameBegins (Enclosed A) (enclosed_parts_spelling close sp)
name_enclosed close N = name_right (name_both (name_listed (Symbol Comma) N) (sign_reads {ends = none} {n = 0} close))

pub enclosed_reads : {A : Type 0} {sp : A → List Mark} {sA fA : Said → Bool} {p : List Lexeme → Read A} (f : Said → Bool) (want : Want) (close : Sign)
    → Apart (is_sign Comma) fA → Within fA f → Within (is_sign Comma) f → Apart sA (is_sign Comma) → Apart (is_sign close) f → Apart (is_sign close) sA
    → SaysStart (enclosed_parts_spelling close sp) (one_of (is_sign close) sA) want → ((m : ℕ) → Reads m A sp sA fA p) → (n : ℕ)
    → Reads n (List A) (enclosed_spelling close sp) (one_of (is_sign close) sA) none (enclosed want close sA p)
enclosed_reads {A} {sp} {sA} {fA} {p} f want close sep inA inS apart closes begins says P n = mapped_reads enclosed_list enclosed_of there again same
    (first_reads {fA = none} (sign_reads close) (both_reads {fB = none} (sign_listing_reads {f = f} Comma sep inA inS apart P n) (sign_reads close) closes) begins says (within_self _) (within_self _))
  where
    there : (x : Enclosed A) → enclosed_of (enclosed_list x) ≡ x
    there (inl u) = refl
    there (inr y) = refl

    again : (xs : List A) → enclosed_list (enclosed_of xs) ≡ xs
    again [] = refl
    again (x ∷ xs) = refl

    same : (xs : List A) → enclosed_spelling close sp xs ≡ enclosed_parts_spelling close sp (enclosed_of xs)
    same [] = refl
    same (x ∷ xs) = refl
