-- The fault of lexemes that spell no specification: the first lexeme that no text of the grammar allows, or the end.
use Rattle.std.specs.Prelude.{[], Bool, IsTrue, List, cond, false, true, ℕ, ◌++◌, ◌∷◌, ◌≡◌, ◌⊎◌}
use Rattle.std.specs.List.{list_any}
use Rattle.cyp_lex.specs.declared.fault.Fault.{Fault}
use Rattle.cyp_lex.specs.declared.fault.FaultKind.{FaultKind}
use Rattle.cyp_lex.specs.declared.fault.FaultKind.TheVariants.{Expected, MissingProcedure, NotDifference, ReservedName}
use Rattle.cyp_lex.specs.declared.token.Sign.TheVariants.{Minus, Plus}
use Rattle.cyp_lex.specs.declared.token.Word.TheVariants.{Void}
use Rattle.cyp_lex.specs.Beginnings.{Begins, IsRefusedAt, IsUnfinished}
use Rattle.cyp_lex.specs.Lexemes.{Lexeme, Name, Number, Reserved, Said, Symbol}
use Rattle.cyp_text.specs.Grammar.{text_spelling}

-- a name at a place
abbrev pub name_at : List ℕ → ℕ → Lexeme
name_at text place = record { said = Name text; place = place }

-- any name may stand behind these lexemes
abbrev pub AllowsName : List Lexeme → Type 0
AllowsName before = (text : List ℕ) (place : ℕ) → Begins text_spelling (before ++ name_at text place ∷ [])

-- ---- sums that are no difference

-- what the lexemes say, the last first
abbrev pub backwards : List Said → List Lexeme → List Said
backwards back [] = back
backwards back (l ∷ ls) = backwards (l.said ∷ back) ls

-- the last two are a name and `+` or `-`, so that only a number may follow
abbrev pub wants_number : List Said → Bool
wants_number (Symbol Plus ∷ Name text ∷ more) = true
wants_number (Symbol Minus ∷ Name text ∷ more) = true
wants_number _ = false

-- the last two are a number and `+`, so that only a name may follow
abbrev pub wants_name : List Said → Bool
wants_name (Symbol Plus ∷ Number n ∷ more) = true
wants_name _ = false

-- the last two end a sum, or a number behind `-`
abbrev pub ends_sum : List Said → Bool
ends_sum (Number n ∷ Symbol Plus ∷ more) = true
ends_sum (Number n ∷ Symbol Minus ∷ more) = true
ends_sum (Name text ∷ Symbol Plus ∷ more) = true
ends_sum _ = false

-- a name after a name and `+` or `-`; a number after a number and `+`; `+` or `-` after a whole sum or a number behind `-`
abbrev pub spoils : List Said → Said → Bool
spoils back (Name text) = wants_number back
spoils back (Number n) = wants_name back
spoils back (Symbol Plus) = ends_sum back
spoils back (Symbol Minus) = ends_sum back
spoils back _ = false

-- the last lexeme is a number that begins a term: a name may stand in its place
pub record EndsInFirstNumber (before : List Lexeme) : Type 0 where
  pub front : List Lexeme
  pub last : Lexeme
  pub number : ℕ
  pub parts : before ≡ front ++ last ∷ []
  pub says : last.said ≡ Number number
  pub begins_term : AllowsName front

-- the lexeme would make a sum that is no difference: it spoils one, or it is a `-` after a number that begins a term
abbrev pub SpoilsSum : List Lexeme → Said → Type 0
SpoilsSum before k = IsTrue (spoils (backwards [] before) k) ⊎ ((k ≡ Symbol Minus) × EndsInFirstNumber before)

-- ---- the one fault

-- a reserved word where any name may stand
abbrev pub TakesName : List Lexeme → Said → Type 0
TakesName before (Reserved w) = AllowsName before
TakesName before _ = ⊥

-- the kind of the fault of a refused lexeme that says this
pub data IsKind (before : List Lexeme) (k : Said) : FaultKind → Type 0 where
  spoiled : SpoilsSum before k → IsKind before k NotDifference
  reserved : TakesName before k → IsKind before k ReservedName
  other : (SpoilsSum before k → ⊥) → (TakesName before k → ⊥) → IsKind before k Expected

-- the fault is at the first lexeme that no text of the grammar allows behind those before it
pub record RefusesLexeme (ls : List Lexeme) (f : Fault) : Type 0 where
  pub before : List Lexeme
  pub lexeme : Lexeme
  pub after : List Lexeme
  pub parts : ls ≡ before ++ lexeme ∷ after
  pub refused : IsRefusedAt text_spelling before lexeme
  pub kind : IsKind before lexeme.said f.kind
  pub place : f.place ≡ lexeme.place

-- the reserved word `void`
abbrev pub is_void : Said → Bool
is_void (Reserved Void) = true
is_void _ = false

-- the procedure has begun
abbrev pub has_void : List Lexeme → Bool
has_void ls = list_any (λ (l : Lexeme). is_void l.said) ls

-- the kind of the fault of a text that ends too early
abbrev pub end_kind : List Lexeme → FaultKind
end_kind ls = cond (has_void ls) Expected MissingProcedure

-- the text of so many bytes ends too early, and the fault is at its end
pub record RefusesEnd (size : ℕ) (ls : List Lexeme) (f : Fault) : Type 0 where
  pub unfinished : IsUnfinished text_spelling ls
  pub kind : f.kind ≡ end_kind ls
  pub place : f.place ≡ size

-- the fault of the lexemes of a text of so many bytes
abbrev pub GrammarFault : ℕ → List Lexeme → Fault → Type 0
GrammarFault size ls f = RefusesLexeme ls f ⊎ RefusesEnd size ls f
