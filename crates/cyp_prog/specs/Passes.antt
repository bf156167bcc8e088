-- The three passes over a text: its bytes, its grammar, and the rest. The first pass with a fault decides.
use Rattle.std.specs.Prelude.{[], ◌++◌, ◌≡◌, ◌⊎◌, Err, List, None, Ok, Result, Some, length, ◌∷◌, ℕ}
use Rattle.cyp_lex.specs.Beginnings.{Begins}
use Rattle.cyp_lex.specs.Lexemes.{Lexeme}
use Rattle.cyp_lex.specs.Spelling.{Mark, Match}
use Rattle.cyp_lex.specs.Lexing.{program_tokens_of}
use Rattle.cyp_lex.specs.declared.fault.Fault.{Fault}
use Rattle.cyp_lex.specs.declared.fault.FaultKind.{FaultKind}
use Rattle.cyp_lex.specs.declared.fault.FaultKind.TheVariants as lexing
use Rattle.cyp_lex.specs.declared.token.Token.{Token}
use Rattle.cyp_prog.specs.Faults.{BadByte, Expected, NumberRange, ProgFault, ProgKind, TooLarge, least_fault}
use Rattle.cyp_prog.specs.Lexemes.{program_lexemes}
use Rattle.cyp_prog.specs.Nesting.{IsShallow, IsTooDeep}

-- how a tree is spelled, its faults, and what it says
pub record Syntax (A R : Type 0) : Type 0 where
  pub spelling : A → List Mark
  pub faults : A → List ProgFault
  pub said : A → R

-- ---- texts without fault

-- the first pass finds no fault, and these are the lexemes
pub record Says (bytes : List ℕ) (lexemes : List Lexeme) : Type 0 where
  pub tokens : List Token
  pub lexed : program_tokens_of bytes ≡ Ok tokens
  pub said : program_lexemes bytes tokens ≡ lexemes

-- nor does the second: the lexemes spell the tree, and no conditional is nested too deep
pub record HasTree (A R : Type 0) (syntax : Syntax A R) (bytes : List ℕ) (tree : A) : Type 0 where
  pub lexemes : List Lexeme
  pub says : Says bytes lexemes
  pub spelled : Match (syntax.spelling tree) lexemes
  pub shallow : IsShallow lexemes

-- nor does the third, and this is what the tree says
pub record IsText (A R : Type 0) (syntax : Syntax A R) (bytes : List ℕ) (result : R) : Type 0 where
  pub tree : A
  pub parsed : HasTree A R syntax bytes tree
  pub faultless : least_fault (syntax.faults tree) ≡ None
  pub said : syntax.said tree ≡ result

-- ---- the fault of a text

-- the kind of a fault of the first pass
abbrev pub token_kind : FaultKind → ProgKind
token_kind lexing.BadByte = BadByte
token_kind k = NumberRange

-- the fault is the first pass's
pub record IsTokenFault (bytes : List ℕ) (f : ProgFault) : Type 0 where
  pub fault : Fault
  pub lexed : program_tokens_of bytes ≡ Err fault
  pub kind : f.kind ≡ token_kind fault.kind
  pub place : f.place ≡ fault.place

-- behind this beginning the next lexeme is allowed by no text of the grammar, or it is an `if` that is nested too deep; where nothing is left, no text ends there
abbrev pub IsRefused : {A : Type 0} → (A → List Mark) → List Lexeme → List Lexeme → ProgKind → Type 0
IsRefused spell before (l ∷ after) Expected = Begins spell (before ++ l ∷ []) → ⊥
IsRefused spell before (l ∷ after) TooLarge = Begins spell (before ++ l ∷ []) × IsTooDeep before l
IsRefused {A} spell before [] Expected = (tree : A) → Match (spell tree) before → ⊥
IsRefused spell before rest k = ⊥

-- where the first lexeme stands, or where the text of this length ends
abbrev pub place_of_next : ℕ → List Lexeme → ℕ
place_of_next size [] = size
place_of_next size (l ∷ ls) = l.place

-- the fault is the second pass's: where the lexemes are refused first
pub record IsGrammarFault (A R : Type 0) (syntax : Syntax A R) (bytes : List ℕ) (f : ProgFault) : Type 0 where
  pub before : List Lexeme
  pub rest : List Lexeme
  pub says : Says bytes (before ++ rest)
  pub begun : Begins syntax.spelling before
  pub shallow : IsShallow before
  pub refused : IsRefused syntax.spelling before rest f.kind
  pub place : f.place ≡ place_of_next (length bytes) rest

-- the fault is the third pass's: the first of those of the tree
pub record IsTreeFault (A R : Type 0) (syntax : Syntax A R) (bytes : List ℕ) (f : ProgFault) : Type 0 where
  pub tree : A
  pub parsed : HasTree A R syntax bytes tree
  pub least : least_fault (syntax.faults tree) ≡ Some f

-- ---- readings

-- what the text says, or its fault
abbrev pub IsReading : {A R : Type 0} → Syntax A R → List ℕ → Result R ProgFault → Type 0
IsReading {A} {R} syntax bytes (Ok result) = IsText A R syntax bytes result
IsReading {A} {R} syntax bytes (Err f) = IsTokenFault bytes f ⊎ (IsGrammarFault A R syntax bytes f ⊎ IsTreeFault A R syntax bytes f)
