-- The reading of a text: its specification or its one fault.
use Rattle.std.specs.Prelude.{Bool, Err, List, None, Ok, Option, Result, Some, false, length, map, nat_le, true, ℕ, ◌≡◌, ◌⊎◌}
use Rattle.cyp_lex.specs.Lexemes.{Lexeme, lexeme_of}
use Rattle.cyp_lex.specs.Spelling.{Match}
use Rattle.cyp_lex.specs.Lexing.{tokens_of}
use Rattle.cyp_lex.specs.declared.fault.Fault.{Fault}
use Rattle.cyp_lex.specs.declared.fault.FaultKind.TheVariants.{TooLong}
use Rattle.cyp_lex.specs.declared.token.Token.{Token}
use Rattle.cyp_text.specs.Grammar.{text_spelling}
use Rattle.cyp_text.specs.GrammarFaults.{GrammarFault}
use Rattle.cyp_formed.specs.LimitFaults.{limit_faults}
use Rattle.cyp_names.specs.NameFaults.{name_faults}
use Rattle.cyp_names.specs.Specifications.{Specification, read_tree}
use Rattle.cyp_text.specs.declared.tree.TextTree.{TextTree}
use Rattle.cyp_names.specs.FaultOrder.{least_fault}

-- the fault, or else what was said
abbrev pub unless_fault : {A : Type 0} → Option Fault → Result A Fault → Result A Fault
unless_fault None r = r
unless_fault (Some f) r = Err f

-- what a tree says, or its fault: that of names and sorts before that of predicates and limits
abbrev pub judge : TextTree → Result Specification Fault
judge t = unless_fault (least_fault (name_faults t)) (unless_fault (least_fault (limit_faults t)) (Ok (read_tree t)))

-- the lexemes of a text of so many bytes spell a tree, or they have a fault of the grammar
abbrev pub IsReadFrom : ℕ → List Lexeme → Result Specification Fault → Type 0
IsReadFrom size ls r =
    ((t : TextTree) × Match (text_spelling t) ls × (r ≡ judge t)) ⊎ ((f : Fault) × GrammarFault size ls f × (r ≡ Err f))

-- a fault of a token decides
abbrev pub IsReadBy : List ℕ → Result (List Token) Fault → Result Specification Fault → Type 0
IsReadBy bytes (Ok ts) r = IsReadFrom (length bytes) (map (lexeme_of bytes) ts) r
IsReadBy bytes (Err f) r = r ≡ Err f

-- no more than 65,536 bytes are read
abbrev pub IsReadingOf : Bool → List ℕ → Result Specification Fault → Type 0
IsReadingOf false bytes r = r ≡ Err (record { kind = TooLong; place = 65536 })
IsReadingOf true bytes r = IsReadBy bytes (tokens_of bytes) r

-- the specification or the one fault of a text
abbrev pub IsReading : List ℕ → Result Specification Fault → Type 0
IsReading bytes r = IsReadingOf (nat_le (length bytes) 65536) bytes r
