-- What the code does with all of a text's tokens, and where the reader stops.
use Rattle.std.specs.Prelude.{Bool, Err, List, Ok, Result, false, length, map, true, ℕ, ◌≡◌}
use Rattle.cyp_lex.specs.Lexemes.{Lexeme, lexeme_of}
use Rattle.cyp_lex.specs.Readers.{whole_of}
use Rattle.cyp_lex.specs.Spelling.{Match}
use Rattle.cyp_lex.specs.declared.want.Want.{Want}
use Rattle.cyp_lex.specs.declared.want.Want.TheVariants.{AName, NoName}
use Rattle.cyp_lex.specs.declared.fault.Fault.{Fault}
use Rattle.cyp_lex.specs.declared.token.Token.{Token}
use Rattle.cyp_term.specs.declared.fail.Fail.{Fail}
use Rattle.cyp_term.specs.declared.fail.Fail.TheVariants.{Named, NoMemory}
use Rattle.cyp_text.specs.Grammar.{text_spelling}
use Rattle.cyp_text.specs.GrammarFaults.{AllowsName, GrammarFault}
use Rattle.cyp_text.specs.TextReaders.{text_at}
use Rattle.cyp_text.specs.declared.whole_text.Stopped.{Stopped}
use Rattle.cyp_text.specs.declared.tree.TextTree.{TextTree}

-- the reader of all of the lexemes stops so
abbrev pub StopsSo : List Lexeme → Stopped → Type 0
StopsSo ls s = whole_of text_at ls ≡ Err (record { want = s.want; left = s.left })

-- the tree that all of the lexemes spell, or where the reader stops; nothing is said where memory ran out
abbrev pub GivesWhole : List Lexeme → Result TextTree (Fail Stopped) → Type 0
GivesWhole ls (Ok t) = whole_of text_at ls ≡ Ok t
GivesWhole ls (Err (Named s)) = StopsSo ls s
GivesWhole ls (Err NoMemory) = Unit {0}

-- it holds exactly where the answer is true
abbrev pub Tells : Bool → Type 0 → Type 0
Tells true P = P
Tells false P = P → ⊥

-- what a reader that stops behind these lexemes says of names is right
abbrev pub TellsName : Want → List Lexeme → Type 0
TellsName AName before = AllowsName before
TellsName NoName before = AllowsName before → ⊥

-- the tree that the tokens of a text spell, or their fault; nothing is said where memory ran out
abbrev pub IsParsed : List ℕ → List Token → Result TextTree (Fail Fault) → Type 0
IsParsed text ts (Ok t) = Match (text_spelling t) (map (lexeme_of text) ts)
IsParsed text ts (Err (Named f)) = GrammarFault (length text) (map (lexeme_of text) ts) f
IsParsed text ts (Err NoMemory) = Unit {0}
