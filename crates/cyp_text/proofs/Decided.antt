-- Lexemes spell at most one tree, and for each list of lexemes a tree is found or the place where no text goes on so.
use Rattle.std.proofs.Common.{Err, List, Ok, Result, [], inl, inr, refl, ◌∷◌, ◌≡◌, ◌⊎◌}
use Rattle.cyp_lex.specs.Beginnings.{Refused}
use Rattle.cyp_lex.specs.Lexemes.{Lexeme}
use Rattle.cyp_lex.specs.Readers.{Stop, whole_of}
use Rattle.cyp_lex.specs.declared.want.Want.{Want}
use Rattle.cyp_lex.specs.declared.want.Want.TheVariants.{AName, NoName}
use Rattle.cyp_lex.proofs.Stops.{IsReading, IsStop}
use Rattle.cyp_lex.proofs.Wholes.{spelled_once, whole_reads}
use Rattle.cyp_text.specs.Grammar.{text_spelling}
use Rattle.cyp_text.specs.GrammarLaws.{OneTree}
use Rattle.cyp_text.specs.TextReaders.{text_at}
use Rattle.cyp_text.specs.declared.tree.TextTree.{TextTree}
use Rattle.cyp_text.specs.GrammarFaults.{AllowsName, name_at}
use Rattle.cyp_text.proofs.NamesAllowed.{AllowsNone, IsNoMore, Parsed, Stops}
use Rattle.cyp_text.proofs.TextLaws.{text_reads}

pub reading : (ls : List Lexeme) → IsReading text_spelling ls (whole_of text_at ls)
reading ls = whole_reads text_reads ls

pub one_tree : OneTree
one_tree ls t u m n = spelled_once text_spelling ls (whole_of text_at ls) (reading ls) t u m n

no_more : (before rest : List Lexeme) → Refused text_spelling before rest → IsNoMore before rest
no_more before [] h = h
no_more before (l ∷ ls) h = h

stops_by : (ls : List Lexeme) (s : Stop) → IsStop TextTree text_spelling ls s → Stops ls
stops_by ls s h = record {
  before = h.before;
  rest = h.rest;
  parts = h.parts;
  begins = h.begins;
  no_more = no_more h.before h.rest h.refused;
  names = by s.want refl;
}
  where
    by : (w : Want) → s.want ≡ w → AllowsName h.before ⊎ AllowsNone h.before
    by AName e = inl (λ text place. h.names e (name_at text place) (text, refl))
    by NoName e = inr (λ text place. h.no_names e (name_at text place) (text, refl))

parsed_by : (ls : List Lexeme) (r : Result TextTree Stop) → IsReading text_spelling ls r → Parsed ls
parsed_by ls (Ok t) h = inl (t, h.0)
parsed_by ls (Err s) h = inr (stops_by ls s h)

pub parsed : (ls : List Lexeme) → Parsed ls
parsed ls = parsed_by ls (whole_of text_at ls) (reading ls)
