-- A text has a reading, where the grammar is decided for each list of lexemes.
use Rattle.std.proofs.Common.{Err, List, Ok, Result, [], false, inl, inr, length, map, refl, subst, sym, true, ℕ, ◌++◌, ◌∙◌, ◌∷◌, ◌≡◌, ◌⊎◌}
use Rattle.std.specs.Prelude.{Bool, nat_le}
use Rattle.std.proofs.lemmas.List.{append-nil}
use Rattle.cyp_lex.specs.Beginnings.{Begins}
use Rattle.cyp_lex.specs.Lexemes.{Lexeme, Reserved, Said, lexeme_of}
use Rattle.cyp_lex.specs.Lexing.{tokens_of}
use Rattle.cyp_lex.specs.declared.fault.Fault.{Fault}
use Rattle.cyp_lex.specs.declared.fault.FaultKind.{FaultKind}
use Rattle.cyp_lex.specs.declared.fault.FaultKind.TheVariants.{Expected, NotDifference, ReservedName, TooLong}
use Rattle.cyp_lex.specs.declared.token.Token.{Token}
use Rattle.cyp_text.specs.Grammar.{text_spelling}
use Rattle.cyp_text.specs.GrammarFaults.{AllowsName, GrammarFault, IsKind, SpoilsSum, TakesName, end_kind, other, reserved, spoiled}
use Rattle.cyp_formed.specs.Reading.{IsReadBy, IsReadFrom, IsReadingOf, judge}
use Rattle.cyp_spec.specs.ReadingLaws.{SomeReading}
use Rattle.cyp_names.specs.Specifications.{Specification}
use Rattle.cyp_text.proofs.NamesAllowed.{AllowsNone, IsNoMore, Parsed, Stops, not_any}
use Rattle.cyp_spec.proofs.Spoils.{Decided, decide_spoils}

decide_takes : (before : List Lexeme) → AllowsName before ⊎ AllowsNone before → (k : Said) → Decided (TakesName before k)
decide_takes before (inl all) (Reserved w) = inl all
decide_takes before (inr none) (Reserved w) = inr (not_any before none)
decide_takes before names _ = inr (λ (x : ⊥). x)

-- the kind of the fault of a refused lexeme
abbrev SomeKind : List Lexeme → Said → Type 0
SomeKind before k = (f : FaultKind) × IsKind before k f

kind_by : (before : List Lexeme) (k : Said) → Decided (SpoilsSum before k) → Decided (TakesName before k) → SomeKind before k
kind_by before k (inl s) t = (NotDifference, spoiled s)
kind_by before k (inr ns) (inl t) = (ReservedName, reserved t)
kind_by before k (inr ns) (inr nt) = (Expected, other ns nt)

fault_by : ((ls : List Lexeme) → Parsed ls) → (size : ℕ) (ls : List Lexeme) (s : Stops ls) (rest : List Lexeme) → ls ≡ s.before ++ rest → IsNoMore s.before rest → (f : Fault) × GrammarFault size ls f
fault_by parse size ls s [] p end =
    let all : s.before ≡ ls = sym (p ∙ append-nil s.before) in (
      record { kind = end_kind ls; place = size },
      inr (record {
        unfinished = (subst (λ (bs : List Lexeme). Begins text_spelling bs) all s.begins, subst (λ (bs : List Lexeme). IsNoMore bs []) all end);
        kind = refl;
        place = refl;
      }),
    )
fault_by parse size ls s (l ∷ more) p refused =
    let kind : SomeKind s.before l.said = kind_by s.before l.said (decide_spoils parse s.before s.begins l.said) (decide_takes s.before s.names l.said) in (
      record { kind = kind.0; place = l.place },
      inl (record {
        before = s.before;
        lexeme = l;
        after = more;
        parts = p;
        refused = (s.begins, refused);
        kind = kind.1;
        place = refl;
      }),
    )

-- lexemes that stop have a fault of the grammar
pub some_fault : ((ls : List Lexeme) → Parsed ls) → (size : ℕ) (ls : List Lexeme) → Stops ls → (f : Fault) × GrammarFault size ls f
some_fault parse size ls s = fault_by parse size ls s s.rest s.parts s.no_more

-- ---- a reading

abbrev Answer : Type 0
Answer = Result Specification Fault

read_from : ((ls : List Lexeme) → Parsed ls) → (size : ℕ) (ls : List Lexeme) → Parsed ls → (r : Answer) × IsReadFrom size ls r
read_from parse size ls (inl t) = (judge t.0, inl (t.0, t.1, refl))
read_from parse size ls (inr s) = let f = some_fault parse size ls s in (Err f.0, inr (f.0, f.1, refl))

read_by : ((ls : List Lexeme) → Parsed ls) → (bytes : List ℕ) (ts : Result (List Token) Fault) → (r : Answer) × IsReadBy bytes ts r
read_by parse bytes (Ok ts) = read_from parse (length bytes) (map (lexeme_of bytes) ts) (parse (map (lexeme_of bytes) ts))
read_by parse bytes (Err f) = (Err f, refl)

reading_of : ((ls : List Lexeme) → Parsed ls) → (short : Bool) (bytes : List ℕ) → (r : Answer) × IsReadingOf short bytes r
reading_of parse true bytes = read_by parse bytes (tokens_of bytes)
reading_of parse false bytes = (Err (record { kind = TooLong; place = 65536 }), refl)

pub some_reading : ((ls : List Lexeme) → Parsed ls) → SomeReading
some_reading parse bytes = reading_of parse (nat_le (length bytes) 65536) bytes
