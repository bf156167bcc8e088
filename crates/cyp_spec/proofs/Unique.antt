-- A text has at most one reading, where its lexemes spell at most one tree.
use Rattle.std.proofs.Common.{Err, List, Ok, Result, ap, false, inl, inr, length, map, sym, true, ℕ, ◌∙◌, ◌≡◌}
use Rattle.std.specs.Prelude.{Bool, nat_le}
use Rattle.cyp_lex.specs.Lexemes.{Lexeme, lexeme_of}
use Rattle.cyp_lex.specs.Lexing.{tokens_of}
use Rattle.cyp_lex.specs.declared.fault.Fault.{Fault}
use Rattle.cyp_lex.specs.declared.token.Token.{Token}
use Rattle.cyp_formed.specs.Reading.{IsReadBy, IsReadFrom, IsReadingOf, judge}
use Rattle.cyp_spec.specs.ReadingLaws.{OneReading, ReadNotRefused}
use Rattle.cyp_text.specs.GrammarLaws.{OneTree}
use Rattle.cyp_names.specs.Specifications.{Specification}
use Rattle.cyp_text.specs.declared.tree.TextTree.{TextTree}
use Rattle.cyp_spec.proofs.OneFault.{one_fault, spelled_has_none}

abbrev Answer : Type 0
Answer = Result Specification Fault

one_read_from : OneTree → (size : ℕ) (ls : List Lexeme) (r s : Answer) → IsReadFrom size ls r → IsReadFrom size ls s → r ≡ s
one_read_from one size ls r s (inl a) (inl b) = a.2 ∙ ap (λ (t : TextTree). judge t) (one ls a.0 b.0 a.1 b.1) ∙ sym b.2
one_read_from one size ls r s (inl a) (inr b) = absurd (spelled_has_none size ls a.0 b.0 a.1 b.1)
one_read_from one size ls r s (inr a) (inl b) = absurd (spelled_has_none size ls b.0 a.0 b.1 a.1)
one_read_from one size ls r s (inr a) (inr b) = a.2 ∙ ap (λ (f : Fault). Err f) (one_fault size ls a.0 b.0 a.1 b.1) ∙ sym b.2

one_read_by : OneTree → (bytes : List ℕ) (ts : Result (List Token) Fault) (r s : Answer) → IsReadBy bytes ts r → IsReadBy bytes ts s → r ≡ s
one_read_by one bytes (Ok ts) r s a b = one_read_from one (length bytes) (map (lexeme_of bytes) ts) r s a b
one_read_by one bytes (Err f) r s a b = a ∙ sym b

one_reading_of : OneTree → (short : Bool) (bytes : List ℕ) (r s : Answer) → IsReadingOf short bytes r → IsReadingOf short bytes s → r ≡ s
one_reading_of one true bytes r s a b = one_read_by one bytes (tokens_of bytes) r s a b
one_reading_of one false bytes r s a b = a ∙ sym b

pub one_reading : OneTree → OneReading
one_reading one bytes r s a b = one_reading_of one (nat_le (length bytes) 65536) bytes r s a b

pub read_not_refused : OneTree → ReadNotRefused
read_not_refused one bytes s f a b = absurd (differ (one_reading one bytes (Ok s) (Err f) a b))
  where
    differ : {x : Specification} {e : Fault} → Ok x ≡ Err e → ⊥
    differ p = cc
