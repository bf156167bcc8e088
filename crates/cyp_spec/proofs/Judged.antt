-- From the passes to the reading.
use Rattle.std.proofs.Common.{Err, List, None, Ok, Option, Result, Some, [], inl, length, map, refl, subst, sym, ◌≡◌, ◌≤◌, ℕ}
use Rattle.std.specs.Prelude.{Bool}
use Rattle.std.proofs.lemmas.Bool.{le-leb}
use Rattle.cyp_lex.specs.Lexemes.{Lexeme, lexeme_of}
use Rattle.cyp_lex.specs.Spelling.{Match}
use Rattle.cyp_lex.specs.Lexing.{Gives, tokens_of}
use Rattle.cyp_lex.specs.declared.fault.Fault.{Fault}
use Rattle.cyp_lex.specs.declared.token.Token.{Token}
use Rattle.cyp_spec.proofs.LeastFaults.{none_least}
use Rattle.cyp_term.specs.declared.fail.Fail.{Fail}
use Rattle.cyp_term.specs.declared.fail.Fail.TheVariants.{Named, NoMemory}
use Rattle.cyp_spec.specs.ReadSpecs.{IsReadSpec, IsSaid}
use Rattle.cyp_text.specs.Grammar.{text_spelling}
use Rattle.cyp_formed.specs.Reading.{IsReadBy, IsReading, IsReadingOf, judge}
use Rattle.cyp_names.specs.FaultOrder.{least_fault}
use Rattle.cyp_names.specs.Specifications.{Specification}
use Rattle.cyp_text.specs.declared.tree.TextTree.{TextTree}

-- where there is no least fault there is none
pub no_fault : (fs : List Fault) (o : Option Fault) → ((f : Fault) → o ≡ Some f → ⊥) → o ≡ least_fault fs → fs ≡ []
no_fault fs None n e = none_least fs (sym e)
no_fault fs (Some f) n e = absurd (n f refl)

-- what a tree that the lexemes spell says is what they say
pub tree_said : (size : ℕ) (ls : List Lexeme) (t : TextTree) (r : Result Specification (Fail Fault)) → Match (text_spelling t) ls → Gives r (judge t) → IsSaid size ls r
tree_said size ls t (Ok s) m e = inl (t, m, sym e)
tree_said size ls t (Err (Named f)) m e = inl (t, m, sym e)
tree_said size ls t (Err NoMemory) m e = tt

-- what the tokens of a text say is its reading
pub tokens_said : (bytes : List ℕ) (ts : List Token) (r : Result Specification (Fail Fault)) → length bytes ≤ 65536 → tokens_of bytes ≡ Ok ts → IsSaid (length bytes) (map (lexeme_of bytes) ts) r
    → IsReadSpec bytes r
tokens_said bytes ts r l e said = by_answer r said
  where
    whole : (a : Result Specification Fault) → IsReadBy bytes (Ok ts) a → IsReading bytes a
    whole a h =
        subst (λ (b : Bool). IsReadingOf b bytes a) (sym (le-leb (length bytes) 65536 l))
        (subst (λ (o : Result (List Token) Fault). IsReadBy bytes o a) (sym e) h)

    by_answer : (q : Result Specification (Fail Fault)) → IsSaid (length bytes) (map (lexeme_of bytes) ts) q → IsReadSpec bytes q
    by_answer (Ok s) h = whole (Ok s) h
    by_answer (Err (Named f)) h = whole (Err f) h
    by_answer (Err NoMemory) h = tt
