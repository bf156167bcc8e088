-- The rows that uses of options leave, and what a use comes to.
use Rattle.std.proofs.Common.{◌≡◌, ◌||◌, Bool, true, false, cond, List, [], ◌∷◌, ◌++◌, map, Some, None, refl, sym, ap, ◌∙◌, bytes_eq, codes, true≢false, append-nil}
use Rattle.std.specs.List.{list_any}
use Rattle.std.proofs.lemmas.List.{map-append}
use Rattle.clap.specs.Faults.{use_fault}
use Rattle.clap.specs.Kinds.{Kinds}
use Rattle.clap.specs.Walk.{Row, at_row, has_row, more_values, reading_by, used}
use Rattle.clap.specs.declared.error.kind.ErrorKind.TheVariants as kind
use Rattle.clap.specs.declared.parser.matches.ValueSource.TheVariants.{CommandLine}
use Rattle.cyp_words.specs.Options.{Text, Written, choice_eq, choice_name, is_flag}
use Rattle.cyp_words.specs.Words.{same_option}
use Rattle.cyp_words.specs.declared.choice.Choice.{Choice}
use Rattle.cyp_words.specs.declared.choice.Choice.TheVariants.{Budget, Fuel, Stats, Unfold, Workers}
use Rattle.cyp_words.proofs.Hits.{filled_rule}

-- the values that are kept of an option
abbrev pub kept_values : Bool → Text → List Text
kept_values true text = codes "true" ∷ []
kept_values false text = text ∷ []

-- the values that it is used with
abbrev pub given_values : Bool → Text → List Text
given_values true text = []
given_values false text = text ∷ []

-- what is found for an option as it is written
abbrev pub row_for : Written → Row
row_for o = record {
  id = choice_name o.choice;
  values = kept_values (is_flag o.choice) o.text;
  count = None;
  source = Some CommandLine;
  reading = reading_by (filled_rule o.choice);
}

abbrev pub rows_for : List Written → List Row
rows_for = map row_for

pub names-eq : (a b : Choice) → bytes_eq (choice_name b) (choice_name a) ≡ choice_eq a b
names-eq Budget Budget = refl
names-eq Budget Unfold = refl
names-eq Budget Workers = refl
names-eq Budget Fuel = refl
names-eq Budget Stats = refl
names-eq Unfold Budget = refl
names-eq Unfold Unfold = refl
names-eq Unfold Workers = refl
names-eq Unfold Fuel = refl
names-eq Unfold Stats = refl
names-eq Workers Budget = refl
names-eq Workers Unfold = refl
names-eq Workers Workers = refl
names-eq Workers Fuel = refl
names-eq Workers Stats = refl
names-eq Fuel Budget = refl
names-eq Fuel Unfold = refl
names-eq Fuel Workers = refl
names-eq Fuel Fuel = refl
names-eq Fuel Stats = refl
names-eq Stats Budget = refl
names-eq Stats Unfold = refl
names-eq Stats Workers = refl
names-eq Stats Fuel = refl
names-eq Stats Stats = refl

pub has_row-written : (c : Choice) (os : List Written) → has_row (choice_name c) (rows_for os) ≡ list_any (λ o. choice_eq c o.choice) os
has_row-written c [] = refl
has_row-written c (o ∷ os) = λ i. names-eq c o.choice i || has_row-written c os i

pub at_row-absent : (id : Text) (change : Row → List Row) (missing rows : List Row) → has_row id rows ≡ false → at_row id change missing rows ≡ rows ++ missing
at_row-absent id change missing [] h = refl
at_row-absent id change missing (r ∷ rs) h = go (bytes_eq r.id id) h (at_row-absent id change missing rs)
  where
    go : (b : Bool) → (b || has_row id rs) ≡ false → (has_row id rs ≡ false → at_row id change missing rs ≡ rs ++ missing)
        → cond b (change r ++ rs) (r ∷ at_row id change missing rs) ≡ r ∷ (rs ++ missing)
    go true k next = absurd (true≢false k)
    go false k next = ap (λ xs. r ∷ xs) (next k)

-- a row that is taken away and made anew, where there is none, stands at the end
made_anew : (id : Text) (change : Row → List Row) (row : Row) (rows : List Row) → has_row id rows ≡ false
    → at_row id change (row ∷ []) (at_row id (λ _. []) [] rows) ≡ rows ++ row ∷ []
made_anew id change row rows h = ap (at_row id change (row ∷ [])) (at_row-absent id (λ _. []) [] rows h ∙ append-nil rows) ∙ at_row-absent id change (row ∷ []) rows h

used-rows : (c : Choice) (text : Text) (rows : List Row) → has_row (choice_name c) rows ≡ false
    → used (filled_rule c) (given_values (is_flag c) text) rows ≡ rows ++ row_for (record { choice = c; text = text }) ∷ []
used-rows Budget text rows h = made_anew (choice_name Budget) (more_values CommandLine (text ∷ [])) (row_for (record { choice = Budget; text = text })) rows h
used-rows Unfold text rows h = made_anew (choice_name Unfold) (more_values CommandLine (text ∷ [])) (row_for (record { choice = Unfold; text = text })) rows h
used-rows Workers text rows h = made_anew (choice_name Workers) (more_values CommandLine (text ∷ [])) (row_for (record { choice = Workers; text = text })) rows h
used-rows Fuel text rows h = made_anew (choice_name Fuel) (more_values CommandLine (text ∷ [])) (row_for (record { choice = Fuel; text = text })) rows h
used-rows Stats text rows h = made_anew (choice_name Stats) (more_values CommandLine (codes "true" ∷ [])) (row_for (record { choice = Stats; text = text })) rows h

pub used-new : (o : Written) (os : List Written) → list_any (same_option o) os ≡ false
    → used (filled_rule o.choice) (given_values (is_flag o.choice) o.text) (rows_for os) ≡ rows_for (os ++ o ∷ [])
used-new o os h = used-rows o.choice o.text (rows_for os) (has_row-written o.choice os ∙ h) ∙ sym (map-append row_for os (o ∷ []))

-- a use is refused where there is a row already
abbrev pub repeat : Bool → Kinds
repeat true = kind.ArgumentConflict ∷ []
repeat false = []

use_fault-rows : (c : Choice) (text : Text) (rows : List Row) (b : Bool) → has_row (choice_name c) rows ≡ b
    → use_fault false (filled_rule c) (given_values (is_flag c) text) rows ≡ repeat b
use_fault-rows Budget text rows true e = rw e
use_fault-rows Budget text rows false e = rw e
use_fault-rows Unfold text rows true e = rw e
use_fault-rows Unfold text rows false e = rw e
use_fault-rows Workers text rows true e = rw e
use_fault-rows Workers text rows false e = rw e
use_fault-rows Fuel text rows true e = rw e
use_fault-rows Fuel text rows false e = rw e
use_fault-rows Stats text rows true e = rw e
use_fault-rows Stats text rows false e = rw e

pub use_fault-is : (o : Written) (os : List Written)
    → use_fault false (filled_rule o.choice) (given_values (is_flag o.choice) o.text) (rows_for os) ≡ repeat (list_any (same_option o) os)
use_fault-is o os = use_fault-rows o.choice o.text (rows_for os) (list_any (same_option o) os) (has_row-written o.choice os)
