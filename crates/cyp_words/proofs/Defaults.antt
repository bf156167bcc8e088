-- What is found of an option once the defaults are in.
use Rattle.std.proofs.Common.{◌≡◌, ◌⊎◌, inl, inr, ◌||◌, Bool, true, false, cond, List, [], ◌∷◌, ◌++◌, codes, fold, Option, Some, None, is_some, option_map, option_and_then, refl, sym, ap, ◌∙◌, subst, true≢false, bytes_eq, find, slice_get}
use Rattle.clap.specs.Walk.{Row, first_of, has_row, more_values, one_of, reading_by, row_text, with_default}
use Rattle.clap.specs.declared.parser.matches.ValueSource.TheVariants.{DefaultValue}
use Rattle.cyp_words.specs.Matches.{ReadsFlag}
use Rattle.cyp_words.specs.Options.{Text, Written, choice_eq, choice_name, is_flag}
use Rattle.cyp_words.specs.Words.{written_as}
use Rattle.cyp_words.specs.declared.choice.Choice.{Choice}
use Rattle.cyp_words.specs.declared.choice.Choice.TheVariants.{Budget, Fuel, Stats, Unfold, Workers}
use Rattle.cyp_words.proofs.Hits.{filled_rule}
use Rattle.cyp_words.proofs.Uses.{at_row-absent, kept_values, names-eq, row_for, rows_for}
use Rattle.cyp_words.proofs.Walks.{rules_for}

-- the row of an option
abbrev pub row_named : Text → List Row → Option Row
row_named id rows = find (λ r. bytes_eq r.id id) rows

default_row : Row
default_row = record { id = choice_name Stats; values = codes "false" ∷ []; count = None; source = Some DefaultValue; reading = reading_by (filled_rule Stats) }

same_rows : (b : Bool) (rows : List Row) → cond b rows rows ≡ rows
same_rows true rows = refl
same_rows false rows = refl

-- an option with a number has no default
no_default_row : (d : Choice) (rows : List Row) → is_flag d ≡ false → with_default rows (filled_rule d) ≡ rows
no_default_row Budget rows f = same_rows (has_row (choice_name Budget) rows) rows
no_default_row Unfold rows f = same_rows (has_row (choice_name Unfold) rows) rows
no_default_row Workers rows f = same_rows (has_row (choice_name Workers) rows) rows
no_default_row Fuel rows f = same_rows (has_row (choice_name Fuel) rows) rows
no_default_row Stats rows f = absurd (true≢false f)

flag_given : (rows : List Row) → has_row (choice_name Stats) rows ≡ true → with_default rows (filled_rule Stats) ≡ rows
flag_given rows h = rw h

flag_added : (rows : List Row) → has_row (choice_name Stats) rows ≡ false → with_default rows (filled_rule Stats) ≡ rows ++ default_row ∷ []
unfolding default_row
flag_added rows h = rw h (at_row-absent (choice_name Stats) (more_values DefaultValue (codes "false" ∷ [])) (default_row ∷ []) rows h)

has_row-named : (id : Text) (rows : List Row) → has_row id rows ≡ is_some (row_named id rows)
has_row-named id [] = refl
has_row-named id (r ∷ rs) = go (bytes_eq r.id id) (has_row-named id rs)
  where
    go : (b : Bool) → has_row id rs ≡ is_some (row_named id rs) → (b || has_row id rs) ≡ is_some (cond b (Some r) (row_named id rs))
    go true e = refl
    go false e = e

-- a row at the end is found where none was
row_named-push : (id : Text) (rows : List Row) (row : Row) → row_named id rows ≡ None → row_named id (rows ++ row ∷ []) ≡ row_named id (row ∷ [])
row_named-push id [] row h = refl
row_named-push id (r ∷ rs) row h = go (bytes_eq r.id id) h (row_named-push id rs row)
  where
    go : (b : Bool) → cond b (Some r) (row_named id rs) ≡ None → (row_named id rs ≡ None → row_named id (rs ++ row ∷ []) ≡ row_named id (row ∷ []))
        → cond b (Some r) (row_named id (rs ++ row ∷ [])) ≡ row_named id (row ∷ [])
    go true k next = cc
    go false k next = next k

-- and one of another name changes nothing
row_named-other : (id : Text) (rows : List Row) (row : Row) → bytes_eq row.id id ≡ false → row_named id (rows ++ row ∷ []) ≡ row_named id rows
row_named-other id [] row h = rw h
row_named-other id (r ∷ rs) row h = ap (λ x. cond (bytes_eq r.id id) (Some r) x) (row_named-other id rs row h)

stats-other : (c : Choice) → is_flag c ≡ false → bytes_eq (choice_name Stats) (choice_name c) ≡ false
stats-other Budget f = refl
stats-other Unfold f = refl
stats-other Workers f = refl
stats-other Fuel f = refl
stats-other Stats f = absurd (true≢false f)

default_keeps : (c d : Choice) (rows : List Row) → is_flag c ≡ false → row_named (choice_name c) (with_default rows (filled_rule d)) ≡ row_named (choice_name c) rows
unfolding default_row
default_keeps c d rows n = go d (has_row (choice_name Stats) rows) refl
  where
    go : (e : Choice) (b : Bool) → has_row (choice_name Stats) rows ≡ b → row_named (choice_name c) (with_default rows (filled_rule e)) ≡ row_named (choice_name c) rows
    go Budget b h = ap (row_named (choice_name c)) (no_default_row Budget rows refl)
    go Unfold b h = ap (row_named (choice_name c)) (no_default_row Unfold rows refl)
    go Workers b h = ap (row_named (choice_name c)) (no_default_row Workers rows refl)
    go Fuel b h = ap (row_named (choice_name c)) (no_default_row Fuel rows refl)
    go Stats true h = ap (row_named (choice_name c)) (flag_given rows h)
    go Stats false h = ap (row_named (choice_name c)) (flag_added rows h) ∙ row_named-other (choice_name c) rows default_row (stats-other c n)

defaults_keep : (cs : List Choice) (c : Choice) (rows : List Row) → is_flag c ≡ false → row_named (choice_name c) (fold with_default rows (rules_for cs)) ≡ row_named (choice_name c) rows
defaults_keep [] c rows n = refl
defaults_keep (d ∷ cs) c rows n = defaults_keep cs c (with_default rows (filled_rule d)) n ∙ default_keeps c d rows n

same_flag : (c d : Choice) → choice_eq c d ≡ true → is_flag d ≡ is_flag c
same_flag Budget Budget h = refl
same_flag Budget Unfold h = refl
same_flag Budget Workers h = refl
same_flag Budget Fuel h = refl
same_flag Budget Stats h = absurd (true≢false (sym h))
same_flag Unfold Budget h = refl
same_flag Unfold Unfold h = refl
same_flag Unfold Workers h = refl
same_flag Unfold Fuel h = refl
same_flag Unfold Stats h = absurd (true≢false (sym h))
same_flag Workers Budget h = refl
same_flag Workers Unfold h = refl
same_flag Workers Workers h = refl
same_flag Workers Fuel h = refl
same_flag Workers Stats h = absurd (true≢false (sym h))
same_flag Fuel Budget h = refl
same_flag Fuel Unfold h = refl
same_flag Fuel Workers h = refl
same_flag Fuel Fuel h = refl
same_flag Fuel Stats h = absurd (true≢false (sym h))
same_flag Stats Budget h = absurd (true≢false (sym h))
same_flag Stats Unfold h = absurd (true≢false (sym h))
same_flag Stats Workers h = absurd (true≢false (sym h))
same_flag Stats Fuel h = absurd (true≢false (sym h))
same_flag Stats Stats h = refl

text_written : (c : Choice) (os : List Written) → is_flag c ≡ false → first_of (choice_name c) (rows_for os) ≡ option_map (λ o. o.text) (written_as c os)
text_written c [] n = refl
text_written c (o ∷ os) n = go (choice_eq c o.choice) refl (text_written c os n)
  where
    go : (b : Bool) → choice_eq c o.choice ≡ b → first_of (choice_name c) (rows_for os) ≡ option_map (λ o. o.text) (written_as c os)
        → first_of (choice_name c) (rows_for (o ∷ os)) ≡ option_map (λ o. o.text) (cond b (Some o) (written_as c os))
    go true e next =
        ap (λ b. option_and_then (λ (r : Row). slice_get r.values 0) (cond b (Some (row_for o)) (row_named (choice_name c) (rows_for os)))) (names-eq c o.choice ∙ e)
        ∙ ap (λ f. slice_get (kept_values f o.text) 0) (same_flag c o.choice e ∙ n)
    go false e next = ap (λ b. option_and_then (λ (r : Row). slice_get r.values 0) (cond b (Some (row_for o)) (row_named (choice_name c) (rows_for os)))) (names-eq c o.choice ∙ e) ∙ next

pub found_text : (cs : List Choice) (c : Choice) (os : List Written) → is_flag c ≡ false
    → first_of (choice_name c) (fold with_default (rows_for os) (rules_for cs)) ≡ option_map (λ o. o.text) (written_as c os)
found_text cs c os n = ap (option_and_then (λ (r : Row). slice_get r.values 0)) (defaults_keep cs c (rows_for os) n) ∙ text_written c os n

-- ---- the flag

flag_kept : (cs : List Choice) (rows : List Row) (r : Row) → row_named (choice_name Stats) rows ≡ Some r → row_named (choice_name Stats) (fold with_default rows (rules_for cs)) ≡ Some r
flag_kept [] rows r h = h
flag_kept (d ∷ cs) rows r h = ap (λ x. row_named (choice_name Stats) (fold with_default x (rules_for cs))) (go d) ∙ flag_kept cs rows r h
  where
    go : (e : Choice) → with_default rows (filled_rule e) ≡ rows
    go Budget = no_default_row Budget rows refl
    go Unfold = no_default_row Unfold rows refl
    go Workers = no_default_row Workers rows refl
    go Fuel = no_default_row Fuel rows refl
    go Stats = flag_given rows (has_row-named (choice_name Stats) rows ∙ ap is_some h)

abbrev IsUnset : Option Row → Type 0
IsUnset x = (x ≡ None) ⊎ (x ≡ Some default_row)

flag_unset : (cs : List Choice) (rows : List Row) → row_named (choice_name Stats) rows ≡ None → IsUnset (row_named (choice_name Stats) (fold with_default rows (rules_for cs)))
unfolding default_row
flag_unset [] rows h = inl h
flag_unset (Budget ∷ cs) rows h = subst (λ x. IsUnset (row_named (choice_name Stats) (fold with_default x (rules_for cs)))) (sym (no_default_row Budget rows refl)) (flag_unset cs rows h)
flag_unset (Unfold ∷ cs) rows h = subst (λ x. IsUnset (row_named (choice_name Stats) (fold with_default x (rules_for cs)))) (sym (no_default_row Unfold rows refl)) (flag_unset cs rows h)
flag_unset (Workers ∷ cs) rows h = subst (λ x. IsUnset (row_named (choice_name Stats) (fold with_default x (rules_for cs)))) (sym (no_default_row Workers rows refl)) (flag_unset cs rows h)
flag_unset (Fuel ∷ cs) rows h = subst (λ x. IsUnset (row_named (choice_name Stats) (fold with_default x (rules_for cs)))) (sym (no_default_row Fuel rows refl)) (flag_unset cs rows h)
flag_unset (Stats ∷ cs) rows h =
    subst (λ x. IsUnset (row_named (choice_name Stats) (fold with_default x (rules_for cs)))) (sym (flag_added rows (has_row-named (choice_name Stats) rows ∙ ap is_some h)))
    (inr (flag_kept cs (rows ++ default_row ∷ []) default_row (row_named-push (choice_name Stats) rows default_row h)))

flag_written : (os : List Written) → row_named (choice_name Stats) (rows_for os) ≡ option_map row_for (written_as Stats os)
flag_written [] = refl
flag_written (o ∷ os) = ap (λ b. cond b (Some (row_for o)) (row_named (choice_name Stats) (rows_for os))) (names-eq Stats o.choice) ∙ go (choice_eq Stats o.choice) (flag_written os)
  where
    go : (b : Bool) → row_named (choice_name Stats) (rows_for os) ≡ option_map row_for (written_as Stats os)
        → cond b (Some (row_for o)) (row_named (choice_name Stats) (rows_for os)) ≡ option_map row_for (cond b (Some o) (written_as Stats os))
    go true e = refl
    go false e = e

only_stats : (c : Choice) → choice_eq Stats c ≡ true → c ≡ Stats
only_stats Budget h = absurd (true≢false (sym h))
only_stats Unfold h = absurd (true≢false (sym h))
only_stats Workers h = absurd (true≢false (sym h))
only_stats Fuel h = absurd (true≢false (sym h))
only_stats Stats h = refl

is_stats : (os : List Written) (o : Written) → written_as Stats os ≡ Some o → o.choice ≡ Stats
is_stats [] o h = cc
is_stats (p ∷ os) o h = go (choice_eq Stats p.choice) refl h (is_stats os o)
  where
    go : (b : Bool) → choice_eq Stats p.choice ≡ b → cond b (Some p) (written_as Stats os) ≡ Some o → (written_as Stats os ≡ Some o → o.choice ≡ Stats) → o.choice ≡ Stats
    go true e k next = let same : p ≡ o = cc in ap (λ (x : Written). x.choice) (sym same) ∙ only_stats p.choice e
    go false e k next = next k

read_flag : (cs : List Choice) (os : List Written) (w : Option Written) → written_as Stats os ≡ w → ReadsFlag w (one_of (codes "stats") (fold with_default (rows_for os) (rules_for cs)))
unfolding default_row
read_flag cs os (Some o) e = ap (option_and_then row_text) (flag_kept cs (rows_for os) (row_for o) (flag_written os ∙ ap (option_map row_for) e)) ∙ ap (λ c. row_text (row_for (record { choice = c; text = o.text }))) (is_stats os o e)
read_flag cs os None e = elim (flag_unset cs (rows_for os) (flag_written os ∙ ap (option_map row_for) e)) [
  | inl n ↦ inl (ap (option_and_then row_text) n)
  | inr s ↦ inr (ap (option_and_then row_text) s)
]

pub found_flag : (cs : List Choice) (os : List Written) → ReadsFlag (written_as Stats os) (one_of (codes "stats") (fold with_default (rows_for os) (rules_for cs)))
found_flag cs os = read_flag cs os (written_as Stats os) refl
