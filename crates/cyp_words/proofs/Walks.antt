-- The walk of `clap` over the words, for commands with these options alone.
use Rattle.std.proofs.Common.{◌≡◌, Bool, true, false, cond, List, [], ◌∷◌, ◌++◌, map, Option, Some, None, option_map, option_and_then, refl, ap, ◌∙◌, subst, true≢false}
use Rattle.std.specs.List.{list_any}
use Rattle.clap.specs.Faults.{settle_fault, use_fault}
use Rattle.clap.specs.Kinds.{Kinds, or_else}
use Rattle.clap.specs.Simple.{Shape}
use Rattle.clap.specs.Walk.{Held, Row, Rule, Waiting, Walk, arg_by_id, idle, option, settled_rows, used}
use Rattle.cyp_words.specs.Options.{Text, Written, choice_name, is_flag}
use Rattle.cyp_words.specs.Rules.{app}
use Rattle.cyp_words.specs.Words.{same_option}
use Rattle.cyp_words.specs.declared.choice.Choice.{Choice}
use Rattle.cyp_words.specs.declared.choice.Choice.TheVariants.{Budget, Fuel, Stats, Unfold, Workers}
use Rattle.cyp_words.proofs.Hits.{arg_by_id-hit, filled_rule, hit}
use Rattle.cyp_words.proofs.Told.{Holds, Pending, Rest, Wants, add, settle}
use Rattle.cyp_words.proofs.Uses.{given_values, repeat, rows_for, use_fault-is, used-new}

abbrev pub rules_for : List Choice → List Rule
rules_for = map filled_rule

-- the command as `clap` builds it
abbrev pub shape_for : List Choice → Shape
shape_for cs = record (app cs).top { rules = rules_for cs; disable_help_subcommand = true; is_built = true }

abbrev pub pending_for : Pending → Option (Text × List Text)
pending_for Rest = None
pending_for (Wants c) = Some (choice_name c, [])
pending_for (Holds c text) = Some (choice_name c, text ∷ [])

abbrev pub waiting_for : Pending → Waiting
waiting_for Rest = idle
waiting_for (Wants c) = option (choice_name c)
waiting_for (Holds c text) = idle

abbrev pub held_for : List Written → Pending → Held
held_for os p = record { rows = rows_for os; pending = pending_for p; skip = 0 }

-- where the walk stands
abbrev pub standing : List Written → Pending → Walk
standing os p = record { held = held_for os p; waiting = waiting_for p; position = 1; is_trailing = false; stopped = None }

abbrev pub IsOf : List Choice → Choice → Type 0
IsOf cs c = (is_flag c ≡ false) × (hit cs (choice_name c) ≡ Some c)

-- the pending option is one of these, with a number
abbrev pub IsKnown : List Choice → Pending → Type 0
IsKnown cs Rest = Unit {0}
IsKnown cs (Wants c) = IsOf cs c
IsKnown cs (Holds c text) = IsOf cs c

-- no kind of fault
abbrev pub clean : Kinds → Bool
clean [] = true
clean (k ∷ ks) = false

pub clean-left : (a b : Kinds) → clean a ≡ false → clean (or_else a b) ≡ false
clean-left [] b h = absurd (true≢false h)
clean-left (k ∷ ks) b h = refl

pub by_id : (cs : List Choice) (c : Choice) → IsOf cs c → arg_by_id (rules_for cs) (choice_name c) ≡ Some (filled_rule c)
by_id cs c h = arg_by_id-hit cs (choice_name c) ∙ ap (option_map filled_rule) h.1

-- ---- one option is counted

-- there are faults where nothing comes of it, and else none, and these rows
abbrev pub Settles : Option (List Written) → Kinds → List Row → Type 0
Settles None k r = clean k ≡ false
Settles (Some d) k r = (k ≡ []) × (r ≡ rows_for d)

abbrev vals : Written → List Text
vals o = given_values (is_flag o.choice) o.text

counts : (o : Written) (os : List Written) → Settles (add os o) (use_fault false (filled_rule o.choice) (vals o) (rows_for os)) (used (filled_rule o.choice) (vals o) (rows_for os))
counts o os = go (list_any (same_option o) os) refl (use_fault-is o os)
  where
    go : (b : Bool) → list_any (same_option o) os ≡ b → use_fault false (filled_rule o.choice) (vals o) (rows_for os) ≡ repeat (list_any (same_option o) os)
        → Settles (cond b None (Some (os ++ o ∷ []))) (use_fault false (filled_rule o.choice) (vals o) (rows_for os)) (used (filled_rule o.choice) (vals o) (rows_for os))
    go true e f = ap clean (f ∙ ap repeat e)
    go false e f = (f ∙ ap repeat e, used-new o os e)

wants_text : (c : Choice) (rows : List Row) → is_flag c ≡ false → clean (use_fault false (filled_rule c) [] rows) ≡ false
wants_text Budget rows f = refl
wants_text Unfold rows f = refl
wants_text Workers rows f = refl
wants_text Fuel rows f = refl
wants_text Stats rows f = absurd (true≢false f)

pub settles : (cs : List Choice) (os : List Written) (p : Pending) → IsKnown cs p
    → Settles (settle os p) (settle_fault (rules_for cs) false (held_for os p)) (settled_rows (rules_for cs) (pending_for p) (rows_for os))
settles cs os Rest known = (refl, refl)
settles cs os (Wants c) known = rw (by_id cs c known) (wants_text c (rows_for os) known.0)
settles cs os (Holds c text) known =
    rw (by_id cs c known) (subst (λ f. Settles (add os (record { choice = c; text = text })) (use_fault false (filled_rule c) (given_values f text) (rows_for os)) (used (filled_rule c) (given_values f text) (rows_for os)))
    known.0 (counts (record { choice = c; text = text }) os))

-- the pending option is counted, and then this one
pub reacts : (o : Written) (so : Option (List Written)) (k : Kinds) (r : List Row) → Settles so k r
    → Settles (option_and_then (λ d. add d o) so) (or_else k (use_fault false (filled_rule o.choice) (vals o) r)) (used (filled_rule o.choice) (vals o) r)
reacts o None k r h = clean-left k (use_fault false (filled_rule o.choice) (vals o) r) h
reacts o (Some d) k r h = rw (h.0, h.1) (counts o d)
