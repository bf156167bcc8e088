-- What a parse by `clap` finds, and when it fails, for commands with these options alone.
use Rattle.std.proofs.Common.{◌≡◌, ℕ, ◌&&◌, ◌||◌, Bool, true, false, cond, not, count_by, List, [], ◌∷◌, map, codes, fold, Option, Some, None, is_some, refl, sym, ap, ◌∙◌, subst, true≢false}
use Rattle.std.specs.List.{list_all, list_any}
use Rattle.clap.specs.Faults.{built_fault, check_fault, defaults_fault, entered_fault, fault_of, given_default_fault, is_free_app, is_simple_and_free, settle_fault, walk_fault}
use Rattle.clap.specs.Kinds.{IsAmong, Kinds, check_kinds, or_else}
use Rattle.clap.specs.Matches.{found_of}
use Rattle.clap.specs.Simple.{App, HasMatchesOf, built, entered, is_buildable, is_ready, is_ready_leaf, is_simple, matches_of, names_of}
use Rattle.clap.specs.Takes.{is_given}
use Rattle.clap.specs.Walk.{Row, Rule, Walk, finished, first_of, has_row, is_early_multiple, is_empty, nothing_held, one_of, rows_after, rows_of, settled, with_default}
use Rattle.clap.specs.declared.error.kind.ErrorKind.{ErrorKind}
use Rattle.clap.specs.declared.parser.matches.ArgMatches.{ArgMatches}
use Rattle.clap.proofs.WalkLemmas.{first_value-rows, one_text-rows}
use Rattle.cyp_words.specs.Matches.{Finds, ReadsFlag}
use Rattle.cyp_words.specs.Options.{Text, Written, choice_name, written}
use Rattle.cyp_words.specs.Ready.{is_ready as is_ready_word}
use Rattle.cyp_words.specs.Rules.{app, rule}
use Rattle.cyp_words.specs.Words.{checked, each_new, written_as}
use Rattle.cyp_words.specs.declared.choice.Choice.{Choice}
use Rattle.cyp_words.specs.declared.choice.Choice.TheVariants.{Budget, Fuel, Stats, Unfold, Workers}
use Rattle.cyp_words.proofs.Defaults.{found_flag, found_text}
use Rattle.cyp_words.proofs.Hits.{filled_from-rules, filled_rule}
use Rattle.cyp_words.proofs.Told.{Rest, Says, allowed, ok, told, told_says, unready}
use Rattle.cyp_words.proofs.Turns.{Agrees, agrees, end_of, fault_from}
use Rattle.cyp_words.proofs.Uses.{rows_for}
use Rattle.cyp_words.proofs.Walks.{clean, clean-left, rules_for, shape_for, standing}

-- ---- the command is simple

abbrev pub app_for : List Choice → App
app_for cs = record { top = shape_for cs; subs = [] }

pub built-app : (cs : List Choice) → built (app cs) ≡ app_for cs
built-app cs = ap (λ rs. record { top = record (shape_for cs) { rules = rs }; subs = [] }) (filled_from-rules 1 cs)

rules_simple : (cs : List Choice) → list_all (λ (a : Rule). a.is_simple) (map rule cs) ≡ true
rules_simple [] = refl
rules_simple (c ∷ cs) = rules_simple cs

filled_simple : (cs : List Choice) → list_all (λ (a : Rule). a.is_simple) (rules_for cs) ≡ true
filled_simple [] = refl
filled_simple (c ∷ cs) = filled_simple cs

filled_free : (cs : List Choice) → list_all (λ (a : Rule). a.is_free) (rules_for cs) ≡ true
filled_free [] = refl
filled_free (c ∷ cs) = filled_free cs

none_early : (n : ℕ) (cs : List Choice) → list_any (is_early_multiple n) (rules_for cs) ≡ false
none_early n [] = refl
none_early n (c ∷ cs) = none_early n cs

pub simple : (cs : List Choice) → is_simple (app cs) ≡ true
simple cs =
    ap (λ (b : App). is_buildable (app cs) && (is_ready b.top && list_all is_ready_leaf b.subs)) (built-app cs)
    ∙ rw (rules_simple cs, filled_simple cs, none_early (count_by (λ (a : Rule). is_some a.index) (rules_for cs)) cs)

pub simple_and_free : (cs : List Choice) → is_simple_and_free (app cs) ≡ true
simple_and_free cs = ap (λ x. x && is_free_app (built (app cs))) (simple cs) ∙ ap is_free_app (built-app cs) ∙ rw (filled_free cs)

-- ---- its faults

no_default : (c : Choice) (b : Bool) → cond (b || is_empty (filled_rule c).defaults) [] (given_default_fault (filled_rule c) (filled_rule c).defaults) ≡ []
no_default Budget true = refl
no_default Budget false = refl
no_default Unfold true = refl
no_default Unfold false = refl
no_default Workers true = refl
no_default Workers false = refl
no_default Fuel true = refl
no_default Fuel false = refl
no_default Stats true = refl
no_default Stats false = refl

no_defaults : (cs : List Choice) (rows : List Row) → defaults_fault rows (rules_for cs) ≡ []
unfolding defaults_fault
no_defaults [] rows = refl
no_defaults (c ∷ cs) rows =
    ap (λ ks. or_else ks (defaults_fault (with_default rows (filled_rule c)) (rules_for cs))) (no_default c (has_row (choice_name c) rows)) ∙ no_defaults cs (with_default rows (filled_rule c))

none_required : (cs : List Choice) (rows : List Row) → list_any (λ (a : Rule). a.required && not (is_given a.id rows)) (rules_for cs) ≡ false
none_required [] rows = refl
none_required (c ∷ cs) rows = none_required cs rows

both_nil : (a b : Kinds) → or_else a b ≡ [] → (a ≡ []) × (b ≡ [])
both_nil [] b h = (refl, h)
both_nil (k ∷ ks) b h = cc

deep_fault : (a b c d : Kinds) → clean (or_else a c) ≡ false → clean (or_else a (or_else b (or_else c d))) ≡ false
deep_fault [] [] c d h = clean-left c d h
deep_fault [] (k ∷ ks) c d h = refl
deep_fault (k ∷ ks) b c d h = refl

no_kinds : (a b c d e : Kinds) → a ≡ [] → b ≡ [] → c ≡ [] → d ≡ [] → e ≡ [] → or_else a (or_else b (or_else c (or_else d e))) ≡ []
no_kinds a b c d e ea eb ec ed ee =
    ap (λ x. or_else x (or_else b (or_else c (or_else d e)))) ea ∙ ap (λ x. or_else x (or_else c (or_else d e))) eb ∙ ap (λ x. or_else x (or_else d e)) ec ∙ ap (λ x. or_else x e) ed ∙ ee

pub fault_where_none : (cs : List Choice) (ws : List Text) → clean (fault_from cs (standing [] Rest) ws) ≡ false → clean (fault_of (app cs) ws) ≡ false
fault_where_none cs ws h =
    let last : Walk = end_of cs (standing [] Rest) ws in
    ap (λ b. clean (built_fault b nothing_held ws)) (built-app cs)
    ∙ deep_fault (walk_fault (shape_for cs) [] (standing [] Rest) ws) (entered_fault (app_for cs) last.stopped) (settle_fault (rules_for cs) false last.held)
    (or_else (defaults_fault (settled (rules_for cs) last.held).rows (rules_for cs)) (check_fault (shape_for cs) (finished (rules_for cs) last.held) (is_some (entered (app_for cs) last.stopped)))) h

pub no_fault_where_some : (cs : List Choice) (ws : List Text) → fault_from cs (standing [] Rest) ws ≡ [] → (end_of cs (standing [] Rest) ws).stopped ≡ None → fault_of (app cs) ws ≡ []
no_fault_where_some cs ws h stop =
    let last : Walk = end_of cs (standing [] Rest) ws in
    let rows : List Row = finished (rules_for cs) last.held in
    let parts : (walk_fault (shape_for cs) [] (standing [] Rest) ws ≡ []) × (settle_fault (rules_for cs) false last.held ≡ []) =
    both_nil (walk_fault (shape_for cs) [] (standing [] Rest) ws) (settle_fault (rules_for cs) false last.held) h in
    ap (λ b. built_fault b nothing_held ws) (built-app cs)
    ∙ no_kinds (walk_fault (shape_for cs) [] (standing [] Rest) ws) (entered_fault (app_for cs) last.stopped) (settle_fault (rules_for cs) false last.held)
    (defaults_fault (settled (rules_for cs) last.held).rows (rules_for cs)) (check_fault (shape_for cs) rows (is_some (entered (app_for cs) last.stopped)))
    parts.0 (ap (entered_fault (app_for cs)) stop) parts.1 (no_defaults cs (settled (rules_for cs) last.held).rows)
    (ap (λ s. check_fault (shape_for cs) rows (is_some (entered (app_for cs) s))) stop ∙ ap (check_kinds false false) (none_required cs rows))

-- ---- what is found

pub found-rows : (cs : List Choice) (ws : List Text) (os : List Written) → Agrees cs (Some os) (fault_from cs (standing [] Rest) ws) (end_of cs (standing [] Rest) ws)
    → matches_of (app cs) ws ≡ fold with_default (rows_for os) (rules_for cs)
found-rows cs ws os h = ap (λ (b : App). rows_after b.top.rules (names_of b) ws) (built-app cs) ∙ ap (λ r. fold with_default r (rules_for cs)) h.1

alone_says : (os : List Written) (w : Option (List Written)) → Says [] (Some os) w → (w ≡ Some os) × (each_new [] os ≡ true)
alone_says os None h = absurd (true≢false (sym h.1))
alone_says os (Some xs) h = let same : xs ≡ os = some_same xs os h.0 in (h.0, subst (λ ys. each_new [] ys ≡ true) same h.1)
  where
    some_same : (a b : List Written) → Some a ≡ Some b → a ≡ b
    some_same a b e = cc

none_checked : (w : Option (List Written)) → ok [] w ≡ false → checked w ≡ None
none_checked None h = refl
none_checked (Some os) h = rw h

finds_by : (cs : List Choice) (ws : List Text) (m : ArgMatches) (o : Option (List Written)) → told cs ws [] Rest ≡ o → Agrees cs o (fault_from cs (standing [] Rest) ws) (end_of cs (standing [] Rest) ws)
    → Says [] o (written cs None ws) → fault_of (app cs) ws ≡ [] → HasMatchesOf (app cs) ws m → Finds cs ws m
finds_by cs ws m None e a s f h = absurd (true≢false (sym (ap clean f) ∙ fault_where_none cs ws a))
finds_by cs ws m (Some os) e a s f h =
    let rows : rows_of (found_of m) ≡ fold with_default (rows_for os) (rules_for cs) = (h (simple cs)).0 ∙ found-rows cs ws os a in
    record {
      os = os;
      all = (alone_says os (written cs None ws) s).0;
      once = (alone_says os (written cs None ws) s).1;
      texts = λ c n. first_value-rows (found_of m) (choice_name c) ∙ ap (first_of (choice_name c)) rows ∙ found_text cs c os n;
      flag = subst (ReadsFlag (written_as Stats os)) (sym (one_text-rows (found_of m) (codes "stats") ∙ ap (one_of (codes "stats")) rows)) (found_flag cs os);
    }

-- where the parse has no fault, it finds what is written
pub finds : (cs : List Choice) (ws : List Text) (m : ArgMatches) → list_all is_ready_word ws ≡ true → fault_of (app cs) ws ≡ [] → HasMatchesOf (app cs) ws m → Finds cs ws m
finds cs ws m ready f h = finds_by cs ws m (told cs ws [] Rest) refl (agrees cs ws [] Rest tt ready) (told_says cs ws [] Rest tt) f h

refuses_by : (cs : List Choice) (ws : List Text) (k : ErrorKind) (o : Option (List Written)) → Agrees cs o (fault_from cs (standing [] Rest) ws) (end_of cs (standing [] Rest) ws)
    → Says [] o (written cs None ws) → IsAmong k (fault_of (app cs) ws) → checked (written cs None ws) ≡ None
refuses_by cs ws k None a s h = none_checked (written cs None ws) s
refuses_by cs ws k (Some os) a s h = absurd (subst (IsAmong k) (no_fault_where_some cs ws a.0 a.2) h)

-- where it has one, the words are refused
pub refuses : (cs : List Choice) (ws : List Text) (k : ErrorKind) → list_all is_ready_word ws ≡ true → IsAmong k (fault_of (app cs) ws) → checked (written cs None ws) ≡ None
refuses cs ws k ready h = refuses_by cs ws k (told cs ws [] Rest) (agrees cs ws [] Rest tt ready) (told_says cs ws [] Rest tt) h

not_all : (w : Option (List Written)) → allowed w ≡ false → checked w ≡ None
not_all None h = refl
not_all (Some os) h = rw (h) (go (each_new [] os))
  where
    go : (b : Bool) → cond (b && false) (Some os) None ≡ None
    go true = refl
    go false = refl

-- where a word can be no option and no number, they are refused too
pub refuses_unready : (cs : List Choice) (ws : List Text) → list_all is_ready_word ws ≡ false → checked (written cs None ws) ≡ None
refuses_unready cs ws h = not_all (written cs None ws) (unready cs ws None tt h)
