-- The options that the words write, read as `clap` reads them: an option counts once the next one begins.
use Rattle.std.proofs.Common.{◌≡◌, ◌&&◌, Bool, true, false, cond, List, [], ◌∷◌, ◌++◌, Option, Some, None, option_map, option_and_then, refl, sym, ap, ◌∙◌, true≢false, append-nil, append_assoc}
use Rattle.std.specs.List.{list_all, list_any}
use Rattle.std.proofs.Math.Bool.{and-false}
use Rattle.cyp_words.specs.Options.{Meaning, Takes, Text, Unknown, Whole, Written, is_flag, is_number, meaning, with_option, written}
use Rattle.cyp_words.specs.Ready.{is_long, is_ready}
use Rattle.cyp_words.specs.Words.{each_new, is_allowed, same_option}
use Rattle.cyp_words.specs.declared.choice.Choice.{Choice}
use Rattle.cyp_words.specs.declared.choice.Choice.TheVariants.{Budget, Fuel, Stats, Unfold, Workers}
use Rattle.cyp_words.proofs.Cuts.{or_parts}
use Rattle.cyp_words.proofs.Hits.{long-no_number, meaning-short, takes-numbered}

-- the option that is not yet counted: none, one that waits for its text, or one that has it
pub data Pending : Type 0 where
  Rest : Pending
  Wants : Choice → Pending
  Holds : Choice → Text → Pending

abbrev pub add : List Written → Written → Option (List Written)
add os o = cond (list_any (same_option o) os) None (Some (os ++ o ∷ []))

abbrev pub settle : List Written → Pending → Option (List Written)
settle os Rest = Some os
settle os (Wants c) = None
settle os (Holds c text) = add os (record { choice = c; text = text })

abbrev pub Next : Type 0
Next = List Written → Pending → Option (List Written)

abbrev pub after_meaning : List Written → Pending → Meaning → Next → Option (List Written)
after_meaning os p (Takes c) k = option_and_then (λ d. k d (Wants c)) (settle os p)
after_meaning os p (Whole o) k = option_and_then (λ d. option_and_then (λ e. k e Rest) (add d o)) (settle os p)
after_meaning os p Unknown k = None

abbrev pub after_text : List Written → Pending → Text → Next → Option (List Written)
after_text os Rest w k = None
after_text os (Wants c) w k = k os (Holds c w)
after_text os (Holds c text) w k = None

abbrev pub turned : List Choice → List Written → Pending → Text → Next → Option (List Written)
turned cs os p w k = cond (is_long w) (after_meaning os p (meaning cs w) k) (after_text os p w k)

-- the options that the words write after these
abbrev pub told : List Choice → List Text → List Written → Pending → Option (List Written)
told cs [] os p = settle os p
told cs (w ∷ ws) os p = turned cs os p w (told cs ws)

-- ---- that these are the options that are written

-- no option is written again, and each is allowed
abbrev pub ok : List Written → Option (List Written) → Bool
ok before None = false
ok before (Some os) = each_new before os && list_all is_allowed os

abbrev pub fresh : List Written → Option (List Written) → Bool
fresh before None = false
fresh before (Some os) = each_new before os

-- where options are told, they are those before and those that are written; where none are, these aren't allowed
abbrev pub Says : List Written → Option (List Written) → Option (List Written) → Type 0
Says before None w = ok before w ≡ false
Says before (Some os) w = (option_map (λ rest. before ++ rest) w ≡ Some os) × (fresh before w ≡ true)

-- what is written from a pending option on
abbrev pub written_from : List Choice → Pending → List Text → Option (List Written)
written_from cs Rest ws = written cs None ws
written_from cs (Wants c) ws = written cs (Some c) ws
written_from cs (Holds c text) ws = with_option (record { choice = c; text = text }) (written cs None ws)

-- an option that stands before is not allowed again
blocked : (before : List Written) (o : Written) (w : Option (List Written)) → list_any (same_option o) before ≡ true → ok before (with_option o w) ≡ false
blocked before o None h = refl
blocked before o (Some os) h = rw h

-- a new option joins those before
lifts : (before : List Written) (o : Written) (r w : Option (List Written)) → list_any (same_option o) before ≡ false → Says (before ++ o ∷ []) r w → Says before r (with_option o w)
lifts before o None None h s = refl
lifts before o None (Some os) h s = rw h (go (each_new (before ++ o ∷ []) os) (is_allowed o) s)
  where
    go : (a b : Bool) → (a && list_all is_allowed os) ≡ false → (a && (b && list_all is_allowed os)) ≡ false
    go false b k = refl
    go true false k = refl
    go true true k = k
lifts before o (Some all) None h s = absurd (true≢false (sym s.1))
lifts before o (Some all) (Some os) h s = (ap (λ (xs : List Written). Some xs) (sym (append_assoc before (o ∷ []) os)) ∙ s.0, rw h s.1)

-- an option that is counted
added : (before : List Written) (o : Written) (k : List Written → Option (List Written)) (w : Option (List Written))
    → ((d : List Written) → add before o ≡ Some d → Says d (k d) w) → Says before (option_and_then k (add before o)) (with_option o w)
added before o k w h = go (list_any (same_option o) before) refl h
  where
    go : (b : Bool) → list_any (same_option o) before ≡ b → ((d : List Written) → cond b None (Some (before ++ o ∷ [])) ≡ Some d → Says d (k d) w)
        → Says before (option_and_then k (cond b None (Some (before ++ o ∷ [])))) (with_option o w)
    go true e next = blocked before o w e
    go false e next = lifts before o (k (before ++ o ∷ [])) w e (next (before ++ o ∷ []) refl)

-- a pending option is counted before what follows
pub settled_says : (cs : List Choice) (p : Pending) (before : List Written) (ws : List Text) (k : List Written → Option (List Written)) → ((c : Choice) → p ≡ Wants c → ⊥)
    → ((d : List Written) → Says d (k d) (written cs None ws)) → Says before (option_and_then k (settle before p)) (written_from cs p ws)
settled_says cs Rest before ws k not_waiting h = h before
settled_says cs (Wants c) before ws k not_waiting h = absurd (not_waiting c refl)
settled_says cs (Holds c text) before ws k not_waiting h = added before (record { choice = c; text = text }) k (written cs None ws) (λ d _. h d)

-- a text that is no number isn't allowed
not_allowed : (c : Choice) (w : Text) → is_flag c ≡ false → is_number w ≡ false → is_allowed (record { choice = c; text = w }) ≡ false
not_allowed Budget w f n = rw n
not_allowed Unfold w f n = rw n
not_allowed Workers w f n = rw n
not_allowed Fuel w f n = rw n
not_allowed Stats w f n = absurd (true≢false f)

refused_option : (before : List Written) (o : Written) (w : Option (List Written)) → is_allowed o ≡ false → ok before (with_option o w) ≡ false
refused_option before o None h = refl
refused_option before o (Some os) h = rw h (and-false (each_new before (o ∷ os)))

-- the pending option is no flag
abbrev pub IsNumbered : Pending → Type 0
IsNumbered Rest = Unit {0}
IsNumbered (Wants c) = is_flag c ≡ false
IsNumbered (Holds c text) = is_flag c ≡ false

no_more : (m : Meaning) (before : List Written) (c : Choice) (k : Next) → after_meaning before (Wants c) m k ≡ None
no_more (Takes d) before c k = refl
no_more (Whole o) before c k = refl
no_more Unknown before c k = refl

-- what the words behind this one say
abbrev pub Follows : List Choice → List Text → Next → Type 0
Follows cs ws k = (d : List Written) (q : Pending) → IsNumbered q → Says d (k d q) (written_from cs q ws)

-- what the words from here on write, by what the first one is
abbrev by_meaning : List Choice → List Text → Meaning → Option (List Written)
by_meaning cs ws (Takes c) = written cs (Some c) ws
by_meaning cs ws (Whole o) = with_option o (written cs None ws)
by_meaning cs ws Unknown = None

written-meant : (cs : List Choice) (w : Text) (ws : List Text) (m : Meaning) → meaning cs w ≡ m → written cs None (w ∷ ws) ≡ by_meaning cs ws m
written-meant cs w ws m e = ap (by_meaning cs ws) e

meant_says : (cs : List Choice) (w : Text) (ws : List Text) (before : List Written) (p : Pending) (k : Next) (m : Meaning) → meaning cs w ≡ m → ((c : Choice) → p ≡ Wants c → ⊥)
    → Follows cs ws k → Says before (after_meaning before p m k) (written_from cs p (w ∷ ws))
meant_says cs w ws before p k (Takes c) e n h =
    settled_says cs p before (w ∷ ws) (λ d. k d (Wants c)) n (λ d. rw (written-meant cs w ws (Takes c) e) (h d (Wants c) (takes-numbered cs w c e)))
meant_says cs w ws before p k (Whole o) e n h =
    settled_says cs p before (w ∷ ws) (λ d. option_and_then (λ f. k f Rest) (add d o)) n (λ d. rw (written-meant cs w ws (Whole o) e) (added d o (λ f. k f Rest) (written cs None ws) (λ f _. h f Rest tt)))
meant_says cs w ws before Rest k Unknown e n h = rw (written-meant cs w ws Unknown e)
meant_says cs w ws before (Wants c) k Unknown e n h = absurd (n c refl)
meant_says cs w ws before (Holds c text) k Unknown e n h = rw (written-meant cs w ws Unknown e)

turn_says : (cs : List Choice) (w : Text) (ws : List Text) (before : List Written) (p : Pending) (k : Next) (b : Bool) → is_long w ≡ b → IsNumbered p → Follows cs ws k
    → Says before (cond b (after_meaning before p (meaning cs w) k) (after_text before p w k)) (written_from cs p (w ∷ ws))
turn_says cs w ws before Rest k true long n h = meant_says cs w ws before Rest k (meaning cs w) refl (λ c e. cc) h
turn_says cs w ws before (Holds c text) k true long n h = meant_says cs w ws before (Holds c text) k (meaning cs w) refl (λ d e. cc) h
turn_says cs w ws before (Wants c) k true long n h =
    rw (no_more (meaning cs w) before c k) (refused_option before (record { choice = c; text = w }) (written cs None ws) (not_allowed c w n (long-no_number w long)))
turn_says cs w ws before Rest k false short n h = rw (written-meant cs w ws Unknown (meaning-short cs w short))
turn_says cs w ws before (Holds c text) k false short n h = rw (written-meant cs w ws Unknown (meaning-short cs w short))
turn_says cs w ws before (Wants c) k false short n h = h before (Holds c w) n

last_says : (before : List Written) (o : Written) (b : Bool) → list_any (same_option o) before ≡ b → Says before (cond b None (Some (before ++ o ∷ []))) (Some (o ∷ []))
last_says before o true e = blocked before o (Some []) e
last_says before o false e = lifts before o (Some (before ++ o ∷ [])) (Some []) e (ap (λ (xs : List Written). Some xs) (append-nil (before ++ o ∷ [])), refl)

pub told_says : (cs : List Choice) (ws : List Text) (before : List Written) (p : Pending) → IsNumbered p → Says before (told cs ws before p) (written_from cs p ws)
told_says cs [] before Rest n = (ap (λ (xs : List Written). Some xs) (append-nil before), refl)
told_says cs [] before (Wants c) n = refl
told_says cs [] before (Holds c text) n =
    let o : Written = record { choice = c; text = text } in last_says before o (list_any (same_option o) before) refl
told_says cs (w ∷ ws) before p n = turn_says cs w ws before p (told cs ws) (is_long w) refl n (λ d q m. told_says cs ws d q m)

-- ---- that no other words are written

abbrev pub allowed : Option (List Written) → Bool
allowed None = false
allowed (Some os) = list_all is_allowed os

allowed-more : (o : Written) (w : Option (List Written)) → allowed w ≡ false → allowed (with_option o w) ≡ false
allowed-more o None h = refl
allowed-more o (Some os) h = rw h (and-false (is_allowed o))

allowed-first : (o : Written) (w : Option (List Written)) → is_allowed o ≡ false → allowed (with_option o w) ≡ false
allowed-first o None h = refl
allowed-first o (Some os) h = rw h

abbrev pub WaitsWell : Option Choice → Type 0
WaitsWell None = Unit {0}
WaitsWell (Some c) = is_flag c ≡ false

unready_meant : (cs : List Choice) (w : Text) (ws : List Text) (m : Meaning) → meaning cs w ≡ m → ((p : Option Choice) → WaitsWell p → allowed (written cs p ws) ≡ false) → allowed (written cs None (w ∷ ws)) ≡ false
unready_meant cs w ws (Takes c) e h = rw (written-meant cs w ws (Takes c) e) (h (Some c) (takes-numbered cs w c e))
unready_meant cs w ws (Whole o) e h = rw (written-meant cs w ws (Whole o) e) (allowed-more o (written cs None ws) (h None tt))
unready_meant cs w ws Unknown e h = rw (written-meant cs w ws Unknown e)

unready_turn : (cs : List Choice) (w : Text) (ws : List Text) (p : Option Choice) (b : Bool) → is_ready w ≡ b → WaitsWell p → (b && list_all is_ready ws) ≡ false
    → (list_all is_ready ws ≡ false → (q : Option Choice) → WaitsWell q → allowed (written cs q ws) ≡ false) → allowed (written cs p (w ∷ ws)) ≡ false
unready_turn cs w ws None true e n h next = unready_meant cs w ws (meaning cs w) refl (next h)
unready_turn cs w ws (Some c) true e n h next = allowed-more (record { choice = c; text = w }) (written cs None ws) (next h None tt)
unready_turn cs w ws None false e n h next = rw (written-meant cs w ws Unknown (meaning-short cs w (or_parts (is_long w) (is_number w) e).0))
unready_turn cs w ws (Some c) false e n h next =
    allowed-first (record { choice = c; text = w }) (written cs None ws) (not_allowed c w n (or_parts (is_long w) (is_number w) e).1)

-- where a word is neither long nor a number, no options are written that are allowed
pub unready : (cs : List Choice) (ws : List Text) (p : Option Choice) → WaitsWell p → list_all is_ready ws ≡ false → allowed (written cs p ws) ≡ false
unready cs [] p n h = absurd (true≢false h)
unready cs (w ∷ ws) p n h = unready_turn cs w ws p (is_ready w) refl n h (λ k q m. unready cs ws q m k)
