-- One word, and all words: what `clap` makes of them is what is told.
use Rattle.std.proofs.Common.{◌≡◌, ◌⊎◌, inl, inr, ℕ, ◌&&◌, ◌||◌, Bool, true, false, cond, not, List, [], ◌∷◌, fold, nat_lt, Option, Some, None, option_map, option_and_then, refl, sym, ap, ◌∙◌, subst, eqb, true≢false}
use Rattle.std.specs.List.{list_all}
use Rattle.clap.specs.Faults.{long_fault, settle_fault, step_fault, turn_fault, use_fault, walk_fault}
use Rattle.clap.specs.Kinds.{Kinds, or_else}
use Rattle.clap.specs.Lexer.{name_and_value, short_of, short_of_rest}
use Rattle.clap.specs.Walk.{Held, Row, Rule, Step, Walk, after_flag, after_step, arg_by_long, long_met, most_values, pending_count, settled_rows, takes_values, used, walked}
use Rattle.clap.specs.declared.error.kind.ErrorKind.TheVariants as kind
use Rattle.cyp_words.specs.Options.{Takes, Text, Unknown, Whole, Written, choice_name, is_flag, is_number}
use Rattle.cyp_words.specs.Ready.{is_long, is_ready}
use Rattle.cyp_words.specs.declared.choice.Choice.{Choice}
use Rattle.cyp_words.specs.declared.choice.Choice.TheVariants.{Budget, Fuel, Stats, Unfold, Workers}
use Rattle.cyp_words.proofs.Cuts.{cut, name_and_value-cut}
use Rattle.cyp_words.proofs.Hits.{IsLong, arg_by_index-none, arg_by_long-hit, filled_rule, hit, hit-again, long-parts, meaning-long, meant, number-first}
use Rattle.cyp_words.proofs.Told.{Holds, Next, Pending, Rest, Wants, add, after_meaning, settle, told, turned}
use Rattle.cyp_words.proofs.Uses.{given_values, rows_for}
use Rattle.cyp_words.proofs.Walks.{IsKnown, Settles, by_id, clean, clean-left, held_for, pending_for, reacts, rules_for, settles, shape_for, standing, waiting_for}

-- where the walk stands, by the rows
abbrev pub standing_at : List Row → Pending → Walk
standing_at r p = record { held = record { rows = r; pending = pending_for p; skip = 0 }; waiting = waiting_for p; position = 1; is_trailing = false; stopped = None }

-- the word is refused, and nothing is told
pub record Stops (cs : List Choice) (os : List Written) (p : Pending) (w : Text) : Type 0 where
  pub fault : clean (turn_fault (shape_for cs) [] (standing os p) w) ≡ false
  pub stops : (k : Next) → turned cs os p w k ≡ None

-- the word is taken, and what is told goes on
pub record Goes (cs : List Choice) (os : List Written) (p : Pending) (w : Text) : Type 0 where
  pub counted : List Written
  pub pending : Pending
  pub known : IsKnown cs pending
  pub no_fault : turn_fault (shape_for cs) [] (standing os p) w ≡ []
  pub stands : walked (rules_for cs) [] (standing os p) w ≡ standing counted pending
  pub goes : (k : Next) → turned cs os p w k ≡ k counted pending

turn_by : (cs : List Choice) (os : List Written) (p : Pending) (w : Text) (so : Option (List Written)) (ks : Kinds) (r : List Row) (q : Pending) → Settles so ks r → IsKnown cs q
    → turn_fault (shape_for cs) [] (standing os p) w ≡ or_else ks [] → walked (rules_for cs) [] (standing os p) w ≡ standing_at r q
    → ((k : Next) → turned cs os p w k ≡ option_and_then (λ d. k d q) so) → Stops cs os p w ⊎ Goes cs os p w
turn_by cs os p w None ks r q h known f g t = inl (record { fault = ap clean f ∙ clean-left ks [] h; stops = t })
turn_by cs os p w (Some d) ks r q h known f g t = inr (record {
  counted = d;
  pending = q;
  known = known;
  no_fault = f ∙ ap (λ x. or_else x []) h.0;
  stands = g ∙ ap (λ x. standing_at x q) h.1;
  goes = t;
})

-- ---- a long word

abbrev flag_step : List Choice → List Written → Pending → Text → Option Rule → Option Text → Held × Step
flag_step cs os p w a v =
    after_flag (rules_for cs) (waiting_for p) w (long_met (rules_for cs) a v (held_for os p)).0 (long_met (rules_for cs) a v (held_for os p)).1

abbrev flag_fault : List Choice → List Written → Pending → Text → Option Rule → Option Text → Kinds
flag_fault cs os p w a v =
    or_else (long_fault (rules_for cs) false a v (held_for os p)) (step_fault (shape_for cs) 1 (flag_step cs os p w a v).0 (flag_step cs os p w a v).1)

abbrev flag_walk : List Choice → List Written → Pending → Text → Option Rule → Option Text → Walk
flag_walk cs os p w a v = after_step (rules_for cs) w (standing os p) (flag_step cs os p w a v).0 (flag_step cs os p w a v).1

long_fault-cut : (cs : List Choice) (os : List Written) (p : Pending) (x : ℕ) (xs : Text)
    → turn_fault (shape_for cs) [] (standing os p) (45 ∷ 45 ∷ x ∷ xs)
    ≡ flag_fault cs os p (45 ∷ 45 ∷ x ∷ xs) (arg_by_long (rules_for cs) (name_and_value (x ∷ xs)).0) (name_and_value (x ∷ xs)).1
long_fault-cut cs os Rest x xs = refl
long_fault-cut cs os (Wants c) x xs = refl
long_fault-cut cs os (Holds c text) x xs = refl

long_walk-cut : (cs : List Choice) (os : List Written) (p : Pending) (x : ℕ) (xs : Text)
    → walked (rules_for cs) [] (standing os p) (45 ∷ 45 ∷ x ∷ xs)
    ≡ flag_walk cs os p (45 ∷ 45 ∷ x ∷ xs) (arg_by_long (rules_for cs) (name_and_value (x ∷ xs)).0) (name_and_value (x ∷ xs)).1
unfolding walked
long_walk-cut cs os Rest x xs = refl
long_walk-cut cs os (Wants c) x xs = refl
long_walk-cut cs os (Holds c text) x xs = refl

takes_values-is : (c : Choice) → takes_values (filled_rule c) ≡ not (is_flag c)
takes_values-is Budget = refl
takes_values-is Unfold = refl
takes_values-is Workers = refl
takes_values-is Fuel = refl
takes_values-is Stats = refl

and_then-twice : {A B C : Type 0} (f : B → Option C) (g : A → Option B) (x : Option A) → option_and_then (λ d. option_and_then f (g d)) x ≡ option_and_then f (option_and_then g x)
and_then-twice f g None = refl
and_then-twice f g (Some x) = refl

-- the word names this option
met_turn : (cs : List Choice) (os : List Written) (p : Pending) (w : Text) (c : Choice) (v : Option Text) (b : Bool) → is_flag c ≡ b → IsKnown cs p → hit cs (choice_name c) ≡ Some c
    → turn_fault (shape_for cs) [] (standing os p) w ≡ flag_fault cs os p w (Some (filled_rule c)) v
    → walked (rules_for cs) [] (standing os p) w ≡ flag_walk cs os p w (Some (filled_rule c)) v
    → ((k : Next) → turned cs os p w k ≡ after_meaning os p (meant (Some c) v) k) → Stops cs os p w ⊎ Goes cs os p w
met_turn cs os p w c None false b known again f g t =
    let tv : takes_values (filled_rule c) ≡ true = takes_values-is c ∙ ap not b in
    turn_by cs os p w (settle os p) (settle_fault (rules_for cs) false (held_for os p)) (settled_rows (rules_for cs) (pending_for p) (rows_for os)) (Wants c) (settles cs os p known) (b, again)
    (f ∙ rw (tv)) (g ∙ rw (tv))
    (λ k. t k ∙ ap (λ m. after_meaning os p m k) (ap (λ x. cond x (Whole (record { choice = c; text = [] })) (Takes c)) b))
met_turn cs os p w c (Some text) false b known again f g t =
    let tv : takes_values (filled_rule c) ≡ true = takes_values-is c ∙ ap not b in
    let o : Written = record { choice = c; text = text } in
    let sf : Kinds = settle_fault (rules_for cs) false (held_for os p) in
    let sr : List Row = settled_rows (rules_for cs) (pending_for p) (rows_for os) in
    turn_by cs os p w (option_and_then (λ d. add d o) (settle os p)) (or_else sf (use_fault false (filled_rule c) (text ∷ []) sr)) (used (filled_rule c) (text ∷ []) sr) Rest
    (subst (λ x. Settles (option_and_then (λ d. add d o) (settle os p)) (or_else sf (use_fault false (filled_rule c) (given_values x text) sr)) (used (filled_rule c) (given_values x text) sr)) b
    (reacts o (settle os p) sf sr (settles cs os p known)))
    tt (f ∙ rw (tv)) (g ∙ rw (tv))
    (λ k. t k ∙ ap (λ m. after_meaning os p m k) (ap (λ x. cond x Unknown (Whole o)) b) ∙ and_then-twice (λ e. k e Rest) (λ d. add d o) (settle os p))
met_turn cs os p w c None true b known again f g t =
    let tv : takes_values (filled_rule c) ≡ false = takes_values-is c ∙ ap not b in
    let o : Written = record { choice = c; text = [] } in
    let sf : Kinds = settle_fault (rules_for cs) false (held_for os p) in
    let sr : List Row = settled_rows (rules_for cs) (pending_for p) (rows_for os) in
    turn_by cs os p w (option_and_then (λ d. add d o) (settle os p)) (or_else sf (use_fault false (filled_rule c) [] sr)) (used (filled_rule c) [] sr) Rest
    (subst (λ x. Settles (option_and_then (λ d. add d o) (settle os p)) (or_else sf (use_fault false (filled_rule c) (given_values x []) sr)) (used (filled_rule c) (given_values x []) sr)) b
    (reacts o (settle os p) sf sr (settles cs os p known)))
    tt (f ∙ rw (tv)) (g ∙ rw (tv))
    (λ k. t k ∙ ap (λ m. after_meaning os p m k) (ap (λ x. cond x (Whole o) (Takes c)) b) ∙ and_then-twice (λ e. k e Rest) (λ d. add d o) (settle os p))
met_turn cs os p w c (Some text) true b known again f g t =
    let tv : takes_values (filled_rule c) ≡ false = takes_values-is c ∙ ap not b in
    let refused : flag_fault cs os p w (Some (filled_rule c)) (Some text) ≡ kind.TooManyValues ∷ [] = rw (tv) in
    inl (record { fault = ap clean (f ∙ refused); stops = λ k. t k ∙ ap (λ m. after_meaning os p m k) (ap (λ x. cond x Unknown (Whole (record { choice = c; text = text }))) b) })

-- the word names this option, or none
named_turn : (cs : List Choice) (os : List Written) (p : Pending) (w : Text) (o : Option Choice) (v : Option Text) → IsKnown cs p → ((c : Choice) → o ≡ Some c → hit cs (choice_name c) ≡ Some c)
    → turn_fault (shape_for cs) [] (standing os p) w ≡ flag_fault cs os p w (option_map filled_rule o) v
    → walked (rules_for cs) [] (standing os p) w ≡ flag_walk cs os p w (option_map filled_rule o) v
    → ((k : Next) → turned cs os p w k ≡ after_meaning os p (meant o v) k) → Stops cs os p w ⊎ Goes cs os p w
named_turn cs os p w None v known again f g t = inl (record { fault = ap clean f; stops = t })
named_turn cs os p w (Some c) v known again f g t = met_turn cs os p w c v (is_flag c) refl known (again c refl) f g t

long_turn : (cs : List Choice) (os : List Written) (p : Pending) (x : ℕ) (xs : Text) → IsKnown cs p → Stops cs os p (45 ∷ 45 ∷ x ∷ xs) ⊎ Goes cs os p (45 ∷ 45 ∷ x ∷ xs)
long_turn cs os p x xs known =
    let w : Text = 45 ∷ 45 ∷ x ∷ xs in
    let name : Text = (cut (x ∷ xs)).0 in
    let v : Option Text = (cut (x ∷ xs)).1 in
    named_turn cs os p w (hit cs name) v known (hit-again cs name)
    (long_fault-cut cs os p x xs ∙ ap (λ n. flag_fault cs os p w (arg_by_long (rules_for cs) n.0) n.1) (name_and_value-cut (x ∷ xs))
    ∙ ap (λ a. flag_fault cs os p w a v) (arg_by_long-hit cs name))
    (long_walk-cut cs os p x xs ∙ ap (λ n. flag_walk cs os p w (arg_by_long (rules_for cs) n.0) n.1) (name_and_value-cut (x ∷ xs))
    ∙ ap (λ a. flag_walk cs os p w a v) (arg_by_long-hit cs name))
    (λ k. ap (λ m. after_meaning os p m k) (meaning-long cs (x ∷ xs)))

-- ---- a number

full : (c : Choice) (w : Text) → is_flag c ≡ false → nat_lt (pending_count (filled_rule c) (Some (choice_name c, w ∷ []))) (most_values (filled_rule c)) ≡ false
full Budget w f = refl
full Unfold w f = refl
full Workers w f = refl
full Fuel w f = refl
full Stats w f = absurd (true≢false f)

no_short : (x : ℕ) (xs : Text) → eqb x 45 ≡ false → short_of (x ∷ xs) ≡ None
no_short x xs e = ap (λ b. option_and_then short_of_rest (cond b (Some xs) None)) e

text_turn : (cs : List Choice) (os : List Written) (p : Pending) (x : ℕ) (xs : Text) → IsKnown cs p → is_long (x ∷ xs) ≡ false → eqb x 45 ≡ false → Stops cs os p (x ∷ xs) ⊎ Goes cs os p (x ∷ xs)
unfolding walked
text_turn cs os Rest x xs known short e = inl (record { fault = rw (e, no_short x xs e, arg_by_index-none cs 1); stops = λ k. rw short })
text_turn cs os (Holds c text) x xs known short e = inl (record { fault = rw (e, no_short x xs e, arg_by_index-none cs 1); stops = λ k. rw short })
text_turn cs os (Wants c) x xs known short e = inr (record {
  counted = os;
  pending = Holds c (x ∷ xs);
  known = known;
  no_fault = rw (e, no_short x xs e);
  stands = rw (e, no_short x xs e, by_id cs c known, full c (x ∷ xs) known.0);
  goes = λ k. rw short;
})

turn_of : (cs : List Choice) (os : List Written) (p : Pending) (w : Text) (b : Bool) → is_long w ≡ b → IsKnown cs p → (b || is_number w) ≡ true → Stops cs os p w ⊎ Goes cs os p w
turn_of cs os p w true long known h =
    let parts : IsLong w = long-parts w long in subst (λ u. Stops cs os p u ⊎ Goes cs os p u) (sym parts.is) (long_turn cs os p parts.first parts.rest known)
turn_of cs os p [] false short known h = absurd (true≢false (sym h))
turn_of cs os p (x ∷ xs) false short known h = text_turn cs os p x xs known short (number-first x xs h)

-- ---- all words

-- there are faults where nothing is told, and else none, and the rows of what is told
abbrev pub Agrees : List Choice → Option (List Written) → Kinds → Walk → Type 0
Agrees cs None ks w = clean ks ≡ false
Agrees cs (Some os) ks w = (ks ≡ []) × (settled_rows (rules_for cs) w.held.pending w.held.rows ≡ rows_for os) × (w.stopped ≡ None)

abbrev pub end_of : List Choice → Walk → List Text → Walk
end_of cs w ws = fold (walked (rules_for cs) []) w ws

abbrev pub fault_from : List Choice → Walk → List Text → Kinds
fault_from cs w ws = or_else (walk_fault (shape_for cs) [] w ws) (settle_fault (rules_for cs) false (end_of cs w ws).held)

agrees_end : (cs : List Choice) (os : List Written) (p : Pending) (so : Option (List Written)) (ks : Kinds) → settle os p ≡ so
    → Settles so ks (settled_rows (rules_for cs) (pending_for p) (rows_for os)) → Agrees cs so ks (standing os p)
agrees_end cs os p None ks e h = h
agrees_end cs os p (Some d) ks e h = (h.0, h.1, refl)

pub agrees : (cs : List Choice) (ws : List Text) (os : List Written) (p : Pending) → IsKnown cs p → list_all is_ready ws ≡ true
    → Agrees cs (told cs ws os p) (fault_from cs (standing os p) ws) (end_of cs (standing os p) ws)
unfolding walk_fault
agrees cs [] os p known ready = agrees_end cs os p (settle os p) (settle_fault (rules_for cs) false (held_for os p)) refl (settles cs os p known)
agrees cs (w ∷ ws) os p known ready =
    go (turn_of cs os p w (is_long w) refl known (all_first (is_ready w) (list_all is_ready ws) ready)) (λ d q k. agrees cs ws d q k (all_rest (is_ready w) (list_all is_ready ws) ready))
  where
    all_first : (a b : Bool) → (a && b) ≡ true → a ≡ true
    all_first true b h = refl
    all_first false b h = h

    all_rest : (a b : Bool) → (a && b) ≡ true → b ≡ true
    all_rest true b h = h
    all_rest false b h = absurd (true≢false (sym h))

    go : Stops cs os p w ⊎ Goes cs os p w
        → ((d : List Written) (q : Pending) → IsKnown cs q → Agrees cs (told cs ws d q) (fault_from cs (standing d q) ws) (end_of cs (standing d q) ws))
        → Agrees cs (turned cs os p w (told cs ws)) (or_else (or_else (turn_fault (shape_for cs) [] (standing os p) w) (walk_fault (shape_for cs) [] (walked (rules_for cs) [] (standing os p) w) ws))
        (settle_fault (rules_for cs) false (end_of cs (walked (rules_for cs) [] (standing os p) w) ws).held)) (end_of cs (walked (rules_for cs) [] (standing os p) w) ws)
    go (inl s) next = rw (s.stops (told cs ws)) (clean-left _ _ (clean-left _ _ s.fault))
    go (inr s) next = rw (s.goes (told cs ws), s.no_fault, s.stands) (next s.counted s.pending s.known)
