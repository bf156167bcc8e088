-- Options that are written once each, and their numbers.
use Rattle.std.proofs.Common.{◌≡◌, inl, inr, ℕ, ◌&&◌, ◌||◌, Bool, true, false, cond, not, List, [], ◌∷◌, ◌++◌, Option, Some, None, is_some, option_map, option_and_then, refl, sym, ap, ◌∙◌, true≢false, codes}
use Rattle.std.specs.List.{list_all, list_any}
use Rattle.std.proofs.Math.Bool.{or-true}
use Rattle.cyp_words.specs.Matches.{ReadsFlag, number_said}
use Rattle.cyp_words.specs.Options.{Text, Written, choice_eq, choice_number, is_flag, written}
use Rattle.cyp_words.specs.Words.{checked, each_new, is_allowed, number_of, options_in, options_of, same_option, written_as}
use Rattle.cyp_words.specs.declared.choice.Choice.{Choice}
use Rattle.cyp_words.specs.declared.choice.Choice.TheVariants.{Budget, Fuel, Stats, Unfold, Workers}
use Rattle.cyp_words.specs.declared.options.Options.{Options}

choice_same : (c d : Choice) → choice_eq c d ≡ true → c ≡ d
choice_same Budget Budget h = refl
choice_same Budget Unfold h = absurd (true≢false (sym h))
choice_same Budget Workers h = absurd (true≢false (sym h))
choice_same Budget Fuel h = absurd (true≢false (sym h))
choice_same Budget Stats h = absurd (true≢false (sym h))
choice_same Unfold Budget h = absurd (true≢false (sym h))
choice_same Unfold Unfold h = refl
choice_same Unfold Workers h = absurd (true≢false (sym h))
choice_same Unfold Fuel h = absurd (true≢false (sym h))
choice_same Unfold Stats h = absurd (true≢false (sym h))
choice_same Workers Budget h = absurd (true≢false (sym h))
choice_same Workers Unfold h = absurd (true≢false (sym h))
choice_same Workers Workers h = refl
choice_same Workers Fuel h = absurd (true≢false (sym h))
choice_same Workers Stats h = absurd (true≢false (sym h))
choice_same Fuel Budget h = absurd (true≢false (sym h))
choice_same Fuel Unfold h = absurd (true≢false (sym h))
choice_same Fuel Workers h = absurd (true≢false (sym h))
choice_same Fuel Fuel h = refl
choice_same Fuel Stats h = absurd (true≢false (sym h))
choice_same Stats Budget h = absurd (true≢false (sym h))
choice_same Stats Unfold h = absurd (true≢false (sym h))
choice_same Stats Workers h = absurd (true≢false (sym h))
choice_same Stats Fuel h = absurd (true≢false (sym h))
choice_same Stats Stats h = refl

choice_refl : (c : Choice) → choice_eq c c ≡ true
choice_refl Budget = refl
choice_refl Unfold = refl
choice_refl Workers = refl
choice_refl Fuel = refl
choice_refl Stats = refl

any_left : {X : Type 0} (p : X → Bool) (xs ys : List X) → list_any p xs ≡ true → list_any p (xs ++ ys) ≡ true
any_left p [] ys h = absurd (true≢false (sym h))
any_left p (x ∷ xs) ys h = go (p x) h (any_left p xs ys)
  where
    go : (b : Bool) → (b || list_any p xs) ≡ true → (list_any p xs ≡ true → list_any p (xs ++ ys) ≡ true) → (b || list_any p (xs ++ ys)) ≡ true
    go true k next = refl
    go false k next = next k

any_last : {X : Type 0} (p : X → Bool) (xs : List X) (x : X) → p x ≡ true → list_any p (xs ++ x ∷ []) ≡ true
any_last p [] x h = ap (λ b. b || false) h
any_last p (y ∷ xs) x h = ap (λ b. p y || b) (any_last p xs x h) ∙ or-true (p y)

and_left : (a b : Bool) → (a && b) ≡ true → a ≡ true
and_left true b h = refl
and_left false b h = h

and_right : (a b : Bool) → (a && b) ≡ true → b ≡ true
and_right true b h = h
and_right false b h = absurd (true≢false (sym h))

not_true : (b : Bool) → not b ≡ true → b ≡ false
not_true true h = absurd (true≢false (sym h))
not_true false h = refl

-- an option that stands before isn't written again
new_apart : (c : Choice) (before os : List Written) → each_new before os ≡ true → list_any (λ q. choice_eq c q.choice) before ≡ true → written_as c os ≡ None
new_apart c before [] h m = refl
new_apart c before (q ∷ qs) h m =
    go (choice_eq c q.choice) refl (not_true (list_any (same_option q) before) (and_left (not (list_any (same_option q) before)) (each_new (before ++ q ∷ []) qs) h))
    (new_apart c (before ++ q ∷ []) qs (and_right (not (list_any (same_option q) before)) (each_new (before ++ q ∷ []) qs) h) (any_left (λ r. choice_eq c r.choice) before (q ∷ []) m))
  where
    go : (b : Bool) → choice_eq c q.choice ≡ b → list_any (same_option q) before ≡ false → written_as c qs ≡ None → cond b (Some q) (written_as c qs) ≡ None
    go true e n rest = absurd (true≢false (sym m ∙ ap (λ (d : Choice). list_any (λ (r : Written). choice_eq d r.choice) before) (choice_same c q.choice e) ∙ n))
    go false e n rest = rest

pub written-choice : (c : Choice) (os : List Written) (o : Written) → written_as c os ≡ Some o → o.choice ≡ c
written-choice c [] o h = cc
written-choice c (p ∷ os) o h = go (choice_eq c p.choice) refl h (written-choice c os o)
  where
    go : (b : Bool) → choice_eq c p.choice ≡ b → cond b (Some p) (written_as c os) ≡ Some o → (written_as c os ≡ Some o → o.choice ≡ c) → o.choice ≡ c
    go true e k next = let same : p ≡ o = cc in ap (λ (x : Written). x.choice) (sym same) ∙ sym (choice_same c p.choice e)
    go false e k next = next k

-- an option that isn't allowed, and is the one that is found under its name
pub record Bad (os : List Written) : Type 0 where
  pub option : Written
  pub found : written_as option.choice os ≡ Some option
  pub bad : is_allowed option ≡ false

first_bad : (before os : List Written) → each_new before os ≡ true → list_all is_allowed os ≡ false → Bad os
first_bad before [] h a = absurd (true≢false a)
first_bad before (p ∷ ps) h a =
    go (is_allowed p) refl a (first_bad (before ++ p ∷ []) ps rest)
  where
    rest : each_new (before ++ p ∷ []) ps ≡ true
    rest = and_right (not (list_any (same_option p) before)) (each_new (before ++ p ∷ []) ps) h

    later : (o : Written) (b : Bool) → choice_eq o.choice p.choice ≡ b → written_as o.choice ps ≡ Some o → cond b (Some p) (written_as o.choice ps) ≡ Some o
    later o true e f = absurd (some_no o (sym f ∙ new_apart o.choice (before ++ p ∷ []) ps rest (any_last (λ q. choice_eq o.choice q.choice) before p e)))
      where
        some_no : (x : Written) → Some x ≡ None → ⊥
        some_no x e = cc
    later o false e f = f

    go : (b : Bool) → is_allowed p ≡ b → (b && list_all is_allowed ps) ≡ false → (list_all is_allowed ps ≡ false → Bad ps) → Bad (p ∷ ps)
    go true e k next =
        let b : Bad ps = next k in
        record { option = b.option; found = later b.option (choice_eq b.option.choice p.choice) refl b.found; bad = b.bad }
    go false e k next = record { option = p; found = ap (λ b. cond b (Some p) (written_as p.choice ps)) (choice_refl p.choice); bad = e }

or_none : (a b : Bool) → (a || b) ≡ false → (a ≡ false) × (b ≡ false)
or_none true b h = absurd (true≢false h)
or_none false b h = (refl, h)

no_number : (x : Option ℕ) → is_some x ≡ false → x ≡ None
no_number None h = refl
no_number (Some n) h = absurd (true≢false h)

-- what is said of an option's number, by the options as they are written
abbrev pub said : Choice → List Written → Option (Option ℕ)
said c os = number_said c (option_map (λ o. o.text) (written_as c os))

bad_said : (os : List Written) (b : Bad os) → said b.option.choice os ≡ None
bad_said os b =
    ap (λ w. number_said b.option.choice (option_map (λ (o : Written). o.text) w)) b.found
    ∙ ap (option_map (λ n. Some n)) (no_number (choice_number b.option.choice b.option.text) (or_none (is_flag b.option.choice) (is_some (choice_number b.option.choice b.option.text)) b.bad).1)

-- where no number is refused, each option is allowed
pub all_allowed : (os : List Written) → each_new [] os ≡ true → ((c : Choice) → is_flag c ≡ false → said c os ≡ None → ⊥) → list_all is_allowed os ≡ true
all_allowed os h good = go (list_all is_allowed os) refl
  where
    go : (b : Bool) → list_all is_allowed os ≡ b → list_all is_allowed os ≡ true
    go true e = e
    go false e =
        let b : Bad os = first_bad [] os h e in
        absurd (good b.option.choice (or_none (is_flag b.option.choice) (is_some (choice_number b.option.choice b.option.text)) b.bad).0 (bad_said os b))

and_no : (b : Bool) → (b && false) ≡ false
and_no true = refl
and_no false = refl

not_all_allowed : (c : Choice) (os : List Written) (o : Written) → written_as c os ≡ Some o → is_allowed o ≡ false → list_all is_allowed os ≡ false
not_all_allowed c [] o f h = cc
not_all_allowed c (p ∷ os) o f h = go (choice_eq c p.choice) f (not_all_allowed c os o)
  where
    go : (b : Bool) → cond b (Some p) (written_as c os) ≡ Some o → (written_as c os ≡ Some o → is_allowed o ≡ false → list_all is_allowed os ≡ false) → (is_allowed p && list_all is_allowed os) ≡ false
    go true k next = let same : p ≡ o = cc in ap (λ (x : Written). is_allowed x && list_all is_allowed os) same ∙ ap (λ b. b && list_all is_allowed os) h
    go false k next = ap (λ b. is_allowed p && b) (next k h) ∙ and_no (is_allowed p)

no_some : (x : Option ℕ) → option_map (λ n. Some n) x ≡ None → x ≡ None
no_some None h = refl
no_some (Some n) h = cc

-- where a number is refused, the options are
pub refused_number : (c : Choice) (os : List Written) → is_flag c ≡ false → said c os ≡ None → checked (Some os) ≡ None
refused_number c os n h = go (written_as c os) refl h
  where
    no_all : (b : Bool) → cond (b && false) (Some os) None ≡ None
    no_all true = refl
    no_all false = refl

    not_ok : (o : Written) → written_as c os ≡ Some o → choice_number c o.text ≡ None → is_allowed o ≡ false
    not_ok o f e = ap (λ (d : Choice). is_flag d || is_some (choice_number d o.text)) (written-choice c os o f) ∙ ap (λ b. b || is_some (choice_number c o.text)) n ∙ ap is_some e

    go : (w : Option Written) → written_as c os ≡ w → number_said c (option_map (λ (o : Written). o.text) w) ≡ None → checked (Some os) ≡ None
    go None f k = cc
    go (Some o) f k =
        ap (λ b. cond (each_new [] os && b) (Some os) None) (not_all_allowed c os o f (not_ok o f (no_some (choice_number c o.text) k))) ∙ no_all (each_new [] os)

-- a number that is said is the option's
pub said-number : (c : Choice) (os : List Written) (n : Option ℕ) → said c os ≡ Some n → number_of c os ≡ n
said-number c os n h = go (written_as c os) refl h
  where
    same : (a b : Option ℕ) → Some a ≡ Some b → a ≡ b
    same a b e = cc

    of_some : (x : Option ℕ) → option_map (λ k. Some k) x ≡ Some n → x ≡ n
    of_some None e = cc
    of_some (Some k) e = same (Some k) n e

    go : (w : Option Written) → written_as c os ≡ w → number_said c (option_map (λ (o : Written). o.text) w) ≡ Some n → option_and_then (λ (o : Written). choice_number o.choice o.text) w ≡ n
    go None f k = same None n k
    go (Some o) f k = ap (λ (d : Choice). choice_number d o.text) (written-choice c os o f) ∙ of_some (choice_number c o.text) k

-- ---- all of it

pub options_told : (cs : List Choice) (ws : List Text) (os : List Written) (o : Options) → written cs None ws ≡ Some os → each_new [] os ≡ true → said Budget os ≡ Some o.budget → said Unfold os ≡ Some o.unfoldings
    → said Workers os ≡ Some o.workers → said Fuel os ≡ Some o.fuel → is_some (written_as Stats os) ≡ o.stats → options_in cs ws ≡ Some o
options_told cs ws os o e once b u w f s =
    ap (λ x. option_map options_of (checked x)) e
    ∙ ap (λ x. option_map options_of (cond x (Some os) None)) (ap (λ x. x && list_all is_allowed os) once ∙ all_allowed os once good)
    ∙ ap (λ (x : Options). Some x) (λ i. record {
      budget = said-number Budget os o.budget b i;
      unfoldings = said-number Unfold os o.unfoldings u i;
      workers = said-number Workers os o.workers w i;
      fuel = said-number Fuel os o.fuel f i;
      stats = s i;
    })
  where
    some_no : (x : Option ℕ) → Some x ≡ None → ⊥
    some_no x h = cc

    good : (c : Choice) → is_flag c ≡ false → said c os ≡ None → ⊥
    good Budget n h = some_no o.budget (sym b ∙ h)
    good Unfold n h = some_no o.unfoldings (sym u ∙ h)
    good Workers n h = some_no o.workers (sym w ∙ h)
    good Fuel n h = some_no o.fuel (sym f ∙ h)
    good Stats n h = absurd (true≢false n)

pub options_refused : (cs : List Choice) (ws : List Text) (os : List Written) (c : Choice) → written cs None ws ≡ Some os → is_flag c ≡ false → said c os ≡ None → options_in cs ws ≡ None
options_refused cs ws os c e n h = ap (λ x. option_map options_of (checked x)) e ∙ ap (option_map options_of) (refused_number c os n h)

pub none_told : (cs : List Choice) (ws : List Text) → checked (written cs None ws) ≡ None → options_in cs ws ≡ None
none_told cs ws h = ap (option_map options_of) h

-- the flag as it is read
pub flag_read : (w : Option Written) (t : Option Text) (b : Bool) → ReadsFlag w t → (t ≡ None → b ≡ false) → (t ≡ Some (codes "true") → b ≡ true) → (t ≡ Some (codes "false") → b ≡ false) → is_some w ≡ b
flag_read (Some o) t b r n y f = sym (y r)
flag_read None t b r n y f = elim r [
  | inl e ↦ sym (n e)
  | inr e ↦ sym (f e)
]
