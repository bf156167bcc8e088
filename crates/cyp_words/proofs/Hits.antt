-- The option that a name is of, as the words and `clap` find it.
use Rattle.std.proofs.Common.{◌≡◌, take, codes, nat_le, ℕ, suc, ◌==◌, ◌&&◌, Bool, true, false, cond, List, [], ◌∷◌, map, length, drop, Option, Some, None, option_map, refl, sym, ap, ◌∙◌, bytes_eq, eqb, find, true≢false}
use Rattle.std.specs.List.{list_all, list_any}
use Rattle.std.specs.Option.{option_map_or}
use Rattle.std.proofs.Math.Bool.{and-false, or-false}
use Rattle.std.proofs.lemmas.Bool.Decides.{Decides-eqb}
use Rattle.std.proofs.lemmas.Slice.Eq.{bytes_eq-Decides}
use Rattle.clap.specs.Simple.{filled, filled_from}
use Rattle.clap.specs.Walk.{Rule, arg_by_id, arg_by_index, arg_by_long}
use Rattle.cyp_lex.specs.Lexing.{begins_with, is_digit}
use Rattle.cyp_words.specs.Options.{Meaning, Takes, Text, Unknown, Whole, alone, choice_name, choice_word, is_flag, is_number, meaning, with_equals, with_text}
use Rattle.cyp_words.specs.Ready.{is_long}
use Rattle.cyp_words.specs.Rules.{rule}
use Rattle.cyp_words.specs.declared.choice.Choice.{Choice}
use Rattle.cyp_words.specs.declared.choice.Choice.TheVariants.{Budget, Fuel, Stats, Unfold, Workers}
use Rattle.cyp_words.proofs.Cuts.{cut, eqb-flip, read_by-cut}

-- what `clap` makes of an option
abbrev pub filled_rule : Choice → Rule
filled_rule c = filled (rule c)

pub filled_from-rules : (i : ℕ) (cs : List Choice) → filled_from i (map rule cs) ≡ map filled_rule cs
filled_from-rules i [] = refl
filled_from-rules i (c ∷ cs) = ap (λ rs. filled_rule c ∷ rs) (filled_from-rules i cs)

-- the first option of this name
abbrev pub hit : List Choice → Text → Option Choice
hit cs name = find (λ c. bytes_eq (choice_name c) name) cs

pub arg_by_long-hit : (cs : List Choice) (name : Text) → arg_by_long (map filled_rule cs) name ≡ option_map filled_rule (hit cs name)
arg_by_long-hit [] name = refl
arg_by_long-hit (c ∷ cs) name = rw (or-false (bytes_eq (choice_name c) name)) (go (bytes_eq (choice_name c) name) (arg_by_long-hit cs name))
  where
    go : (b : Bool) → arg_by_long (map filled_rule cs) name ≡ option_map filled_rule (hit cs name)
        → cond b (Some (filled_rule c)) (arg_by_long (map filled_rule cs) name) ≡ option_map filled_rule (cond b (Some c) (hit cs name))
    go true e = refl
    go false e = e

pub arg_by_id-hit : (cs : List Choice) (name : Text) → arg_by_id (map filled_rule cs) name ≡ option_map filled_rule (hit cs name)
arg_by_id-hit [] name = refl
arg_by_id-hit (c ∷ cs) name = go (bytes_eq (choice_name c) name) (arg_by_id-hit cs name)
  where
    go : (b : Bool) → arg_by_id (map filled_rule cs) name ≡ option_map filled_rule (hit cs name)
        → cond b (Some (filled_rule c)) (arg_by_id (map filled_rule cs) name) ≡ option_map filled_rule (cond b (Some c) (hit cs name))
    go true e = refl
    go false e = e

pub arg_by_index-none : (cs : List Choice) (i : ℕ) → arg_by_index (map filled_rule cs) i ≡ None
arg_by_index-none [] i = refl
arg_by_index-none (c ∷ cs) i = arg_by_index-none cs i

-- the option that a name hits has that name
hit-name : (cs : List Choice) (name : Text) (c : Choice) → hit cs name ≡ Some c → name ≡ choice_name c
hit-name [] name c e = cc
hit-name (d ∷ cs) name c e = go (bytes_eq (choice_name d) name) refl e (hit-name cs name c)
  where
    go : (b : Bool) → bytes_eq (choice_name d) name ≡ b → cond b (Some d) (hit cs name) ≡ Some c → (hit cs name ≡ Some c → name ≡ choice_name c) → name ≡ choice_name c
    go true is found next = let same : d ≡ c = cc in sym ((bytes_eq-Decides (choice_name d) name).0 is) ∙ ap choice_name same
    go false is found next = next found

-- and its own name hits it
pub hit-again : (cs : List Choice) (name : Text) (c : Choice) → hit cs name ≡ Some c → hit cs (choice_name c) ≡ Some c
hit-again cs name c e = ap (hit cs) (sym (hit-name cs name c e)) ∙ e

-- what a word with this name, and with this text behind `=`, is
abbrev pub meant : Option Choice → Option Text → Meaning
meant None v = Unknown
meant (Some c) None = alone c
meant (Some c) (Some text) = with_text c text

no_equals : (c : Choice) → list_any (λ x. x == 61) (choice_name c) ≡ false
no_equals Budget = refl
no_equals Unfold = refl
no_equals Workers = refl
no_equals Fuel = refl
no_equals Stats = refl

pub meaning-long : (cs : List Choice) (t : Text) → meaning cs (45 ∷ 45 ∷ t) ≡ meant (hit cs (cut t).0) (cut t).1
meaning-long [] t = refl
meaning-long (c ∷ cs) t =
    read_by-cut (choice_name c) t (alone c) (with_text c) (meaning cs (45 ∷ 45 ∷ t)) (no_equals c)
    ∙ go (bytes_eq (choice_name c) (cut t).0) (cut t).1 (meaning-long cs t)
  where
    go : (b : Bool) (v : Option Text) → meaning cs (45 ∷ 45 ∷ t) ≡ meant (hit cs (cut t).0) v
        → cond b (option_map_or (with_text c) v (alone c)) (meaning cs (45 ∷ 45 ∷ t)) ≡ meant (cond b (Some c) (hit cs (cut t).0)) v
    go true None e = refl
    go true (Some text) e = refl
    go false v e = e

-- no other word is an option
pub meaning-other : (cs : List Choice) (x : ℕ) (t : Text) → eqb x 45 ≡ false → meaning cs (x ∷ t) ≡ Unknown
meaning-other [] x t e = refl
meaning-other (c ∷ cs) x t e = rw (eqb-flip 45 x, e) (meaning-other cs x t e)

and_first : (a b : Bool) → (a && b) ≡ true → a ≡ true
and_first true b h = refl
and_first false b h = h

and_three : (p q x : Bool) → (p && q) ≡ false → (p && (q && x)) ≡ false
and_three true q x h = rw h
and_three false q x h = refl

-- a word that is no `--` with more behind it isn't one of this beginning
short_against : (n : ℕ) (ns w : Text) → is_long w ≡ false → (bytes_eq w (45 ∷ 45 ∷ n ∷ ns) ≡ false) × (begins_with w (45 ∷ 45 ∷ n ∷ ns) ≡ false)
short_against n ns [] h = (refl, refl)
short_against n ns (a ∷ []) h = (and-false (eqb a 45), and-false (eqb 45 a))
short_against n ns (a ∷ b ∷ []) h =
    (ap (λ r. eqb a 45 && r) (and-false (eqb b 45)) ∙ and-false (eqb a 45), ap (λ r. eqb 45 a && r) (and-false (eqb 45 b)) ∙ and-false (eqb 45 a))
short_against n ns (a ∷ b ∷ c ∷ t) h =
    (and_three (eqb a 45) (eqb b 45) (bytes_eq (c ∷ t) (n ∷ ns)) h, rw (eqb-flip 45 a, eqb-flip 45 b) (and_three (eqb a 45) (eqb b 45) (bytes_eq (n ∷ ns) (take (suc (length ns)) (c ∷ t))) h))

short_word : (c : Choice) (w : Text) → is_long w ≡ false → (bytes_eq w (choice_word c) ≡ false) × (begins_with w (with_equals c) ≡ false)
short_word Budget w h = ((short_against 98 (codes "udget") w h).0, (short_against 98 (codes "udget=") w h).1)
short_word Unfold w h = ((short_against 117 (codes "nfold") w h).0, (short_against 117 (codes "nfold=") w h).1)
short_word Workers w h = ((short_against 119 (codes "orkers") w h).0, (short_against 119 (codes "orkers=") w h).1)
short_word Fuel w h = ((short_against 102 (codes "uel") w h).0, (short_against 102 (codes "uel=") w h).1)
short_word Stats w h = ((short_against 115 (codes "tats") w h).0, (short_against 115 (codes "tats=") w h).1)

pub meaning-short : (cs : List Choice) (w : Text) → is_long w ≡ false → meaning cs w ≡ Unknown
meaning-short [] w h = refl
meaning-short (c ∷ cs) w h = rw ((short_word c w h).0, (short_word c w h).1) (meaning-short cs w h)

-- an option that takes the next word is no flag
pub takes-numbered : (cs : List Choice) (w : Text) (c : Choice) → meaning cs w ≡ Takes c → is_flag c ≡ false
takes-numbered [] w c e = absurd (no_takes e)
  where
    no_takes : Unknown ≡ Takes c → ⊥
    no_takes e = cc
takes-numbered (d ∷ cs) w c e = go (bytes_eq w (choice_word d)) (begins_with w (with_equals d)) (is_flag d) refl e (takes-numbered cs w c)
  where
    go : (a b f : Bool) → is_flag d ≡ f
        → cond a (cond f (Whole (record { choice = d; text = [] })) (Takes d)) (cond b (cond f Unknown (Whole (record { choice = d; text = drop (length (with_equals d)) w }))) (meaning cs w)) ≡ Takes c
        → (meaning cs w ≡ Takes c → is_flag c ≡ false) → is_flag c ≡ false
    go true b true f e next = cc
    go true b false f e next = let same : d ≡ c = cc in ap is_flag (sym same) ∙ f
    go false true true f e next = cc
    go false true false f e next = cc
    go false false g f e next = next e

-- a long word begins with two hyphens and has more
pub record IsLong (w : Text) : Type 0 where
  pub first : ℕ
  pub rest : Text
  pub is : w ≡ 45 ∷ 45 ∷ first ∷ rest

pub long-parts : (w : Text) → is_long w ≡ true → IsLong w
long-parts [] h = absurd (true≢false (sym h))
long-parts (a ∷ []) h = absurd (true≢false (sym h))
long-parts (a ∷ b ∷ []) h = absurd (true≢false (sym h))
long-parts (a ∷ b ∷ c ∷ t) h = record {
  first = c;
  rest = t;
  is = λ i. (Decides-eqb a 45).0 (and_first (a == 45) (b == 45) h) i ∷ (Decides-eqb b 45).0 (and_second (a == 45) (b == 45) h) i ∷ c ∷ t;
}
  where
    and_second : (p q : Bool) → (p && q) ≡ true → q ≡ true
    and_second true q k = k
    and_second false q k = absurd (true≢false (sym k))

-- a long word is no number
last_false : (a b c : Bool) → c ≡ false → (a && b && c) ≡ false
last_false true true c h = h
last_false true false c h = refl
last_false false b c h = refl

pub hyphen_no_digit : (a : ℕ) → (a == 45) ≡ true → is_digit a ≡ false
hyphen_no_digit a e = let same : a ≡ 45 = (Decides-eqb a 45).0 e in rw same

pub long-no_number : (w : Text) → is_long w ≡ true → is_number w ≡ false
long-no_number [] h = refl
long-no_number (a ∷ []) h = absurd (true≢false (sym h))
long-no_number (a ∷ b ∷ []) h = absurd (true≢false (sym h))
long-no_number (a ∷ b ∷ c ∷ t) h =
    last_false (nat_le 1 (length (a ∷ b ∷ c ∷ t))) (nat_le (length (a ∷ b ∷ c ∷ t)) 7) (list_all is_digit (a ∷ b ∷ c ∷ t)) (ap (λ d. d && list_all is_digit (b ∷ c ∷ t)) (hyphen_no_digit a (and_first (a == 45) (b == 45) h)))

-- a number begins with a digit
pub number-first : (x : ℕ) (xs : Text) → is_number (x ∷ xs) ≡ true → eqb x 45 ≡ false
number-first x xs h = go (eqb x 45) refl
  where
    go : (b : Bool) → eqb x 45 ≡ b → eqb x 45 ≡ false
    go true e = absurd (true≢false (sym h ∙ last_false (nat_le 1 (length (x ∷ xs))) (nat_le (length (x ∷ xs)) 7) (list_all is_digit (x ∷ xs)) (ap (λ d. d && list_all is_digit xs) (hyphen_no_digit x e))))
    go false e = e
