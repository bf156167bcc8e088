-- What the calls of `clap` come to.
use Rattle.std.proofs.Common.{◌≡◌, inl, inr, ℕ, ◌+◌, ◌<◌, ◌≤◌, ◌&&◌, Bool, true, false, cond, List, [], take, length, get_or, Result, Ok, Err, IsErrAnd, Option, Some, None, option_map, option_and_then, unwrap_or, refl, sym, ap, ◌∙◌, subst, nat_le, leb-true, arith}
use Rattle.std.specs.List.{list_all}
use Rattle.std.proofs.lemmas.List.{map_more}
use Rattle.clap.specs.Faults.{fault_of, is_simple_and_free}
use Rattle.clap.specs.Kinds.{HasKind}
use Rattle.clap.specs.Matches.{first_value, found_of}
use Rattle.clap.specs.Simple.{App, HasMatchesOf, with_rule}
use Rattle.clap.specs.Values.{kind_of}
use Rattle.clap.specs.declared.error.Error.{Error}
use Rattle.clap.specs.declared.error.kind.ErrorKind.TheVariants as kind
use Rattle.clap.specs.declared.parser.matches.ArgMatches.{ArgMatches}
use Rattle.cyp_lex.specs.Lexing.{decimal_value}
use Rattle.cyp_space.specs.SettingsValue.{AreSettings}
use Rattle.cyp_term.specs.Answers.{GivesWhere}
use Rattle.cyp_term.specs.declared.fail.Fail.{Fail}
use Rattle.cyp_term.specs.declared.fail.Fail.TheVariants.{Named, NoMemory}
use Rattle.cyp_words.specs.Matches.{Finds, Parses, number_said}
use Rattle.cyp_words.specs.Options.{Text, Written, choice_name, choice_number, is_flag, is_number, number_within, written}
use Rattle.cyp_words.specs.Ready.{is_ready}
use Rattle.cyp_words.specs.Rules.{app, rule}
use Rattle.cyp_words.specs.Words.{checked, number_of, options_in, options_of, written_as}
use Rattle.cyp_words.specs.declared.choice.Choice.{Choice}
use Rattle.cyp_words.specs.declared.choice.Choice.TheVariants.{Budget, Unfold, Workers}
use Rattle.cyp_words.specs.declared.command.Usage.{Usage}
use Rattle.cyp_words.specs.declared.options.Options.{Options}
use Rattle.cyp_words.proofs.Found.{finds, refuses, simple_and_free}
use Rattle.cyp_words.proofs.Once.{none_told, options_refused, said, written-choice}

-- one option more
pub app_more : (cs : List Choice) (i : ℕ) (d : Choice) → i < length cs → with_rule (app (take i cs)) (rule (get_or cs i d)) ≡ app (take (i + 1) cs)
app_more cs i d lt = ap (λ rs. record { top = record (app cs).top { rules = rs }; subs = [] }) (sym (map_more rule cs i d lt))

pub parse_ok : (cs : List Choice) (ws : List Text) (a : App) (m : ArgMatches) → a ≡ app cs → list_all is_ready ws ≡ true → (is_simple_and_free a ≡ true → fault_of a ws ≡ []) → HasMatchesOf a ws m → Finds cs ws m
parse_ok cs ws a m e ready f h =
    finds cs ws m ready (subst (λ x. fault_of x ws ≡ []) e (f (ap is_simple_and_free e ∙ simple_and_free cs))) (subst (λ x. HasMatchesOf x ws m) e h)

pub parse_err : (cs : List Choice) (ws : List Text) (a : App) (x : Error) → a ≡ app cs → list_all is_ready ws ≡ true → (is_simple_and_free a ≡ true → HasKind (fault_of a ws) x)
    → (kind_of x ≡ kind.OutOfMemory → ⊥) → checked (written cs None ws) ≡ None
parse_err cs ws a x e ready f n = elim (subst (λ y. HasKind (fault_of y ws) x) e (f (ap is_simple_and_free e ∙ simple_and_free cs))) [
  | inl o ↦ absurd (n o)
  | inr k ↦ refuses cs ws (kind_of x) ready k
]

-- ---- refusals handed on

pub parses_err : (cs : List Choice) (ws : List Text) (e : Fail Usage) → Parses cs ws (Err e) → GivesWhere (options_in cs ws) (Err e)
parses_err cs ws (Named u) h = none_told cs ws h
parses_err cs ws NoMemory h = tt

pub said_by : (cs : List Choice) (ws : List Text) (m : ArgMatches) (f : Finds cs ws m) (c : Choice) → is_flag c ≡ false → said c f.os ≡ number_said c (first_value (found_of m) (choice_name c))
said_by cs ws m f c n = ap (number_said c) (sym (f.texts c n))

pub number_err : (cs : List Choice) (ws : List Text) (m : ArgMatches) (f : Finds cs ws m) (c : Choice) (e : Fail Usage) → is_flag c ≡ false
    → GivesWhere (number_said c (first_value (found_of m) (choice_name c))) (Err e) → GivesWhere (options_in cs ws) (Err e)
number_err cs ws m f c (Named u) n h = options_refused cs ws f.os c f.all n (said_by cs ws m f c n ∙ h)
number_err cs ws m f c NoMemory n h = tt

-- ---- bounds

within : (least most : ℕ) (w : Option Written) (d : ℕ) → least ≤ d → d ≤ most
    → (least ≤ unwrap_or (option_and_then (λ (o : Written). number_within least most o.text) w) d) × (unwrap_or (option_and_then (λ (o : Written). number_within least most o.text) w) d ≤ most)
within least most None d l m = (l, m)
within least most (Some o) d l m = go (is_number o.text) (nat_le least v) (nat_le v most) refl refl
  where
    v : ℕ
    v = decimal_value 0 o.text

    go : (a b c : Bool) → nat_le least (decimal_value 0 o.text) ≡ b → nat_le (decimal_value 0 o.text) most ≡ c
        → (least ≤ unwrap_or (cond (a && b && c) (Some (decimal_value 0 o.text)) None) d) × (unwrap_or (cond (a && b && c) (Some (decimal_value 0 o.text)) None) d ≤ most)
    go true true true e f = (leb-true least (decimal_value 0 o.text) e, leb-true (decimal_value 0 o.text) most f)
    go true true false e f = (l, m)
    go true false c e f = (l, m)
    go false b c e f = (l, m)

-- the number is read by the option's own bounds
number-own : (c : Choice) (os : List Written) → number_of c os ≡ option_and_then (λ (o : Written). choice_number c o.text) (written_as c os)
number-own c os = go (written_as c os) refl
  where
    go : (w : Option Written) → written_as c os ≡ w → option_and_then (λ (o : Written). choice_number o.choice o.text) w ≡ option_and_then (λ (o : Written). choice_number c o.text) w
    go None e = refl
    go (Some o) e = ap (λ d. choice_number d o.text) (written-choice c os o e)

in_bounds : (os : List Written) → AreSettings (unwrap_or (number_of Budget os) 20000) (unwrap_or (number_of Unfold os) 2) (unwrap_or (number_of Workers os) 1) 500000
in_bounds os =
    let b = subst (λ n. (1 ≤ unwrap_or n 20000) × (unwrap_or n 20000 ≤ 100000)) (sym (number-own Budget os)) (within 1 100000 (written_as Budget os) 20000 (omega arith) (omega arith)) in
    let u = subst (λ n. (0 ≤ unwrap_or n 2) × (unwrap_or n 2 ≤ 3)) (sym (number-own Unfold os)) (within 0 3 (written_as Unfold os) 2 (omega arith) (omega arith)) in
    let w = subst (λ n. (1 ≤ unwrap_or n 1) × (unwrap_or n 1 ≤ 32)) (sym (number-own Workers os)) (within 1 32 (written_as Workers os) 1 (omega arith) (omega arith)) in
    record {
      some_budget = b.0;
      most_budget = b.1;
      most_unfold = u.1;
      some_workers = w.0;
      most_workers = w.1;
      some_nodes = omega arith;
      most_nodes = omega arith;
    }

-- what options say is in the bounds of a search
pub told_bounds : (cs : List Choice) (ws : List Text) (o : Options) → options_in cs ws ≡ Some o → AreSettings (unwrap_or o.budget 20000) (unwrap_or o.unfoldings 2) (unwrap_or o.workers 1) 500000
told_bounds cs ws o h = go (checked (written cs None ws)) h
  where
    same : (a b : Options) → Some a ≡ Some b → a ≡ b
    same a b e = cc

    go : (x : Option (List Written)) → option_map options_of x ≡ Some o → AreSettings (unwrap_or o.budget 20000) (unwrap_or o.unfoldings 2) (unwrap_or o.workers 1) 500000
    go None e = cc
    go (Some os) e = subst (λ (p : Options). AreSettings (unwrap_or p.budget 20000) (unwrap_or p.unfoldings 2) (unwrap_or p.workers 1) 500000) (same (options_of os) o e) (in_bounds os)

-- the error that was handed on
pub handed_on : {A : Type 0} (x : Option A) (r : Result A (Fail Usage)) (e : Fail Usage) → IsErrAnd r (λ y. y ≡ e) → GivesWhere x (Err e) → GivesWhere x r
handed_on x (Ok y) e h a = absurd h
handed_on x (Err y) e h a = subst (λ z. GivesWhere x (Err z)) (sym h) a
