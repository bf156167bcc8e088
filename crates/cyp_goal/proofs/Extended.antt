-- New names for some variables go on to new names for all.
use Rattle.std.proofs.Common.{◌≡◌, [], ◌∷◌, List, Bool, true, false, cond, map, ℕ, suc, ◌+◌, ◌<◌, refl, ap, sym, inl, inr, arith}
use Rattle.std.proofs.lemmas.Bool.{cond-true}
use Rattle.cyp_goal.proofs.Live.{among_in, in_among}
use Rattle.cyp_goal.proofs.Rename.{IsRenaming}
use Rattle.cyp_goal.proofs.SameVars.{same_bool}
use Rattle.cyp_goal.specs.Renamed.{AreNewNames}
use Rattle.cyp_term.proofs.Equality.{Decides-var_eq}
use Rattle.cyp_term.proofs.Lists.{Among, Among-map}
use Rattle.cyp_term.specs.Terms.{var_eq, var_in}
use Rattle.cyp_term.specs.declared.term.Var.{Var}

-- a number above those of the list
abbrev above : List Var → ℕ
above [] = 0
above (v ∷ vs) = suc v.number + above vs

below_above : (v : Var) (vs : List Var) → Among v vs → v.number < above vs
below_above v [] k = absurd k
below_above v (w ∷ ws) (inl e) = let same : v.number ≡ w.number = ap (λ (x : Var). x.number) e in omega arith
below_above v (w ∷ ws) (inr k) = let least : v.number < above ws = below_above v ws k in omega arith

module _ (r : Var → Var) (vs : List Var) (is : AreNewNames vs r) where
  -- a variable that isn't in the list gets a number above all the new ones
  abbrev outside : Var → Var
  outside v = record { sort = v.sort; number = above (map r vs) + v.number }

  abbrev pub extended : Var → Var
  extended v = cond (var_in v vs) (r v) (outside v)

  -- the variables of the list have the names that they were given
  pub extended_same : (v : Var) → Among v vs → extended v ≡ r v
  extended_same v k = cond-true (var_in v vs) (r v) (outside v) (among_in v vs k)

  sort_at : (v : Var) (b : Bool) → var_in v vs ≡ b → (cond b (r v) (outside v)).sort ≡ v.sort
  sort_at v true e = is.sort v e
  sort_at v false e = refl

  crossed : (v w : Var) → var_in v vs ≡ true → r v ≡ outside w → ⊥
  crossed v w e h =
      let least : (r v).number < above (map r vs) = below_above (r v) (map r vs) (Among-map r v vs (in_among v vs e)) in
      let same : (r v).number ≡ above (map r vs) + w.number = ap (λ (x : Var). x.number) h in
      omega arith

  outside_apart : (v w : Var) → outside v ≡ outside w → v ≡ w
  outside_apart v w h =
      let sorts = ap (λ (x : Var). x.sort) h in
      let numbers = same_rest (above (map r vs)) v.number w.number (ap (λ (x : Var). x.number) h) in
      λ i. record { sort = sorts i; number = numbers i }
    where
      same_rest : (a m n : ℕ) → a + m ≡ a + n → m ≡ n
      same_rest a m n e = omega arith

  apart_at : (v w : Var) (b c : Bool) → var_in v vs ≡ b → var_in w vs ≡ c → cond b (r v) (outside v) ≡ cond c (r w) (outside w) → v ≡ w
  apart_at v w true true e f h = is.injective v w e f h
  apart_at v w true false e f h = absurd (crossed v w e h)
  apart_at v w false true e f h = absurd (crossed w v f (sym h))
  apart_at v w false false e f h = outside_apart v w h

  tests_agree : (v w : Var) → var_eq (extended v) (extended w) ≡ var_eq v w
  tests_agree v w =
      let new = Decides-var_eq (extended v) (extended w) in
      let old = Decides-var_eq v w in
      same_bool (var_eq (extended v) (extended w)) (var_eq v w) (λ e. old.1 (apart_at v w (var_in v vs) (var_in w vs) refl refl (new.0 e))) (λ e. new.1 (ap extended (old.0 e)))

  pub extended_renames : IsRenaming extended
  extended_renames = record { apart = tests_agree; sort = λ v. sort_at v (var_in v vs) refl }
