-- The numbers of variables: a renaming that keeps sorts and tells all variables apart.
use Rattle.std.proofs.Common.{◌≡◌, ◌∙◌, [], ◌∷◌, List, Bool, true, false, cond, map, length, ℕ, suc, ◌+◌, ◌≤◌, ◌<◌, refl, ap, sym, inl, inr, subst, ⊎_elim, arith, le_refl}
use Rattle.std.proofs.lemmas.Bool.{both_ways, cases_Bool, cond-true}
use Rattle.cyp_goal.proofs.Live.{among_in, in_among}
use Rattle.cyp_goal.proofs.Rename.{IsRenaming}
use Rattle.cyp_goal.proofs.SameVars.{same_bool}
use Rattle.cyp_goal.specs.Numbering.{new_name, rank_from, rank_in}
use Rattle.cyp_term.proofs.Equality.{Decides-sort_eq, Decides-var_eq}
use Rattle.cyp_term.proofs.Lists.{Among}
use Rattle.cyp_term.specs.Terms.{sort_eq, var_eq, var_in}
use Rattle.cyp_term.specs.declared.term.Sort.{Sort}
use Rattle.cyp_term.specs.declared.term.Var.{Var}

pub rank_here : (k : ℕ) (u : Var) (us : List Var) (v : Var) → var_eq u v ≡ true → rank_from k (u ∷ us) v ≡ k
rank_here k u us v e = ap (λ b. elim b [ true ↦ k | false ↦ rank_from (cond (sort_eq u.sort v.sort) (suc k) k) us v ]) e

pub rank_next : (k : ℕ) (u : Var) (us : List Var) (v : Var) → var_eq u v ≡ false → rank_from k (u ∷ us) v ≡ rank_from (cond (sort_eq u.sort v.sort) (suc k) k) us v
rank_next k u us v e = ap (λ b. elim b [ true ↦ k | false ↦ rank_from (cond (sort_eq u.sort v.sort) (suc k) k) us v ]) e

next_least : (b : Bool) (k : ℕ) → k ≤ cond b (suc k) k
next_least true k = omega arith
next_least false k = omega arith

next_most : (b : Bool) (k : ℕ) → cond b (suc k) k ≤ suc k
next_most true k = omega arith
next_most false k = omega arith

rank_least : (k : ℕ) (vs : List Var) (v : Var) → k ≤ rank_from k vs v
rank_least k [] v = le_refl k
rank_least k (u ∷ us) v =
    ⊎_elim (λ e. let here : rank_from k (u ∷ us) v ≡ k = rank_here k u us v e in omega arith)
    (λ e. let next : rank_from k (u ∷ us) v ≡ rank_from (cond (sort_eq u.sort v.sort) (suc k) k) us v = rank_next k u us v e in
    let more : k ≤ cond (sort_eq u.sort v.sort) (suc k) k = next_least (sort_eq u.sort v.sort) k in
    let least : cond (sort_eq u.sort v.sort) (suc k) k ≤ rank_from (cond (sort_eq u.sort v.sort) (suc k) k) us v = rank_least (cond (sort_eq u.sort v.sort) (suc k) k) us v in
    omega arith)
    (cases_Bool (var_eq u v))

-- a variable that isn't the first is among the rest
pub among_rest : (u : Var) (us : List Var) (v : Var) → var_eq u v ≡ false → Among v (u ∷ us) → Among v us
among_rest u us v e (inl s) = absurd (both_ways (var_eq u v) e ((Decides-var_eq u v).1 (sym s)))
among_rest u us v e (inr k) = k

rank_most : (k : ℕ) (vs : List Var) (v : Var) → Among v vs → rank_from k vs v < k + length vs
rank_most k [] v m = absurd m
rank_most k (u ∷ us) v m =
    ⊎_elim (λ e. let here : rank_from k (u ∷ us) v ≡ k = rank_here k u us v e in omega arith)
    (λ e. let next : rank_from k (u ∷ us) v ≡ rank_from (cond (sort_eq u.sort v.sort) (suc k) k) us v = rank_next k u us v e in
    let few : cond (sort_eq u.sort v.sort) (suc k) k ≤ suc k = next_most (sort_eq u.sort v.sort) k in
    let most : rank_from (cond (sort_eq u.sort v.sort) (suc k) k) us v < cond (sort_eq u.sort v.sort) (suc k) k + length us
    = rank_most (cond (sort_eq u.sort v.sort) (suc k) k) us v (among_rest u us v e m) in
    omega arith)
    (cases_Bool (var_eq u v))

abbrev of_sort : Sort → ℕ → Var
of_sort s a = record { sort = s; number = a }

first_apart : (k : ℕ) (s : Sort) (u : Var) (us : List Var) (a b : ℕ) → var_eq u (of_sort s a) ≡ true → var_eq u (of_sort s b) ≡ false
    → rank_from k (u ∷ us) (of_sort s a) ≡ rank_from k (u ∷ us) (of_sort s b) → ⊥
first_apart k s u us a b e f h =
    let here : rank_from k (u ∷ us) (of_sort s a) ≡ k = rank_here k u us (of_sort s a) e in
    let same : u.sort ≡ s = ap (λ (v : Var). v.sort) ((Decides-var_eq u (of_sort s a)).0 e) in
    let next : rank_from k (u ∷ us) (of_sort s b) ≡ rank_from (suc k) us (of_sort s b)
    = rank_next k u us (of_sort s b) f ∙ ap (λ c. rank_from c us (of_sort s b)) (cond-true (sort_eq u.sort s) (suc k) k ((Decides-sort_eq u.sort s).1 same)) in
    let above : suc k ≤ rank_from (suc k) us (of_sort s b) = rank_least (suc k) us (of_sort s b) in
    omega arith

rank_once : (k : ℕ) (s : Sort) (vs : List Var) (a b : ℕ) → Among (of_sort s a) vs → rank_from k vs (of_sort s a) ≡ rank_from k vs (of_sort s b) → of_sort s a ≡ of_sort s b
rank_once k s [] a b m h = absurd m
rank_once k s (u ∷ us) a b m h =
    ⊎_elim
    (λ e. ⊎_elim (λ f. sym ((Decides-var_eq u (of_sort s a)).0 e) ∙ (Decides-var_eq u (of_sort s b)).0 f) (λ f. absurd (first_apart k s u us a b e f h)) (cases_Bool (var_eq u (of_sort s b))))
    (λ e. ⊎_elim (λ f. absurd (first_apart k s u us b a f e (sym h)))
    (λ f. rank_once (cond (sort_eq u.sort s) (suc k) k) s us a b (among_rest u us (of_sort s a) e m)
    (sym (rank_next k u us (of_sort s a) e) ∙ h ∙ rank_next k u us (of_sort s b) f))
    (cases_Bool (var_eq u (of_sort s b))))
    (cases_Bool (var_eq u (of_sort s a)))

-- ---- all variables

-- the variables of the list by their places, the others behind them
abbrev pub name_in : List Var → Var → Var
name_in vs v = record { sort = v.sort; number = cond (var_in v vs) (rank_in vs v) (length vs + v.number) }

pub name_in-new : (vs : List Var) (v : Var) → Among v vs → new_name vs v ≡ name_in vs v
name_in-new vs v k = ap (λ c. of_sort v.sort c) (sym (cond-true (var_in v vs) (rank_in vs v) (length vs + v.number) (among_in v vs k)))

number_apart : (vs : List Var) (s : Sort) (a b : ℕ) (i j : Bool) → var_in (of_sort s a) vs ≡ i → var_in (of_sort s b) vs ≡ j
    → cond i (rank_in vs (of_sort s a)) (length vs + a) ≡ cond j (rank_in vs (of_sort s b)) (length vs + b) → of_sort s a ≡ of_sort s b
number_apart vs s a b true j e f h = inside j f h
  where
    inside : (j : Bool) → var_in (of_sort s b) vs ≡ j → rank_in vs (of_sort s a) ≡ cond j (rank_in vs (of_sort s b)) (length vs + b) → of_sort s a ≡ of_sort s b
    inside true f h = rank_once 0 s vs a b (in_among (of_sort s a) vs e) h
    inside false f h =
        let most : rank_from 0 vs (of_sort s a) < 0 + length vs = rank_most 0 vs (of_sort s a) (in_among (of_sort s a) vs e) in
        absurd (no (rank_from 0 vs (of_sort s a)) (length vs) b most h)
      where
        no : (x l b : ℕ) → x < 0 + l → x ≡ l + b → ⊥
        no x l b m e = omega arith
number_apart vs s a b false true e f h =
    let most : rank_from 0 vs (of_sort s b) < 0 + length vs = rank_most 0 vs (of_sort s b) (in_among (of_sort s b) vs f) in
    absurd (no (rank_from 0 vs (of_sort s b)) (length vs) a most h)
  where
    no : (x l a : ℕ) → x < 0 + l → l + a ≡ x → ⊥
    no x l a m e = omega arith
number_apart vs s a b false false e f h = ap (of_sort s) (same (length vs) a b h)
  where
    same : (l a b : ℕ) → l + a ≡ l + b → a ≡ b
    same l a b e = omega arith

name_apart_at : (vs : List Var) (s t : Sort) (a b : ℕ) → s ≡ t → (name_in vs (of_sort s a)).number ≡ (name_in vs (of_sort t b)).number → of_sort s a ≡ of_sort t b
name_apart_at vs s t a b e =
    subst (λ x. (name_in vs (of_sort s a)).number ≡ (name_in vs (of_sort x b)).number → of_sort s a ≡ of_sort x b) e
    (number_apart vs s a b (var_in (of_sort s a) vs) (var_in (of_sort s b) vs) refl refl)

pub IsRenaming-name_in : (vs : List Var) → IsRenaming (name_in vs)
IsRenaming-name_in vs = record {
  apart = λ v w.
      let new = Decides-var_eq (name_in vs v) (name_in vs w) in
      let old = Decides-var_eq v w in
      same_bool (var_eq (name_in vs v) (name_in vs w)) (var_eq v w)
      (λ e. old.1 (name_apart_at vs v.sort w.sort v.number w.number (ap (λ (x : Var). x.sort) (new.0 e)) (ap (λ (x : Var). x.number) (new.0 e))))
      (λ e. new.1 (ap (name_in vs) (old.0 e)));
  sort = λ v. refl;
}

-- ---- places stay under a renaming
module _ (r : Var → Var) (is : IsRenaming r) where
  rank_from-rename : (k : ℕ) (vs : List Var) (v : Var) → rank_from k (map r vs) (r v) ≡ rank_from k vs v
  rank_from-rename k [] v = refl
  rank_from-rename k (u ∷ us) v =
      (λ i. elim (is.apart u v i) [ true ↦ k | false ↦ rank_from (cond (sort_eq (is.sort u i) (is.sort v i)) (suc k) k) (map r us) (r v) ])
      ∙ ap (λ n. elim (var_eq u v) [ true ↦ k | false ↦ n ]) (rank_from-rename (cond (sort_eq u.sort v.sort) (suc k) k) us v)

  pub rank_in-rename : (vs : List Var) (v : Var) → rank_in (map r vs) (r v) ≡ rank_in vs v
  rank_in-rename vs v = rank_from-rename 0 vs v

-- a variable that has its number keeps it
pub named_stays : (vs : List Var) (v : Var) → Among v vs → new_name (map (name_in vs) vs) (name_in vs v) ≡ name_in vs v
named_stays vs v k =
    ap (of_sort v.sort) (rank_in-rename (name_in vs) (IsRenaming-name_in vs) vs v) ∙ name_in-new vs v k
