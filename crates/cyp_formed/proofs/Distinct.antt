-- Names that differ, and that their variables do.
use Rattle.std.proofs.Common.{List, [], ap, cond, false, inl, inr, map, not, refl, sym, true, ◌++◌, ◌∙◌, ◌∷◌, ◌≡◌, ◌≢◌}
use Rattle.std.specs.Prelude.{Bool}
use Rattle.std.specs.List.{list_any}
use Rattle.std.proofs.lemmas.Bool.{and_from}
use Rattle.std.proofs.lemmas.Slice.Eq.{bytes_eq-Decides}
use Rattle.cyp_heap.specs.Formed.{all_differ}
use Rattle.cyp_term.specs.Terms.{var_eq, var_in, with_all_new}
use Rattle.cyp_term.specs.declared.term.Var.{Var}
use Rattle.cyp_term.proofs.Equality.{Decides-var_eq}
use Rattle.cyp_term.proofs.Lists.{Among, Among-cases, Among-right, map_from, some_from, some_out}
use Rattle.cyp_names.specs.ReadTerms.{Scope, use_var}
use Rattle.cyp_names.specs.Uses.{Use, same_name}
use Rattle.cyp_names.proofs.ScopeNames.{Has, vars_differ}

-- no two of these have one name
abbrev pub Distinct : Scope → Type 0
Distinct [] = Unit {0}
Distinct (u ∷ us) = ((w : Use) → Among w us → u.name.text ≢ w.name.text) × Distinct us

distinct_snoc : (xs : Scope) (y : Use) → Distinct xs → ((x : Use) → Among x xs → x.name.text ≢ y.name.text) → Distinct (xs ++ y ∷ [])
distinct_snoc [] y d n = ((λ w m. absurd m), tt)
distinct_snoc (x ∷ xs) y d n = (first, distinct_snoc xs y d.1 (λ w m. n w (inr m)))
  where
    first : (w : Use) → Among w (xs ++ y ∷ []) → x.name.text ≢ w.name.text
    first w m = elim (Among-cases w xs (y ∷ []) m) [
      | inl a ↦ d.0 w a
      | inr b ↦ elim b [ inl s ↦ (λ e. n x (inl refl) (e ∙ ap (λ (u : Use). u.name.text) s)) | inr k ↦ absurd k ]
    ]

new_differs : (xs : Scope) (y : Use) → list_any (same_name y) xs ≡ false → (x : Use) → Among x xs → x.name.text ≢ y.name.text
new_differs xs y e x m same =
    let yes : list_any (same_name y) xs ≡ true = some_from (same_name y) x xs m ((bytes_eq-Decides y.name.text x.name.text).1 (sym same)) in
    absurd cc

distinct_by : (xs : Scope) (y : Use) (ys : Scope) (t : Bool) → list_any (same_name y) xs ≡ t → Distinct xs → ((zs : Scope) → Distinct zs → Distinct (with_all_new same_name zs ys))
    → Distinct (with_all_new same_name (cond t xs (xs ++ y ∷ [])) ys)
distinct_by xs y ys true e d ih = ih xs d
distinct_by xs y ys false e d ih = ih (xs ++ y ∷ []) (distinct_snoc xs y d (new_differs xs y e))

-- what grows without repeats has none
pub distinct_all : (xs ys : Scope) → Distinct xs → Distinct (with_all_new same_name xs ys)
distinct_all xs [] d = d
distinct_all xs (y ∷ ys) d = distinct_by xs y ys (list_any (same_name y) xs) refl d (λ zs k. distinct_all zs ys k)

pub distinct_right : (xs ys : Scope) → Distinct (xs ++ ys) → Distinct ys
distinct_right [] ys d = d
distinct_right (x ∷ xs) ys d = distinct_right xs ys d.1

pub distinct_apart : (xs ys : Scope) → Distinct (xs ++ ys) → (x y : Use) → Among x xs → Among y ys → x.name.text ≢ y.name.text
distinct_apart [] ys d x y m n = absurd m
distinct_apart (z ∷ xs) ys d x y (inl s) n = λ e. d.0 y (Among-right y xs ys n) (ap (λ (u : Use). u.name.text) (sym s) ∙ e)
distinct_apart (z ∷ xs) ys d x y (inr m) n = distinct_apart xs ys d.1 x y m n

-- ---- variables

pub not_in : (v : Var) (vs : List Var) → ((w : Var) → Among w vs → v ≢ w) → var_in v vs ≡ false
not_in v vs n = by_test (var_in v vs) refl
  where
    by_test : (t : Bool) → var_in v vs ≡ t → t ≡ false
    by_test false e = refl
    by_test true e = let f = some_out (var_eq v) vs e in absurd (n f.0 f.1 ((Decides-var_eq v f.0).0 f.2))

-- the variables of different names of the scope differ
pub differ_mapped : (sc us : Scope) → ((u : Use) → Among u us → Has sc u.name.text) → Distinct us → all_differ (map (use_var sc) us) ≡ true
differ_mapped sc [] h d = refl
differ_mapped sc (u ∷ us) h d =
    and_from (not (var_in (use_var sc u) (map (use_var sc) us))) (all_differ (map (use_var sc) us)) (ap not (not_in (use_var sc u) (map (use_var sc) us) apart))
    (differ_mapped sc us (λ w m. h w (inr m)) d.1)
  where
    apart : (w : Var) → Among w (map (use_var sc) us) → use_var sc u ≢ w
    apart w m =
        let f = map_from (use_var sc) w us m in
        λ e. vars_differ sc u.name.text f.0.name.text (h u (inl refl)) (h f.0 (inr f.1)) (d.0 f.0 f.1) (e ∙ f.2)
