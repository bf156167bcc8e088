-- Where no use of a name has a wrong sort, each use has the sort of its name.
use Rattle.std.proofs.Common.{List, None, Option, Some, [], append_assoc, ap, cond, false, inl, inr, refl, subst, sym, true, ℕ, ◌++◌, ◌∙◌, ◌∷◌, ◌≡◌, ◌≢◌}
use Rattle.std.specs.Prelude.{Bool}
use Rattle.std.specs.Str.{bytes_eq}
use Rattle.std.proofs.lemmas.Slice.Eq.{bytes_eq-Decides}
use Rattle.cyp_term.specs.Terms.{sort_eq, without_repeats}
use Rattle.cyp_term.specs.declared.term.Sort.{Sort}
use Rattle.cyp_term.proofs.Equality.{Decides-sort_eq}
use Rattle.cyp_term.proofs.Lists.{Among}
use Rattle.cyp_names.specs.NameFaults.{known_sort, sort_fault, sort_faults}
use Rattle.cyp_names.specs.ReadTerms.{sort_in}
use Rattle.cyp_names.specs.Uses.{Use, same_name}
use Rattle.cyp_formed.proofs.Distinct.{Distinct}
use Rattle.cyp_names.proofs.NoFaults.{none_both, test_true}
use Rattle.cyp_names.proofs.ScopeNames.{grow}

-- each of these has the sort that is known of its name
abbrev pub Agree : List Use → List Use → Type 0
Agree all us = (u : Use) → Among u us → known_sort all u.name.text ≡ Some u.sort

same_bytes : (a b : List ℕ) → a ≡ b → bytes_eq a b ≡ true
same_bytes a b e = (bytes_eq-Decides a b).1 e

other_bytes : (a b : List ℕ) → a ≢ b → bytes_eq a b ≡ false
other_bytes a b n = by_test (bytes_eq a b) refl
  where
    by_test : (t : Bool) → bytes_eq a b ≡ t → t ≡ false
    by_test false e = refl
    by_test true e = absurd (n ((bytes_eq-Decides a b).0 e))

known_behind : (xs ys : List Use) (a : List ℕ) → known_sort xs a ≡ None → known_sort (xs ++ ys) a ≡ known_sort ys a
known_behind [] ys a e = refl
known_behind (x ∷ xs) ys a e = by_test (bytes_eq x.name.text a) e (known_behind xs ys a)
  where
    by_test : (t : Bool) → cond t (Some x.sort) (known_sort xs a) ≡ None → (known_sort xs a ≡ None → known_sort (xs ++ ys) a ≡ known_sort ys a) → cond t (Some x.sort) (known_sort (xs ++ ys) a) ≡ known_sort ys a
    by_test true k ih = absurd cc
    by_test false k ih = ih k

known_keeps : (xs ys : List Use) (a : List ℕ) (s : Sort) → known_sort xs a ≡ Some s → known_sort (xs ++ ys) a ≡ Some s
known_keeps [] ys a s e = absurd cc
known_keeps (x ∷ xs) ys a s e = by_test (bytes_eq x.name.text a) e (known_keeps xs ys a s)
  where
    by_test : (t : Bool) → cond t (Some x.sort) (known_sort xs a) ≡ Some s → (known_sort xs a ≡ Some s → known_sort (xs ++ ys) a ≡ Some s) → cond t (Some x.sort) (known_sort (xs ++ ys) a) ≡ Some s
    by_test true k ih = k
    by_test false k ih = ih k

known_first : (u : Use) (us : List Use) → known_sort (u ∷ us) u.name.text ≡ Some u.sort
known_first u us = rw (same_bytes u.name.text u.name.text refl) refl

-- ---- uses without faults

head_agrees : (seen : List Use) (u : Use) (us : List Use) (k : Option Sort) → known_sort seen u.name.text ≡ k → sort_fault k u ≡ [] → known_sort (seen ++ (u ∷ us)) u.name.text ≡ Some u.sort
head_agrees seen u us None k e = known_behind seen (u ∷ us) u.name.text k ∙ known_first u us
head_agrees seen u us (Some s) k e =
    let same : s ≡ u.sort = (Decides-sort_eq s u.sort).0 (test_true (sort_eq s u.sort) _ [] e) in
    known_keeps seen (u ∷ us) u.name.text u.sort (k ∙ ap (λ (r : Sort). Some r) same)

pub uses_agree : (seen us : List Use) → sort_faults seen us ≡ [] → Agree (seen ++ us) us
uses_agree seen [] e w m = absurd m
uses_agree seen (u ∷ us) e w (inl s) =
    let first : sort_fault (known_sort seen u.name.text) u ≡ [] = (none_both (sort_fault (known_sort seen u.name.text) u) (sort_faults (seen ++ u ∷ []) us) e).0 in
    subst (λ (x : Use). known_sort (seen ++ (u ∷ us)) x.name.text ≡ Some x.sort) (sym s) (head_agrees seen u us (known_sort seen u.name.text) refl first)
uses_agree seen (u ∷ us) e w (inr m) =
    let rest : sort_faults (seen ++ u ∷ []) us ≡ [] = (none_both (sort_fault (known_sort seen u.name.text) u) (sort_faults (seen ++ u ∷ []) us) e).1 in
    subst (λ (all : List Use). known_sort all w.name.text ≡ Some w.sort) (append_assoc seen (u ∷ []) us) (uses_agree (seen ++ u ∷ []) us rest w m)

pub distinct_agree : (xs ys : List Use) → Distinct xs → Agree (xs ++ ys) xs
distinct_agree [] ys d w m = absurd m
distinct_agree (x ∷ xs) ys d w (inl s) = subst (λ (y : Use). known_sort (x ∷ (xs ++ ys)) y.name.text ≡ Some y.sort) (sym s) (known_first x (xs ++ ys))
distinct_agree (x ∷ xs) ys d w (inr m) = rw (other_bytes x.name.text w.name.text (d.0 w m)) (distinct_agree xs ys d.1 w m)

-- ---- the sort of a name

sort_agrees : (all us : List Use) → Agree all us → (u : Use) → Among u us → sort_in us u.name.text ≡ u.sort
sort_agrees all [] h u m = absurd m
sort_agrees all (w ∷ ws) h u m = by_test (bytes_eq w.name.text u.name.text) refl (sort_agrees all ws (λ x k. h x (inr k)) u)
  where
    later : Among u (w ∷ ws) → bytes_eq w.name.text u.name.text ≡ false → Among u ws
    later (inr k) e = k
    later (inl s) e = let yes : bytes_eq w.name.text u.name.text ≡ true = same_bytes w.name.text u.name.text (ap (λ (x : Use). x.name.text) (sym s)) in absurd cc

    one_sort : {a b : Sort} → Some a ≡ Some b → a ≡ b
    one_sort e = cc

    by_test : (t : Bool) → bytes_eq w.name.text u.name.text ≡ t → (Among u ws → sort_in ws u.name.text ≡ u.sort) → cond t w.sort (sort_in ws u.name.text) ≡ u.sort
    by_test true e ih =
        let names : w.name.text ≡ u.name.text = (bytes_eq-Decides w.name.text u.name.text).0 e in
        one_sort (sym (h w (inl refl)) ∙ ap (λ (a : List ℕ). known_sort all a) names ∙ h u m)
    by_test false e ih = ih (later m e)

-- in the scope of uses that agree each has the sort of its name
pub scope_agrees : (all us : List Use) → Agree all us → (u : Use) → Among u us → sort_in (without_repeats same_name us) u.name.text ≡ u.sort
scope_agrees all us h u m = (grow [] us).sorts u.name.text ∙ sort_agrees all us h u m
