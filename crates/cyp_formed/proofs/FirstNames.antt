-- A scope begins with its parameters, where their names differ.
use Rattle.std.proofs.Common.{List, [], append_assoc, append-nil, ap, arith, cond, false, filter, length, map, refl, subst, sym, true, ℕ, ◌+◌, ◌++◌, ◌≤◌, ◌∙◌, ◌∷◌, ◌≡◌, inl}
use Rattle.std.specs.Prelude.{Bool}
use Rattle.std.specs.List.{list_any}
use Rattle.std.specs.Str.{bytes_eq}
use Rattle.std.proofs.lemmas.Slice.Eq.{bytes_eq-Decides}
use Rattle.cyp_heap.specs.PredsFormed.{count_of}
use Rattle.cyp_term.specs.Terms.{sort_eq, with_all_new, with_new}
use Rattle.cyp_term.specs.declared.term.Sort.{Sort}
use Rattle.cyp_term.specs.declared.term.Sort.TheVariants.{Card, Int, Set}
use Rattle.cyp_term.specs.declared.term.Var.{Var}
use Rattle.cyp_term.proofs.Lists.{some_out}
use Rattle.cyp_names.specs.ReadTerms.{Scope, rank_of, sort_in, var_named}
use Rattle.cyp_names.specs.Specifications.{count_sort}
use Rattle.cyp_text.specs.declared.tree.ParamTree.{ParamTree}
use Rattle.cyp_names.specs.Uses.{Use, param_sort, param_uses, same_name}
use Rattle.cyp_formed.proofs.Distinct.{Distinct, distinct_apart}
use Rattle.cyp_formed.proofs.FormedScope.{sort_has}
use Rattle.cyp_names.proofs.ScopeNames.{Has, grow, has_later}

pub new_append : (xs ys zs : Scope) → with_all_new same_name xs (ys ++ zs) ≡ with_all_new same_name (with_all_new same_name xs ys) zs
new_append xs [] zs = refl
new_append xs (y ∷ ys) zs = new_append (with_new same_name xs y) ys zs

not_there : (xs : Scope) (y : Use) (ys : Scope) → Distinct (xs ++ (y ∷ ys)) → list_any (same_name y) xs ≡ false
not_there xs y ys d = by_test (list_any (same_name y) xs) refl
  where
    by_test : (t : Bool) → list_any (same_name y) xs ≡ t → t ≡ false
    by_test false e = refl
    by_test true e =
        let f = some_out (same_name y) xs e in
        absurd (distinct_apart xs (y ∷ ys) d f.0 y f.1 (inl refl) (sym ((bytes_eq-Decides y.name.text f.0.name.text).0 f.2)))

-- names that differ all stay
stays : (xs ys : Scope) → Distinct (xs ++ ys) → with_all_new same_name xs ys ≡ xs ++ ys
stays xs [] d = sym (append-nil xs)
stays xs (y ∷ ys) d =
    let again : Distinct ((xs ++ y ∷ []) ++ ys) = subst (λ (us : Scope). Distinct us) (sym (append_assoc xs (y ∷ []) ys)) d in
    ap (λ (t : Bool). with_all_new same_name (cond t xs (xs ++ y ∷ [])) ys) (not_there xs y ys d) ∙ stays (xs ++ y ∷ []) ys again ∙ append_assoc xs (y ∷ []) ys

-- the scope of names that differ and others begins with them
pub begins_with : (xs ys : Scope) → Distinct xs → with_all_new same_name [] (xs ++ ys) ≡ xs ++ (grow xs ys).more
begins_with xs ys d = new_append [] xs ys ∙ ap (λ (us : Scope). with_all_new same_name us ys) (stays [] xs d) ∙ (grow xs ys).parts

-- ---- numbers

rank_has : (s : Sort) (us ws : Scope) (a : List ℕ) → Has us a → rank_of s (us ++ ws) a ≡ rank_of s us a
rank_has s [] ws a h = absurd h.1
rank_has s (u ∷ us) ws a h = by_test (bytes_eq u.name.text a) refl (λ e. rank_has s us ws a (has_later u us a e h))
  where
    by_test : (t : Bool) → bytes_eq u.name.text a ≡ t → (bytes_eq u.name.text a ≡ false → rank_of s (us ++ ws) a ≡ rank_of s us a)
        → cond t 0 (cond (sort_eq u.sort s) 1 0 + rank_of s (us ++ ws) a) ≡ cond t 0 (cond (sort_eq u.sort s) 1 0 + rank_of s us a)
    by_test true e ih = refl
    by_test false e ih = ap (λ (n : ℕ). cond (sort_eq u.sort s) 1 0 + n) (ih e)

-- the variable of a name is that of the first names, where it is one of them
pub var_has : (us ws : Scope) (a : List ℕ) → Has us a → var_named (us ++ ws) a ≡ var_named us a
var_has us ws a h =
    let sorts : sort_in (us ++ ws) a ≡ sort_in us a = sort_has us ws a h in
    let made : Sort → ℕ → Var = λ s n. record { sort = s; number = n } in
    ap (λ (s : Sort). made s (rank_of s (us ++ ws) a)) sorts ∙ ap (λ (n : ℕ). made (sort_in us a) n) (rank_has (sort_in us a) us ws a h)

pub count_le : (s : Sort) (us ws : Scope) → count_sort s us ≤ count_sort s (us ++ ws)
count_le s [] ws = omega arith
count_le s (u ∷ us) ws = by_test (sort_eq u.sort s) (count_le s us ws)
  where
    test : Use → Bool
    test w = sort_eq w.sort s

    by_test : (t : Bool) → length (filter (λ (w : Use). sort_eq w.sort s) us) ≤ length (filter (λ (w : Use). sort_eq w.sort s) (us ++ ws))
        → length (cond t (u ∷ filter (λ (w : Use). sort_eq w.sort s) us) (filter (λ (w : Use). sort_eq w.sort s) us))
        ≤ length (cond t (u ∷ filter (λ (w : Use). sort_eq w.sort s) (us ++ ws)) (filter (λ (w : Use). sort_eq w.sort s) (us ++ ws)))
    by_test true h = omega (arith, h)
    by_test false h = h

sort_eq_turned : (a b : Sort) → sort_eq a b ≡ sort_eq b a
sort_eq_turned Int Int = refl
sort_eq_turned Int Card = refl
sort_eq_turned Int Set = refl
sort_eq_turned Card Int = refl
sort_eq_turned Card Card = refl
sort_eq_turned Card Set = refl
sort_eq_turned Set Int = refl
sort_eq_turned Set Card = refl
sort_eq_turned Set Set = refl

-- the parameters of a sort are counted alike
pub count_params : (s : Sort) (ps : List ParamTree) → count_of s (map param_sort ps) ≡ count_sort s (param_uses ps)
count_params s [] = refl
count_params s (p ∷ ps) = ap (λ (t : Bool). length (cond t (param_sort p ∷ filter (sort_eq s) (map param_sort ps)) (filter (sort_eq s) (map param_sort ps)))) (sort_eq_turned s (param_sort p)) ∙ by_test (sort_eq (param_sort p) s) (count_params s ps)
  where
    by_test : (t : Bool) → count_of s (map param_sort ps) ≡ count_sort s (param_uses ps)
        → length (cond t (param_sort p ∷ filter (sort_eq s) (map param_sort ps)) (filter (sort_eq s) (map param_sort ps)))
        ≡ length (cond t (record { name = p.name; sort = param_sort p } ∷ filter (λ (w : Use). sort_eq w.sort s) (param_uses ps)) (filter (λ (w : Use). sort_eq w.sort s) (param_uses ps)))
    by_test true h = omega (arith, h)
    by_test false h = h
