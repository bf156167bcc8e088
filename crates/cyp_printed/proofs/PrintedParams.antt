-- Parameters that are printed: their names differ, and their uses are those of the parameters, printed.
use Rattle.std.proofs.Common.{List, None, Option, Some, [], ap, append_assoc, arith, cond, false, filter, inl, inr, length, map, refl, subst, sym, true, ◌+◌, ◌++◌, ◌∙◌, ◌∷◌, ◌≡◌, ◌≢◌, ℕ}
use Rattle.std.specs.Prelude.{Bool}
use Rattle.std.specs.List.{list_any}
use Rattle.std.specs.Str.{bytes_eq}
use Rattle.std.proofs.lemmas.List.{map-append}
use Rattle.std.proofs.lemmas.Slice.Eq.{bytes_eq-Decides}
use Rattle.cyp_lex.specs.declared.ident.Ident.{Ident}
use Rattle.cyp_lex.specs.declared.fault.FaultKind.TheVariants.{DuplicateName, WrongSort}
use Rattle.cyp_term.specs.Terms.{sort_eq}
use Rattle.cyp_term.specs.declared.term.Sort.{Sort}
use Rattle.cyp_term.specs.declared.term.Sort.TheVariants.{Card, Int, Set}
use Rattle.cyp_term.proofs.Equality.{Decides-sort_eq}
use Rattle.cyp_term.proofs.Lists.{Among, Among-cases, map_from, some_out}
use Rattle.cyp_names.specs.NameFaults.{fault_at, known_sort, param_names, repeats, sort_fault, sort_faults}
use Rattle.cyp_writing.specs.PrintedTrees.{param_tree, params_from, sort_tree, var_ident}
use Rattle.cyp_names.specs.ReadTerms.{Scope, rank_of, sort_in, use_var, var_named}
use Rattle.cyp_text.specs.declared.tree.ParamTree.{ParamTree}
use Rattle.cyp_names.specs.Uses.{Use, param_sort, param_uses, sort_of, use_of}
use Rattle.cyp_formed.proofs.Distinct.{Distinct, distinct_apart}
use Rattle.cyp_formed.proofs.FirstNames.{var_has}
use Rattle.cyp_formed.proofs.PlainSorts.{params_plain}
use Rattle.cyp_printed.proofs.PrintedAgain.{sort_back}
use Rattle.cyp_formed.proofs.Maps.{map_among}
use Rattle.cyp_formed.proofs.Nameables.{HasAll, Nameable}
use Rattle.cyp_printed.proofs.PrintedNames.{names_kept, printed_use}
use Rattle.cyp_names.proofs.ScopeNames.{Has}

-- ---- the variables of parameters

not_same : (a b : List ℕ) → a ≢ b → bytes_eq a b ≡ false
not_same a b n = by_test (bytes_eq a b) refl
  where
    by_test : (t : Bool) → bytes_eq a b ≡ t → t ≡ false
    by_test false e = refl
    by_test true e = absurd (n ((bytes_eq-Decides a b).0 e))

itself : (a : List ℕ) → bytes_eq a a ≡ true
itself a = (bytes_eq-Decides a a).1 refl

sort_eq_turned : (a b : Sort) → sort_eq a b ≡ sort_eq b a
sort_eq_turned Int Int = refl
sort_eq_turned Int Card = refl
sort_eq_turned Int Set = refl
sort_eq_turned Card Int = refl
sort_eq_turned Card Card = refl
sort_eq_turned Card Set = refl
sort_eq_turned Set Int = refl
sort_eq_turned Set Card = refl
sort_eq_turned Set Set = refl

-- a name behind other names has its sort, and the number of those before it
sort_behind : (seen : Scope) (u : Use) (rest : Scope) → ((w : Use) → Among w seen → w.name.text ≢ u.name.text) → sort_in (seen ++ (u ∷ rest)) u.name.text ≡ u.sort
sort_behind [] u rest n = ap (λ (t : Bool). cond t u.sort (sort_in rest u.name.text)) (itself u.name.text)
sort_behind (w ∷ seen) u rest n =
    ap (λ (t : Bool). cond t w.sort (sort_in (seen ++ (u ∷ rest)) u.name.text)) (not_same w.name.text u.name.text (n w (inl refl))) ∙ sort_behind seen u rest (λ x m. n x (inr m))

rank_behind : (s : Sort) (seen : Scope) (u : Use) (rest : Scope) → ((w : Use) → Among w seen → w.name.text ≢ u.name.text) → rank_of s (seen ++ (u ∷ rest)) u.name.text ≡ length (filter (sort_eq s) (map (λ (w : Use). w.sort) seen))
rank_behind s [] u rest n = ap (λ (t : Bool). cond t 0 (cond (sort_eq u.sort s) 1 0 + rank_of s rest u.name.text)) (itself u.name.text)
rank_behind s (w ∷ seen) u rest n =
    ap (λ (t : Bool). cond t 0 (cond (sort_eq w.sort s) 1 0 + rank_of s (seen ++ (u ∷ rest)) u.name.text)) (not_same w.name.text u.name.text (n w (inl refl)))
    ∙ by_test (sort_eq w.sort s) (sort_eq s w.sort) (sort_eq_turned w.sort s) (rank_behind s seen u rest (λ x m. n x (inr m)))
  where
    others : List Sort
    others = filter (sort_eq s) (map (λ (x : Use). x.sort) seen)

    by_test : (t r : Bool) → t ≡ r → rank_of s (seen ++ (u ∷ rest)) u.name.text ≡ length others → cond t 1 0 + rank_of s (seen ++ (u ∷ rest)) u.name.text ≡ length (cond r (w.sort ∷ others) others)
    by_test true true e h = omega (arith, h)
    by_test false false e h = omega (arith, h)
    by_test true false e h = absurd cc
    by_test false true e h = absurd cc

vars_from : (seen : Scope) (ps : List ParamTree) → Distinct (seen ++ param_uses ps) → map (use_var (seen ++ param_uses ps)) (param_uses ps) ≡ params_from (map (λ (w : Use). w.sort) seen) (map param_sort ps)
vars_from seen [] d = refl
vars_from seen (p ∷ ps) d = λ i. first i ∷ others (λ k. vars_from (seen ++ use_of (param_sort p) p.name ∷ []) ps k) i
  where
    u : Use
    u = use_of (param_sort p) p.name

    apart : (w : Use) → Among w seen → w.name.text ≢ p.name.text
    apart w m = distinct_apart seen (param_uses (p ∷ ps)) d w u m (inl refl)

    first : var_named (seen ++ (u ∷ param_uses ps)) p.name.text ≡ record { sort = param_sort p; number = length (filter (sort_eq (param_sort p)) (map (λ (w : Use). w.sort) seen)) }
    first =
        ap (λ (s : Sort). record { sort = s; number = rank_of s (seen ++ (u ∷ param_uses ps)) p.name.text }) (sort_behind seen u (param_uses ps) apart)
        ∙ ap (λ (n : ℕ). record { sort = param_sort p; number = n }) (rank_behind (param_sort p) seen u (param_uses ps) apart)

    assoc : (seen ++ u ∷ []) ++ param_uses ps ≡ seen ++ (u ∷ param_uses ps)
    assoc = append_assoc seen (u ∷ []) (param_uses ps)

    others : (Distinct ((seen ++ u ∷ []) ++ param_uses ps) → map (use_var ((seen ++ u ∷ []) ++ param_uses ps)) (param_uses ps) ≡ params_from (map (λ (w : Use). w.sort) (seen ++ u ∷ [])) (map param_sort ps))
        → map (use_var (seen ++ (u ∷ param_uses ps))) (param_uses ps) ≡ params_from (map (λ (w : Use). w.sort) seen ++ param_sort p ∷ []) (map param_sort ps)
    others ih =
        ap (λ (sc : Scope). map (use_var sc) (param_uses ps)) (sym assoc) ∙ ih (subst (λ (sc : Scope). Distinct sc) (sym assoc) d)
        ∙ ap (λ (ss : List Sort). params_from ss (map param_sort ps)) (map-append (λ (w : Use). w.sort) seen (u ∷ []))

-- the first names of a scope are the parameters, by number
pub param_vars : (ps : List ParamTree) (more : Scope) → Distinct (param_uses ps) → map (use_var (param_uses ps ++ more)) (param_uses ps) ≡ params_from [] (map param_sort ps)
param_vars ps more d = map_among (use_var (param_uses ps ++ more)) (use_var (param_uses ps)) (param_uses ps) (λ u m. var_has (param_uses ps) more u.name.text (u, m, refl)) ∙ vars_from [] ps d

-- ---- their uses

pub params_printed : (sc : Scope) (ps : List ParamTree) → ((u : Use) → Among u (param_uses ps) → sort_in sc u.name.text ≡ u.sort) → param_uses (map param_tree (map (use_var sc) (param_uses ps))) ≡ map (printed_use sc) (param_uses ps)
params_printed sc ps right =
    twice (param_uses ps) ∙ map_among (λ u. use_of (sort_of (sort_tree (use_var sc u).sort)) (var_ident (use_var sc u))) (printed_use sc) (param_uses ps) (λ u m.
    ap (λ (s : Sort). use_of s (var_ident (use_var sc u))) (ap (λ (s : Sort). sort_of (sort_tree s)) (right u m) ∙ sort_back u.sort (params_plain ps u m)))
  where
    twice : (us : List Use) → param_uses (map param_tree (map (use_var sc) us)) ≡ map (λ u. use_of (sort_of (sort_tree (use_var sc u).sort)) (var_ident (use_var sc u))) us
    twice [] = refl
    twice (u ∷ us) = ap (λ (ws : List Use). use_of (sort_of (sort_tree (use_var sc u).sort)) (var_ident (use_var sc u)) ∷ ws) (twice us)

-- ---- no name twice

pub names_of : (ps : List ParamTree) → param_names ps ≡ map (λ (u : Use). u.name) (param_uses ps)
names_of [] = refl
names_of (p ∷ ps) = ap (λ (is : List Ident). p.name ∷ is) (names_of ps)

no_repeats : (seen : List Ident) (us : List Use) → Distinct us → ((j : Ident) (u : Use) → Among j seen → Among u us → j.text ≢ u.name.text) → repeats seen (map (λ (u : Use). u.name) us) ≡ []
no_repeats seen [] d n = refl
no_repeats seen (u ∷ us) d n = λ i. first i ++ no_repeats (seen ++ u.name ∷ []) us d.1 apart i
  where
    test : Ident → Bool
    test j = bytes_eq j.text u.name.text

    none : (t : Bool) → list_any test seen ≡ t → t ≡ false
    none false e = refl
    none true e = let o = some_out test seen e in absurd (n o.0 u o.1 (inl refl) ((bytes_eq-Decides o.0.text u.name.text).0 o.2))

    first : cond (list_any test seen) (fault_at DuplicateName u.name.place) [] ≡ []
    first = ap (λ (t : Bool). cond t (fault_at DuplicateName u.name.place) []) (none (list_any test seen) refl)

    apart : (j : Ident) (w : Use) → Among j (seen ++ u.name ∷ []) → Among w us → j.text ≢ w.name.text
    apart j w m k = elim (Among-cases j seen (u.name ∷ []) m) [
      | inl a ↦ n j w a (inr k)
      | inr b ↦ elim b [ inl e ↦ (λ same. d.0 w k (ap (λ (i : Ident). i.text) (sym e) ∙ same)) | inr x ↦ absurd x ]
    ]

pub no_params_twice : (ps : List ParamTree) → Distinct (param_uses ps) → repeats [] (param_names ps) ≡ []
no_params_twice ps d = ap (λ (is : List Ident). repeats [] is) (names_of ps) ∙ no_repeats [] (param_uses ps) d (λ j u m k. absurd m)

module _ (sc : Scope) (ok : Nameable sc) where
  same_names : (u w : Use) → Has sc u.name.text → Has sc w.name.text → (printed_use sc u).name.text ≡ (printed_use sc w).name.text → u.name.text ≡ w.name.text
  same_names u w h k e =
      (bytes_eq-Decides u.name.text w.name.text).0 (sym (names_kept sc ok u.name.text w.name.text h k) ∙ (bytes_eq-Decides (printed_use sc u).name.text (printed_use sc w).name.text).1 e)

  pub distinct_printed : (us : List Use) → HasAll sc us → Distinct us → Distinct (map (printed_use sc) us)
  distinct_printed [] h d = tt
  distinct_printed (u ∷ us) h d = (apart, distinct_printed us (λ w m. h w (inr m)) d.1)
    where
      apart : (w : Use) → Among w (map (printed_use sc) us) → (printed_use sc u).name.text ≢ w.name.text
      apart w m =
          let f = map_from (printed_use sc) w us m in
          λ e. d.0 f.0 f.1 (same_names u f.0 (h u (inl refl)) (h f.0 (inr f.1)) (e ∙ ap (λ (x : Use). x.name.text) f.2))

  -- ---- no wrong sorts

  known_from : (seen : List Use) (a : List ℕ) (s : Sort) → known_sort seen a ≡ Some s → (w : Use) × Among w seen × (w.name.text ≡ a) × (w.sort ≡ s)
  known_from [] a s e = absurd cc
  known_from (w ∷ seen) a s e = by_test (bytes_eq w.name.text a) refl e (known_from seen a s)
    where
      by_test : (t : Bool) → bytes_eq w.name.text a ≡ t → cond t (Some w.sort) (known_sort seen a) ≡ Some s → (known_sort seen a ≡ Some s → (x : Use) × Among x seen × (x.name.text ≡ a) × (x.sort ≡ s))
          → (x : Use) × Among x (w ∷ seen) × (x.name.text ≡ a) × (x.sort ≡ s)
      by_test true n k ih = (w, inl refl, (bytes_eq-Decides w.name.text a).0 n, cc)
      by_test false n k ih = let r = ih k in (r.0, inr r.1, r.2, r.3)

  -- the use is that of one of these, printed
  abbrev pub IsPrinted : List Use → Use → Type 0
  IsPrinted all u = (w : Use) × Among w all × (u ≡ printed_use sc w)

  module _ (all : List Use) (has : HasAll sc all) (right : (u : Use) → Among u all → sort_in sc u.name.text ≡ u.sort) where
    one_sort : (u w : Use) → IsPrinted all u → IsPrinted all w → u.name.text ≡ w.name.text → u.sort ≡ w.sort
    one_sort u w p q e =
        let names : p.0.name.text ≡ q.0.name.text = same_names p.0 q.0 (has p.0 p.1) (has q.0 q.1) (ap (λ (x : Use). x.name.text) (sym p.2) ∙ e ∙ ap (λ (x : Use). x.name.text) q.2) in
        ap (λ (x : Use). x.sort) p.2 ∙ sym (right p.0 p.1) ∙ ap (λ (a : List ℕ). sort_in sc a) names ∙ right q.0 q.1 ∙ ap (λ (x : Use). x.sort) (sym q.2)

    no_sort_fault : (seen : List Use) (u : Use) → ((w : Use) → Among w seen → IsPrinted all w) → IsPrinted all u → (k : Option Sort) → known_sort seen u.name.text ≡ k → sort_fault k u ≡ []
    no_sort_fault seen u h p None e = refl
    no_sort_fault seen u h p (Some s) e =
        let f = known_from seen u.name.text s e in
        let same : s ≡ u.sort = sym f.3 ∙ one_sort f.0 u (h f.0 f.1) p f.2 in
        ap (λ (t : Bool). cond t [] (fault_at WrongSort u.name.place)) ((Decides-sort_eq s u.sort).1 same)

    pub no_sort_faults : (seen us : List Use) → ((w : Use) → Among w seen → IsPrinted all w) → ((w : Use) → Among w us → IsPrinted all w) → sort_faults seen us ≡ []
    no_sort_faults seen [] h k = refl
    no_sort_faults seen (u ∷ us) h k = λ i. no_sort_fault seen u h (k u (inl refl)) (known_sort seen u.name.text) refl i ++ no_sort_faults (seen ++ u ∷ []) us more (λ w m. k w (inr m)) i
      where
        more : (w : Use) → Among w (seen ++ u ∷ []) → IsPrinted all w
        more w m = elim (Among-cases w seen (u ∷ []) m) [ inl a ↦ h w a | inr b ↦ elim b [ inl e ↦ subst (λ (x : Use). IsPrinted all x) (sym e) (k u (inl refl)) | inr x ↦ absurd x ] ]
