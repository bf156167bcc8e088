-- Variables are collected, and found at their places.
use Rattle.std.proofs.Common.{◌≡◌, ◌⊎◌, inl, inr, ℕ, zero, suc, ◌+◌, ◌<◌, Bool, true, false, cond, List, [], ◌∷◌, ◌++◌, length, get_or, replicate, take, refl, sym, ap, ap₂, ◌∙◌, add-one, append-nil, append_assoc, arith}
use Rattle.std.proofs.lemmas.Bool.{cases_eq, false_from_ne_true, or_from, or_left, or_right}
use Rattle.std.proofs.lemmas.List.{get_or-set_same, get_or-set_other}
use Rattle.std.proofs.Math.ListN.{set}
use Rattle.std.specs.List.{flat_map, list_any}
use Rattle.cyp_term.specs.declared.lit.Lit.{Lit}
use Rattle.cyp_term.specs.declared.term.Sort.{Sort}
use Rattle.cyp_term.specs.declared.term.Sort.TheVariants.{Int, Card, Set}
use Rattle.cyp_term.specs.declared.term.Var.{Var}
use Rattle.cyp_term.specs.Terms.{lit_vars, var_eq, with_all_new, with_new}
use Rattle.cyp_diff.specs.Places.{TellsPlaces, further, sort_number, table_place, var_place}
use Rattle.cyp_diff.proofs.Truths.{Decides-var_eq}

pub with_all_new-join : {A : Type 0} (eq : A → A → Bool) (xs ys zs : List A) → with_all_new eq xs (ys ++ zs) ≡ with_all_new eq (with_all_new eq xs ys) zs
with_all_new-join eq xs [] zs = refl
with_all_new-join eq xs (y ∷ ys) zs = with_all_new-join eq (with_new eq xs y) ys zs

flat_map-more : {X Y : Type 0} (f : X → List Y) (xs : List X) (i : ℕ) (d : X) → i < length xs → flat_map f (take (suc i) xs) ≡ flat_map f (take i xs) ++ f (get_or xs i d)
flat_map-more f [] i d h = absurd (omega arith)
flat_map-more f (x ∷ xs) zero d h = append-nil (f x)
flat_map-more f (x ∷ xs) (suc i) d h = ap (λ zs. f x ++ zs) (flat_map-more f xs i d (omega arith)) ∙ sym (append_assoc (f x) (flat_map f (take i xs)) (f (get_or xs i d)))

pub vars_more : (ls : List Lit) (vs new : List Var) (i : ℕ) (l : Lit) → vs ≡ with_all_new var_eq [] (flat_map lit_vars (take i ls)) → i < length ls → l ≡ get_or ls i l → new ≡ with_all_new var_eq vs (lit_vars l) → new ≡ with_all_new var_eq [] (flat_map lit_vars (take (i + 1) ls))
vars_more ls vs new i l e h is f =
    f ∙ ap (λ ws. with_all_new var_eq ws (lit_vars l)) e ∙ sym (with_all_new-join var_eq [] (flat_map lit_vars (take i ls)) (lit_vars l))
    ∙ ap (with_all_new var_eq []) (ap (λ m. flat_map lit_vars (take i ls) ++ lit_vars m) is ∙ sym (flat_map-more lit_vars ls i l h) ∙ ap (λ n. flat_map lit_vars (take n ls)) (sym (add-one i)))

-- ---- places

sort_same : (a b : Sort) → sort_number a ≡ sort_number b → a ≡ b
sort_same Int Int e = refl
sort_same Card Card e = refl
sort_same Set Set e = refl
sort_same Int Card e = absurd (omega (arith, e))
sort_same Int Set e = absurd (omega (arith, e))
sort_same Card Int e = absurd (omega (arith, e))
sort_same Card Set e = absurd (omega (arith, e))
sort_same Set Int e = absurd (omega (arith, e))
sort_same Set Card e = absurd (omega (arith, e))

table_place-same : (v w : Var) → v.number < 256 → w.number < 256 → table_place v ≡ table_place w → v ≡ w
table_place-same v w h k e =
    let s : v.sort ≡ w.sort = sort_same v.sort w.sort (omega arith) in
    let n : v.number ≡ w.number = omega (arith, ap sort_number s) in
    λ i. record { sort = s i; number = n i }

turned_false : (v w : Var) → var_eq w v ≡ false → var_eq v w ≡ false
turned_false v w e = false_from_ne_true (var_eq v w) (λ f. cc (sym e ∙ (Decides-var_eq w v).1 (sym ((Decides-var_eq v w).0 f))))

turned_true : (v w : Var) → var_eq w v ≡ true → var_eq v w ≡ true
turned_true v w e = (Decides-var_eq v w).1 (sym ((Decides-var_eq w v).0 e))

further-zero : (k : ℕ) → further k ≡ 0 → k ≡ 0
further-zero zero e = refl
further-zero (suc k) e = absurd (cc e)

-- a variable that has no place isn't there
pub absent : (vs : List Var) (v : Var) → var_place vs v ≡ 0 → list_any (var_eq v) vs ≡ false
absent [] v e = refl
absent (w ∷ ws) v e = by (var_eq w v) refl e (λ z. absent ws v z) where
  by : (b : Bool) → var_eq w v ≡ b → cond b 1 (further (var_place ws v)) ≡ 0 → (var_place ws v ≡ 0 → list_any (var_eq v) ws ≡ false) → list_any (var_eq v) (w ∷ ws) ≡ false
  by true f g h = absurd (cc g)
  by false f g h = or_from (var_eq v w) (list_any (var_eq v) ws) (turned_false v w f) (h (further-zero (var_place ws v) g))

pub present : (vs : List Var) (v : Var) → (var_place vs v ≡ 0 → ⊥) → list_any (var_eq v) vs ≡ true
present [] v h = absurd (h refl)
present (w ∷ ws) v h = by (var_eq w v) refl h (λ z. present ws v z) where
  by : (b : Bool) → var_eq w v ≡ b → (cond b 1 (further (var_place ws v)) ≡ 0 → ⊥) → ((var_place ws v ≡ 0 → ⊥) → list_any (var_eq v) ws ≡ true) → list_any (var_eq v) (w ∷ ws) ≡ true
  by true f g k = or_left (var_eq v w) (list_any (var_eq v) ws) (turned_true v w f)
  by false f g k = or_right (var_eq v w) (list_any (var_eq v) ws) (k (λ e. g (ap further e)))

place-last : (vs : List Var) (v : Var) → var_place vs v ≡ 0 → var_place (vs ++ v ∷ []) v ≡ suc (length vs)
place-last [] v e = ap (λ b. cond b 1 0) ((Decides-var_eq v v).1 refl)
place-last (w ∷ ws) v e = by (var_eq w v) e (λ z. place-last ws v z) where
  by : (b : Bool) → cond b 1 (further (var_place ws v)) ≡ 0 → (var_place ws v ≡ 0 → var_place (ws ++ v ∷ []) v ≡ suc (length ws)) → cond b 1 (further (var_place (ws ++ v ∷ []) v)) ≡ suc (suc (length ws))
  by true g h = absurd (cc g)
  by false g h = ap further (h (further-zero (var_place ws v) g))

place-before : (vs : List Var) (w v : Var) → var_eq w v ≡ false → var_place (vs ++ w ∷ []) v ≡ var_place vs v
place-before [] w v e = ap (λ b. cond b 1 0) e
place-before (u ∷ us) w v e = ap (λ k. cond (var_eq u v) 1 (further k)) (place-before us w v e)

-- ---- the table
zeros : (n k : ℕ) → get_or (replicate {A = ℕ} n 0) k 0 ≡ 0
zeros zero k = refl
zeros (suc n) zero = refl
zeros (suc n) (suc k) = zeros n k

length-snoc : (xs : List Var) (x : Var) → length (xs ++ x ∷ []) ≡ suc (length xs)
length-snoc [] x = refl
length-snoc (y ∷ ys) x = ap suc (length-snoc ys x)

pub told_none : (vs : List Var) → vs ≡ [] → TellsPlaces vs (replicate 768 0)
told_none vs e v h = zeros 768 (table_place v) ∙ ap (λ xs. var_place xs v) (sym e)

-- a place that the table tells, of a variable that was found
pub told_place : (vs : List Var) (table : List ℕ) (v : Var) (k : ℕ) → TellsPlaces vs table → v.number < 256 → k ≡ table_place v → get_or table k 0 ≡ var_place vs v
told_place vs table v k t h e = ap (λ i. get_or table i 0) e ∙ t v h

pub told_more : (vs new : List Var) (table : List ℕ) (w : Var) (k n : ℕ) → TellsPlaces vs table → w.number < 256 → k < length table → k ≡ table_place w → get_or table k 0 ≡ 0 → new ≡ vs ++ w ∷ [] → n ≡ length new → TellsPlaces new (set table k n)
told_more vs new table w k n t h lt ek e0 en el v hv = by (cases_eq (table_place v) k) where
  none : var_place vs w ≡ 0
  none = sym (told_place vs table w k t h ek) ∙ e0

  by : (table_place v ≡ k) ⊎ (table_place v ≡ k → ⊥) → get_or (set table k n) (table_place v) 0 ≡ var_place new v
  by (inl e) =
      let same : w ≡ v = sym (table_place-same v w hv h (e ∙ ek)) in
      ap (λ i. get_or (set table k n) i 0) e ∙ get_or-set_same table k n 0 lt ∙ el ∙ ap length en ∙ length-snoc vs w ∙ sym (place-last vs w none) ∙ ap₂ var_place (sym en) same
  by (inr ne) =
      let other : var_eq w v ≡ false = false_from_ne_true (var_eq w v) (λ f. ne (ap table_place (sym ((Decides-var_eq w v).0 f)) ∙ sym ek)) in
      get_or-set_other table k (table_place v) n 0 ne ∙ t v hv ∙ sym (place-before vs w v other) ∙ ap (λ xs. var_place xs v) (sym en)
