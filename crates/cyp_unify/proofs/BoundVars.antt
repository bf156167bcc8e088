-- Bindings by a map: what one more variable changes, and that repeats don't matter.
use Rattle.std.proofs.Common.{◌≡◌, ◌∙◌, ◌⊎◌, Bool, true, false, cond, List, [], ◌∷◌, ◌++◌, Option, Some, None, is_some, refl, sym, ap, subst, inl, inr, append-nil, append_assoc}
use Rattle.std.specs.Prelude.{option_map}
use Rattle.std.specs.List.{list_any}
use Rattle.std.specs.Option.{option_and_then}
use Rattle.std.proofs.lemmas.Bool.{false≢true, or_cases}
use Rattle.std.proofs.lemmas.Option.{none-some, same_Some}
use Rattle.cyp_term.proofs.Equality.{Decides-var_eq}
use Rattle.cyp_term.specs.Terms.{int_image, is_set_var, set_image, var_eq, with_all_new, with_new, without_repeats}
use Rattle.cyp_term.specs.declared.lit.SetTerm.{SetTerm}
use Rattle.cyp_term.specs.declared.subst.IntBind.{IntBind}
use Rattle.cyp_term.specs.declared.subst.SetBind.{SetBind}
use Rattle.cyp_term.specs.declared.subst.Subst.{Subst}
use Rattle.cyp_term.specs.declared.term.Term.{Term}
use Rattle.cyp_term.specs.declared.term.Var.{Var}
use Rattle.cyp_unify.specs.Matches.{add_int, add_set, all_bound, bound_by_map}

-- ---- images behind others

same_var : (v : Var) → var_eq v v ≡ true
same_var v = (Decides-var_eq v v).1 refl

some_kept : {A : Type 0} (b : Bool) (r : A) (x y : Option A) → (is_some x ≡ true → is_some y ≡ true) → is_some (cond b (Some r) x) ≡ true → is_some (cond b (Some r) y) ≡ true
some_kept true r x y f h = refl
some_kept false r x y f h = f h

some_last : {A : Type 0} (b : Bool) (r : A) (y : Option A) → is_some y ≡ true → is_some (cond b (Some r) y) ≡ true
some_last true r y h = refl
some_last false r y h = h

int_kept : (bs more : List IntBind) (v : Var) → is_some (int_image bs v) ≡ true → is_some (int_image (bs ++ more) v) ≡ true
int_kept [] more v h = absurd (false≢true h)
int_kept (b ∷ bs) more v h = some_kept (var_eq b.var v) b.to (int_image bs v) (int_image (bs ++ more) v) (int_kept bs more v) h

set_kept : (bs more : List SetBind) (v : Var) → is_some (set_image bs v) ≡ true → is_some (set_image (bs ++ more) v) ≡ true
set_kept [] more v h = absurd (false≢true h)
set_kept (b ∷ bs) more v h = some_kept (var_eq b.var v) b.to (set_image bs v) (set_image (bs ++ more) v) (set_kept bs more v) h

int_last : (bs : List IntBind) (v : Var) (t : Term) → is_some (int_image (bs ++ record { var = v; to = t } ∷ []) v) ≡ true
int_last [] v t = ap (λ b. is_some (cond b (Some t) None)) (same_var v)
int_last (b ∷ bs) v t = some_last (var_eq b.var v) b.to (int_image (bs ++ record { var = v; to = t } ∷ []) v) (int_last bs v t)

set_last : (bs : List SetBind) (v : Var) (u : SetTerm) → is_some (set_image (bs ++ record { var = v; to = u } ∷ []) v) ≡ true
set_last [] v u = ap (λ b. is_some (cond b (Some u) None)) (same_var v)
set_last (b ∷ bs) v u = some_last (var_eq b.var v) b.to (set_image (bs ++ record { var = v; to = u } ∷ []) v) (set_last bs v u)

-- ---- one variable

-- a variable of this sort has an image
abbrev bound_of : Subst → Var → Bool → Bool
bound_of by v false = is_some (int_image by.ints v)
bound_of by v true = is_some (set_image by.sets v)

abbrev is_bound : Subst → Var → Bool
is_bound by v = bound_of by v (is_set_var v)

abbrev int_part : Subst → Subst → Var → Bool → Option Subst
int_part m by v true = Some by
int_part m by v false = option_map (add_int by v) (int_image m.ints v)

abbrev set_part : Subst → Subst → Var → Bool → Option Subst
set_part m by v true = Some by
set_part m by v false = option_map (add_set by v) (set_image m.sets v)

abbrev part_of : Subst → Subst → Var → Bool → Option Subst
part_of m by v false = int_part m by v (is_some (int_image by.ints v))
part_of m by v true = set_part m by v (is_some (set_image by.sets v))

-- a bound variable changes nothing
idle_of : (m by : Subst) (v : Var) (b : Bool) → bound_of by v b ≡ true → part_of m by v b ≡ Some by
idle_of m by v false h = ap (int_part m by v) h
idle_of m by v true h = ap (set_part m by v) h

pub bound_idle : (m by : Subst) (v : Var) → is_bound by v ≡ true → bound_by_map m by v ≡ Some by
bound_idle m by v h = idle_of m by v (is_set_var v) h

-- the bindings stay, or one is put behind the others of its sort
abbrev pub Added : Subst → Subst → Var → Type 0
Added by more v = ((more ≡ by) × (is_bound by v ≡ true)) ⊎ (((t : Term) × (more ≡ add_int by v t) × (is_set_var v ≡ false)) ⊎ ((u : SetTerm) × (more ≡ add_set by v u) × (is_set_var v ≡ true)))

int_added : (by more : Subst) (v : Var) (o : Option Term) → option_map (add_int by v) o ≡ Some more → is_set_var v ≡ false → Added by more v
int_added by more v None e s = absurd (none-some more e)
int_added by more v (Some t) e s = inr (inl (t, sym (same_Some (add_int by v t) more e), s))

set_added : (by more : Subst) (v : Var) (o : Option SetTerm) → option_map (add_set by v) o ≡ Some more → is_set_var v ≡ true → Added by more v
set_added by more v None e s = absurd (none-some more e)
set_added by more v (Some u) e s = inr (inr (u, sym (same_Some (add_set by v u) more e), s))

int_step : (m by more : Subst) (v : Var) (b : Bool) → int_part m by v b ≡ Some more → is_set_var v ≡ false → (b ≡ true → is_bound by v ≡ true) → Added by more v
int_step m by more v true e s k = inl (sym (same_Some by more e), k refl)
int_step m by more v false e s k = int_added by more v (int_image m.ints v) e s

set_step : (m by more : Subst) (v : Var) (b : Bool) → set_part m by v b ≡ Some more → is_set_var v ≡ true → (b ≡ true → is_bound by v ≡ true) → Added by more v
set_step m by more v true e s k = inl (sym (same_Some by more e), k refl)
set_step m by more v false e s k = set_added by more v (set_image m.sets v) e s

step_of : (m by more : Subst) (v : Var) (b : Bool) → is_set_var v ≡ b → part_of m by v b ≡ Some more → Added by more v
step_of m by more v false s e = int_step m by more v (is_some (int_image by.ints v)) e s (λ h. ap (bound_of by v) s ∙ h)
step_of m by more v true s e = set_step m by more v (is_some (set_image by.sets v)) e s (λ h. ap (bound_of by v) s ∙ h)

pub one_added : (m by more : Subst) (v : Var) → bound_by_map m by v ≡ Some more → Added by more v
one_added m by more v e = step_of m by more v (is_set_var v) refl e

module _ (by more : Subst) (v : Var) where
  now_bound : Added by more v → is_bound more v ≡ true
  now_bound (inl h) = subst (λ s. is_bound s v ≡ true) (sym h.0) h.1
  now_bound (inr (inl h)) = subst (λ s. is_bound s v ≡ true) (sym h.1) (ap (bound_of (add_int by v h.0) v) h.2 ∙ int_last by.ints v h.0)
  now_bound (inr (inr h)) = subst (λ s. is_bound s v ≡ true) (sym h.1) (ap (bound_of (add_set by v h.0) v) h.2 ∙ set_last by.sets v h.0)

  int_still : (y : Var) (t : Term) (b : Bool) → bound_of by y b ≡ true → bound_of (add_int by v t) y b ≡ true
  int_still y t false h = int_kept by.ints (record { var = v; to = t } ∷ []) y h
  int_still y t true h = h

  set_still : (y : Var) (u : SetTerm) (b : Bool) → bound_of by y b ≡ true → bound_of (add_set by v u) y b ≡ true
  set_still y u false h = h
  set_still y u true h = set_kept by.sets (record { var = v; to = u } ∷ []) y h

  still_bound : (y : Var) → Added by more v → is_bound by y ≡ true → is_bound more y ≡ true
  still_bound y (inl h) k = subst (λ s. is_bound s y ≡ true) (sym h.0) k
  still_bound y (inr (inl h)) k = subst (λ s. is_bound s y ≡ true) (sym h.1) (int_still y h.0 (is_set_var y) k)
  still_bound y (inr (inr h)) k = subst (λ s. is_bound s y ≡ true) (sym h.1) (set_still y h.0 (is_set_var y) k)

-- ---- lists of variables

pub and_then_some : {A B : Type 0} (f : A → Option B) (o : Option A) (r : B) → option_and_then f o ≡ Some r → (x : A) × (o ≡ Some x) × (f x ≡ Some r)
and_then_some f None r e = absurd (none-some r e)
and_then_some f (Some x) r e = (x, refl, e)

module _ (m : Subst) where
  two_after : (o : Option Subst) (xs ys : List Var) → ((b : Subst) → all_bound m b (xs ++ ys) ≡ option_and_then (λ (d : Subst). all_bound m d ys) (all_bound m b xs))
      → option_and_then (λ (b : Subst). all_bound m b (xs ++ ys)) o ≡ option_and_then (λ (b : Subst). all_bound m b ys) (option_and_then (λ (b : Subst). all_bound m b xs) o)
  two_after None xs ys h = refl
  two_after (Some b) xs ys h = h b

  two_parts : (by : Subst) (xs ys : List Var) → all_bound m by (xs ++ ys) ≡ option_and_then (λ (b : Subst). all_bound m b ys) (all_bound m by xs)
  two_parts by [] ys = refl
  two_parts by (x ∷ xs) ys = two_after (bound_by_map m by x) xs ys (λ b. two_parts b xs ys)

  all_still : (by more : Subst) (vs : List Var) (y : Var) → all_bound m by vs ≡ Some more → is_bound by y ≡ true → is_bound more y ≡ true
  all_still by more [] y e h = subst (λ s. is_bound s y ≡ true) (same_Some by more e) h
  all_still by more (v ∷ vs) y e h =
      let a = and_then_some (λ (b : Subst). all_bound m b vs) (bound_by_map m by v) more e in
      all_still a.0 more vs y a.2 (still_bound by a.0 v y (one_added m by a.0 v a.1) h)

  all_now : (by more : Subst) (vs : List Var) (y : Var) → all_bound m by vs ≡ Some more → list_any (var_eq y) vs ≡ true → is_bound more y ≡ true
  all_now by more [] y e h = absurd (false≢true h)
  all_now by more (v ∷ vs) y e h =
      let a = and_then_some (λ (b : Subst). all_bound m b vs) (bound_by_map m by v) more e in
      elim (or_cases (var_eq y v) (list_any (var_eq y) vs) h) [
        | inl t ↦ all_still a.0 more vs y a.2 (subst (λ z. is_bound a.0 z ≡ true) (sym ((Decides-var_eq y v).0 t)) (now_bound by a.0 v (one_added m by a.0 v a.1)))
        | inr t ↦ all_now a.0 more vs y a.2 t
      ]

  repeat_after : (by : Subst) (acc : List Var) (y : Var) (zs : List Var) (o : Option Subst) → list_any (var_eq y) acc ≡ true → all_bound m by acc ≡ o
      → option_and_then (λ (b : Subst). all_bound m b (y ∷ zs)) o ≡ option_and_then (λ (b : Subst). all_bound m b zs) o
  repeat_after by acc y zs None h e = refl
  repeat_after by acc y zs (Some b) h e = ap (option_and_then (λ (c : Subst). all_bound m c zs)) (bound_idle m b y (all_now by b acc y e h))

  repeat_idle : (by : Subst) (acc : List Var) (y : Var) (zs : List Var) → list_any (var_eq y) acc ≡ true → all_bound m by (acc ++ y ∷ zs) ≡ all_bound m by (acc ++ zs)
  repeat_idle by acc y zs h = two_parts by acc (y ∷ zs) ∙ repeat_after by acc y zs (all_bound m by acc) h refl ∙ sym (two_parts by acc zs)

  new_by_test : (by : Subst) (acc : List Var) (y : Var) (ys : List Var) (t : Bool) → list_any (var_eq y) acc ≡ t → all_bound m by (cond t acc (acc ++ y ∷ []) ++ ys) ≡ all_bound m by (acc ++ y ∷ ys)
  new_by_test by acc y ys true h = sym (repeat_idle by acc y ys h)
  new_by_test by acc y ys false h = ap (all_bound m by) (append_assoc acc (y ∷ []) ys)

  all_new_bound : (by : Subst) (acc ys : List Var) → all_bound m by (with_all_new var_eq acc ys) ≡ all_bound m by (acc ++ ys)
  all_new_bound by acc [] = ap (all_bound m by) (sym (append-nil acc))
  all_new_bound by acc (y ∷ ys) = all_new_bound by (with_new var_eq acc y) ys ∙ new_by_test by acc y ys (list_any (var_eq y) acc) refl

  -- a variable that stands twice is bound once
  pub repeats_idle : (by : Subst) (vs : List Var) → all_bound m by (without_repeats var_eq vs) ≡ all_bound m by vs
  repeats_idle by vs = all_new_bound by [] vs
