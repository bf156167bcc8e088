-- Images under the numbering of a list, also of variables that it lacks.
use Rattle.std.proofs.Common.{◌≡◌, ◌∙◌, [], ◌∷◌, ◌++◌, Bool, List, None, Some, false, true, cond, map, not, get_or, length, zero, suc, ℕ, ◌<◌, arith, refl, ap, ap₂, sym}
use Rattle.std.specs.List.{filter, list_all}
use Rattle.std.proofs.lemmas.Bool.{and_from, both_ways, cond-false, false_from_ne_true, or_parts}
use Rattle.cyp_goal.proofs.Live.{among_in, in_among}
use Rattle.cyp_goal.proofs.Renumber.{int_image_at, set_image_at}
use Rattle.cyp_goal.specs.Named.{named, no_set}
use Rattle.cyp_goal.specs.Numbering.{new_name, numbering}
use Rattle.cyp_heap.specs.Chunks.{apply_card}
use Rattle.cyp_term.proofs.Equality.{Decides-var_eq}
use Rattle.cyp_term.proofs.Lists.{filter_in, filter_out}
use Rattle.cyp_term.proofs.Numbers.{zero-plus}
use Rattle.cyp_term.specs.Images.{image_elems, image_of, image_vars}
use Rattle.cyp_term.specs.SetTermValue.{AllSets}
use Rattle.cyp_term.specs.TermValue.{IsNumber}
use Rattle.cyp_term.specs.Terms.{apply_set, apply_term, image_or_self, int_image, is_set_var, set_image, set_var, term_at, term_base, term_eq, var_at, var_eq, var_in, var_term, without_repeats}
use Rattle.cyp_term.specs.declared.lit.SetTerm.{SetTerm}
use Rattle.cyp_term.specs.declared.term.Sort.{Sort}
use Rattle.cyp_term.specs.declared.term.Sort.TheVariants.{Card, Int, Set}
use Rattle.cyp_term.specs.declared.term.Term.{Term}
use Rattle.cyp_term.specs.declared.term.Var.{Var}

-- the test of two variables doesn't depend on which comes first
turned : (v w : Var) → var_eq v w ≡ false → var_eq w v ≡ false
turned v w e = false_from_ne_true (var_eq w v) (λ h. both_ways (var_eq v w) e ((Decides-var_eq v w).1 (sym ((Decides-var_eq w v).0 h))))

int_none : (f : Var → Term) (us : List Var) (v : Var) → var_in v us ≡ false → int_image (map (λ w. record { var = w; to = f w }) us) v ≡ None
int_none f [] v e = refl
int_none f (u ∷ us) v e =
    let both = or_parts (var_eq v u) (var_in v us) e in
    cond-false (var_eq u v) (Some (f u)) (int_image (map (λ w. record { var = w; to = f w }) us) v) (turned v u both.0) ∙ int_none f us v both.1

set_none : (f : Var → SetTerm) (us : List Var) (v : Var) → var_in v us ≡ false → set_image (map (λ w. record { var = w; to = f w }) us) v ≡ None
set_none f [] v e = refl
set_none f (u ∷ us) v e =
    let both = or_parts (var_eq v u) (var_in v us) e in
    cond-false (var_eq u v) (Some (f u)) (set_image (map (λ w. record { var = w; to = f w }) us) v) (turned v u both.0) ∙ set_none f us v both.1

not_filtered : (test : Var → Bool) (vs : List Var) (v : Var) → var_in v vs ≡ false → var_in v (filter test vs) ≡ false
not_filtered test vs v e =
    false_from_ne_true (var_in v (filter test vs)) (λ h. both_ways (var_in v vs) e (among_in v vs (filter_out test v vs (in_among v (filter test vs) h)).0))

module _ (vs : List Var) where
  -- ---- integers and cardinalities
  int_by : (v : Var) (b : Bool) → var_in v vs ≡ b → no_set v ≡ true → int_image (numbering vs).ints v ≡ cond b (Some (var_term (new_name vs v))) None
  int_by v true e h = int_image_at (λ w. var_term (new_name vs w)) (filter no_set vs) v (filter_in no_set v vs (in_among v vs e) h)
  int_by v false e h = int_none (λ w. var_term (new_name vs w)) (filter no_set vs) v (not_filtered no_set vs v e)

  term_by : (t : Term) (v : Var) (b : Bool) → var_in v vs ≡ b → t.base ≡ Some v → no_set v ≡ true
      → apply_term (numbering vs) t ≡ record { base = Some (cond b (new_name vs v) v); offset = t.offset }
  term_by t v true e is h =
      ap (term_base (numbering vs) t) is ∙ ap (term_at t) (int_by v true e h) ∙ ap (λ z. record { base = Some (new_name vs v); offset = z }) (zero-plus t.offset)
  term_by t v false e is h = ap (term_base (numbering vs) t) is ∙ ap (term_at t) (int_by v false e h) ∙ (λ i. record { base = is i; offset = t.offset })

  pub term_numbered : (t : Term) (v : Var) → t.base ≡ Some v → no_set v ≡ true → record { base = Some (named vs v); offset = t.offset } ≡ apply_term (numbering vs) t
  term_numbered t v is h = sym (term_by t v (var_in v vs) refl is h)

  card_by : (v : Var) (b : Bool) → var_in v vs ≡ b → no_set v ≡ true → var_at v (int_image (numbering vs).ints v) ≡ cond b (new_name vs v) v
  card_by v true e h = ap (var_at v) (int_by v true e h)
  card_by v false e h = ap (var_at v) (int_by v false e h)

  pub card_numbered : (v : Var) → no_set v ≡ true → Some (named vs v) ≡ apply_card (numbering vs) (Some v)
  card_numbered v h = ap Some (sym (card_by v (var_in v vs) refl h))

  -- ---- sets
  set_by : (v : Var) (b : Bool) → var_in v vs ≡ b → is_set_var v ≡ true → image_of (numbering vs) v ≡ set_var (cond b (new_name vs v) v)
  set_by v true e h = ap (image_or_self v) (set_image_at (λ w. set_var (new_name vs w)) (filter is_set_var vs) v (filter_in is_set_var v vs (in_among v vs e) h))
  set_by v false e h = ap (image_or_self v) (set_none (λ w. set_var (new_name vs w)) (filter is_set_var vs) v (not_filtered is_set_var vs v e))

  set_named : (v : Var) → v.sort ≡ Set → image_of (numbering vs) v ≡ set_var (named vs v)
  set_named v s = set_by v (var_in v vs) refl (ap (λ z. is_set_var (record { sort = z; number = v.number })) s)

  images_named : (us : List Var) → AllSets us → image_vars (numbering vs) us ≡ map (named vs) us
  images_named [] s = refl
  images_named (u ∷ us) s = ap₂ (λ (i : SetTerm) ws. i.vars ++ ws) (set_named u s.0) (images_named us s.1)

  no_elems : (us : List Var) → AllSets us → image_elems (numbering vs) us ≡ []
  no_elems [] s = refl
  no_elems (u ∷ us) s = ap₂ (λ (i : SetTerm) ts. i.elems ++ ts) (set_named u s.0) (no_elems us s.1)

  pub set_numbered : (u : SetTerm) (ws : List Var) (ts : List Term) → AllSets u.vars → ws ≡ without_repeats var_eq (map (named vs) u.vars) → ts ≡ without_repeats term_eq (map (apply_term (numbering vs)) u.elems)
      → record { vars = ws; elems = ts } ≡ apply_set (numbering vs) u
  set_numbered u ws ts s e f =
      let vars = e ∙ ap (without_repeats var_eq) (sym (images_named u.vars s)) in
      let elems = f ∙ ap (λ xs. without_repeats term_eq (xs ++ map (apply_term (numbering vs)) u.elems)) (sym (no_elems u.vars s)) in
      λ i. record { vars = vars i; elems = elems i }

-- ---- sorts
pub number_fits : (v : Var) → IsNumber v.sort → no_set v ≡ true
number_fits v h = by_sort v.sort h
  where
    by_sort : (s : Sort) → IsNumber s → no_set (record { sort = s; number = v.number }) ≡ true
    by_sort Int h = refl
    by_sort Card h = refl
    by_sort Set h = absurd h

pub sets_fit : (vs : List Var) → AllSets vs → list_all is_set_var vs ≡ true
sets_fit [] h = refl
sets_fit (v ∷ vs) h = and_from (is_set_var v) (list_all is_set_var vs) (ap (λ z. is_set_var (record { sort = z; number = v.number })) h.0) (sets_fit vs h.1)

pub set_at : (vs : List Var) (k : ℕ) (d : Var) → AllSets vs → k < length vs → (get_or vs k d).sort ≡ Set
set_at [] k d h lt = absurd (omega arith)
set_at (v ∷ vs) zero d h lt = h.0
set_at (v ∷ vs) (suc k) d h lt = set_at vs k d h.1 (omega arith)

-- a set's cardinality, which there is none, stays
pub set_card_stays : (vs : List Var) (v : Var) → is_set_var v ≡ true → Some v ≡ apply_card (numbering vs) (Some v)
set_card_stays vs v h =
    let out : var_in v (filter no_set vs) ≡ false =
    false_from_ne_true (var_in v (filter no_set vs)) (λ e. both_ways (no_set v) (ap not h) (filter_out no_set v vs (in_among v (filter no_set vs) e)).1) in
    ap Some (sym (ap (var_at v) (int_none (λ w. var_term (new_name vs w)) (filter no_set vs) v out)))

pub not_set : (v : Var) → (v.sort ≡ Set → ⊥) → no_set v ≡ true
not_set v h = by_sort v.sort h
  where
    by_sort : (s : Sort) → (s ≡ Set → ⊥) → no_set (record { sort = s; number = v.number }) ≡ true
    by_sort Int h = refl
    by_sort Card h = refl
    by_sort Set h = absurd (h refl)
