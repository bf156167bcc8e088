-- Bindings that are added behind others.
use Rattle.std.proofs.Common.{◌≡◌, refl, sym, ap, ◌∙◌, Bool, true, false, cond, List, [], ◌∷◌, ◌++◌, ℤ, ◌+ℤ◌, Option, Some, None}
use Rattle.std.proofs.lemmas.Bool.{cond-true}
use Rattle.std.proofs.lemmas.Option.{none-some}
use Rattle.cyp_kernel.proofs.UnfoldParams.{same_var}
use Rattle.cyp_term.proofs.Substitution.{value-apply_term}
use Rattle.cyp_term.specs.Meaning.{Assignment, image_value, under, value}
use Rattle.cyp_term.specs.Terms.{apply_term, int_image, set_image, var_eq}
use Rattle.cyp_term.specs.declared.subst.IntBind.{IntBind}
use Rattle.cyp_term.specs.declared.subst.SetBind.{SetBind}
use Rattle.cyp_term.specs.declared.lit.SetTerm.{SetTerm}
use Rattle.cyp_term.specs.declared.subst.Subst.{Subst}
use Rattle.cyp_term.specs.declared.term.Term.{Term}
use Rattle.cyp_term.specs.declared.term.Var.{Var}

-- ---- bindings that are added behind

-- what is bound stays bound to the same
pub record Extends (by more : Subst) : Type 0 where
  pub ints : (v : Var) (t : Term) → int_image by.ints v ≡ Some t → int_image more.ints v ≡ Some t
  pub sets : (v : Var) (u : SetTerm) → set_image by.sets v ≡ Some u → set_image more.sets v ≡ Some u

pub extends_self : (by : Subst) → Extends by by
extends_self by = record { ints = λ v t e. e; sets = λ v u e. e }

pub extends_trans : (a b c : Subst) → Extends a b → Extends b c → Extends a c
extends_trans a b c p q = record { ints = λ v t e. q.ints v t (p.ints v t e); sets = λ v u e. q.sets v u (p.sets v u e) }

kept_by : (b : Bool) (x y : Option Term) (t : Term) → (x ≡ Some t → y ≡ Some t) → (r : Term) → cond b (Some r) x ≡ Some t → cond b (Some r) y ≡ Some t
kept_by true x y t f r e = e
kept_by false x y t f r e = f e

pub int_behind : (bs more : List IntBind) (v : Var) (t : Term) → int_image bs v ≡ Some t → int_image (bs ++ more) v ≡ Some t
int_behind [] more v t e = absurd (none-some t e)
int_behind (b ∷ bs) more v t e = kept_by (var_eq b.var v) (int_image bs v) (int_image (bs ++ more) v) t (int_behind bs more v t) b.to e

set_kept_by : (b : Bool) (x y : Option SetTerm) (t : SetTerm) → (x ≡ Some t → y ≡ Some t) → (r : SetTerm) → cond b (Some r) x ≡ Some t → cond b (Some r) y ≡ Some t
set_kept_by true x y t f r e = e
set_kept_by false x y t f r e = f e

pub set_behind : (bs more : List SetBind) (v : Var) (t : SetTerm) → set_image bs v ≡ Some t → set_image (bs ++ more) v ≡ Some t
set_behind [] more v t e = absurd (none-some t e)
set_behind (b ∷ bs) more v t e = set_kept_by (var_eq b.var v) (set_image bs v) (set_image (bs ++ more) v) t (set_behind bs more v t) b.to e

last_by : (b : Bool) (x y : Option Term) (t r : Term) → (x ≡ None → y ≡ Some t) → cond b (Some r) x ≡ None → cond b (Some r) y ≡ Some t
last_by true x y t r f e = absurd (none-some r (sym e))
last_by false x y t r f e = f e

-- a variable that isn't bound gets the term that is put behind
pub int_last : (bs : List IntBind) (v : Var) (t : Term) → int_image bs v ≡ None → int_image (bs ++ record { var = v; to = t } ∷ []) v ≡ Some t
int_last [] v t e = cond-true (var_eq v v) (Some t) None (same_var v)
int_last (b ∷ bs) v t e = last_by (var_eq b.var v) (int_image bs v) (int_image (bs ++ record { var = v; to = t } ∷ []) v) t b.to (int_last bs v t) e

set_last_by : (b : Bool) (x y : Option SetTerm) (t r : SetTerm) → (x ≡ None → y ≡ Some t) → cond b (Some r) x ≡ None → cond b (Some r) y ≡ Some t
set_last_by true x y t r f e = absurd (none-some r (sym e))
set_last_by false x y t r f e = f e

pub set_last : (bs : List SetBind) (v : Var) (t : SetTerm) → set_image bs v ≡ None → set_image (bs ++ record { var = v; to = t } ∷ []) v ≡ Some t
set_last [] v t e = cond-true (var_eq v v) (Some t) None (same_var v)
set_last (b ∷ bs) v t e = set_last_by (var_eq b.var v) (set_image bs v) (set_image (bs ++ record { var = v; to = t } ∷ []) v) t b.to (set_last bs v t) e

-- ---- terms

-- the base is bound, or there is none
abbrev pub IsBound : Subst → Option Var → Type 0
IsBound by None = Unit {0}
IsBound by (Some v) = (x : Term) × (int_image by.ints v ≡ Some x)

module _ (s : Assignment) (by more : Subst) (extends : Extends by more) where
  bound_value : (b : Option Var) (o : ℤ) → IsBound by b → value (under by s) (record { base = b; offset = o }) ≡ value (under more s) (record { base = b; offset = o })
  bound_value None o k = refl
  bound_value (Some v) o k = ap (λ (z : ℤ). z +ℤ o) (ap (image_value s v) k.1 ∙ sym (ap (image_value s v) (extends.ints v k.0 k.1)))

  -- a bound term is applied early to the same value
  pub applied_early : (t : Term) → IsBound by t.base → value s (apply_term by t) ≡ value (under more s) t
  applied_early t k = value-apply_term by s t ∙ bound_value t.base t.offset k
