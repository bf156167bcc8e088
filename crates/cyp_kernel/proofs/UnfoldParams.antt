-- The substitution of an unfolding gives the parameters the values of the arguments.
use Rattle.std.proofs.Common.{◌≡◌, refl, ap, ◌∙◌, ℕ, suc, ◌<◌, true, false, List, [], ◌∷◌, ◌++◌, map, Option, Some, arith}
use Rattle.std.proofs.lemmas.Bool.{cond-false, cond-true, false_from_ne_true, false≢true}
use Rattle.cyp_heap.specs.Formed.{sorts_fit}
use Rattle.cyp_heap.specs.Instances.{ParamsAre, arg_value}
use Rattle.cyp_heap.specs.declared.chunk.Arg.{Arg}
use Rattle.cyp_heap.specs.declared.chunk.Arg.TheVariants.{Int as IntArg, Set as SetArg}
use Rattle.cyp_kernel.proofs.NewNumber.{int_var}
use Rattle.cyp_pred.specs.Unfold.{bind_ints, bind_sets, int_args, set_args}
use Rattle.cyp_term.proofs.Equality.{Decides-var_eq}
use Rattle.cyp_term.specs.Meaning.{Assignment, image_members, image_value, int_in, under}
use Rattle.cyp_term.specs.Terms.{int_image, set_image, var_eq}
use Rattle.cyp_term.specs.declared.lit.SetTerm.{SetTerm}
use Rattle.cyp_term.specs.declared.subst.IntBind.{IntBind}
use Rattle.cyp_term.specs.declared.subst.SetBind.{SetBind}
use Rattle.cyp_term.specs.declared.subst.Subst.{Subst}
use Rattle.cyp_term.specs.declared.term.Sort.{Sort}
use Rattle.cyp_term.specs.declared.term.Sort.TheVariants.{Card, Int, Set}
use Rattle.cyp_term.specs.declared.term.Term.{Term}
use Rattle.cyp_term.specs.declared.term.Var.{Var}

-- the set variable with this number
abbrev pub set_numbered : ℕ → Var
set_numbered k = record { sort = Set; number = k }

-- the integer variables from i on have these images
abbrev pub IntsBound : List IntBind → ℕ → List Term → Type 0
IntsBound bs i [] = Unit {0}
IntsBound bs i (t ∷ ts) = (int_image bs (int_var i) ≡ Some t) × IntsBound bs (suc i) ts

-- the set variables from i on have these images
abbrev pub SetsBound : List SetBind → ℕ → List SetTerm → Type 0
SetsBound bs i [] = Unit {0}
SetsBound bs i (u ∷ us) = (set_image bs (set_numbered i) ≡ Some u) × SetsBound bs (suc i) us

pub later_apart : (o : Sort) (a i : ℕ) → a < i → var_eq (record { sort = o; number = a }) (record { sort = o; number = i }) ≡ false
later_apart o a i l = false_from_ne_true (var_eq (record { sort = o; number = a }) (record { sort = o; number = i }))
    (λ e. apart a i l (ap (λ (v : Var). v.number) ((Decides-var_eq (record { sort = o; number = a }) (record { sort = o; number = i })).0 e)))
  where
    apart : (a i : ℕ) → a < i → a ≡ i → ⊥
    apart a i l e = omega arith

pub same_var : (v : Var) → var_eq v v ≡ true
same_var v = (Decides-var_eq v v).1 refl

up : (a i : ℕ) → a < i → a < suc i
up a i l = omega arith

next : (a : ℕ) → a < suc a
next a = omega arith

ints_kept : (bs : List IntBind) (a i : ℕ) (t : Term) (ts : List Term) → a < i → IntsBound bs i ts → IntsBound (record { var = int_var a; to = t } ∷ bs) i ts
ints_kept bs a i t [] l h = tt
ints_kept bs a i t (r ∷ ts) l h =
    (cond-false (var_eq (int_var a) (int_var i)) (Some t) (int_image bs (int_var i)) (later_apart Int a i l) ∙ h.0, ints_kept bs a (suc i) t ts (up a i l) h.1)

-- terms are bound in order, whatever comes behind
pub ints_bound : (a : ℕ) (xs ys : List Term) → IntsBound (bind_ints a (xs ++ ys)) a xs
ints_bound a [] ys = tt
ints_bound a (x ∷ xs) ys = (
  cond-true (var_eq (int_var a) (int_var a)) (Some x) (int_image (bind_ints (suc a) (xs ++ ys)) (int_var a)) (same_var (int_var a)),
  ints_kept (bind_ints (suc a) (xs ++ ys)) a (suc a) x xs (next a) (ints_bound (suc a) xs ys),
)

sets_kept : (bs : List SetBind) (a i : ℕ) (u : SetTerm) (us : List SetTerm) → a < i → SetsBound bs i us → SetsBound (record { var = set_numbered a; to = u } ∷ bs) i us
sets_kept bs a i u [] l h = tt
sets_kept bs a i u (r ∷ us) l h =
    (cond-false (var_eq (set_numbered a) (set_numbered i)) (Some u) (set_image bs (set_numbered i)) (later_apart Set a i l) ∙ h.0, sets_kept bs a (suc i) u us (up a i l) h.1)

pub sets_bound : (a : ℕ) (xs ys : List SetTerm) → SetsBound (bind_sets a (xs ++ ys)) a xs
sets_bound a [] ys = tt
sets_bound a (x ∷ xs) ys = (
  cond-true (var_eq (set_numbered a) (set_numbered a)) (Some x) (set_image (bind_sets (suc a) (xs ++ ys)) (set_numbered a)) (same_var (set_numbered a)),
  sets_kept (bind_sets (suc a) (xs ++ ys)) a (suc a) x xs (next a) (sets_bound (suc a) xs ys),
)

module _ (by : Subst) (t : Assignment) where
  pub params_are : (i k : ℕ) (args : List Arg) (ps : List Sort) → sorts_fit args ps ≡ true → IntsBound by.ints i (int_args args) → SetsBound by.sets k (set_args args)
      → ParamsAre (under by t) i k ps (map (arg_value t) args)
  params_are i k [] [] f g h = tt
  params_are i k [] (o ∷ ps) f g h = absurd (false≢true f)
  params_are i k (a ∷ args) [] f g h = absurd (false≢true f)
  params_are i k (IntArg x ∷ args) (Int ∷ ps) f g h = (ap (image_value t (int_var i)) g.0, params_are (suc i) k args ps f g.1 h)
  params_are i k (IntArg x ∷ args) (Card ∷ ps) f g h = absurd (false≢true f)
  params_are i k (IntArg x ∷ args) (Set ∷ ps) f g h = absurd (false≢true f)
  params_are i k (SetArg u ∷ args) (Set ∷ ps) f g h =
      ((λ z. ap (λ (o : Option SetTerm). int_in z (image_members t (set_numbered k) o)) h.0), params_are i (suc k) args ps f g h.1)
  params_are i k (SetArg u ∷ args) (Int ∷ ps) f g h = absurd (false≢true f)
  params_are i k (SetArg u ∷ args) (Card ∷ ps) f g h = absurd (false≢true f)
