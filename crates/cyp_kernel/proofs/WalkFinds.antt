-- What a walk over the positions of a match finds holds at each position.
use Rattle.std.proofs.Common.{◌≡◌, refl, sym, ap, ◌∙◌, ℕ, ◌⊎◌, inl, inr, Bool, true, false, cond, ◌||◌, List, [], ◌∷◌, ◌++◌, append-nil, ℤ, ◌+ℤ◌, neg_ℤ, Option, Some, None, is_some, arith, subst}
use Rattle.std.specs.List.{AllByRecursion}
use Rattle.std.proofs.lemmas.Bool.{false≢true, or_parts}
use Rattle.std.proofs.lemmas.Int.{ints}
use Rattle.std.proofs.lemmas.Option.{none-some, same_Some}
use Rattle.cyp_goal.proofs.EachVar.{Each}
use Rattle.cyp_kernel.proofs.Allowed.{taken_some}
use Rattle.cyp_kernel.proofs.Bindings.{Extends, IsBound, applied_early, extends_self, extends_trans, int_behind, int_last, set_behind, set_last}
use Rattle.cyp_kernel.proofs.GoalFacts.{true_left, true_right}
use Rattle.cyp_term.proofs.Lists.{Among, Among-left, Among-right}
use Rattle.cyp_term.proofs.Substitution.{set_value-apply_set}
use Rattle.cyp_term.specs.Meaning.{AllTrue, Assignment, SameMembers, base_value, image_members, image_value, int_in, set_value, under, value}
use Rattle.cyp_term.specs.Terms.{apply_set, apply_term, base_vars, int_image, plus, set_image, term_vars, var_in}
use Rattle.cyp_term.specs.declared.lit.Lit.TheVariants.{Eq, Same}
use Rattle.cyp_term.specs.declared.lit.SetTerm.{SetTerm}
use Rattle.cyp_term.specs.declared.subst.Subst.{Subst}
use Rattle.cyp_term.specs.declared.term.Term.{Term}
use Rattle.cyp_term.specs.declared.term.Var.{Var}
use Rattle.cyp_unify.specs.Matches.{Content, OfSet, Plain, Position, Walk, add_int, add_set, binds, lone_of_parts, parts_wait, set_step, walk, walk_step}
use Rattle.cyp_unify.specs.declared.found.Mend.{Mend}

-- ---- what is asked of a finished walk, and what it gives

-- the needed literals are true, and so are the equalities of sets that waited
pub record WalkTrue (s : Assignment) (by : Subst) (w : Walk) : Type 0 where
  pub need : AllTrue s w.need
  pub late : (p : SetTerm × SetTerm) → Among p w.late → SameMembers (set_value (under by s) p.0) (set_value s p.1)

-- a store of the value of the term into the cell at this place
abbrev pub IsMended : Assignment → Assignment → List Mend → ℕ → Term → Type 0
IsMended s u ms k t = (m : Mend) × Among m ms × (m.cell ≡ k) × (value u t ≡ value s m.value)

-- both sides of the position have the same value, or the cell gets it by a store
abbrev pub PositionHolds : Assignment → Assignment → List Mend → Position → Type 0
PositionHolds s u ms (Plain t r) = value u t ≡ value s r
PositionHolds s u ms (Content k t r) = (value u t ≡ value s r) ⊎ IsMended s u ms k t
PositionHolds s u ms (OfSet x r) = SameMembers (set_value u x) (set_value s r)

-- no variable of the companion's side is one of these
abbrev pub IsFreeOf : List Var → Position → Type 0
IsFreeOf exist (Plain t r) = Each (λ v. var_in v exist ≡ false) (term_vars t)
IsFreeOf exist (Content k t r) = Each (λ v. var_in v exist ≡ false) (term_vars t)
IsFreeOf exist (OfSet x r) = Each (λ v. var_in v exist ≡ false) x.vars

-- what is found stays found
pub record Grows (w more : Walk) : Type 0 where
  pub by : Extends w.by more.by
  pub need : (s : Assignment) → AllTrue s more.need → AllTrue s w.need
  pub late : (p : SetTerm × SetTerm) → Among p w.late → Among p more.late
  pub mends : (m : Mend) → Among m w.mends → Among m more.mends

grows_self : (w : Walk) → Grows w w
grows_self w = record { by = extends_self w.by; need = λ s a. a; late = λ p a. a; mends = λ m a. a }

grows_trans : (a b c : Walk) → Grows a b → Grows b c → Grows a c
grows_trans a b c p q = record {
  by = extends_trans a.by b.by c.by p.by q.by;
  need = λ s x. p.need s (q.need s x);
  late = λ o x. q.late o (p.late o x);
  mends = λ m x. q.mends m (p.mends m x);
}

-- ---- terms

pub is_none_from : {A : Type 0} (o : Option A) → is_some o ≡ false → o ≡ None
is_none_from None e = refl
is_none_from (Some x) e = absurd (false≢true (sym e))

pub is_some_out : {A : Type 0} (o : Option A) → is_some o ≡ true → (x : A) × (o ≡ Some x)
is_some_out None e = absurd (false≢true e)
is_some_out (Some x) e = (x, refl)

-- a term that would bind a variable
bound_new : (c : Bool) (o : Option Term) (e : Bool) (v w : Var) → c ≡ (e || is_some o) → cond c None (Some w) ≡ Some v → (w ≡ v) × (o ≡ None)
bound_new true o e v w p h = absurd (none-some v h)
bound_new false o e v w p h = (same_Some w v h, is_none_from o (or_parts e (is_some o) (sym p)).1)

pub binds_some : (exist : List Var) (by : Subst) (t : Term) (v : Var) → binds exist by t ≡ Some v → (t.base ≡ Some v) × (int_image by.ints v ≡ None)
binds_some exist by t v e =
    let a = taken_some t.base (λ w. cond (var_in w exist || is_some (int_image by.ints w)) None (Some w)) v e in
    let b = bound_new (var_in a.0 exist || is_some (int_image by.ints a.0)) (int_image by.ints a.0) (var_in a.0 exist) v a.0 refl a.2 in
    (a.1 ∙ ap (λ w. Some w) b.0, subst (λ (w : Var). int_image by.ints w ≡ None) b.0 b.1)

-- a term that binds none is bound
not_new : (c : Bool) (o : Option Term) (e : Bool) (w : Var) → c ≡ (e || is_some o) → e ≡ false → cond c None (Some w) ≡ None → (x : Term) × (o ≡ Some x)
not_new true o e w p f h = is_some_out o (sym (p ∙ ap (λ (b : Bool). b || is_some o) f))
not_new false o e w p f h = absurd (none-some w (sym h))

pub bound_base : (exist : List Var) (by : Subst) (b : Option Var)
    → ◌≡◌ {A = Option Var} (elim b [ None ↦ None | Some v ↦ cond (var_in v exist || is_some (int_image by.ints v)) None (Some v) ]) None
    → Each (λ v. var_in v exist ≡ false) (base_vars b) → IsBound by b
bound_base exist by None e f = tt
bound_base exist by (Some v) e f = not_new (var_in v exist || is_some (int_image by.ints v)) (int_image by.ints v) (var_in v exist) v refl (f v (inl refl)) e

taken_away : (b r o : ℤ) → (b +ℤ (r +ℤ neg_ℤ o)) +ℤ o ≡ b +ℤ r
taken_away b r o = omega (arith, ints)

bound_base_value : (by : Subst) (s : Assignment) (b : Option Var) (o : ℤ) (r : Term) (v : Var) → b ≡ Some v → int_image by.ints v ≡ Some (plus r (neg_ℤ o))
    → value (under by s) (record { base = b; offset = o }) ≡ value s r
bound_base_value by s b o r v e i =
    ap (λ (c : Option Var). base_value (under by s) c +ℤ o) e ∙ ap (λ (x : Option Term). image_value s v x +ℤ o) i ∙ taken_away (base_value s r.base) r.offset o

-- ---- set terms

no_parts : (vs : List Var) (es : List Term) → lone_of_parts vs es ≡ None → parts_wait vs es ≡ false → (vs ≡ []) × (es ≡ [])
no_parts [] [] e f = (refl, refl)
no_parts [] (t ∷ es) e f = absurd (false≢true (sym f))
no_parts (v ∷ []) [] e f = absurd (none-some v (sym e))
no_parts (v ∷ []) (t ∷ es) e f = absurd (false≢true (sym f))
no_parts (v ∷ w ∷ vs) [] e f = absurd (false≢true (sym f))
no_parts (v ∷ w ∷ vs) (t ∷ es) e f = absurd (false≢true (sym f))

pub one_part : (vs : List Var) (es : List Term) (v : Var) → lone_of_parts vs es ≡ Some v → (vs ≡ v ∷ []) × (es ≡ [])
one_part [] [] v e = absurd (none-some v e)
one_part [] (t ∷ es) v e = absurd (none-some v e)
one_part (w ∷ []) [] v e = (ap (λ u. u ∷ []) (same_Some w v e), refl)
one_part (w ∷ []) (t ∷ es) v e = absurd (none-some v e)
one_part (w ∷ u ∷ vs) [] v e = absurd (none-some v e)
one_part (w ∷ u ∷ vs) (t ∷ es) v e = absurd (none-some v e)

set_is : (x : SetTerm) (vs : List Var) (es : List Term) → x.vars ≡ vs → x.elems ≡ es → x ≡ record { vars = vs; elems = es }
set_is x vs es p q i = record { vars = p i; elems = q i }

lone_value : (u : Assignment) (x : SetTerm) (v : Var) → x.vars ≡ v ∷ [] → x.elems ≡ [] → set_value u x ≡ u.members v
lone_value u x v p q = ap (set_value u) (set_is x (v ∷ []) [] p q) ∙ append-nil (u.members v ++ []) ∙ append-nil (u.members v)

module _ (exist : List Var) (w : Walk) where
  -- the step grows the walk, and what it finds holds at its position in the end
  record StepGood (p : Position) (more : Walk) : Type 0 where
    grows : Grows w more
    holds : (s : Assignment) (by : Subst) (ms : List Mend) → Extends more.by by → WalkTrue s by more → ((m : Mend) → Among m more.mends → Among m ms)
        → PositionHolds s (under by s) ms p

  bound_grows : (v : Var) (t : Term) → Grows w (record w { by = add_int w.by v t })
  bound_grows v t = record {
    by = record { ints = λ x y e. int_behind w.by.ints (record { var = v; to = t } ∷ []) x y e; sets = λ x u e. e };
    need = λ s a. a;
    late = λ p a. a;
    mends = λ m a. a;
  }

  new_value : (t r : Term) (v : Var) → binds exist w.by t ≡ Some v → (s : Assignment) (by : Subst) → Extends (add_int w.by v (plus r (neg_ℤ t.offset))) by → value (under by s) t ≡ value s r
  new_value t r v e s by x =
      let b = binds_some exist w.by t v e in
      bound_base_value by s t.base t.offset r v b.0 (x.ints v (plus r (neg_ℤ t.offset)) (int_last w.by.ints v (plus r (neg_ℤ t.offset)) b.1))

  plain_step : (t r : Term) → Each (λ v. var_in v exist ≡ false) (term_vars t) → (o : Option Var) → binds exist w.by t ≡ o
      → StepGood (Plain t r) (elim o [ Some v ↦ record w { by = add_int w.by v (plus r (neg_ℤ t.offset)) } | None ↦ record w { need = w.need ++ Eq (apply_term w.by t) r ∷ [] } ])
  plain_step t r f (Some v) e = record { grows = bound_grows v (plus r (neg_ℤ t.offset)); holds = λ s by ms x y z. new_value t r v e s by x }
  plain_step t r f None e = record {
    grows = record { by = extends_self w.by; need = λ s a. true_left s w.need (Eq (apply_term w.by t) r ∷ []) a; late = λ p a. a; mends = λ m a. a };
    holds = λ s by ms x y z. sym (applied_early s w.by by x t (bound_base exist w.by t.base e f)) ∙ (true_right s w.need (Eq (apply_term w.by t) r ∷ []) y.need).0;
  }

  content_step : (k : ℕ) (t r : Term) → Each (λ v. var_in v exist ≡ false) (term_vars t) → (o : Option Var) → binds exist w.by t ≡ o
      → StepGood (Content k t r)
      (elim o [ Some v ↦ record w { by = add_int w.by v (plus r (neg_ℤ t.offset)) } | None ↦ record w { mends = w.mends ++ record { cell = k; value = apply_term w.by t } ∷ [] } ])
  content_step k t r f (Some v) e = record { grows = bound_grows v (plus r (neg_ℤ t.offset)); holds = λ s by ms x y z. inl (new_value t r v e s by x) }
  content_step k t r f None e =
      let m : Mend = record { cell = k; value = apply_term w.by t } in
      record {
        grows = record { by = extends_self w.by; need = λ s a. a; late = λ p a. a; mends = λ n a. Among-left n w.mends (m ∷ []) a };
        holds = λ s by ms x y z. inr (m, z m (Among-right m w.mends (m ∷ []) (inl refl)), refl, sym (applied_early s w.by by x t (bound_base exist w.by t.base e f)));
      }

  set_late : (x r : SetTerm) → StepGood (OfSet x r) (set_step w x r true)
  set_late x r = record {
    grows = record { by = extends_self w.by; need = λ s a. a; late = λ p a. Among-left p w.late ((x, r) ∷ []) a; mends = λ m a. a };
    holds = λ s by ms e y z. y.late (x, r) (Among-right (x, r) w.late ((x, r) ∷ []) (inl refl));
  }

  set_need : (x r : SetTerm) → ((s : Assignment) (by : Subst) → Extends w.by by → SameMembers (set_value (under w.by s) x) (set_value (under by s) x)) → StepGood (OfSet x r) (set_step w x r false)
  set_need x r same = record {
    grows = record { by = extends_self w.by; need = λ s a. true_left s w.need (Same (apply_set w.by x) r ∷ []) a; late = λ p a. a; mends = λ m a. a };
    holds = λ s by ms e y z q. sym (same s by e q) ∙ sym (set_value-apply_set w.by s x q) ∙ (true_right s w.need (Same (apply_set w.by x) r ∷ []) y.need).0 q;
  }

  -- no variable at all
  set_plain : (x r : SetTerm) (b : Bool) → parts_wait x.vars x.elems ≡ b → lone_of_parts x.vars x.elems ≡ None → StepGood (OfSet x r) (set_step w x r b)
  set_plain x r true e n = set_late x r
  set_plain x r false e n =
      let p = no_parts x.vars x.elems n e in
      set_need x r (λ s by k q. ap (λ (y : SetTerm). int_in q (set_value (under w.by s) y)) (set_is x [] [] p.0 p.1) ∙ sym (ap (λ (y : SetTerm). int_in q (set_value (under by s) y)) (set_is x [] [] p.0 p.1)))

  set_lone : (x r : SetTerm) (v : Var) → x.vars ≡ v ∷ [] → x.elems ≡ [] → var_in v exist ≡ false → (b : Bool) → (var_in v exist || is_some (set_image w.by.sets v)) ≡ b
      → StepGood (OfSet x r) (elim b [ true ↦ set_step w x r false | false ↦ record w { by = add_set w.by v r } ])
  set_lone x r v p q f true e =
      let known = is_some_out (set_image w.by.sets v) (sym (ap (λ (b : Bool). b || is_some (set_image w.by.sets v)) f) ∙ e) in
      set_need x r (λ s by k z.
      ap (int_in z) (lone_value (under w.by s) x v p q ∙ ap (image_members s v) known.1 ∙ sym (ap (image_members s v) (k.sets v known.0 known.1)) ∙ sym (lone_value (under by s) x v p q)))
  set_lone x r v p q f false e =
      let none = is_none_from (set_image w.by.sets v) (or_parts (var_in v exist) (is_some (set_image w.by.sets v)) e).1 in
      record {
        grows = record {
          by = record { ints = λ y t i. i; sets = λ y u i. set_behind w.by.sets (record { var = v; to = r } ∷ []) y u i };
          need = λ s a. a;
          late = λ o a. a;
          mends = λ m a. a;
        };
        holds = λ s by ms k y z q'. ap (int_in q') (lone_value (under by s) x v p q ∙ ap (image_members s v) (k.sets v r (set_last w.by.sets v r none)));
      }

  set_by : (x r : SetTerm) → Each (λ v. var_in v exist ≡ false) x.vars → (o : Option Var) → lone_of_parts x.vars x.elems ≡ o
      → StepGood (OfSet x r)
      (elim o [
        | None ↦ set_step w x r (parts_wait x.vars x.elems)
        | Some v ↦ elim (var_in v exist || is_some (set_image w.by.sets v)) [ true ↦ set_step w x r false | false ↦ record w { by = add_set w.by v r } ]
      ])
  set_by x r f None e = set_plain x r (parts_wait x.vars x.elems) refl e
  set_by x r f (Some v) e =
      let p = one_part x.vars x.elems v e in
      set_lone x r v p.0 p.1 (f v (subst (λ (vs : List Var). Among v vs) (sym p.0) (inl refl))) (var_in v exist || is_some (set_image w.by.sets v)) refl

  step_good : (p : Position) → IsFreeOf exist p → StepGood p (walk_step exist w p)
  step_good (Plain t r) f = plain_step t r f (binds exist w.by t) refl
  step_good (Content k t r) f = content_step k t r f (binds exist w.by t) refl
  step_good (OfSet x r) f = set_by x r f (lone_of_parts x.vars x.elems) refl

pub walk_grows : (exist : List Var) (w : Walk) (ps : List Position) → AllByRecursion (IsFreeOf exist) ps → Grows w (walk exist w ps)
walk_grows exist w [] f = grows_self w
walk_grows exist w (p ∷ ps) f =
    grows_trans w (walk_step exist w p) (walk exist (walk_step exist w p) ps) (step_good exist w p f.0).grows (walk_grows exist (walk_step exist w p) ps f.1)

-- where what the walk needs is true, each position holds
pub walk_holds : (exist : List Var) (w : Walk) (ps : List Position) → AllByRecursion (IsFreeOf exist) ps → (s : Assignment) (by : Subst) → Extends (walk exist w ps).by by
    → WalkTrue s by (walk exist w ps) → AllByRecursion (PositionHolds s (under by s) (walk exist w ps).mends) ps
walk_holds exist w [] f s by e y = tt
walk_holds exist w (p ∷ ps) f s by e y =
    let next : Walk = walk_step exist w p in
    let all : Walk = walk exist next ps in
    let grows = walk_grows exist next ps f.1 in
    let so_far : WalkTrue s by next = record { need = grows.need s y.need; late = λ o a. y.late o (grows.late o a) } in
    ((step_good exist w p f.0).holds s by all.mends (extends_trans next.by all.by by grows.by e) so_far grows.mends, walk_holds exist next ps f.1 s by e y)
