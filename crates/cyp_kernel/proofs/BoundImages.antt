-- What a match binds: no existential, each other variable of the companion, and to terms of old variables.
use Rattle.std.proofs.Common.{◌≡◌, refl, sym, ℕ, ◌⊎◌, inl, inr, Bool, true, false, cond, ◌||◌, List, [], ◌∷◌, ◌++◌, Option, Some, None, is_some, subst}
use Rattle.std.specs.Prelude.{neg_ℤ, option_map}
use Rattle.std.specs.List.{AllByRecursion}
use Rattle.std.proofs.lemmas.Option.{none-some, same_Some}
use Rattle.cyp_goal.proofs.EachVar.{Each}
use Rattle.cyp_goal.specs.Raw.{set_fits, term_fits}
use Rattle.cyp_kernel.proofs.AgreeVars.{is_number_var}
use Rattle.cyp_kernel.proofs.Allowed.{mapped_some}
use Rattle.cyp_kernel.proofs.Bindings.{Extends, int_last, set_last}
use Rattle.cyp_kernel.proofs.FoundMatch.{all_kept, and_then_some}
use Rattle.cyp_kernel.proofs.WalkFinds.{IsFreeOf, binds_some, is_none_from, is_some_out, one_part}
use Rattle.cyp_term.proofs.Equality.{Decides-var_eq}
use Rattle.cyp_term.proofs.Lists.{Among}
use Rattle.cyp_term.specs.Terms.{apply_term, base_vars, int_image, is_set_var, plus, set_image, set_vars, term_vars, var_eq, var_in}
use Rattle.cyp_term.specs.declared.lit.Lit.TheVariants.{Eq}
use Rattle.cyp_term.specs.declared.lit.SetTerm.{SetTerm}
use Rattle.cyp_term.specs.declared.subst.IntBind.{IntBind}
use Rattle.cyp_term.specs.declared.subst.SetBind.{SetBind}
use Rattle.cyp_term.specs.declared.subst.Subst.{Subst}
use Rattle.cyp_term.specs.declared.term.Term.{Term}
use Rattle.cyp_term.specs.declared.term.Var.{Var}
use Rattle.cyp_unify.specs.Matches.{Content, OfSet, Plain, Position, Walk, add_int, add_set, all_bound, binds, bound_by_map, lone_of_parts, no_walk, parts_wait, set_step, walk, walk_step}

-- ---- a binding that was added behind

int_here : (c : Bool) (t y : Term) (Q : Type 0) → (c ≡ true → t ≡ y → Q) → cond c (Some t) None ≡ Some y → (◌≡◌ {A = Option Term} None (Some y)) ⊎ Q
int_here true t y Q f e = inr (f refl (same_Some t y e))
int_here false t y Q f e = inl e

int_later : (c : Bool) (r y : Term) (o more : Option Term) (Q : Type 0) → (more ≡ Some y → (o ≡ Some y) ⊎ Q) → cond c (Some r) more ≡ Some y → (cond c (Some r) o ≡ Some y) ⊎ Q
int_later true r y o more Q f e = inl e
int_later false r y o more Q f e = f e

pub int_back : (bs : List IntBind) (v : Var) (t : Term) (x : Var) (y : Term) → int_image (bs ++ record { var = v; to = t } ∷ []) x ≡ Some y → (int_image bs x ≡ Some y) ⊎ ((v ≡ x) × (t ≡ y))
int_back [] v t x y e = int_here (var_eq v x) t y ((v ≡ x) × (t ≡ y)) (λ p q. ((Decides-var_eq v x).0 p, q)) e
int_back (b ∷ bs) v t x y e =
    int_later (var_eq b.var x) b.to y (int_image bs x) (int_image (bs ++ record { var = v; to = t } ∷ []) x) ((v ≡ x) × (t ≡ y)) (int_back bs v t x y) e

set_here : (c : Bool) (t y : SetTerm) (Q : Type 0) → (c ≡ true → t ≡ y → Q) → cond c (Some t) None ≡ Some y → (◌≡◌ {A = Option SetTerm} None (Some y)) ⊎ Q
set_here true t y Q f e = inr (f refl (same_Some t y e))
set_here false t y Q f e = inl e

set_later : (c : Bool) (r y : SetTerm) (o more : Option SetTerm) (Q : Type 0) → (more ≡ Some y → (o ≡ Some y) ⊎ Q) → cond c (Some r) more ≡ Some y → (cond c (Some r) o ≡ Some y) ⊎ Q
set_later true r y o more Q f e = inl e
set_later false r y o more Q f e = f e

pub set_back : (bs : List SetBind) (v : Var) (t : SetTerm) (x : Var) (y : SetTerm) → set_image (bs ++ record { var = v; to = t } ∷ []) x ≡ Some y → (set_image bs x ≡ Some y) ⊎ ((v ≡ x) × (t ≡ y))
set_back [] v t x y e = set_here (var_eq v x) t y ((v ≡ x) × (t ≡ y)) (λ p q. ((Decides-var_eq v x).0 p, q)) e
set_back (b ∷ bs) v t x y e =
    set_later (var_eq b.var x) b.to y (set_image bs x) (set_image (bs ++ record { var = v; to = t } ∷ []) x) ((v ≡ x) × (t ≡ y)) (set_back bs v t x y) e

-- ---- good bindings

module _ (P : Var → Type 0) where
  abbrev pub GoodTerm : Term → Type 0
  GoodTerm t = (term_fits is_number_var t ≡ true) × Each P (term_vars t)

  abbrev pub GoodSet : SetTerm → Type 0
  GoodSet u = (set_fits is_number_var is_set_var u ≡ true) × Each P (set_vars u)

  -- the present side of the position is good
  abbrev pub GoodRight : Position → Type 0
  GoodRight (Plain t r) = GoodTerm r
  GoodRight (Content k t r) = GoodTerm r
  GoodRight (OfSet x r) = GoodSet r

  module _ (exist : List Var) where
    -- each image is good, and no existential is bound
    pub record GoodBinds (by : Subst) : Type 0 where
      pub ints : (v : Var) (t : Term) → int_image by.ints v ≡ Some t → GoodTerm t × (var_in v exist ≡ false)
      pub sets : (v : Var) (u : SetTerm) → set_image by.sets v ≡ Some u → GoodSet u × (var_in v exist ≡ false)

    add_int_good : (by : Subst) (v : Var) (t : Term) → GoodBinds by → GoodTerm t → var_in v exist ≡ false → GoodBinds (add_int by v t)
    add_int_good by v t g good free = record {
      ints = λ x y e. elim (int_back by.ints v t x y e) [
        | inl i ↦ g.ints x y i
        | inr i ↦ (subst (λ (z : Term). GoodTerm z) i.1 good, subst (λ (z : Var). var_in z exist ≡ false) i.0 free)
      ];
      sets = g.sets;
    }

    add_set_good : (by : Subst) (v : Var) (u : SetTerm) → GoodBinds by → GoodSet u → var_in v exist ≡ false → GoodBinds (add_set by v u)
    add_set_good by v u g good free = record {
      ints = g.ints;
      sets = λ x y e. elim (set_back by.sets v u x y e) [
        | inl i ↦ g.sets x y i
        | inr i ↦ (subst (λ (z : SetTerm). GoodSet z) i.1 good, subst (λ (z : Var). var_in z exist ≡ false) i.0 free)
      ];
    }

    -- ---- the walk

    module _ (w : Walk) (good : GoodBinds w.by) where
      abbrev pub GoodWalk : Walk → Type 0
      GoodWalk more = GoodBinds more.by

      free_base : (t : Term) (v : Var) → t.base ≡ Some v → Each (λ x. var_in x exist ≡ false) (term_vars t) → var_in v exist ≡ false
      free_base t v e f = f v (subst (λ (b : Option Var). Among v (base_vars b)) (sym e) (inl refl))

      plain_good : (t r : Term) → Each (λ x. var_in x exist ≡ false) (term_vars t) → GoodTerm r → (o : Option Var) → binds exist w.by t ≡ o
          → GoodWalk (elim o [ Some v ↦ record w { by = add_int w.by v (plus r (neg_ℤ t.offset)) } | None ↦ record w { need = w.need ++ Eq (apply_term w.by t) r ∷ [] } ])
      plain_good t r f g (Some v) e = add_int_good w.by v (plus r (neg_ℤ t.offset)) good g (free_base t v (binds_some exist w.by t v e).0 f)
      plain_good t r f g None e = good

      content_good : (k : ℕ) (t r : Term) → Each (λ x. var_in x exist ≡ false) (term_vars t) → GoodTerm r → (o : Option Var) → binds exist w.by t ≡ o
          → GoodWalk (elim o [ Some v ↦ record w { by = add_int w.by v (plus r (neg_ℤ t.offset)) } | None ↦ record w { mends = w.mends ++ record { cell = k; value = apply_term w.by t } ∷ [] } ])
      content_good k t r f g (Some v) e = add_int_good w.by v (plus r (neg_ℤ t.offset)) good g (free_base t v (binds_some exist w.by t v e).0 f)
      content_good k t r f g None e = good

      set_step_good : (x r : SetTerm) (b : Bool) → GoodWalk (set_step w x r b)
      set_step_good x r true = good
      set_step_good x r false = good

      lone_good : (x r : SetTerm) (v : Var) → var_in v exist ≡ false → GoodSet r → (b : Bool) → GoodWalk (elim b [ true ↦ set_step w x r false | false ↦ record w { by = add_set w.by v r } ])
      lone_good x r v f g true = good
      lone_good x r v f g false = add_set_good w.by v r good g f

      set_good : (x r : SetTerm) → Each (λ y. var_in y exist ≡ false) x.vars → GoodSet r → (o : Option Var) → lone_of_parts x.vars x.elems ≡ o
          → GoodWalk (elim o [
            | None ↦ set_step w x r (parts_wait x.vars x.elems)
            | Some v ↦ elim (var_in v exist || is_some (set_image w.by.sets v)) [ true ↦ set_step w x r false | false ↦ record w { by = add_set w.by v r } ]
          ])
      set_good x r f g None e = set_step_good x r (parts_wait x.vars x.elems)
      set_good x r f g (Some v) e =
          lone_good x r v (f v (subst (λ (vs : List Var). Among v vs) (sym (one_part x.vars x.elems v e).0) (inl refl))) g (var_in v exist || is_some (set_image w.by.sets v))

      step_good : (p : Position) → IsFreeOf exist p → GoodRight p → GoodWalk (walk_step exist w p)
      step_good (Plain t r) f g = plain_good t r f g (binds exist w.by t) refl
      step_good (Content k t r) f g = content_good k t r f g (binds exist w.by t) refl
      step_good (OfSet x r) f g = set_good x r f g (lone_of_parts x.vars x.elems) refl

    walk_good : (w : Walk) → GoodBinds w.by → (ps : List Position) → AllByRecursion (IsFreeOf exist) ps → AllByRecursion GoodRight ps → GoodBinds (walk exist w ps).by
    walk_good w g [] f k = g
    walk_good w g (p ∷ ps) f k = walk_good (walk_step exist w p) (step_good w g p f.0 k.0) ps f.1 k.1

    pub found_good : (ps : List Position) → AllByRecursion (IsFreeOf exist) ps → AllByRecursion GoodRight ps → GoodBinds (walk exist no_walk ps).by
    found_good ps f k = walk_good no_walk (record { ints = λ v t e. absurd (none-some t e); sets = λ v u e. absurd (none-some u e) }) ps f k

    -- ---- and the map

    module _ (m : Subst) (map_good : GoodBinds m) where
      int_map : (by more : Subst) (v : Var) → GoodBinds by → (b : Bool) → elim b [ true ↦ Some by | false ↦ option_map (add_int by v) (int_image m.ints v) ] ≡ Some more → GoodBinds more
      int_map by more v g true e = subst (λ (x : Subst). GoodBinds x) (same_Some by more e) g
      int_map by more v g false e =
          let a = mapped_some (add_int by v) (int_image m.ints v) more e in
          let image = map_good.ints v a.0 a.1 in
          subst (λ (x : Subst). GoodBinds x) a.2 (add_int_good by v a.0 g image.0 image.1)

      set_map : (by more : Subst) (v : Var) → GoodBinds by → (b : Bool) → elim b [ true ↦ Some by | false ↦ option_map (add_set by v) (set_image m.sets v) ] ≡ Some more → GoodBinds more
      set_map by more v g true e = subst (λ (x : Subst). GoodBinds x) (same_Some by more e) g
      set_map by more v g false e =
          let a = mapped_some (add_set by v) (set_image m.sets v) more e in
          let image = map_good.sets v a.0 a.1 in
          subst (λ (x : Subst). GoodBinds x) a.2 (add_set_good by v a.0 g image.0 image.1)

      one_map : (by more : Subst) (v : Var) → GoodBinds by → (b : Bool)
          → elim b [
            | false ↦ elim (is_some (int_image by.ints v)) [ true ↦ Some by | false ↦ option_map (add_int by v) (int_image m.ints v) ]
            | true ↦ elim (is_some (set_image by.sets v)) [ true ↦ Some by | false ↦ option_map (add_set by v) (set_image m.sets v) ]
          ] ≡ Some more → GoodBinds more
      one_map by more v g false e = int_map by more v g (is_some (int_image by.ints v)) e
      one_map by more v g true e = set_map by more v g (is_some (set_image by.sets v)) e

      pub all_good : (by more : Subst) (vs : List Var) → GoodBinds by → all_bound m by vs ≡ Some more → GoodBinds more
      all_good by more [] g e = subst (λ (x : Subst). GoodBinds x) (same_Some by more e) g
      all_good by more (v ∷ vs) g e =
          let a = and_then_some (λ (b : Subst). all_bound m b vs) (bound_by_map m by v) more e in
          all_good a.0 more vs (one_map by a.0 v g (is_set_var v) a.1) a.2

-- ---- each variable is bound

-- the variable is bound as one of its sort
abbrev pub BoundBy : Subst → Var → Bool → Type 0
BoundBy by v false = (t : Term) × (int_image by.ints v ≡ Some t)
BoundBy by v true = (u : SetTerm) × (set_image by.sets v ≡ Some u)

stays_bound : (by more : Subst) (v : Var) (b : Bool) → Extends by more → BoundBy by v b → BoundBy more v b
stays_bound by more v false x k = (k.0, x.ints v k.0 k.1)
stays_bound by more v true x k = (k.0, x.sets v k.0 k.1)

int_is_bound : (m by more : Subst) (v : Var) (b : Bool) → is_some (int_image by.ints v) ≡ b → elim b [ true ↦ Some by | false ↦ option_map (add_int by v) (int_image m.ints v) ] ≡ Some more
    → BoundBy more v false
int_is_bound m by more v true q e = subst (λ (x : Subst). BoundBy x v false) (same_Some by more e) (is_some_out (int_image by.ints v) q)
int_is_bound m by more v false q e =
    let a = mapped_some (add_int by v) (int_image m.ints v) more e in
    subst (λ (x : Subst). BoundBy x v false) a.2 (a.0, int_last by.ints v a.0 (is_none_from (int_image by.ints v) q))

set_is_bound : (m by more : Subst) (v : Var) (b : Bool) → is_some (set_image by.sets v) ≡ b → elim b [ true ↦ Some by | false ↦ option_map (add_set by v) (set_image m.sets v) ] ≡ Some more
    → BoundBy more v true
set_is_bound m by more v true q e = subst (λ (x : Subst). BoundBy x v true) (same_Some by more e) (is_some_out (set_image by.sets v) q)
set_is_bound m by more v false q e =
    let a = mapped_some (add_set by v) (set_image m.sets v) more e in
    subst (λ (x : Subst). BoundBy x v true) a.2 (a.0, set_last by.sets v a.0 (is_none_from (set_image by.sets v) q))

is_bound : (m by more : Subst) (v : Var) (b : Bool)
    → elim b [
      | false ↦ elim (is_some (int_image by.ints v)) [ true ↦ Some by | false ↦ option_map (add_int by v) (int_image m.ints v) ]
      | true ↦ elim (is_some (set_image by.sets v)) [ true ↦ Some by | false ↦ option_map (add_set by v) (set_image m.sets v) ]
    ] ≡ Some more → BoundBy more v b
is_bound m by more v false e = int_is_bound m by more v (is_some (int_image by.ints v)) refl e
is_bound m by more v true e = set_is_bound m by more v (is_some (set_image by.sets v)) refl e

pub all_are_bound : (m by more : Subst) (vs : List Var) → all_bound m by vs ≡ Some more → (v : Var) → Among v vs → BoundBy more v (is_set_var v)
all_are_bound m by more [] e v k = absurd k
all_are_bound m by more (w ∷ vs) e v (inl p) =
    let a = and_then_some (λ (b : Subst). all_bound m b vs) (bound_by_map m by w) more e in
    subst (λ (x : Var). BoundBy more x (is_set_var x)) (sym p) (stays_bound a.0 more w (is_set_var w) (all_kept m a.0 more vs a.2) (is_bound m by a.0 w (is_set_var w) a.1))
all_are_bound m by more (w ∷ vs) e v (inr k) =
    let a = and_then_some (λ (b : Subst). all_bound m b vs) (bound_by_map m by w) more e in all_are_bound m a.0 more vs a.2 v k
