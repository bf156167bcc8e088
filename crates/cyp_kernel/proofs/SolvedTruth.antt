-- What it tells that an equation is solved for a variable: the variable's value, and the other literals.
use Rattle.std.proofs.Common.{◌≡◌, refl, sym, ap, ◌∙◌, inl, inr, Bool, true, false, ◌&&◌, ◌||◌, not, List, [], ◌∷◌, ◌++◌, ℤ, ◌+ℤ◌, neg_ℤ, Option, Some, None, arith, subst, ◌⊎◌}
use Rattle.std.specs.Ordering.{int_eq}
use Rattle.std.proofs.lemmas.Bool.{and_parts, not-true}
use Rattle.std.proofs.lemmas.Int.{ints}
use Rattle.std.proofs.lemmas.List.Folds.{list_any-append}
use Rattle.std.proofs.lemmas.Option.{cond_some, none-some, same_Some}
use Rattle.cyp_goal.proofs.FirstSolved.{first_at}
use Rattle.cyp_goal.specs.Raw.{lit_fits, term_fits}
use Rattle.cyp_goal.specs.Solving.{bind_int, bind_set, first_solved, first_some, solved_any, solved_base, solved_eq, solved_parts, solved_set, solved_side}
use Rattle.cyp_term.proofs.Lists.{Among}
use Rattle.cyp_term.specs.Meaning.{AllTrue, Assignment, SameMembers, Truth, base_value, int_in, set_value, value}
use Rattle.cyp_term.specs.Terms.{base_eq, plus, sort_eq, var_in}
use Rattle.cyp_term.specs.declared.lit.Lit.{Lit}
use Rattle.cyp_term.specs.declared.lit.Lit.TheVariants.{Eq, Same}
use Rattle.cyp_term.specs.declared.lit.SetTerm.{SetTerm}
use Rattle.cyp_term.specs.declared.subst.Subst.{Subst}
use Rattle.cyp_term.specs.declared.term.Sort.TheVariants.{Int}
use Rattle.cyp_term.specs.declared.term.Term.{Term}
use Rattle.cyp_term.specs.declared.term.Var.{Var}

-- ---- the first literal that is solved, and the others
module _ (f : Lit → Option Subst) where
  pub record First (ls : List Lit) (p : Subst × List Lit) : Type 0 where
    pub lit : Lit
    pub there : Among lit ls
    pub answer : f lit ≡ Some p.0
    pub among : (x : Lit) → Among x p.1 → Among x ls
    pub apart : (s : Assignment) → AllTrue s ls → Truth s lit × AllTrue s p.1
    pub joined : (s : Assignment) → Truth s lit → AllTrue s p.1 → AllTrue s ls

  keep_first : (l : Lit) (ls : List Lit) (q : Subst × List Lit) → First ls q → First (l ∷ ls) (q.0, l ∷ q.1)
  keep_first l ls q d = record {
    lit = d.lit;
    there = inr d.there;
    answer = d.answer;
    among = among;
    apart = λ s k. let r = d.apart s k.1 in (r.0, (k.0, r.1));
    joined = λ s t k. (k.0, d.joined s t k.1);
  }
    where
      among : (x : Lit) → Among x (l ∷ q.1) → Among x (l ∷ ls)
      among x (inl e) = inl e
      among x (inr k) = inr (d.among x k)

  first_step : (o : Option Subst) (l : Lit) (ls : List Lit) (later : Option (Subst × List Lit)) (p : Subst × List Lit) → f l ≡ o
      → ((q : Subst × List Lit) → later ≡ Some q → First ls q) → first_at o l ls later ≡ Some p → First (l ∷ ls) p
  first_step (Some by) l ls later p is ih e =
      subst (First (l ∷ ls)) (same_Some (by, ls) p e)
      (record { lit = l; there = inl refl; answer = is; among = λ x k. inr k; apart = λ s k. (k.0, k.1); joined = λ s t k. (t, k) })
  first_step None l ls None p is ih e = absurd (none-some p e)
  first_step None l ls (Some q) p is ih e = subst (First (l ∷ ls)) (same_Some (q.0, l ∷ q.1) p e) (keep_first l ls q (ih q refl))

  pub first_of : (ls : List Lit) (p : Subst × List Lit) → first_solved f ls ≡ Some p → First ls p
  first_of [] p e = absurd (none-some p e)
  first_of (l ∷ ls) p e = first_step (f l) l ls (first_solved f ls) p refl (first_of ls) e

either_some : {A : Type 0} (a b : Option A) (x : A) (P : Type 0) → (a ≡ Some x → P) → (b ≡ Some x → P) → first_some a b ≡ Some x → P
either_some None b x P f g e = g e
either_some (Some y) b x P f g e = f e

-- ---- equations of integers

-- the literal says that the variable has the value of the term, and that is what is bound
pub record SolvesInt (test : Var → Bool) (by : Subst) (l : Lit) : Type 0 where
  pub var : Var
  pub to : Term
  pub binds : by ≡ bind_int var to
  pub int : sort_eq var.sort Int ≡ true
  pub passes : test var ≡ true
  pub other : base_eq (Some var) to.base ≡ false
  pub says : (s : Assignment) → Truth s l → s.number var ≡ value s to
  pub back : (s : Assignment) → s.number var ≡ value s to → Truth s l
  pub fits : (p q : Var → Bool) → lit_fits p q l ≡ true → term_fits p to ≡ true

record Side (test : Var → Bool) (b : Option Var) (s t : Term) (by : Subst) : Type 0 where
  var : Var
  base : b ≡ Some var
  int : sort_eq var.sort Int ≡ true
  passes : test var ≡ true
  other : base_eq (Some var) t.base ≡ false
  binds : by ≡ bind_int var (plus t (neg_ℤ s.offset))

solve_for : (x a y b : ℤ) → x +ℤ a ≡ y +ℤ b → x ≡ y +ℤ (b +ℤ neg_ℤ a)
solve_for x a y b e = omega (arith, ints)

solve_back : (x a y b : ℤ) → x ≡ y +ℤ (b +ℤ neg_ℤ a) → x +ℤ a ≡ y +ℤ b
solve_back x a y b e = omega (arith, ints)

module _ (test : Var → Bool) where
  side : (b : Option Var) (s t : Term) (by : Subst) → solved_base test b s t ≡ Some by → Side test b s t by
  side None s t by e = absurd (none-some by e)
  side (Some v) s t by e =
      let c = cond_some (sort_eq v.sort Int && test v && not (base_eq (Some v) t.base)) (bind_int v (plus t (neg_ℤ s.offset))) by e in
      let p = and_parts (sort_eq v.sort Int && test v) (not (base_eq (Some v) t.base)) c.0 in
      let q = and_parts (sort_eq v.sort Int) (test v) p.0 in
      record { var = v; base = refl; int = q.0; passes = q.1; other = not-true (base_eq (Some v) t.base) p.1; binds = sym c.1 }

  left_solves : (a b : Term) (by : Subst) → solved_side test a b ≡ Some by → SolvesInt test by (Eq a b)
  left_solves a b by e =
      let p : Side test a.base a b by = side a.base a b by e in
      record {
        var = p.var;
        to = plus b (neg_ℤ a.offset);
        binds = p.binds;
        int = p.int;
        passes = p.passes;
        other = p.other;
        says = λ s h. sym (ap (base_value s) p.base) ∙ solve_for (base_value s a.base) a.offset (base_value s b.base) b.offset h;
        back = λ s h. solve_back (base_value s a.base) a.offset (base_value s b.base) b.offset (ap (base_value s) p.base ∙ h);
        fits = λ x y h. (and_parts (term_fits x a) (term_fits x b) h).1;
      }

  right_solves : (a b : Term) (by : Subst) → solved_side test b a ≡ Some by → SolvesInt test by (Eq a b)
  right_solves a b by e =
      let p : Side test b.base b a by = side b.base b a by e in
      record {
        var = p.var;
        to = plus a (neg_ℤ b.offset);
        binds = p.binds;
        int = p.int;
        passes = p.passes;
        other = p.other;
        says = λ s h. sym (ap (base_value s) p.base) ∙ solve_for (base_value s b.base) b.offset (base_value s a.base) a.offset (sym h);
        back = λ s h. sym (solve_back (base_value s b.base) b.offset (base_value s a.base) a.offset (ap (base_value s) p.base ∙ h));
        fits = λ x y h. (and_parts (term_fits x a) (term_fits x b) h).0;
      }

  sides_solve : (a b : Term) (by : Subst) → first_some (solved_side test a b) (solved_side test b a) ≡ Some by → SolvesInt test by (Eq a b)
  sides_solve a b by e = either_some (solved_side test a b) (solved_side test b a) by (SolvesInt test by (Eq a b)) (left_solves a b by) (right_solves a b by) e

  pub solves_eq : (l : Lit) (by : Subst) → solved_eq test l ≡ Some by → SolvesInt test by l
  solves_eq (Eq a b) by e = sides_solve a b by e
  solves_eq l by e = absurd (none-some by e)

-- ---- equations of sets

-- the literal is true where the variable has the members of the set term, and that is what is bound
pub record SolvesSet (test : Var → Bool) (by : Subst) (l : Lit) : Type 0 where
  pub var : Var
  pub to : SetTerm
  pub binds : by ≡ bind_set var to
  pub passes : test var ≡ true
  pub other : var_in var to.vars ≡ false
  pub back : (s : Assignment) → SameMembers (s.members var) (set_value s to) → Truth s l

record Whole (test : Var → Bool) (vs : List Var) (es : List Term) (t : SetTerm) (by : Subst) : Type 0 where
  var : Var
  vars : vs ≡ var ∷ []
  elems : es ≡ []
  passes : test var ≡ true
  other : var_in var t.vars ≡ false
  binds : by ≡ bind_set var t

or_zero : (a : Bool) → (a || false) ≡ a
or_zero true = refl
or_zero false = refl

-- a variable alone
pub alone : (s : Assignment) (a : SetTerm) (v : Var) → a.vars ≡ v ∷ [] → a.elems ≡ [] → SameMembers (set_value s a) (s.members v)
alone s a v p q z =
    (λ i. int_in z (set_value s (record { vars = p i; elems = q i })))
    ∙ list_any-append (int_eq z) (s.members v ++ []) []
    ∙ or_zero (int_in z (s.members v ++ []))
    ∙ list_any-append (int_eq z) (s.members v) []
    ∙ or_zero (int_in z (s.members v))

module _ (test : Var → Bool) where
  whole : (vs : List Var) (es : List Term) (t : SetTerm) (by : Subst) → solved_parts test vs es t ≡ Some by → Whole test vs es t by
  whole [] es t by e = absurd (none-some by e)
  whole (v ∷ w ∷ vs) es t by e = absurd (none-some by e)
  whole (v ∷ []) (x ∷ es) t by e = absurd (none-some by e)
  whole (v ∷ []) [] t by e =
      let c = cond_some (test v && not (var_in v t.vars)) (bind_set v t) by e in
      let p = and_parts (test v) (not (var_in v t.vars)) c.0 in
      record { var = v; vars = refl; elems = refl; passes = p.0; other = not-true (var_in v t.vars) p.1; binds = sym c.1 }

  left_set : (a b : SetTerm) (by : Subst) → solved_set test a b ≡ Some by → SolvesSet test by (Same a b)
  left_set a b by e =
      let p : Whole test a.vars a.elems b by = whole a.vars a.elems b by e in
      record { var = p.var; to = b; binds = p.binds; passes = p.passes; other = p.other; back = λ s k z. alone s a p.var p.vars p.elems z ∙ k z }

  right_set : (a b : SetTerm) (by : Subst) → solved_set test b a ≡ Some by → SolvesSet test by (Same a b)
  right_set a b by e =
      let p : Whole test b.vars b.elems a by = whole b.vars b.elems a by e in
      record { var = p.var; to = a; binds = p.binds; passes = p.passes; other = p.other; back = λ s k z. sym (alone s b p.var p.vars p.elems z ∙ k z) }

  pub solves_any : (l : Lit) (by : Subst) → solved_any test l ≡ Some by → SolvesInt test by l ⊎ SolvesSet test by l
  solves_any (Eq a b) by e = inl (sides_solve test a b by e)
  solves_any (Same a b) by e =
      inr (either_some (solved_set test a b) (solved_set test b a) by (SolvesSet test by (Same a b)) (left_set a b by) (right_set a b by) e)
  solves_any l by e = absurd (none-some by e)
