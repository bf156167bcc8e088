-- The tests of guards in a program, and the body that they choose.
use Rattle.std.proofs.Common.{◌≡◌, refl, sym, ap, ◌∙◌, ℕ, zero, suc, ◌≤◌, Bool, true, false, cond, not, ◌&&◌, Decides, List, [], ◌∷◌, Some, ℤ, ◌≤ℤ◌, ◌<ℤ◌, arith, subst}
use Rattle.std.specs.Prelude.{int_le, int_lt, slice_get}
use Rattle.std.specs.List.{list_all}
use Rattle.std.specs.Ordering.{int_eq}
use Rattle.std.proofs.lemmas.Bool.{and_parts, both_ways, false≢true, true_from_ne_false}
use Rattle.std.proofs.lemmas.Int.{ints}
use Rattle.std.proofs.lemmas.Bool.Decides.{Decides-int_eq, Decides-not}
use Rattle.std.proofs.lemmas.Option.{none-some, same_Some}
use Rattle.cyp_heap.specs.Stores.{Store}
use Rattle.cyp_heap.specs.declared.goal.Goal.{Goal}
use Rattle.cyp_heap.specs.declared.pred.Preds.{Preds}
use Rattle.cyp_kernel.proofs.BodyRuns.{begun_run, less_suc}
use Rattle.cyp_kernel.proofs.NamedValues.{expr_is}
use Rattle.cyp_kernel.specs.Meets.{AreNamed, MeetsSoFar, body_state}
use Rattle.cyp_kernel.specs.Naming.{Names, expr_of, test_of}
use Rattle.cyp_kernel.specs.Statements.{choose}
use Rattle.cyp_machine.specs.Runs.{Run}
use Rattle.cyp_machine.specs.States.{State}
use Rattle.cyp_machine.specs.Steps.{followed_by}
use Rattle.cyp_machine.specs.Values.{Values, expr_value, test_value}
use Rattle.cyp_prog.specs.Programs.{Body, Choosing, End, Procedure, Then}
use Rattle.cyp_step.specs.Shown.{is_program_expr}
use Rattle.cyp_step.specs.Unfolding.{is_testable}
use Rattle.cyp_term.proofs.Numbers.{Decides-int_le}
use Rattle.cyp_term.specs.Meaning.{Assignment, Truth, value}
use Rattle.cyp_term.specs.declared.lit.Lit.{Lit}
use Rattle.cyp_term.specs.declared.lit.Lit.TheVariants.{Eq, Le, Lt, Member, Ne, NotMember, NotSame, NotSub, Same, Sub}
use Rattle.cyp_term.specs.declared.term.Term.{Term}

decides_at : (f : ℤ → ℤ → Bool) (R : ℤ → ℤ → Type 0) → ((x y : ℤ) → Decides (f x y) (R x y)) → (x y a b : ℤ) → x ≡ a → y ≡ b → Decides (f x y) (R a b)
decides_at f R d x y a b p q = subst (λ (z : ℤ). Decides (f x y) (R a z)) q (subst (λ (z : ℤ). Decides (f x y) (R z y)) p (d x y))

Decides-int_lt : (a b : ℤ) → Decides (int_lt a b) (a <ℤ b)
Decides-int_lt a b = (λ e. omega (arith, ints), λ h. true_from_ne_false (int_lt a b) (λ e. omega (arith, ints)))

module _ (names : Names) (vs : Values) (s : Assignment) (g : Goal) (named : AreNamed names vs s g.program) where
  compared : (f : ℤ → ℤ → Bool) (R : ℤ → ℤ → Type 0) → ((x y : ℤ) → Decides (f x y) (R x y)) → (a b : Term) → (is_program_expr g a && is_program_expr g b) ≡ true
      → Decides (f (expr_value vs (expr_of names a)) (expr_value vs (expr_of names b))) (R (value s a) (value s b))
  compared f R d a b e =
      let both = and_parts (is_program_expr g a) (is_program_expr g b) e in
      decides_at f R d (expr_value vs (expr_of names a)) (expr_value vs (expr_of names b)) (value s a) (value s b) (expr_is names vs s g a named both.0) (expr_is names vs s g b named both.1)

  -- the test of a literal tells whether it is true
  pub test_tells : (l : Lit) → is_testable g l ≡ true → Decides (test_value vs (test_of names l)) (Truth s l)
  test_tells (Eq a b) e = compared (λ x y. int_eq x y) (λ x y. x ≡ y) Decides-int_eq a b e
  test_tells (Ne a b) e = compared (λ x y. not (int_eq x y)) (λ x y. ¬ (x ≡ y)) (λ x y. Decides-not (int_eq x y) (Decides-int_eq x y)) a b e
  test_tells (Le a b) e = compared int_le (λ x y. x ≤ℤ y) Decides-int_le a b e
  test_tells (Lt a b) e = compared int_lt (λ x y. x <ℤ y) Decides-int_lt a b e
  test_tells (Same a b) e = absurd (false≢true e)
  test_tells (NotSame a b) e = absurd (false≢true e)
  test_tells (Member a b) e = absurd (false≢true e)
  test_tells (NotMember a b) e = absurd (false≢true e)
  test_tells (Sub a b) e = absurd (false≢true e)
  test_tells (NotSub a b) e = absurd (false≢true e)

pub zero_suc : (i : ℕ) → 0 ≡ suc i → ⊥
zero_suc i e = cc

pub pred_same : (p i : ℕ) → suc p ≡ suc i → p ≡ i
pred_same p i e = omega arith

pub followed_by_end : (b : Body) → followed_by b End ≡ b
followed_by_end End = refl
followed_by_end (Then c b) = ap (Then c) (followed_by_end b)

-- each run of at most so many steps of the body goes right
abbrev pub GoesRight : List Procedure → Preds → Goal → Assignment → Store → Values → ℕ → Body → Type 0
GoesRight ps preds g s h vs k b = (m : ℕ) (t : State) → m ≤ k → Run ps m (body_state h vs b) t → MeetsSoFar preds g s t

module _ (ps : List Procedure) (preds : Preds) (g : Goal) (names : Names) (s : Assignment) (h : Store) (vs : Values) (k : ℕ) (named : AreNamed names vs s g.program) where
  -- no other of the guards is true
  abbrev pub OnlyTrue : List Lit → ℕ → Type 0
  OnlyTrue gs i = (j : ℕ) (l : Lit) → slice_get gs j ≡ Some l → Truth s l → j ≡ i

  after_test : (b more : Body) (t : State) → GoesRight ps preds g s h vs k b → (j : ℕ) → suc j ≤ k → more ≡ b
      → Run ps j (body_state h vs (followed_by more End)) t → MeetsSoFar preds g s t
  after_test b more t right j le e r = right j t (less_suc j k le) (subst (λ (b : Body). Run ps j (body_state h vs b) t) (followed_by_end more ∙ e) r)

  -- the guards choose the body of the one that is true
  pub choose_right : (gs : List Lit) (bs : List Body) (i : ℕ) (l : Lit) (b : Body) → list_all (is_testable g) gs ≡ true → slice_get gs i ≡ Some l → slice_get bs i ≡ Some b → Truth s l
      → OnlyTrue gs i → GoesRight ps preds g s h vs k b → GoesRight ps preds g s h vs k (choose names gs bs)
  choose_right [] bs i l b all at body holds only right = absurd (none-some l at)
  choose_right (l0 ∷ gs) [] i l b all at body holds only right = absurd (none-some b body)
  choose_right (l0 ∷ []) (b0 ∷ bs) zero l b all at body holds only right = subst (λ (x : Body). GoesRight ps preds g s h vs k x) (sym (same_Some b0 b body)) right
  choose_right (l0 ∷ []) (b0 ∷ bs) (suc i) l b all at body holds only right = absurd (none-some l at)
  choose_right (l0 ∷ l1 ∷ gs) (b0 ∷ bs) i l b all at body holds only right =
      let both = and_parts (is_testable g l0) (list_all (is_testable g) (l1 ∷ gs)) all in
      let tells = test_tells names vs s g named l0 both.0 in
      two l0 (l1 ∷ gs) b0 bs (choose names (l1 ∷ gs) bs) (test_value vs (test_of names l0)) refl tells i l b at body holds only right
      (λ i' at' body' only'. choose_right (l1 ∷ gs) bs i' l b both.1 at' body' holds only' right)
    where
      two : (l0 : Lit) (gs : List Lit) (b0 : Body) (bs : List Body) (rest : Body) (test : Bool) → test_value vs (test_of names l0) ≡ test → Decides (test_value vs (test_of names l0)) (Truth s l0)
          → (i : ℕ) (l : Lit) (b : Body) → slice_get (l0 ∷ gs) i ≡ Some l → slice_get (b0 ∷ bs) i ≡ Some b → Truth s l → OnlyTrue (l0 ∷ gs) i → GoesRight ps preds g s h vs k b
          → ((i' : ℕ) → slice_get gs i' ≡ Some l → slice_get bs i' ≡ Some b → OnlyTrue gs i' → GoesRight ps preds g s h vs k rest)
          → GoesRight ps preds g s h vs k (Then (Choosing (test_of names l0) b0 rest) End)
      two l0 gs b0 bs rest test e tells i l b at body holds only right more zero t le r =
          begun_run preds g s h vs (Choosing (test_of names l0) b0 rest) End t refl r
      two l0 gs b0 bs rest true e tells zero l b at body holds only right more (suc j) t le r =
          after_test b (cond (test_value vs (test_of names l0)) b0 rest) t right j le (ap (λ (x : Bool). cond x b0 rest) e ∙ same_Some b0 b body) (subst (λ (u : State). Run ps j u t) r.1 r.2)
      two l0 gs b0 bs rest true e tells (suc i) l b at body holds only right more (suc j) t le r = absurd (zero_suc i (only 0 l0 refl (tells.0 e)))
      two l0 gs b0 bs rest false e tells zero l b at body holds only right more (suc j) t le r =
          absurd (both_ways (test_value vs (test_of names l0)) e (tells.1 (subst (λ (x : Lit). Truth s x) (sym (same_Some l0 l at)) holds)))
      two l0 gs b0 bs rest false e tells (suc i) l b at body holds only right more (suc j) t le r =
          after_test rest (cond (test_value vs (test_of names l0)) b0 rest) t (more i at body (λ p q a y. pred_same p i (only (suc p) q a y))) j le (ap (λ (x : Bool). cond x b0 rest) e)
          (subst (λ (u : State). Run ps j u t) r.1 r.2)
