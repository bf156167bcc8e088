-- Literals hold of integers at the places exactly where they are true of the variables' values.
use Rattle.std.proofs.Common.{◌≡◌, ◌⊎◌, inl, inr, ℕ, zero, suc, ◌+◌, ◌<◌, ℤ, pos, ◌+ℤ◌, ◌-ℤ◌, ◌≤ℤ◌, ◌<ℤ◌, Bool, true, false, cond, ◌||◌, List, [], ◌∷◌, ◌++◌, length, Option, Some, None, Decides, map, take, get_or, refl, sym, ap, ◌∙◌, subst₂, add-zero, zero-add, arith}
use Rattle.std.proofs.lemmas.Bool.Decides.{Decides-and, Decides-like, Decides-eqb}
use Rattle.std.proofs.lemmas.Int.{ints}
use Rattle.std.specs.Prelude.{IsTrue}
use Rattle.std.specs.List.{All, list_any}
use Rattle.cyp_term.specs.declared.lit.Lit.{Lit}
use Rattle.cyp_term.specs.declared.lit.Lit.TheVariants.{Eq, Ne, Le, Lt}
use Rattle.cyp_term.specs.declared.term.Sort.{Sort}
use Rattle.cyp_term.specs.declared.term.Sort.TheVariants.{Card, Int, Set}
use Rattle.cyp_term.specs.declared.term.Term.{Term}
use Rattle.cyp_term.specs.declared.term.Var.{Var}
use Rattle.cyp_term.specs.Integers.{is_int_lit}
use Rattle.cyp_term.specs.Meaning.{AllTrue, Assignment, Truth, base_value, value}
use Rattle.cyp_term.specs.Terms.{base_vars, lit_vars, lits_vars, sort_eq, term_vars, var_eq, with_all_new, with_new}
use Rattle.cyp_diff.specs.declared.solver.Value.{Value}
use Rattle.cyp_diff.specs.Solving.{given, value_in, values_from, variables}
use Rattle.cyp_diff.specs.Places.{Holds, base_place, further, level, var_place}

-- ---- equality of variables
Decides-yes : {P : Type 0} → P → Decides true P
Decides-yes p = (λ _. p, λ _. refl)

Decides-no : {P : Type 0} → (P → ⊥) → Decides false P
Decides-no h = (λ e. absurd (cc e), λ p. absurd (h p))

Decides-sort_eq : (a b : Sort) → Decides (sort_eq a b) (a ≡ b)
Decides-sort_eq Int Int = Decides-yes refl
Decides-sort_eq Card Card = Decides-yes refl
Decides-sort_eq Set Set = Decides-yes refl
Decides-sort_eq Int Card = Decides-no (λ e. cc)
Decides-sort_eq Int Set = Decides-no (λ e. cc)
Decides-sort_eq Card Int = Decides-no (λ e. cc)
Decides-sort_eq Card Set = Decides-no (λ e. cc)
Decides-sort_eq Set Int = Decides-no (λ e. cc)
Decides-sort_eq Set Card = Decides-no (λ e. cc)

pub Decides-var_eq : (v w : Var) → Decides (var_eq v w) (v ≡ w)
Decides-var_eq v w =
    Decides-like _ (λ h. λ i. record { sort = h.0 i; number = h.1 i }) (λ e. (ap (λ x. x.sort) e, ap (λ x. x.number) e))
    (Decides-and _ _ (Decides-sort_eq v.sort w.sort) (Decides-eqb v.number w.number))

-- ---- from integers at places to an assignment

-- the assignment that gives each variable what its place has above the first place
abbrev pub above_zero : List Var → (ℕ → ℤ) → Assignment
above_zero vs x = record { number = λ v. x (var_place vs v) -ℤ x 0; members = λ v. [] }

base_level : (vs : List Var) (x : ℕ → ℤ) (o : Option Var) (n : ℤ) → (base_value (above_zero vs x) o +ℤ n) ≡ ((x (base_place vs o) +ℤ n) -ℤ x 0)
base_level vs x None n = omega (arith, ints)
base_level vs x (Some v) n = omega (arith, ints)

value-level : (vs : List Var) (x : ℕ → ℤ) (t : Term) → value (above_zero vs x) t ≡ (level vs x t -ℤ x 0)
value-level vs x t = base_level vs x t.base t.offset

moved_eq : (p q z u v : ℤ) → u ≡ (p -ℤ z) → v ≡ (q -ℤ z) → p ≡ q → u ≡ v
moved_eq p q z u v e f h = omega (arith, ints)

moved_eq_back : (p q z u v : ℤ) → u ≡ (p -ℤ z) → v ≡ (q -ℤ z) → u ≡ v → p ≡ q
moved_eq_back p q z u v e f h = omega (arith, ints)

moved_le : (p q z u v : ℤ) → u ≡ (p -ℤ z) → v ≡ (q -ℤ z) → p ≤ℤ q → u ≤ℤ v
moved_le p q z u v e f h = omega (arith, ints)

moved_lt : (p q z u v : ℤ) → u ≡ (p -ℤ z) → v ≡ (q -ℤ z) → p <ℤ q → u <ℤ v
moved_lt p q z u v e f h = omega (arith, ints)

pub truth_from : (vs : List Var) (x : ℕ → ℤ) (l : Lit) → IsTrue (is_int_lit l) → Holds vs x l → Truth (above_zero vs x) l
truth_from vs x (Eq a b) i h = moved_eq (level vs x a) (level vs x b) (x 0) _ _ (value-level vs x a) (value-level vs x b) h
truth_from vs x (Ne a b) i h = λ e. h (moved_eq_back (level vs x a) (level vs x b) (x 0) _ _ (value-level vs x a) (value-level vs x b) e)
truth_from vs x (Le a b) i h = moved_le (level vs x a) (level vs x b) (x 0) _ _ (value-level vs x a) (value-level vs x b) h
truth_from vs x (Lt a b) i h = moved_lt (level vs x a) (level vs x b) (x 0) _ _ (value-level vs x a) (value-level vs x b) h
truth_from vs x _ i h = absurd (cc i)

-- ---- from an assignment to integers at places

-- the values of the variables in their order
abbrev pub numbers : Assignment → List Var → ℕ → ℤ
numbers s [] k = pos 0
numbers s (v ∷ vs) zero = s.number v
numbers s (v ∷ vs) (suc k) = numbers s vs k

-- 0, and then the values
abbrev pub at_places : Assignment → List Var → ℕ → ℤ
at_places s vs zero = pos 0
at_places s vs (suc k) = numbers s vs k

-- the variable is in the list
abbrev pub Among : Var → List Var → Type 0
Among v [] = ⊥
Among v (w ∷ ws) = (w ≡ v) ⊎ Among v ws

-- the place of a variable, which isn't the first, and its value
pub record Placed (s : Assignment) (vs : List Var) (v : Var) (k : ℕ) : Type 0 where
  pub index : ℕ
  pub place : k ≡ suc index
  pub number : numbers s vs index ≡ s.number v

placed_by : (s : Assignment) (w v : Var) (ws : List Var) (b : Bool) → var_eq w v ≡ b → (w ≡ v) ⊎ Among v ws → (Among v ws → Placed s ws v (var_place ws v)) → Placed s (w ∷ ws) v (cond b 1 (further (var_place ws v)))
placed_by s w v ws true e h k = record { index = 0; place = refl; number = ap s.number ((Decides-var_eq w v).0 e) }
placed_by s w v ws false e (inl f) k = absurd (cc (sym e ∙ (Decides-var_eq w v).1 f))
placed_by s w v ws false e (inr m) k =
    let p : Placed s ws v (var_place ws v) = k m in
    record { index = suc p.index; place = ap further p.place; number = p.number }

pub placed : (s : Assignment) (vs : List Var) (v : Var) → Among v vs → Placed s vs v (var_place vs v)
placed s [] v h = absurd h
placed s (w ∷ ws) v h = placed_by s w v ws (var_eq w v) refl h (placed s ws v)

base_value_is : (s : Assignment) (vs : List Var) (o : Option Var) (n : ℤ) → ((v : Var) → Among v (base_vars o) → Among v vs) → (at_places s vs (base_place vs o) +ℤ n) ≡ (base_value s o +ℤ n)
base_value_is s vs None n h = refl
base_value_is s vs (Some v) n h =
    let p : Placed s vs v (var_place vs v) = placed s vs v (h v (inl refl)) in
    ap (λ z. z +ℤ n) (ap (at_places s vs) p.place ∙ p.number)

level-value : (s : Assignment) (vs : List Var) (t : Term) → ((v : Var) → Among v (term_vars t) → Among v vs) → level vs (at_places s vs) t ≡ value s t
level-value s vs t h = base_value_is s vs t.base t.offset h

Among-left : (v : Var) (xs ys : List Var) → Among v xs → Among v (xs ++ ys)
Among-left v [] ys h = absurd h
Among-left v (x ∷ xs) ys (inl e) = inl e
Among-left v (x ∷ xs) ys (inr h) = inr (Among-left v xs ys h)

Among-right : (v : Var) (xs ys : List Var) → Among v ys → Among v (xs ++ ys)
Among-right v [] ys h = h
Among-right v (x ∷ xs) ys h = inr (Among-right v xs ys h)

sides : (s : Assignment) (vs : List Var) (a b : Term) → ((v : Var) → Among v (term_vars a ++ term_vars b) → Among v vs) → (P : ℤ → ℤ → Type 0) → P (value s a) (value s b) → P (level vs (at_places s vs) a) (level vs (at_places s vs) b)
sides s vs a b h P t =
    subst₂ P (sym (level-value s vs a (λ v m. h v (Among-left v (term_vars a) (term_vars b) m)))) (sym (level-value s vs b (λ v m. h v (Among-right v (term_vars a) (term_vars b) m)))) t

pub truth_to : (s : Assignment) (vs : List Var) (l : Lit) → IsTrue (is_int_lit l) → ((v : Var) → Among v (lit_vars l) → Among v vs) → Truth s l → Holds vs (at_places s vs) l
truth_to s vs (Eq a b) i h t = sides s vs a b h (λ p q. p ≡ q) t
truth_to s vs (Ne a b) i h t = sides s vs a b h (λ p q. p ≡ q → ⊥) t
truth_to s vs (Le a b) i h t = sides s vs a b h (λ p q. p ≤ℤ q) t
truth_to s vs (Lt a b) i h t = sides s vs a b h (λ p q. p <ℤ q) t
truth_to s vs _ i h t = tt

-- ---- lists of literals

pub all_true_from : (vs : List Var) (x : ℕ → ℤ) (ls : List Lit) → All (λ l. IsTrue (is_int_lit l)) ls → All (Holds vs x) ls → AllTrue (above_zero vs x) ls
all_true_from vs x [] i h = tt
all_true_from vs x (l ∷ ls) i h = (
  truth_from vs x l (i 0 l (omega arith)) (h 0 l (omega arith)),
  all_true_from vs x ls (λ k d lt. i (suc k) d (omega arith)) (λ k d lt. h (suc k) d (omega arith)),
)

pub all_true_to : (s : Assignment) (vs : List Var) (ls : List Lit) → All (λ l. IsTrue (is_int_lit l)) ls → ((v : Var) → Among v (lits_vars ls) → Among v vs) → AllTrue s ls → All (Holds vs (at_places s vs)) ls
all_true_to s vs [] i h t k d lt = absurd (omega arith)
all_true_to s vs (l ∷ ls) i h t zero d lt = truth_to s vs l (i 0 l (omega arith)) (λ v m. h v (Among-left v (lit_vars l) (lits_vars ls) m)) t.0
all_true_to s vs (l ∷ ls) i h t (suc k) d lt =
    all_true_to s vs ls (λ m e l'. i (suc m) e (omega arith)) (λ v m. h v (Among-right v (lit_vars l) (lits_vars ls) m)) t.1 k d (omega arith)

-- ---- variables without repeats are still all of them

among_by : (v x : Var) {X : Type 0} (b : Bool) → var_eq v x ≡ b → (r : Bool) → (r ≡ true → X) → (b || r) ≡ true → (x ≡ v) ⊎ X
among_by v x true f r h e = inl (sym ((Decides-var_eq v x).0 f))
among_by v x false f r h e = inr (h e)

among_any : (v : Var) (xs : List Var) → list_any (var_eq v) xs ≡ true → Among v xs
among_any v [] e = absurd (cc e)
among_any v (x ∷ xs) e = among_by v x (var_eq v x) refl (list_any (var_eq v) xs) (among_any v xs) e

among_new : (v y : Var) (xs : List Var) → (b : Bool) → list_any (var_eq y) xs ≡ b → (y ≡ v) ⊎ Among v xs → Among v (cond b xs (xs ++ y ∷ []))
among_new v y xs true e (inl f) = among_any v xs (ap (λ z. list_any (var_eq z) xs) (sym f) ∙ e)
among_new v y xs true e (inr m) = m
among_new v y xs false e (inl f) = Among-right v xs (y ∷ []) (inl f)
among_new v y xs false e (inr m) = Among-left v xs (y ∷ []) m

among_all_new : (v : Var) (xs ys : List Var) → Among v xs ⊎ Among v ys → Among v (with_all_new var_eq xs ys)
among_all_new v xs [] (inl m) = m
among_all_new v xs [] (inr m) = absurd m
among_all_new v xs (y ∷ ys) (inl m) = among_all_new v (with_new var_eq xs y) ys (inl (among_new v y xs (list_any (var_eq y) xs) refl (inr m)))
among_all_new v xs (y ∷ ys) (inr (inl e)) = among_all_new v (with_new var_eq xs y) ys (inl (among_new v y xs (list_any (var_eq y) xs) refl (inl e)))
among_all_new v xs (y ∷ ys) (inr (inr m)) = among_all_new v (with_new var_eq xs y) ys (inr m)

pub among_variables : (ls : List Lit) (v : Var) → Among v (lits_vars ls) → Among v (variables ls)
among_variables ls v m = among_all_new v [] (lits_vars ls) (inr m)

-- ---- the values that are read off

-- a place counted from k, less the first
abbrev counted : (ℕ → ℤ) → ℕ → ℕ → ℤ
counted x k zero = pos 0
counted x k (suc p) = x (suc (k + p)) -ℤ x 0

counted_by : (x : ℕ → ℤ) (k p : ℕ) (b : Bool) → cond b (x (suc k) -ℤ x 0) (counted x (suc k) p) ≡ counted x k (cond b 1 (further p))
counted_by x k p true = ap (λ n. x (suc n) -ℤ x 0) (sym (add-zero k))
counted_by x k zero false = refl
counted_by x k (suc p) false = ap (λ n. x n -ℤ x 0) (omega arith)

value_in-from : (x : ℕ → ℤ) (vs : List Var) (k : ℕ) (v : Var) → value_in (values_from x vs (suc k)) v ≡ counted x k (var_place vs v)
value_in-from x [] k v = refl
value_in-from x (w ∷ ws) k v = ap (cond (var_eq w v) (x (suc k) -ℤ x 0)) (value_in-from x ws (suc k) v) ∙ counted_by x k (var_place ws v) (var_eq w v)

counted_zero : (x : ℕ → ℤ) (p : ℕ) → counted x 0 p ≡ (x p -ℤ x 0)
counted_zero x zero = omega (arith, ints)
counted_zero x (suc p) = ap (λ n. x (suc n) -ℤ x 0) (zero-add p)

pub given_is : (x : ℕ → ℤ) (vs : List Var) → given (values_from x vs 1) ≡ above_zero vs x
given_is x vs = λ i. record { number = λ v. (value_in-from x vs 0 v ∙ counted_zero x (var_place vs v)) i; members = λ v. [] }

pub values_vars : (x : ℕ → ℤ) (vs : List Var) (k : ℕ) → map (λ (b : Value). b.var) (values_from x vs k) ≡ vs
values_vars x [] k = refl
values_vars x (v ∷ vs) k = ap (λ ws. v ∷ ws) (values_vars x vs (suc k))

pub values_more : (x : ℕ → ℤ) (vs : List Var) (k j : ℕ) (d : Var) → k < length vs → values_from x (take (suc k) vs) j ≡ values_from x (take k vs) j ++ record { var = get_or vs k d; value = x (j + k) -ℤ x 0 } ∷ []
values_more x [] k j d h = absurd (omega arith)
values_more x (v ∷ vs) zero j d h = ap (λ n. record { var = v; value = x n -ℤ x 0 } ∷ []) (sym (add-zero j))
values_more x (v ∷ vs) (suc k) j d h =
    ap (λ bs. record { var = v; value = x j -ℤ x 0 } ∷ bs) (values_more x vs k (suc j) d (omega arith) ∙ ap (λ n. values_from x (take k vs) (suc j) ++ record { var = get_or vs k d; value = x n -ℤ x 0 } ∷ []) (omega arith))
