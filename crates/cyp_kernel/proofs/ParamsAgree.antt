-- The variables of an unfolded clause have the values for which the instance holds.
use Rattle.std.proofs.Common.{◌≡◌, refl, sym, ap, ◌∙◌, ℕ, zero, suc, ◌+◌, ◌-◌, ◌<◌, ◌≤◌, ◌==◌, ◌⊎◌, inl, inr, Bool, true, false, List, [], ◌∷◌, ◌++◌, map, length, append-nil, Option, arith, subst}
use Rattle.std.proofs.lemmas.Bool.{eqb-false, eqb-true, false≢true}
use Rattle.cyp_heap.specs.Formed.{sorts_fit}
use Rattle.cyp_heap.specs.Instances.{ArgValue, Members, Number, ParamsAre, arg_value}
use Rattle.cyp_heap.specs.Laws.{SameArgValues}
use Rattle.cyp_heap.specs.PredsFormed.{count_of}
use Rattle.cyp_heap.specs.declared.chunk.Arg.{Arg}
use Rattle.cyp_heap.specs.declared.chunk.Arg.TheVariants.{Int as IntArg, Set as SetArg}
use Rattle.cyp_kernel.proofs.NewNumber.{int_var}
use Rattle.cyp_kernel.proofs.Offsets.{plus-zero}
use Rattle.cyp_kernel.proofs.UnfoldParams.{IntsBound, SetsBound, ints_bound, set_numbered, sets_bound}
use Rattle.cyp_pred.specs.Unfold.{bind_ints, bind_sets, int_args, new_ints, new_sets, set_args}
use Rattle.cyp_term.specs.Meaning.{Assignment, SameMembers, image_members, image_value, int_in, set_value, under}
use Rattle.cyp_term.specs.Terms.{set_var, var_term}
use Rattle.cyp_term.specs.declared.lit.SetTerm.{SetTerm}
use Rattle.cyp_term.specs.declared.subst.IntBind.{IntBind}
use Rattle.cyp_term.specs.declared.subst.SetBind.{SetBind}
use Rattle.cyp_term.specs.declared.subst.Subst.{Subst}
use Rattle.cyp_term.specs.declared.term.Sort.{Sort}
use Rattle.cyp_term.specs.declared.term.Sort.TheVariants.{Card, Int, Set}
use Rattle.cyp_term.specs.declared.term.Term.{Term}
use Rattle.cyp_term.specs.declared.term.Var.{Var}

-- ---- numbers from one on

first_or_later : (i k m : ℕ) → i ≤ k → k < i + suc m → (k ≡ i) ⊎ ((suc i ≤ k) × (k < suc i + m))
first_or_later i k m l h = by_test (k == i) refl
  where
    later : (i k m : ℕ) → i ≤ k → k < i + suc m → (k ≡ i → ⊥) → (suc i ≤ k) × (k < suc i + m)
    later i k m l h n = (omega arith, omega arith)

    by_test : (b : Bool) → (k == i) ≡ b → (k ≡ i) ⊎ ((suc i ≤ k) × (k < suc i + m))
    by_test true e = inl (eqb-true k i e)
    by_test false e = inr (later i k m l h (eqb-false k i e))

none_from : (i k : ℕ) → i ≤ k → k < i + 0 → ⊥
none_from i k l h = omega arith

-- ---- which variables are bound to what

ints_split : (bs : List IntBind) (i : ℕ) (xs ys : List Term) → IntsBound bs i (xs ++ ys) → IntsBound bs i xs × IntsBound bs (i + length xs) ys
ints_split bs i [] ys h = (tt, subst (λ (j : ℕ). IntsBound bs j ys) (plus_none i) h)
  where
    plus_none : (i : ℕ) → i ≡ i + 0
    plus_none i = omega arith
ints_split bs i (x ∷ xs) ys h =
    let r = ints_split bs (suc i) xs ys h.1 in
    ((h.0, r.0), subst (λ (j : ℕ). IntsBound bs j ys) (plus_next i (length xs)) r.1)
  where
    plus_next : (i m : ℕ) → suc i + m ≡ i + suc m
    plus_next i m = omega arith

sets_split : (bs : List SetBind) (i : ℕ) (xs ys : List SetTerm) → SetsBound bs i (xs ++ ys) → SetsBound bs i xs × SetsBound bs (i + length xs) ys
sets_split bs i [] ys h = (tt, subst (λ (j : ℕ). SetsBound bs j ys) (plus_none i) h)
  where
    plus_none : (i : ℕ) → i ≡ i + 0
    plus_none i = omega arith
sets_split bs i (x ∷ xs) ys h =
    let r = sets_split bs (suc i) xs ys h.1 in
    ((h.0, r.0), subst (λ (j : ℕ). SetsBound bs j ys) (plus_next i (length xs)) r.1)
  where
    plus_next : (i m : ℕ) → suc i + m ≡ i + suc m
    plus_next i m = omega arith

zero_plus : (m : ℕ) → 0 + m ≡ m
zero_plus m = omega arith

-- the terms behind the first ones
pub ints_behind : (xs ys : List Term) → IntsBound (bind_ints 0 (xs ++ ys)) (length xs) ys
ints_behind xs ys = subst (λ (j : ℕ). IntsBound (bind_ints 0 (xs ++ ys)) j ys) (zero_plus (length xs)) (ints_split (bind_ints 0 (xs ++ ys)) 0 xs ys (subst (λ (ts : List Term). IntsBound (bind_ints 0 ts) 0 (xs ++ ys)) (append-nil (xs ++ ys)) (ints_bound 0 (xs ++ ys) []))).1

pub sets_behind : (xs ys : List SetTerm) → SetsBound (bind_sets 0 (xs ++ ys)) (length xs) ys
sets_behind xs ys = subst (λ (j : ℕ). SetsBound (bind_sets 0 (xs ++ ys)) j ys) (zero_plus (length xs)) (sets_split (bind_sets 0 (xs ++ ys)) 0 xs ys (subst (λ (ts : List SetTerm). SetsBound (bind_sets 0 ts) 0 (xs ++ ys)) (append-nil (xs ++ ys)) (sets_bound 0 (xs ++ ys) []))).1

-- ---- values of arguments

pub same_values_self : (xs : List ArgValue) → SameArgValues xs xs
same_values_self [] = tt
same_values_self (Number z ∷ xs) = (refl, same_values_self xs)
same_values_self (Members zs ∷ xs) = ((λ z. refl), same_values_self xs)

-- the two assignments give the same to n integer variables from i on, and to m set variables from k on
pub record ParamsSame (u w : Assignment) (i n k m : ℕ) : Type 0 where
  pub numbers : (j : ℕ) → i ≤ j → j < i + n → u.number (int_var j) ≡ w.number (int_var j)
  pub sets : (j : ℕ) → k ≤ j → j < k + m → SameMembers (u.members (set_numbered j)) (w.members (set_numbered j))

module _ (by : Subst) (s t w : Assignment) where
  -- an assignment that gives the parameters the values of the arguments agrees with the substitution there
  pub params_same : (i k : ℕ) (args : List Arg) (ps : List Sort) → sorts_fit args ps ≡ true → IntsBound by.ints i (int_args args) → SetsBound by.sets k (set_args args)
      → ParamsAre w i k ps (map (arg_value s) args) → SameArgValues (map (arg_value s) args) (map (arg_value t) args)
      → ParamsSame (under by t) w i (length (int_args args)) k (length (set_args args))
  params_same i k [] [] f g h p e = record { numbers = λ j a b. absurd (none_from i j a b); sets = λ j a b. absurd (none_from k j a b) }
  params_same i k [] (o ∷ ps) f g h p e = absurd (false≢true f)
  params_same i k (a ∷ args) [] f g h p e = absurd (false≢true f)
  params_same i k (IntArg x ∷ args) (Int ∷ ps) f g h p e =
      let rest = params_same (suc i) k args ps f g.1 h p.1 e.1 in
      let here : (under by t).number (int_var i) ≡ w.number (int_var i) = ap (image_value t (int_var i)) g.0 ∙ sym e.0 ∙ sym p.0 in
      record {
        numbers = λ j a b. elim (first_or_later i j (length (int_args args)) a b) [
          | inl q ↦ subst (λ (y : ℕ). (under by t).number (int_var y) ≡ w.number (int_var y)) (sym q) here
          | inr q ↦ rest.numbers j q.0 q.1
        ];
        sets = rest.sets;
      }
  params_same i k (IntArg x ∷ args) (Card ∷ ps) f g h p e = absurd (false≢true f)
  params_same i k (IntArg x ∷ args) (Set ∷ ps) f g h p e = absurd (false≢true f)
  params_same i k (SetArg u ∷ args) (Set ∷ ps) f g h p e =
      let rest = params_same i (suc k) args ps f g h.1 p.1 e.1 in
      let here : SameMembers ((under by t).members (set_numbered k)) (w.members (set_numbered k)) =
      λ z. ap (λ (o : Option SetTerm). int_in z (image_members t (set_numbered k) o)) h.0 ∙ sym (e.0 z) ∙ sym (p.0 z) in
      record {
        numbers = rest.numbers;
        sets = λ j a b. elim (first_or_later k j (length (set_args args)) a b) [
          | inl q ↦ subst (λ (y : ℕ). SameMembers ((under by t).members (set_numbered y)) (w.members (set_numbered y))) (sym q) here
          | inr q ↦ rest.sets j q.0 q.1
        ];
      }
  params_same i k (SetArg u ∷ args) (Int ∷ ps) f g h p e = absurd (false≢true f)
  params_same i k (SetArg u ∷ args) (Card ∷ ps) f g h p e = absurd (false≢true f)

-- ---- the clause's own variables

module _ (by : Subst) (t : Assignment) where
  -- own integers have the values of the new variables
  pub own_numbers : (i a m : ℕ) → IntsBound by.ints i (map var_term (new_ints a m)) → (j : ℕ) → i ≤ j → j < i + m
      → (under by t).number (int_var j) ≡ t.number (int_var (a + (j - i)))
  own_numbers i a zero g j l h = absurd (none_from i j l h)
  own_numbers i a (suc m) g j l h = elim (first_or_later i j m l h) [
    | inl q ↦
        subst (λ (y : ℕ). (under by t).number (int_var y) ≡ t.number (int_var (a + (y - i)))) (sym q)
        (ap (image_value t (int_var i)) g.0 ∙ plus-zero (t.number (int_var a)) ∙ ap (λ (y : ℕ). t.number (int_var y)) (none a i))
    | inr q ↦ own_numbers (suc i) (suc a) m g.1 j q.0 q.1 ∙ ap (λ (y : ℕ). t.number (int_var y)) (one a i j q.0)
  ]
    where
      none : (a i : ℕ) → a ≡ a + (i - i)
      none a i = omega arith

      one : (a i j : ℕ) → suc i ≤ j → suc a + (j - suc i) ≡ a + (j - i)
      one a i j l = omega arith

  pub variable_set : (v : Var) → set_value t (set_var v) ≡ t.members v
  variable_set v = append-nil (t.members v ++ []) ∙ append-nil (t.members v)

  pub own_sets_same : (i a m : ℕ) → SetsBound by.sets i (map set_var (new_sets a m)) → (j : ℕ) → i ≤ j → j < i + m
      → (under by t).members (set_numbered j) ≡ t.members (set_numbered (a + (j - i)))
  own_sets_same i a zero g j l h = absurd (none_from i j l h)
  own_sets_same i a (suc m) g j l h = elim (first_or_later i j m l h) [
    | inl q ↦
        subst (λ (y : ℕ). (under by t).members (set_numbered y) ≡ t.members (set_numbered (a + (y - i)))) (sym q)
        (ap (image_members t (set_numbered i)) g.0 ∙ variable_set (set_numbered a) ∙ ap (λ (y : ℕ). t.members (set_numbered y)) (none a i))
    | inr q ↦ own_sets_same (suc i) (suc a) m g.1 j q.0 q.1 ∙ ap (λ (y : ℕ). t.members (set_numbered y)) (one a i j q.0)
  ]
    where
      none : (a i : ℕ) → a ≡ a + (i - i)
      none a i = omega arith

      one : (a i j : ℕ) → suc i ≤ j → suc a + (j - suc i) ≡ a + (j - i)
      one a i j l = omega arith

-- ---- as many arguments of a sort as parameters

pub args_counted : (args : List Arg) (ps : List Sort) → sorts_fit args ps ≡ true → (length (int_args args) ≡ count_of Int ps) × (length (set_args args) ≡ count_of Set ps)
args_counted [] [] f = (refl, refl)
args_counted [] (o ∷ ps) f = absurd (false≢true f)
args_counted (a ∷ args) [] f = absurd (false≢true f)
args_counted (IntArg x ∷ args) (Int ∷ ps) f = let r = args_counted args ps f in (ap suc r.0, r.1)
args_counted (IntArg x ∷ args) (Card ∷ ps) f = absurd (false≢true f)
args_counted (IntArg x ∷ args) (Set ∷ ps) f = absurd (false≢true f)
args_counted (SetArg u ∷ args) (Set ∷ ps) f = let r = args_counted args ps f in (r.0, ap suc r.1)
args_counted (SetArg u ∷ args) (Int ∷ ps) f = absurd (false≢true f)
args_counted (SetArg u ∷ args) (Card ∷ ps) f = absurd (false≢true f)
