-- A companion's existentials stand for new variables, which have their values.
use Rattle.std.proofs.Common.{◌≡◌, refl, sym, ap, ◌∙◌, ℕ, suc, ◌+◌, inl, inr, Bool, true, false, not, List, [], ◌∷◌, get_or, ℤ, pos, Option, Some, None, arith, subst}
use Rattle.std.proofs.lemmas.Bool.{and_parts, both_ways, false≢true, not-true}
use Rattle.cyp_heap.specs.Formed.{all_differ}
use Rattle.cyp_kernel.proofs.Bindings.{Extends, extends_self, extends_trans, int_behind, int_last, set_behind, set_last}
use Rattle.cyp_kernel.proofs.BoundImages.{int_back, set_back}
use Rattle.cyp_kernel.proofs.BySort.{agree_from}
use Rattle.cyp_kernel.proofs.ForgetVars.{in_from_among}
use Rattle.cyp_kernel.proofs.NewNumber.{int_var}
use Rattle.cyp_kernel.proofs.Offsets.{plus-zero}
use Rattle.cyp_kernel.proofs.Opened.{new_members, new_number, opened}
use Rattle.cyp_kernel.proofs.ParamsAgree.{variable_set}
use Rattle.cyp_kernel.proofs.UnfoldParams.{set_numbered}
use Rattle.cyp_kernel.specs.Correct.{AgreeBy}
use Rattle.cyp_pred.specs.declared.unfolded.Next.{Next}
use Rattle.cyp_step.specs.Calling.{with_exist}
use Rattle.cyp_term.proofs.Lists.{Among}
use Rattle.cyp_term.specs.Meaning.{Assignment, image_members, image_value, int_in, under}
use Rattle.cyp_term.specs.Terms.{int_image, is_set_var, set_image, set_var, sort_eq, var_in, var_term}
use Rattle.cyp_term.specs.declared.lit.SetTerm.{SetTerm}
use Rattle.cyp_term.specs.declared.subst.Subst.{Subst}
use Rattle.cyp_term.specs.declared.term.Sort.TheVariants.{Set}
use Rattle.cyp_term.specs.declared.term.Term.{Term}
use Rattle.cyp_term.specs.declared.term.Var.{Var}
use Rattle.cyp_unify.specs.Matches.{add_int, add_set}

-- ---- the bindings of existentials

-- the numbers of new variables after one of this sort
abbrev after_one : Next → Bool → Next
after_one x false = record { ints = suc x.ints; cards = x.cards; sets = x.sets }
after_one x true = record { ints = x.ints; cards = x.cards; sets = suc x.sets }

-- the existential stands for the next new variable
abbrev with_one : Next → Var → Subst → Bool → Subst
with_one x v by false = add_int by v (var_term (int_var x.ints))
with_one x v by true = add_set by v (set_var (set_numbered x.sets))

one_first : (x : Next) (v : Var) (vs : List Var) (by : Subst) → with_exist x (v ∷ vs) by ≡ with_exist (after_one x (is_set_var v)) vs (with_one x v by (is_set_var v))
one_first x v vs by = by_sort (is_set_var v)
  where
    by_sort : (b : Bool)
        → ◌≡◌ {A = Subst} (elim b [
          | false ↦ with_exist (after_one x false) vs (with_one x v by false)
          | true ↦ with_exist (after_one x true) vs (with_one x v by true)
        ]) (with_exist (after_one x b) vs (with_one x v by b))
    by_sort false = refl
    by_sort true = refl

one_extends : (x : Next) (v : Var) (by : Subst) (b : Bool) → Extends by (with_one x v by b)
one_extends x v by false = record { ints = λ w t e. int_behind by.ints (record { var = v; to = var_term (int_var x.ints) } ∷ []) w t e; sets = λ w u e. e }
one_extends x v by true = record { ints = λ w t e. e; sets = λ w u e. set_behind by.sets (record { var = v; to = set_var (set_numbered x.sets) } ∷ []) w u e }

-- what was bound stays bound
pub exist_extends : (x : Next) (vs : List Var) (by : Subst) → Extends by (with_exist x vs by)
exist_extends x [] by = extends_self by
exist_extends x (v ∷ vs) by =
    subst (λ (y : Subst). Extends by y) (sym (one_first x v vs by))
    (extends_trans by (with_one x v by (is_set_var v)) (with_exist (after_one x (is_set_var v)) vs (with_one x v by (is_set_var v))) (one_extends x v by (is_set_var v))
    (exist_extends (after_one x (is_set_var v)) vs (with_one x v by (is_set_var v))))

-- the variable isn't bound
pub record IsUnbound (by : Subst) (v : Var) : Type 0 where
  pub ints : (t : Term) → int_image by.ints v ≡ Some t → ⊥
  pub sets : (u : SetTerm) → set_image by.sets v ≡ Some u → ⊥

none_int : (o : Option Term) → ((t : Term) → o ≡ Some t → ⊥) → o ≡ None
none_int None f = refl
none_int (Some t) f = absurd (f t refl)

none_set : (o : Option SetTerm) → ((t : SetTerm) → o ≡ Some t → ⊥) → o ≡ None
none_set None f = refl
none_set (Some t) f = absurd (f t refl)

still_unbound : (x : Next) (v w : Var) (by : Subst) (b : Bool) → IsUnbound by w → (v ≡ w → ⊥) → IsUnbound (with_one x v by b) w
still_unbound x v w by false k n = record {
  ints = λ t e. elim (int_back by.ints v (var_term (int_var x.ints)) w t e) [ inl i ↦ k.ints t i | inr i ↦ n i.0 ];
  sets = k.sets;
}
still_unbound x v w by true k n = record {
  ints = k.ints;
  sets = λ u e. elim (set_back by.sets v (set_var (set_numbered x.sets)) w u e) [ inl i ↦ k.sets u i | inr i ↦ n i.0 ];
}

module _ (w t : Assignment) where
  -- the new variable has the existential's value
  abbrev HereIs : Next → Var → Bool → Type 0
  HereIs x v false = w.number (int_var x.ints) ≡ t.number v
  HereIs x v true = w.members (set_numbered x.sets) ≡ t.members v

  abbrev pub NewAre : Next → List Var → Type 0
  NewAre x [] = Unit {0}
  NewAre x (v ∷ vs) = HereIs x v (is_set_var v) × NewAre (after_one x (is_set_var v)) vs

  here_agrees : (x : Next) (v : Var) (by more : Subst) (b : Bool) → sort_eq v.sort Set ≡ b → IsUnbound by v → Extends (with_one x v by b) more → HereIs x v b → AgreeBy v.sort (under more w) t v
  here_agrees x v by more false e k y h =
      let there = y.ints v (var_term (int_var x.ints)) (int_last by.ints v (var_term (int_var x.ints)) (none_int (int_image by.ints v) k.ints)) in
      agree_from v.sort (under more w) t v (λ p. ap (image_value w v) there ∙ plus-zero (w.number (int_var x.ints)) ∙ h) (λ p. absurd (both_ways (sort_eq v.sort Set) e p))
  here_agrees x v by more true e k y h =
      let there = y.sets v (set_var (set_numbered x.sets)) (set_last by.sets v (set_var (set_numbered x.sets)) (none_set (set_image by.sets v) k.sets)) in
      agree_from v.sort (under more w) t v (λ p. absurd (false≢true (ap not (sym e) ∙ p))) (λ p z. ap (int_in z) (ap (image_members w v) there ∙ variable_set more w (set_numbered x.sets) ∙ h))

  -- each existential has its value
  pub exist_agrees : (x : Next) (vs : List Var) (by : Subst) → all_differ vs ≡ true → ((v : Var) → Among v vs → IsUnbound by v) → NewAre x vs
      → (v : Var) → Among v vs → AgreeBy v.sort (under (with_exist x vs by) w) t v
  exist_agrees x [] by d u n v k = absurd k
  exist_agrees x (a ∷ vs) by d u n v (inl p) =
      let more : Subst = with_exist (after_one x (is_set_var a)) vs (with_one x a by (is_set_var a)) in
      subst (λ (y : Subst). AgreeBy v.sort (under y w) t v) (sym (one_first x a vs by))
      (subst (λ (y : Var). AgreeBy y.sort (under more w) t y) (sym p)
      (here_agrees x a by more (is_set_var a) refl (u a (inl refl)) (exist_extends (after_one x (is_set_var a)) vs (with_one x a by (is_set_var a))) n.0))
  exist_agrees x (a ∷ vs) by d u n v (inr k) =
      let both = and_parts (not (var_in a vs)) (all_differ vs) d in
      let apart : (y : Var) → Among y vs → a ≡ y → ⊥ = λ y i e. both_ways (var_in a vs) (not-true (var_in a vs) both.0) (in_from_among a vs (subst (λ (z : Var). Among z vs) (sym e) i)) in
      subst (λ (y : Subst). AgreeBy v.sort (under y w) t v) (sym (one_first x a vs by))
      (exist_agrees (after_one x (is_set_var a)) vs (with_one x a by (is_set_var a)) both.1 (λ y i. still_unbound x a y by (is_set_var a) (u y (inr i)) (apart y i)) n.1 v k)

-- ---- the values of the new variables

abbrev number_with : Bool → ℤ → List ℤ → List ℤ
number_with false z zs = z ∷ zs
number_with true z zs = zs

abbrev members_with : Bool → List ℤ → List (List ℤ) → List (List ℤ)
members_with false m ms = ms
members_with true m ms = m ∷ ms

module _ (t : Assignment) where
  -- the numbers of those existentials that are no sets, and the members of those that are
  abbrev numbers_of : List Var → List ℤ
  numbers_of [] = []
  numbers_of (v ∷ vs) = number_with (is_set_var v) (t.number v) (numbers_of vs)

  abbrev members_of : List Var → List (List ℤ)
  members_of [] = []
  members_of (v ∷ vs) = members_with (is_set_var v) (t.members v) (members_of vs)

  -- the i-th variable has the value of the i-th existential of its sort
  abbrev pub listed : List Var → Assignment
  listed vs = record { number = λ v. get_or (numbers_of vs) v.number (pos 0); members = λ v. get_or (members_of vs) v.number [] }

module _ (x : Next) (ns : List ℕ) (s t : Assignment) (exist : List Var) where
  -- old variables as before, the new ones with the values of the existentials
  abbrev pub after_values : Assignment
  after_values = opened x 0 0 ns s (listed t exist)

  abbrev counted : ℕ → ℕ → Next
  counted a b = record { ints = x.ints + a; cards = x.cards; sets = x.sets + b }

  abbrev FromNumber : ℕ → List ℤ → Type 0
  FromNumber a zs = (i : ℕ) → get_or (numbers_of t exist) (a + i) (pos 0) ≡ get_or zs i (pos 0)

  abbrev FromMembers : ℕ → List (List ℤ) → Type 0
  FromMembers b ms = (i : ℕ) → get_or (members_of t exist) (b + i) [] ≡ get_or ms i []

  step_number : (a i : ℕ) → suc a + i ≡ a + suc i
  step_number a i = omega arith

  step_next : (a d : ℕ) → a + suc d ≡ suc (a + d)
  step_next a d = omega arith

  at_none : (a : ℕ) → 0 + a ≡ a + 0
  at_none a = omega arith

  by_sort : (vs : List Var) (a b : ℕ) (v : Var) (zs : List ℤ) (ms : List (List ℤ)) (c : Bool) → FromNumber a (number_with c (t.number v) zs) → FromMembers b (members_with c (t.members v) ms)
      → ((a' b' : ℕ) → FromNumber a' zs → FromMembers b' ms → NewAre after_values t (counted a' b') vs)
      → HereIs after_values t (counted a b) v c × NewAre after_values t (after_one (counted a b) c) vs
  by_sort vs a b v zs ms false f g more = (
    new_number x 0 0 ns s (listed t exist) a ∙ ap (λ (i : ℕ). get_or (numbers_of t exist) i (pos 0)) (at_none a) ∙ f 0,
    subst (λ (i : ℕ). NewAre after_values t (record { ints = i; cards = x.cards; sets = x.sets + b }) vs) (step_next x.ints a)
        (more (suc a) b (λ i. ap (λ (j : ℕ). get_or (numbers_of t exist) j (pos 0)) (step_number a i) ∙ f (suc i)) g),
  )
  by_sort vs a b v zs ms true f g more = (
    new_members x 0 0 ns s (listed t exist) b ∙ ap (λ (i : ℕ). get_or (members_of t exist) i []) (at_none b) ∙ g 0,
    subst (λ (i : ℕ). NewAre after_values t (record { ints = x.ints + a; cards = x.cards; sets = i }) vs) (step_next x.sets b)
        (more a (suc b) f (λ i. ap (λ (j : ℕ). get_or (members_of t exist) j []) (step_number b i) ∙ g (suc i))),
  )

  new_from : (vs : List Var) (a b : ℕ) → FromNumber a (numbers_of t vs) → FromMembers b (members_of t vs) → NewAre after_values t (counted a b) vs
  new_from [] a b f g = tt
  new_from (v ∷ vs) a b f g = by_sort vs a b v (numbers_of t vs) (members_of t vs) (is_set_var v) f g (λ a' b' p q. new_from vs a' b' p q)

  pub new_are : NewAre after_values t x exist
  new_are =
      subst (λ (i : ℕ). NewAre after_values t (record { ints = i; cards = x.cards; sets = x.sets }) exist) (none x.ints)
      (subst (λ (i : ℕ). NewAre after_values t (record { ints = x.ints + 0; cards = x.cards; sets = i }) exist) (none x.sets)
      (new_from exist 0 0 (λ i. ap (λ (j : ℕ). get_or (numbers_of t exist) j (pos 0)) (zero_plus i)) (λ i. ap (λ (j : ℕ). get_or (members_of t exist) j []) (zero_plus i))))
    where
      none : (a : ℕ) → a + 0 ≡ a
      none a = omega arith

      zero_plus : (i : ℕ) → 0 + i ≡ i
      zero_plus i = omega arith
