-- The variables of a literal whose variables are of their sorts, and of its negation.
use Rattle.std.proofs.Common.{◌≡◌, List, [], ◌∷◌, ◌++◌, Option, Some, None, Bool, true, false, inl, inr, refl, ap, ◌∙◌, subst}
use Rattle.std.specs.List.{flat_map}
use Rattle.std.proofs.lemmas.Bool.{false≢true}
use Rattle.cyp_term.specs.declared.lit.Lit.{Lit}
use Rattle.cyp_term.specs.declared.lit.Lit.TheVariants.{Eq, Ne, Le, Lt, Same, NotSame, Member, NotMember, Sub, NotSub}
use Rattle.cyp_term.specs.declared.lit.SetTerm.{SetTerm}
use Rattle.cyp_term.specs.declared.term.Sort.{Sort}
use Rattle.cyp_term.specs.declared.term.Sort.TheVariants.{Card, Int, Set}
use Rattle.cyp_term.specs.declared.term.Term.{Term}
use Rattle.cyp_term.specs.declared.term.Var.{Var}
use Rattle.cyp_term.specs.Integers.{is_int_lit}
use Rattle.cyp_term.specs.Regions.{elem_terms, lit_set_vars}
use Rattle.cyp_term.specs.SetTermValue.{AllSets}
use Rattle.cyp_term.specs.TermValue.{IsBase, IsNumber}
use Rattle.cyp_term.specs.Terms.{base_vars, is_set_var, lit_elements, lit_vars, negated, set_vars, sort_eq, term_vars}
use Rattle.cyp_term.proofs.Lists.{Among, Among-cases, Among-left, Among-right, flat_in}
use Rattle.cyp_pure.specs.Sorts.{HasSorts, IsNumberTerm, IsSetTerm}
use Rattle.cyp_pure.proofs.Alls.{all_among}

-- ---- variables of terms
number_sort : (s : Sort) → IsNumber s → sort_eq s Set ≡ false
number_sort Int h = refl
number_sort Card h = refl
number_sort Set h = absurd h

base_number : (o : Option Var) → IsBase o → (v : Var) → Among v (base_vars o) → is_set_var v ≡ false
base_number None h v m = absurd m
base_number (Some w) h v (inl e) = ap is_set_var e ∙ number_sort w.sort h
base_number (Some w) h v (inr m) = absurd m

term_number : (t : Term) → IsNumberTerm t → (v : Var) → Among v (term_vars t) → is_set_var v ≡ false
term_number t h v m = base_number t.base h.base v m

all_sets : (vs : List Var) → AllSets vs → (v : Var) → Among v vs → is_set_var v ≡ true
all_sets [] h v m = absurd m
all_sets (w ∷ vs) h v (inl e) = ap is_set_var e ∙ ap (λ s. sort_eq s Set) h.0
all_sets (w ∷ vs) h v (inr m) = all_sets vs h.1 v m

-- ---- a variable of a literal, and its sort
pub record IsOf (vs : List Var) (v : Var) (b : Bool) : Type 0 where
  pub among : Among v vs
  pub sort : is_set_var v ≡ b

left_of : (xs ys : List Var) (v : Var) (b : Bool) → IsOf xs v b → IsOf (xs ++ ys) v b
left_of xs ys v b h = record { among = Among-left v xs ys h.among; sort = h.sort }

right_of : (xs ys : List Var) (v : Var) (b : Bool) → IsOf ys v b → IsOf (xs ++ ys) v b
right_of xs ys v b h = record { among = Among-right v xs ys h.among; sort = h.sort }

two_terms : (a b : Term) → IsNumberTerm a × IsNumberTerm b → (v : Var) → Among v (term_vars a ++ term_vars b) → is_set_var v ≡ false
two_terms a b h v m = elim (Among-cases v (term_vars a) (term_vars b) m) [ inl i ↦ term_number a h.0 v i | inr i ↦ term_number b h.1 v i ]

pub int_var : (l : Lit) → is_int_lit l ≡ true → HasSorts l → (v : Var) → Among v (lit_vars l) → is_set_var v ≡ false
int_var (Eq a b) e h v m = two_terms a b h v m
int_var (Ne a b) e h v m = two_terms a b h v m
int_var (Le a b) e h v m = two_terms a b h v m
int_var (Lt a b) e h v m = two_terms a b h v m
int_var _ e h v m = absurd (false≢true e)

-- ---- variables of elements
elem_of : (u : SetTerm) → IsSetTerm u → (t : Term) → Among t u.elems → (v : Var) → Among v (term_vars t) → IsOf (set_vars u) v false
elem_of u h t i v m = record {
  among = Among-right v u.vars (flat_map term_vars u.elems) (flat_in term_vars v t u.elems i m);
  sort = term_number t (all_among IsNumberTerm u.elems t h.elems i) v m;
}

two_elems : (a b : SetTerm) → IsSetTerm a × IsSetTerm b → (t : Term) → Among t (a.elems ++ b.elems) → (v : Var) → Among v (term_vars t) → IsOf (set_vars a ++ set_vars b) v false
two_elems a b h t i v m = elim (Among-cases t a.elems b.elems i) [
  | inl j ↦ left_of (set_vars a) (set_vars b) v false (elem_of a h.0 t j v m)
  | inr j ↦ right_of (set_vars a) (set_vars b) v false (elem_of b h.1 t j v m)
]

member_elems : (s : Term) (a : SetTerm) → IsNumberTerm s × IsSetTerm a → (t : Term) → Among t (s ∷ a.elems) → (v : Var) → Among v (term_vars t) → IsOf (term_vars s ++ set_vars a) v false
member_elems s a h t (inl e) v m =
    let n : Among v (term_vars s) = subst (λ w. Among v (term_vars w)) e m in
    left_of (term_vars s) (set_vars a) v false (record { among = n; sort = term_number s h.0 v n })
member_elems s a h t (inr i) v m = right_of (term_vars s) (set_vars a) v false (elem_of a h.1 t i v m)

pub elem_var : (l : Lit) → HasSorts l → (t : Term) → Among t (elem_terms l) → (v : Var) → Among v (term_vars t) → IsOf (lit_vars l) v false
elem_var (Same a b) h t i v m = two_elems a b h t i v m
elem_var (NotSame a b) h t i v m = two_elems a b h t i v m
elem_var (Member s a) h t i v m = member_elems s a h t i v m
elem_var (NotMember s a) h t i v m = member_elems s a h t i v m
elem_var (Sub a b) h t i v m = two_elems a b h t i v m
elem_var (NotSub a b) h t i v m = two_elems a b h t i v m
elem_var _ h t i v m = absurd i

-- ---- set variables
set_of : (u : SetTerm) → IsSetTerm u → (v : Var) → Among v u.vars → IsOf (set_vars u) v true
set_of u h v m = record { among = Among-left v u.vars (flat_map term_vars u.elems) m; sort = all_sets u.vars h.vars v m }

two_sets : (a b : SetTerm) → IsSetTerm a × IsSetTerm b → (v : Var) → Among v (a.vars ++ b.vars) → IsOf (set_vars a ++ set_vars b) v true
two_sets a b h v m = elim (Among-cases v a.vars b.vars m) [
  | inl j ↦ left_of (set_vars a) (set_vars b) v true (set_of a h.0 v j)
  | inr j ↦ right_of (set_vars a) (set_vars b) v true (set_of b h.1 v j)
]

pub set_var_of : (l : Lit) → HasSorts l → (v : Var) → Among v (lit_set_vars l) → IsOf (lit_vars l) v true
set_var_of (Same a b) h v m = two_sets a b h v m
set_var_of (NotSame a b) h v m = two_sets a b h v m
set_var_of (Member s a) h v m = right_of (term_vars s) (set_vars a) v true (set_of a h.1 v m)
set_var_of (NotMember s a) h v m = right_of (term_vars s) (set_vars a) v true (set_of a h.1 v m)
set_var_of (Sub a b) h v m = two_sets a b h v m
set_var_of (NotSub a b) h v m = two_sets a b h v m
set_var_of _ h v m = absurd m

-- ---- the negation
pub negated_sorts : (l : Lit) → HasSorts l → HasSorts (negated l)
negated_sorts (Eq a b) h = h
negated_sorts (Ne a b) h = h
negated_sorts (Le a b) h = (h.1, h.0)
negated_sorts (Lt a b) h = (h.1, h.0)
negated_sorts (Same a b) h = h
negated_sorts (NotSame a b) h = h
negated_sorts (Member t a) h = h
negated_sorts (NotMember t a) h = h
negated_sorts (Sub a b) h = h
negated_sorts (NotSub a b) h = h

turned : (xs ys : List Var) (v : Var) → Among v (xs ++ ys) → Among v (ys ++ xs)
turned xs ys v m = elim (Among-cases v xs ys m) [ inl i ↦ Among-right v ys xs i | inr i ↦ Among-left v ys xs i ]

pub negated_vars : (l : Lit) (v : Var) → Among v (lit_vars (negated l)) → Among v (lit_vars l)
negated_vars (Eq a b) v m = m
negated_vars (Ne a b) v m = m
negated_vars (Le a b) v m = turned (term_vars b) (term_vars a) v m
negated_vars (Lt a b) v m = turned (term_vars b) (term_vars a) v m
negated_vars (Same a b) v m = m
negated_vars (NotSame a b) v m = m
negated_vars (Member t a) v m = m
negated_vars (NotMember t a) v m = m
negated_vars (Sub a b) v m = m
negated_vars (NotSub a b) v m = m

pub negated_elements : (l : Lit) → lit_elements (negated l) ≡ lit_elements l
negated_elements (Eq a b) = refl
negated_elements (Ne a b) = refl
negated_elements (Le a b) = refl
negated_elements (Lt a b) = refl
negated_elements (Same a b) = refl
negated_elements (NotSame a b) = refl
negated_elements (Member t a) = refl
negated_elements (NotMember t a) = refl
negated_elements (Sub a b) = refl
negated_elements (NotSub a b) = refl
