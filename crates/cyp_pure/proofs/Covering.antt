-- Literals whose variables and elements are among those of two lists that fit can be asked.
use Rattle.std.proofs.Common.{◌≡◌, ◌⊎◌, ◌≤◌, List, [], ◌∷◌, ◌++◌, Bool, true, false, not, ◌&&◌, IsTrue, filter, length, nat_le, inl, inr, sym, ap, subst, subst₂, arith}
use Rattle.std.specs.List.{All, flat_map}
use Rattle.std.proofs.lemmas.Bool.{and_parts, leb-true, not-true}
use Rattle.cyp_term.specs.declared.lit.Lit.{Lit}
use Rattle.cyp_term.specs.declared.term.Term.{Term}
use Rattle.cyp_term.specs.declared.term.Var.{Var}
use Rattle.cyp_term.specs.Integers.{int_lits, is_int_lit}
use Rattle.cyp_term.specs.Regions.{all_set_vars, all_terms, elem_terms, lit_set_vars, set_lits}
use Rattle.cyp_term.specs.Terms.{is_set_var, lit_elements, lit_vars, lits_vars, negated, term_eq, term_vars, var_eq, without_repeats}
use Rattle.cyp_term.proofs.Equality.{Decides-term_eq, Decides-var_eq}
use Rattle.cyp_term.proofs.Lists.{Among, Among-cases, Among-left, Among-right, filter_in, filter_out, flat_in, flat_out}
use Rattle.cyp_term.proofs.Repeats.{without_repeats_in, without_repeats_out}
use Rattle.cyp_pure.specs.Fits.{fits}
use Rattle.cyp_pure.specs.Questions.{CanBeAsked}
use Rattle.cyp_pure.specs.Sorts.{HasSorts}
use Rattle.cyp_pure.proofs.Alls.{all_among, all_from_among}
use Rattle.cyp_pure.proofs.Fewer.{fewer_without_repeats}
use Rattle.cyp_pure.proofs.Sorted.{elem_var, int_var, negated_elements, negated_sorts, negated_vars, set_var_of}
use Rattle.cyp_pure.proofs.Starting.{same_elements}

-- ---- what fits
-- the variables of both lists, each once
all_vars : List Lit → List Lit → List Var
all_vars a b = without_repeats var_eq (lits_vars (a ++ b))

-- both lists together are within the limits of variables and of element terms
record Limits (a b : List Lit) : Type 0 where
  numbers : length (filter (λ v. not (is_set_var v)) (all_vars a b)) ≤ 32
  sets : length (filter is_set_var (all_vars a b)) ≤ 12
  terms : length (without_repeats term_eq (flat_map lit_elements (a ++ b))) ≤ 6

limits : (a b : List Lit) → IsTrue (fits a b) → Limits a b
unfolding all_vars
limits a b h =
    let n : Bool = nat_le (length (filter (λ v. not (is_set_var v)) (all_vars a b))) 32 in
    let s : Bool = nat_le (length (filter is_set_var (all_vars a b))) 12 in
    let t : Bool = nat_le (length (without_repeats term_eq (flat_map lit_elements (a ++ b)))) 6 in
    let l : Bool = nat_le (length a) 320 in
    let r : Bool = nat_le (length b) 64 in
    let p = and_parts (n && s && t && l) r h in
    let q = and_parts (n && s && t) l p.0 in
    let u = and_parts (n && s) t q.0 in
    let v = and_parts n s u.0 in
    record { numbers = leb-true _ 32 v.0; sets = leb-true _ 12 v.1; terms = leb-true _ 6 u.1 }

-- ---- a literal that two lists cover
-- its variables are of their sorts, and among those of the lists; so are its element terms
pub record Covered (a b : List Lit) (l : Lit) : Type 0 where
  pub sorts : HasSorts l
  pub vars : (v : Var) → Among v (lit_vars l) → Among v (lits_vars (a ++ b))
  pub elements : (t : Term) → Among t (lit_elements l) → Among t (flat_map lit_elements (a ++ b))

covered_by : (a b : List Lit) (l : Lit) → HasSorts l → Among l (a ++ b) → Covered a b l
covered_by a b l h m = record {
  sorts = h;
  vars = λ v i. flat_in lit_vars v l (a ++ b) m i;
  elements = λ t i. flat_in lit_elements t l (a ++ b) m i;
}

pub covered_left : (a b : List Lit) (l : Lit) → All HasSorts a → Among l a → Covered a b l
covered_left a b l h m = covered_by a b l (all_among HasSorts a l h m) (Among-left l a b m)

-- the negation of a literal of the second list
pub covered_negated : (a b : List Lit) (l : Lit) → HasSorts l → Among l b → Covered a b (negated l)
covered_negated a b l h m =
    let c : Covered a b l = covered_by a b l h (Among-right l a b m) in
    record {
      sorts = negated_sorts l h;
      vars = λ v i. c.vars v (negated_vars l v i);
      elements = λ t i. c.elements t (subst (λ ts. Among t ts) (negated_elements l) i);
    }

-- ---- covered literals can be asked
module _ (a b is ss : List Lit) (fit : IsTrue (fits a b))
    (ints : (l : Lit) → Among l is → (is_int_lit l ≡ true) × Covered a b l) (sets : (l : Lit) → Among l ss → (is_int_lit l ≡ false) × Covered a b l) where
  -- a variable of the lists that isn't a set
  number_among : (v : Var) → Among v (lits_vars (a ++ b)) → is_set_var v ≡ false → Among v (filter (λ v. not (is_set_var v)) (all_vars a b))
  unfolding all_vars
  number_among v m e = filter_in (λ w. not (is_set_var w)) v (all_vars a b) (without_repeats_in var_eq Decides-var_eq v (lits_vars (a ++ b)) m) (ap not e)

  set_among : (v : Var) → Among v (lits_vars (a ++ b)) → is_set_var v ≡ true → Among v (filter is_set_var (all_vars a b))
  unfolding all_vars
  set_among v m e = filter_in is_set_var v (all_vars a b) (without_repeats_in var_eq Decides-var_eq v (lits_vars (a ++ b)) m) e

  element_of : (t : Term) → Among t (all_terms ss) → (l : Lit) × Among l ss × Among t (elem_terms l)
  unfolding all_terms
  element_of t m = flat_out elem_terms t ss (without_repeats_out term_eq Decides-term_eq t (flat_map elem_terms ss) m)

  number_of_int : (v : Var) → Among v (lits_vars is) → Among v (filter (λ v. not (is_set_var v)) (all_vars a b))
  number_of_int v m =
      let r = flat_out lit_vars v is m in
      let c = ints r.0 r.1 in
      number_among v (c.1.vars v r.2) (int_var r.0 c.0 c.1.sorts v r.2)

  number_of_element : (v : Var) → Among v (flat_map term_vars (all_terms ss)) → Among v (filter (λ v. not (is_set_var v)) (all_vars a b))
  number_of_element v m =
      let r = flat_out term_vars v (all_terms ss) m in
      let e = element_of r.0 r.1 in
      let c = sets e.0 e.1 in
      let o = elem_var e.0 c.1.sorts r.0 e.2 v r.2 in
      number_among v (c.1.vars v o.among) o.sort

  set_of_literal : (v : Var) → Among v (flat_map lit_set_vars ss) → Among v (filter is_set_var (all_vars a b))
  set_of_literal v m =
      let r = flat_out lit_set_vars v ss m in
      let c = sets r.0 r.1 in
      let o = set_var_of r.0 c.1.sorts v r.2 in
      set_among v (c.1.vars v o.among) o.sort

  term_of_literal : (t : Term) → Among t (flat_map elem_terms ss) → Among t (without_repeats term_eq (flat_map lit_elements (a ++ b)))
  term_of_literal t m =
      let r = flat_out elem_terms t ss m in
      let c = sets r.0 r.1 in
      without_repeats_in term_eq Decides-term_eq t (flat_map lit_elements (a ++ b)) (c.1.elements t (subst (λ ts. Among t ts) (same_elements r.0) r.2))

  pub can_be_asked : CanBeAsked is ss
  unfolding all_terms all_set_vars
  can_be_asked =
      let l : Limits a b = limits a b fit in
      let numbers = fewer_without_repeats var_eq Decides-var_eq (lits_vars is ++ flat_map term_vars (all_terms ss)) (filter (λ v. not (is_set_var v)) (all_vars a b))
      (λ v m. elim (Among-cases v (lits_vars is) (flat_map term_vars (all_terms ss)) m) [ inl i ↦ number_of_int v i | inr i ↦ number_of_element v i ]) in
      let set_vars = fewer_without_repeats var_eq Decides-var_eq (flat_map lit_set_vars ss) (filter is_set_var (all_vars a b)) set_of_literal in
      let terms = fewer_without_repeats term_eq Decides-term_eq (flat_map elem_terms ss) (without_repeats term_eq (flat_map lit_elements (a ++ b))) term_of_literal in
      record {
        ints_only = all_from_among (λ l. IsTrue (is_int_lit l)) is (λ l m. (ints l m).0);
        sets_only = all_from_among (λ l. is_int_lit l ≡ false) ss (λ l m. (sets l m).0);
        few_numbers = omega (arith, numbers, l.numbers);
        few_sets = omega (arith, set_vars, l.sets);
        few_terms = omega (arith, terms, l.terms);
      }

-- ---- the literals of one list, and some more
module _ (a b xs : List Lit) (fit : IsTrue (fits a b)) (sorts : All HasSorts a) (more : (l : Lit) → Among l xs → Covered a b l) where
  covered : (l : Lit) → Among l a ⊎ Among l xs → Covered a b l
  covered l (inl m) = covered_left a b l sorts m
  covered l (inr m) = more l m

  part : (test : Lit → Bool) (l : Lit) → Among l (filter test a ++ filter test xs) → (test l ≡ true) × Covered a b l
  part test l m = elim (Among-cases l (filter test a) (filter test xs) m) [
    | inl i ↦ (let r = filter_out test l a i in (r.1, covered l (inl r.0)))
    | inr i ↦ (let r = filter_out test l xs i in (r.1, covered l (inr r.0)))
  ]

  pub parts_asked : CanBeAsked (int_lits a ++ int_lits xs) (set_lits a ++ set_lits xs)
  parts_asked =
      can_be_asked a b (int_lits a ++ int_lits xs) (set_lits a ++ set_lits xs) fit (part is_int_lit)
      (λ l m. let r = part (λ k. not (is_int_lit k)) l m in (not-true (is_int_lit l) r.0, r.1))

pub one_asked : (a b ints sets : List Lit) (l : Lit) → IsTrue (fits a b) → All HasSorts a → HasSorts l → Among l b → ints ≡ int_lits a → sets ≡ set_lits a → CanBeAsked (ints ++ int_lits (negated l ∷ [])) (sets ++ set_lits (negated l ∷ []))
one_asked a b ints sets l fit sorts h m e f =
    subst₂ (λ is ss. CanBeAsked (is ++ int_lits (negated l ∷ [])) (ss ++ set_lits (negated l ∷ []))) (sym e) (sym f)
    (parts_asked a b (negated l ∷ []) fit sorts (λ k i. elim i [ inl same ↦ subst (Covered a b) (sym same) (covered_negated a b l h m) | inr other ↦ absurd other ]))

pub none_asked : (a ints sets : List Lit) → IsTrue (fits a []) → All HasSorts a → ints ≡ int_lits a → sets ≡ set_lits a → CanBeAsked (ints ++ []) (sets ++ [])
none_asked a ints sets fit sorts e f =
    subst₂ (λ is ss. CanBeAsked (is ++ []) (ss ++ [])) (sym e) (sym f) (parts_asked a [] [] fit sorts (λ k i. absurd i))
