-- Set literals where it is known which of their element terms have equal values: a meaning, and a test over regions. The
-- class of a term is a number: equal numbers stand for equal values, and different numbers for different values.
use Rattle.std.specs.Prelude.{◌≡◌, ◌↔◌, ℕ, ℤ, List, [], ◌∷◌, ◌++◌, map, filter, flat_map, Option, Some, None, Bool, true, false, not, cond, ◌&&◌, ◌||◌, ◌==◌, IsTrue}
use Rattle.std.specs.Bool.{beq}
use Rattle.std.specs.List.{list_any, list_all}
use Rattle.cyp_term.specs.declared.term.Var.{Var}
use Rattle.cyp_term.specs.declared.term.Term.{Term}
use Rattle.cyp_term.specs.declared.lit.SetTerm.{SetTerm}
use Rattle.cyp_term.specs.declared.lit.Lit.{Lit}
use Rattle.cyp_term.specs.declared.lit.Lit.TheVariants.{Same, NotSame, Member, NotMember, Sub, NotSub}
use Rattle.cyp_term.specs.Terms.{var_eq, term_eq, var_in, without_repeats, number_term}
use Rattle.cyp_term.specs.Meaning.{Satisfiable}
use Rattle.cyp_term.specs.Integers.{is_int_lit}

-- ---- set literals at given values of their element terms

-- the literals that speak of sets
abbrev pub set_lits : List Lit → List Lit
set_lits ls = filter (λ l. not (is_int_lit l)) ls

-- the number that is the term's value, as a term
abbrev pub term_at_value : (Term → ℤ) → Term → Term
term_at_value val t = number_term (val t)

-- the set term with its value in place of each element
abbrev pub set_at_values : (Term → ℤ) → SetTerm → SetTerm
set_at_values val u = record { vars = u.vars; elems = map (term_at_value val) u.elems }

-- the set literal with its value in place of each element term
abbrev pub lit_at_values : (Term → ℤ) → Lit → Lit
lit_at_values val (Same a b) = Same (set_at_values val a) (set_at_values val b)
lit_at_values val (NotSame a b) = NotSame (set_at_values val a) (set_at_values val b)
lit_at_values val (Member e a) = Member (term_at_value val e) (set_at_values val a)
lit_at_values val (NotMember e a) = NotMember (term_at_value val e) (set_at_values val a)
lit_at_values val (Sub a b) = Sub (set_at_values val a) (set_at_values val b)
lit_at_values val (NotSub a b) = NotSub (set_at_values val a) (set_at_values val b)
lit_at_values val l = l

-- finite sets make the set literals true, where the element terms have these values
abbrev pub HasSets : (Term → ℤ) → List Lit → Type 0
HasSets val ls = Satisfiable (map (lit_at_values val) (set_lits ls))

-- ---- the element terms and the set variables of literals

-- a set term's elements, and the term of which it is said that it is a member
abbrev pub elem_terms : Lit → List Term
elem_terms (Same a b) = a.elems ++ b.elems
elem_terms (NotSame a b) = a.elems ++ b.elems
elem_terms (Member e a) = e ∷ a.elems
elem_terms (NotMember e a) = e ∷ a.elems
elem_terms (Sub a b) = a.elems ++ b.elems
elem_terms (NotSub a b) = a.elems ++ b.elems
elem_terms _ = []

-- the set variables as they are written
abbrev pub lit_set_vars : Lit → List Var
lit_set_vars (Same a b) = a.vars ++ b.vars
lit_set_vars (NotSame a b) = a.vars ++ b.vars
lit_set_vars (Member e a) = a.vars
lit_set_vars (NotMember e a) = a.vars
lit_set_vars (Sub a b) = a.vars ++ b.vars
lit_set_vars (NotSub a b) = a.vars ++ b.vars
lit_set_vars _ = []

-- each element term once, in the order of their first occurrences
unfoldable pub all_terms : List Lit → List Term
all_terms ls = without_repeats term_eq (flat_map elem_terms ls)

-- each set variable once, in the order of their first occurrences
unfoldable pub all_set_vars : List Lit → List Var
all_set_vars ls = without_repeats var_eq (flat_map lit_set_vars ls)

-- ---- arrangements

-- the term is one of these
abbrev pub term_in : Term → List Term → Bool
term_in t ts = list_any (term_eq t) ts

-- the values of the terms are equal exactly where their classes are
abbrev pub IsArranged : (Term → ℕ) → List Term → (Term → ℤ) → Type 0
IsArranged class terms val = (s t : Term) → IsTrue (term_in s terms) → IsTrue (term_in t terms) → (val s ≡ val t) ↔ (class s ≡ class t)

-- the class of a term, where the classes of the terms are a list beside theirs
abbrev pub class_by : List Term → List ℕ → Term → ℕ
class_by (t ∷ ts) (k ∷ ks) u = cond (term_eq t u) k (class_by ts ks u)
class_by _ _ u = 0

-- ---- the test

-- an integer, as the literals see it: the class of the terms that have it as their value, if any do, and its region, the
-- set variables that it is in
pub record Spot : Type 0 where
  pub class : Option ℕ
  pub region : List Var

-- the integer is the value of the terms of this class
abbrev pub has_class : Option ℕ → ℕ → Bool
has_class None k = false
has_class (Some j) k = j == k

-- the integer is a member of the set term
abbrev pub in_spot : (Term → ℕ) → Spot → SetTerm → Bool
in_spot class x u = list_any (λ v. var_in v x.region) u.vars || list_any (λ e. has_class x.class (class e)) u.elems

-- what a literal that speaks of each integer says of one
abbrev pub allows : (Term → ℕ) → Spot → Lit → Bool
allows class x (Same a b) = beq (in_spot class x a) (in_spot class x b)
allows class x (Member e a) = not (has_class x.class (class e)) || in_spot class x a
allows class x (NotMember e a) = not (has_class x.class (class e)) || not (in_spot class x a)
allows class x (Sub a b) = not (in_spot class x a) || in_spot class x b
allows class x _ = true

-- whether one of the integers is what a literal wants of some integer
abbrev pub is_shown : (Term → ℕ) → List Spot → Lit → Bool
is_shown class xs (NotSame a b) = list_any (λ x. not (beq (in_spot class x a) (in_spot class x b))) xs
is_shown class xs (NotSub a b) = list_any (λ x. in_spot class x a && not (in_spot class x b)) xs
is_shown class xs _ = true

-- all ways to take elements of a list, in its order
abbrev pub parts : {X : Type 0} → List X → List (List X)
parts [] = [] ∷ []
parts (x ∷ xs) = map (λ r. x ∷ r) (parts xs) ++ parts xs

-- the regions that the literals allow an integer of this class
abbrev pub allowed : (Term → ℕ) → List Lit → Option ℕ → List (List Var)
allowed class ls k = filter (λ r. list_all (allows class (record { class = k; region = r })) ls) (parts (all_set_vars ls))

-- a region for each class
abbrev pub with_region : ℕ → List (List Var) → List (ℕ → List Var) → List (ℕ → List Var)
with_region k rs fs = flat_map (λ r. map (λ f j. cond (j == k) r (f j)) fs) rs

-- an allowed region for each of the classes, in all ways
abbrev pub choices : (Term → ℕ) → List Lit → List ℕ → List (ℕ → List Var)
choices class ls [] = (λ k. []) ∷ []
choices class ls (k ∷ ks) = with_region k (allowed class ls (Some k)) (choices class ls ks)

-- the classes with the regions chosen, and the integers of no class with each region that is allowed
abbrev pub spots : (Term → ℕ) → List Lit → (ℕ → List Var) → List Spot
spots class ls f =
    map (λ e. record { class = Some (class e); region = f (class e) }) (all_terms ls) ++ map (λ r. record { class = None; region = r }) (allowed class ls None)

-- the classes of the element terms, each once
abbrev pub classes_of : (Term → ℕ) → List Lit → List ℕ
classes_of class ls = without_repeats ◌==◌ (map class (all_terms ls))

-- finite sets make the set literals true, where the terms have values of these classes
unfoldable pub regions_fit : (Term → ℕ) → List Lit → Bool
regions_fit class ls = list_any (λ f. list_all (is_shown class (spots class ls f)) ls) (choices class ls (classes_of class ls))
