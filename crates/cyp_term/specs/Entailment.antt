-- The tests of satisfiability and of entailment: some arrangement of the element terms, which says which of them are equal,
-- fits the literals of integers and those of sets.
use Rattle.std.specs.Prelude.{ℕ, zero, suc, List, [], ◌∷◌, ◌++◌, map, flat_map, length, Bool, true, not, cond, ◌&&◌, ◌==◌}
use Rattle.std.specs.List.{list_any}
use Rattle.cyp_term.specs.declared.term.Term.{Term}
use Rattle.cyp_term.specs.declared.lit.Lit.{Lit}
use Rattle.cyp_term.specs.declared.lit.Lit.TheVariants.{Eq, Ne}
use Rattle.cyp_term.specs.Terms.{term_eq, negated}
use Rattle.cyp_term.specs.Integers.{ints_fit}
use Rattle.cyp_term.specs.Regions.{all_terms, regions_fit}

-- the numbers from n down to 0
abbrev pub up_to : ℕ → List ℕ
up_to zero = 0 ∷ []
up_to (suc n) = suc n ∷ up_to n

-- the class k for the term e, and for each other term its class as before
abbrev pub with_class : Term → (Term → ℕ) → ℕ → Term → ℕ
with_class e class k t = cond (term_eq t e) k (class t)

-- each of the arrangements with each of the classes for the term e
abbrev pub with_classes : Term → List ℕ → List (Term → ℕ) → List (Term → ℕ)
with_classes e ks fs = flat_map (λ f. map (with_class e f) ks) fs

-- each term gets a class of at most the number of terms after it: that of one of them, or one that none of them has
unfoldable pub arrangements : List Term → List (Term → ℕ)
arrangements [] = (λ t. 0) ∷ []
arrangements (e ∷ es) = with_classes e (up_to (length es)) (arrangements es)

-- what an arrangement says of each two terms, as literals
abbrev pub class_literal : (Term → ℕ) → Term → Term → Lit
class_literal class s t = cond (class s == class t) (Eq s t) (Ne s t)

-- what an arrangement says of all pairs of the terms
unfoldable pub class_literals : (Term → ℕ) → List Term → List Lit
class_literals class [] = []
class_literals class (t ∷ ts) = map (class_literal class t) ts ++ class_literals class ts

-- some assignment makes the literals true and gives the element terms equal values exactly where the arrangement does
unfoldable pub arrangement_fits : List Lit → (Term → ℕ) → Bool
arrangement_fits ls class = ints_fit (class_literals class (all_terms ls) ++ ls) && regions_fit class ls

-- some assignment makes all the literals true
unfoldable pub satisfiable : List Lit → Bool
satisfiable ls = list_any (arrangement_fits ls) (arrangements (all_terms ls))

-- each assignment that makes all of the first true makes all of the second true
unfoldable pub entailed : List Lit → List Lit → Bool
entailed given [] = true
entailed given (l ∷ ls) = not (satisfiable (negated l ∷ given)) && entailed given ls
