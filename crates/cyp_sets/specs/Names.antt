-- The names of literals: their set variables and element terms, each at its place, and the terms' classes. What a mask over
-- these places stands for.
use Rattle.std.specs.Prelude.{◌≡◌, ℕ, ◌≤◌, ◌^◌, ◌==◌, Bool, IsTrue, List, length, position, unwrap_or}
use Rattle.std.specs.List.{All}
use Rattle.cyp_term.specs.declared.lit.Lit.{Lit}
use Rattle.cyp_term.specs.declared.lit.SetTerm.{SetTerm}
use Rattle.cyp_term.specs.declared.term.Term.{Term}
use Rattle.cyp_term.specs.declared.term.Var.{Var}
use Rattle.cyp_term.specs.Regions.{Spot, all_set_vars, all_terms, class_by, has_class, in_spot, term_in}
use Rattle.cyp_term.specs.Terms.{var_eq, var_in, without_repeats}
use Rattle.cyp_sets.specs.declared.masks.Mask.{Mask}
use Rattle.cyp_sets.specs.Masks.{meets, share}

-- set variables, element terms, the class of each of these terms, and each of the classes once
pub record Named : Type 0 where
  pub vars : List Var
  pub terms : List Term
  pub classes : List ℕ
  pub kinds : List ℕ

-- few enough for the bits of a mask
pub record IsFew (n : Named) : Type 0 where
  pub few_vars : length n.vars ≤ 12
  pub few_terms : length n.terms ≤ 6
  pub class_each : length n.classes ≡ length n.terms
  pub kinds_once : n.kinds ≡ without_repeats ◌==◌ n.classes

-- the names in the literals, where the terms have these classes
abbrev pub names_of : List Lit → List ℕ → Named
names_of ls classes = record { vars = all_set_vars ls; terms = all_terms ls; classes = classes; kinds = without_repeats ◌==◌ classes }

-- the place of the first element that equals the one sought, and the list's length where none does
abbrev pub place : {X : Type 0} → (X → X → Bool) → List X → X → ℕ
place eq xs x = unwrap_or (position (λ y. eq y x) xs) (length xs)

-- the bit of a set variable
abbrev pub var_bit : Named → Var → ℕ
var_bit n v = 2 ^ place var_eq n.vars v

-- the class of a term
abbrev pub class_in : Named → Term → ℕ
class_in n e = class_by n.terms n.classes e

-- the bit of a term's class
abbrev pub class_bit : Named → Term → ℕ
class_bit n e = 2 ^ place ◌==◌ n.kinds (class_in n e)

-- the mask has the variables that the integer is in, and its class if it has one
pub record IsMaskOf (n : Named) (x : Spot) (m : Mask) : Type 0 where
  pub region : (v : Var) → IsTrue (var_in v n.vars) → var_in v x.region ≡ share m.vars (var_bit n v)
  pub class : (e : Term) → IsTrue (term_in e n.terms) → has_class x.class (class_in n e) ≡ share m.classes (class_bit n e)

-- the mask is that of the set term: an integer is in this exactly where its mask meets that
abbrev pub IsUnion : Named → SetTerm → Mask → Type 0
IsUnion n u s = (x : Spot) (m : Mask) → IsMaskOf n x m → in_spot (class_in n) x u ≡ meets m s

-- the mask is that of the set of one term
abbrev pub IsSingle : Named → Term → Mask → Type 0
IsSingle n e s = (x : Spot) (m : Mask) → IsMaskOf n x m → has_class x.class (class_in n e) ≡ meets m s

-- the set term's variables and elements have places
abbrev pub HasPlaces : Named → SetTerm → Type 0
HasPlaces n u = All (λ v. IsTrue (var_in v n.vars)) u.vars × All (λ e. IsTrue (term_in e n.terms)) u.elems
