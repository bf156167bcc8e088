-- What terms and literals mean: the values of variables, the truth of literals, entailment.
use Rattle.std.specs.Prelude.{◌≡◌, Bool, ◌↔◌, List, [], ◌∷◌, ◌++◌, map, flat_map, ℤ, pos, ◌+ℤ◌, ◌≤ℤ◌, ◌<ℤ◌, IsTrue, Option, Some, None}
use Rattle.std.specs.List.{list_any}
use Rattle.std.specs.Ordering.{int_eq}
use Rattle.cyp_term.specs.declared.term.Var.{Var}
use Rattle.cyp_term.specs.declared.term.Term.{Term}
use Rattle.cyp_term.specs.declared.lit.SetTerm.{SetTerm}
use Rattle.cyp_term.specs.declared.lit.Lit.{Lit}
use Rattle.cyp_term.specs.declared.lit.Lit.TheVariants.{Eq, Ne, Le, Lt, Same, NotSame, Member, NotMember, Sub, NotSub}
use Rattle.cyp_term.specs.declared.subst.Subst.{Subst}
use Rattle.cyp_term.specs.Terms.{int_image, set_image, apply_lit}

-- an integer for each variable of sort Int or Card, and a finite set for each of sort Set. A list stands for the set of its elements
pub record Assignment : Type 0 where
  pub number : Var → ℤ
  pub members : Var → List ℤ

-- the number stands in the list
abbrev pub int_in : ℤ → List ℤ → Bool
int_in z zs = list_any (int_eq z) zs

-- the integer that the assignment gives to the variable, and 0 where there is none
abbrev pub base_value : Assignment → Option Var → ℤ
base_value s None = pos 0
base_value s (Some v) = s.number v

-- the integer that a term stands for: its base's value plus its offset
abbrev pub value : Assignment → Term → ℤ
value s t = base_value s t.base +ℤ t.offset

-- the union of the variables' sets and the elements' values
abbrev pub set_value : Assignment → SetTerm → List ℤ
set_value s u = flat_map s.members u.vars ++ map (value s) u.elems

-- the lists stand for the same set
abbrev pub SameMembers : List ℤ → List ℤ → Type 0
SameMembers xs ys = (z : ℤ) → int_in z xs ≡ int_in z ys

-- each member of the first list is a member of the second
abbrev pub IsSubset : List ℤ → List ℤ → Type 0
IsSubset xs ys = (z : ℤ) → IsTrue (int_in z xs) → IsTrue (int_in z ys)

-- the literal is true in the assignment
abbrev pub Truth : Assignment → Lit → Type 0
Truth s (Eq a b) = value s a ≡ value s b
Truth s (Ne a b) = ¬ (value s a ≡ value s b)
Truth s (Le a b) = value s a ≤ℤ value s b
Truth s (Lt a b) = value s a <ℤ value s b
Truth s (Same a b) = SameMembers (set_value s a) (set_value s b)
Truth s (NotSame a b) = ¬ (SameMembers (set_value s a) (set_value s b))
Truth s (Member a b) = IsTrue (int_in (value s a) (set_value s b))
Truth s (NotMember a b) = ¬ (IsTrue (int_in (value s a) (set_value s b)))
Truth s (Sub a b) = IsSubset (set_value s a) (set_value s b)
Truth s (NotSub a b) = ¬ (IsSubset (set_value s a) (set_value s b))

-- the value of the variable's image, or the variable's own where it has no image
abbrev pub image_value : Assignment → Var → Option Term → ℤ
image_value s v None = s.number v
image_value s v (Some t) = value s t

-- the set that the variable's image stands for, or the variable's own where it has no image
abbrev pub image_members : Assignment → Var → Option SetTerm → List ℤ
image_members s v None = s.members v
image_members s v (Some u) = set_value s u

-- the assignment that gives each variable what its image has in this one; an unbound variable keeps its own
abbrev pub under : Subst → Assignment → Assignment
under by s = record {
  number = λ v. image_value s v (int_image by.ints v);
  members = λ v. image_members s v (set_image by.sets v);
}

-- a substituted literal says of an assignment what the literal says of the assignment under the substitution
abbrev pub ApplyLaw : Type 0
ApplyLaw = (by : Subst) (s : Assignment) (l : Lit) → Truth s (apply_lit by l) ↔ Truth (under by s) l

-- each of the literals is true in the assignment
abbrev pub AllTrue : Assignment → List Lit → Type 0
AllTrue s [] = Unit {0}
AllTrue s (l ∷ ls) = Truth s l × AllTrue s ls

-- each assignment that makes all of the first true makes all of the second true
abbrev pub Entails : List Lit → List Lit → Type 0
Entails a b = (s : Assignment) → AllTrue s a → AllTrue s b

-- some assignment makes all true
abbrev pub Satisfiable : List Lit → Type 0
Satisfiable a = (s : Assignment) × AllTrue s a
