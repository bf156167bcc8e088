-- Sides of equations that are solved.
use Rattle.std.specs.Prelude.{[], ◌<◌, ◌≡◌, ◌∷◌, Bool, Err, IfSome, IsTrue, List, MatchOption, None, Ok, Option, Result, Some, false, is_some, length, neg_ℤ, not, option_map, remove, slice_get, true, ℕ}
use Rattle.cyp_goal.specs.Solving.{bind_int, bind_set, first_solved, solved_any, solved_eq}
use Rattle.cyp_term.specs.Terms.{plus, var_in, wide_subst}
use Rattle.cyp_goal.specs.declared.equations.Side.{Side}
use Rattle.cyp_goal.specs.declared.equations.Side.TheVariants.{Left, Right}
use Rattle.cyp_goal.specs.declared.equations.Unknowns.{Unknowns}
use Rattle.cyp_goal.specs.declared.equations.Unknowns.TheVariants.{Existential, Logical}
use Rattle.cyp_term.specs.declared.fail.Fail.{Fail}
use Rattle.cyp_term.specs.declared.fail.Fail.TheVariants.{Named, NoMemory}
use Rattle.cyp_term.specs.declared.lit.Lit.{Lit}
use Rattle.cyp_term.specs.declared.lit.Lit.TheVariants.{Eq, Same}
use Rattle.cyp_term.specs.declared.lit.SetTerm.{SetTerm}
use Rattle.cyp_term.specs.declared.subst.Subst.{Subst}
use Rattle.cyp_term.specs.declared.term.Term.{Term}
use Rattle.cyp_term.specs.declared.term.Var.{Var}

-- the variable is one that equations are solved for
abbrev pub may_solve : Unknowns → Var → Bool
may_solve (Logical known) v = not (var_in v known.now)
may_solve (Existential exist) v = var_in v exist.now

-- what a literal gives: for logical variables only equations of integers are solved
abbrev pub solves : Unknowns → Lit → Option Subst
solves (Logical known) l = solved_eq (may_solve (Logical known)) l
solves (Existential exist) l = solved_any (may_solve (Existential exist)) l

-- the equation s = t of integers solved for the base of s, whichever that is
abbrev pub term_answer : Term → Term → Option Subst
term_answer s t = option_map (λ v. bind_int v (plus t (neg_ℤ s.offset))) s.base

-- a set equation's side solved, where it is one variable
abbrev pub parts_answer : List Var → List Term → SetTerm → Option Subst
parts_answer (v ∷ []) [] t = Some (bind_set v t)
parts_answer _ _ t = None

-- the equation s = t of sets solved for s
abbrev pub set_answer : SetTerm → SetTerm → Option Subst
set_answer s t = parts_answer s.vars s.elems t

-- the equation solved for this side
abbrev pub side_answer : Side → Lit → Option Subst
side_answer Left (Eq s t) = term_answer s t
side_answer Right (Eq s t) = term_answer t s
side_answer Left (Same s t) = set_answer s t
side_answer Right (Same s t) = set_answer t s
side_answer _ _ = None

-- there is an answer, and it is this one
abbrev pub IsAnswer : Option Subst → Option Subst → Type 0
IsAnswer given o = (given ≡ o) × IsTrue (is_some o)

-- the literal at the place is the first with an answer, and this side is solved
pub record IsFirst (f : Lit → Option Subst) (ls : List Lit) (place : ℕ) (side : Side) : Type 0 where
  pub within : place < length ls
  pub lit : Lit
  pub there : slice_get ls place ≡ Some lit
  pub by : Subst
  pub answer : side_answer side lit ≡ Some by
  pub first : first_solved f ls ≡ Some (by, remove ls place)

-- the place and side of the first literal with an answer, or none where there is none
abbrev pub FirstBy : (Lit → Option Subst) → List Lit → Option (ℕ × Side) → Type 0
FirstBy f ls r = MatchOption r (first_solved f ls ≡ None) (λ p. IsFirst f ls p.0 p.1)

-- the answer, or that it has an offset past 2 ^ 32
abbrev pub Solves : {E : Type 0} → Option Subst → Result Subst (Fail E) → Type 0
Solves o (Ok by) = (o ≡ Some by) × (wide_subst by ≡ false)
Solves o (Err (Named e)) = IfSome o (λ by. wide_subst by ≡ true)
Solves o (Err NoMemory) = Unit {0}
