-- Normal form, its first steps: equations that are solved for a logical variable or an existential.
use Rattle.std.specs.Prelude.{[], ◌&&◌, Bool, List, None, Option, Some, cond, neg_ℤ, not, option_map, suc, zero, ◌||◌, ℕ, ◌∷◌}
use Rattle.std.specs.Option.{option_and_then}
use Rattle.cyp_heap.specs.Goals.{apply_node, wide_node}
use Rattle.cyp_heap.specs.declared.goal.Goal.{Goal}
use Rattle.cyp_heap.specs.declared.goal.Node.{Node}
use Rattle.cyp_term.specs.Terms.{base_eq, plus, sort_eq, var_in, wide_subst}
use Rattle.cyp_term.specs.declared.lit.Lit.{Lit}
use Rattle.cyp_term.specs.declared.lit.Lit.TheVariants.{Eq, Same}
use Rattle.cyp_term.specs.declared.lit.SetTerm.{SetTerm}
use Rattle.cyp_term.specs.declared.subst.Subst.{Subst}
use Rattle.cyp_term.specs.declared.term.Sort.TheVariants.{Int}
use Rattle.cyp_term.specs.declared.term.Term.{Term}
use Rattle.cyp_term.specs.declared.term.Var.{Var}

-- one variable by a term
abbrev pub bind_int : Var → Term → Subst
bind_int v t = record { ints = record { var = v; to = t } ∷ []; sets = [] }

-- one set variable by a set term
abbrev pub bind_set : Var → SetTerm → Subst
bind_set v u = record { ints = []; sets = record { var = v; to = u } ∷ [] }

-- an equation's side solved for its base, where that is a variable of sort Int that passes the test and isn't the base of the other side
abbrev pub solved_base : (Var → Bool) → Option Var → Term → Term → Option Subst
solved_base test None s t = None
solved_base test (Some v) s t =
    cond (sort_eq v.sort Int && test v && not (base_eq (Some v) t.base)) (Some (bind_int v (plus t (neg_ℤ s.offset)))) None

-- the equation s = t of integers solved for the base of s, where that may be solved for
abbrev pub solved_side : (Var → Bool) → Term → Term → Option Subst
solved_side test s t = solved_base test s.base s t

-- a set equation's side solved, where it is one variable that passes the test and doesn't occur in the other side
abbrev pub solved_parts : (Var → Bool) → List Var → List Term → SetTerm → Option Subst
solved_parts test (v ∷ []) [] t = cond (test v && not (var_in v t.vars)) (Some (bind_set v t)) None
solved_parts test _ _ t = None

-- the equation s = t of sets solved for s, where that is one variable that may be solved for
abbrev pub solved_set : (Var → Bool) → SetTerm → SetTerm → Option Subst
solved_set test s t = solved_parts test s.vars s.elems t

-- the first answer, or the second where there is no first
abbrev pub first_some : {A : Type 0} → Option A → Option A → Option A
first_some None b = b
first_some (Some x) b = Some x

-- an equation of integers, its left side first
abbrev pub solved_eq : (Var → Bool) → Lit → Option Subst
solved_eq test (Eq s t) = first_some (solved_side test s t) (solved_side test t s)
solved_eq test _ = None

-- an equation of integers or of sets, its left side first
abbrev pub solved_any : (Var → Bool) → Lit → Option Subst
solved_any test (Eq s t) = first_some (solved_side test s t) (solved_side test t s)
solved_any test (Same s t) = first_some (solved_set test s t) (solved_set test t s)
solved_any test _ = None

-- what the first literal with an answer gives, and the other literals
abbrev pub first_solved : (Lit → Option Subst) → List Lit → Option (Subst × List Lit)
first_solved f [] = None
first_solved f (l ∷ ls) =
    elim (f l) [
      | Some by ↦ Some (by, ls)
      | None ↦ option_map (λ (p : Subst × List Lit). (p.0, l ∷ p.1)) (first_solved f ls)
    ]

-- the substitution in the whole node, or none where an offset passes 2 ^ 32
abbrev pub substitute : Subst → Node → Option Node
substitute by n = let m : Node = apply_node by n in cond (wide_subst by || wide_node m) None (Some m)

-- a variable that is neither a program variable nor an existential
abbrev pub is_logical : Goal → Var → Bool
is_logical g v = not (var_in v g.program) && not (var_in v g.exist)

-- the node with these literals as its pure precondition
abbrev pub with_pre : Node → List Lit → Node
with_pre n ls = record n { goal = record n.goal { pure_pre = ls } }

-- the node with these literals as its pure postcondition
abbrev pub with_post : Node → List Lit → Node
with_post n ls = record n { goal = record n.goal { pure_post = ls } }

-- while the precondition has an equation of integers that can be solved for a logical variable, the first such is solved, substituted and dropped
abbrev pub solve_pre : ℕ → Node → Option Node
solve_pre zero n = Some n
solve_pre (suc k) n =
    elim (first_solved (solved_eq (is_logical n.goal)) n.goal.pure_pre) [
      | None ↦ Some n
      | Some p ↦ option_and_then (solve_pre k) (substitute p.0 (with_pre n p.1))
    ]

-- the same in the postcondition for an existential, also for equations of sets
abbrev pub solve_post : ℕ → Node → Option Node
solve_post zero n = Some n
solve_post (suc k) n =
    elim (first_solved (solved_any (λ v. var_in v n.goal.exist)) n.goal.pure_post) [
      | None ↦ Some n
      | Some p ↦ option_and_then (solve_post k) (substitute p.0 (with_post n p.1))
    ]
