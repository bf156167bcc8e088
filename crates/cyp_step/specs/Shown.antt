-- What is shown at a goal, and when a goal is dead.
use Rattle.std.specs.Prelude.{[], ◌++◌, Bool, List, None, Option, Some, false, filter, not, true, ◌∷◌}
use Rattle.std.specs.List.{list_any}
use Rattle.cyp_goal.specs.Facts.{facts}
use Rattle.cyp_heap.specs.Chunks.{is_inst}
use Rattle.cyp_heap.specs.declared.goal.Goal.{Goal}
use Rattle.cyp_pure.specs.Fits.{fits}
use Rattle.cyp_term.specs.Entailment.{entailed, satisfiable}
use Rattle.cyp_term.specs.Terms.{lit_vars, var_in}
use Rattle.cyp_term.specs.declared.lit.Lit.{Lit}
use Rattle.cyp_term.specs.declared.term.Term.{Term}
use Rattle.cyp_term.specs.declared.term.Var.{Var}

-- the literals follow from the facts, and both fit
abbrev pub shown : Goal → List Lit → Bool
shown g ls = elim (fits (facts g) ls) [ true ↦ entailed (facts g) ls | false ↦ false ]

-- there is no base, or it is a program variable
abbrev pub is_program_base : Goal → Option Var → Bool
is_program_base g None = true
is_program_base g (Some v) = var_in v g.program

-- a term with no base, or with a program variable as base
abbrev pub is_program_expr : Goal → Term → Bool
is_program_expr g t = is_program_base g t.base

-- the literal has an existential
abbrev pub is_open : Goal → Lit → Bool
is_open g l = list_any (λ v. var_in v g.exist) (lit_vars l)

-- the goal can't be met though its facts are satisfiable
abbrev pub dead : Goal → Bool
dead g =
    elim (satisfiable (facts g)) [
      | false ↦ false
      | true ↦ elim (satisfiable (facts g ++ g.pure_post)) [
        | false ↦ true
        | true ↦ elim (list_any is_inst g.pre.chunks) [
          | true ↦ false
          | false ↦ list_any (λ l. not (shown g (l ∷ []))) (filter (λ l. not (is_open g l)) g.pure_post)
        ]
      ]
    ]
