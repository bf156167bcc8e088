-- Bounds, measures and small derivations.
use Rattle.std.proofs.Common.{[], ◌++◌, List, None, Some, map, pos, refl, replicate, subst, suc, zero, zero-le, ℕ, ℤ, ◌∷◌, ◌≡◌}
use Rattle.cyp_heap.specs.Assertions.{SideHolds}
use Rattle.cyp_heap.specs.Stores.{Store}
use Rattle.cyp_heap.specs.declared.goal.Goal.{Goal}
use Rattle.cyp_heap.specs.declared.goal.Node.{Node}
use Rattle.cyp_kernel.specs.Accepted.{IsAccepted, lead_of}
use Rattle.cyp_kernel.specs.Bound.{body_length, bound, longest, measure}
use Rattle.cyp_kernel.specs.Companions.{Proof}
use Rattle.cyp_kernel.specs.Compile.{program_of}
use Rattle.cyp_kernel.specs.Correct.{AgreeBy, IsCorrect, RunsRight, kept_params}
use Rattle.cyp_machine.specs.Runs.{Run}
use Rattle.cyp_machine.specs.States.{State, start}
use Rattle.cyp_prog.specs.Programs.{Body, Choosing, End, Failing, Giving, Invoking, Loading, Then}
use Rattle.cyp_prog.specs.declared.stmt.Expr.{Expr}
use Rattle.cyp_prog.specs.declared.stmt.TestSign.TheVariants.{Equal}
use Rattle.cyp_step.specs.declared.rule.Rule.TheVariants.{ByEmp, ByOpen}
use Rattle.cyp_term.specs.Entailment.{entailed}
use Rattle.cyp_term.specs.Meaning.{Assignment}
use Rattle.cyp_term.specs.declared.term.Sort.{Sort}
use Rattle.cyp_term.specs.declared.term.Sort.TheVariants.{Card, Int, Set}
use Rattle.cyp_term.specs.declared.term.Var.{Var}
use Rattle.cyp_tree.specs.Derivations.{Derived, NoMore}

-- ---- bounds

bound_at_nought : bound 1 (0 ∷ []) 5 ≡ 14
bound_at_nought = refl

bound_at_one : bound 1 (1 ∷ []) 5 ≡ 15
bound_at_one = refl

bound_of_two_steps : bound 2 (1 ∷ []) 5 ≡ 43
bound_of_two_steps = refl

-- ---- lengths of bodies: if (v1 == 0) { } else { let v2 = *v1; free(v1); f(v2); }

abbrev var : ℕ → Expr
var n = record { var = Some n; offset = pos 0 }

abbrev nought : Expr
nought = record { var = None; offset = pos 0 }

abbrev disposing : Body
disposing =
    Then (Choosing (record { left = var 1; sign = Equal; right = nought }) End
    (Then (Loading 2 (var 1)) (Then (Giving (var 1)) (Then (Invoking 0 (var 2 ∷ [])) End))))
    End

four_statements : body_length disposing ≡ 4
four_statements = refl

longest_of_two : longest (record { name = []; params = 1; body = Then Failing End } ∷ record { name = []; params = 1; body = disposing } ∷ []) ≡ 4
longest_of_two = refl

-- ---- measures

measure_without_lead : measure None (7 ∷ 8 ∷ []) ≡ 1 ∷ replicate 67 0
measure_without_lead = refl

-- the lead's number stands first
measure_with_lead : measure (Some 1) (7 ∷ 8 ∷ 9 ∷ []) ≡ 0 ∷ 8 ∷ 7 ∷ 9 ∷ replicate 13 0 ++ 1 ∷ replicate 50 0
measure_with_lead = refl

-- ---- the derivation of `{ emp } { emp }` by Emp alone

abbrev pub empty_goal : Goal
empty_goal = record { program = []; exist = []; pure_pre = []; pre = record { chunks = [] }; pure_post = []; post = record { chunks = [] } }

abbrev pub empty_node : Node
empty_node = record { preds = record { list = [] }; goal = empty_goal; links = [] }

abbrev by_emp : Proof
by_emp = Derived empty_node ByEmp NoMore

emp_accepted : IsAccepted empty_node by_emp
unfolding entailed
emp_accepted = (refl, refl, (refl, tt))

emp_lead : lead_of by_emp ≡ None
emp_lead = refl

open_lead : lead_of (Derived empty_node (ByOpen 2) NoMore) ≡ Some 2
open_lead = refl

-- the program of one empty procedure
emp_program : program_of (102 ∷ []) by_emp ≡ record { name = 102 ∷ []; params = 0; body = End } ∷ []
emp_program = refl

-- ---- that program is correct

agree_itself : (k : Sort) (s : Assignment) (v : Var) → AgreeBy k s s v
agree_itself Int s v = refl
agree_itself Card s v = refl
agree_itself Set s v = λ z. refl

module _ (s : Assignment) (h : Store) (ns : List ℕ) (side : SideHolds empty_node.preds s [] [] h ns) where
  abbrev begun : List ℤ → State
  begun zs = start (program_of (102 ∷ []) by_emp) 0 zs h

  emp_right : (zs : List ℤ) (n : ℕ) (t : State) → Run (program_of (102 ∷ []) by_emp) n (begun zs) t
      → RunsRight (program_of (102 ∷ []) by_emp) empty_node.preds empty_goal None s h ns n t
  emp_right zs zero t run =
      subst (λ (u : State). RunsRight (program_of (102 ∷ []) by_emp) empty_node.preds empty_goal None s h ns 0 u) run (record {
        no_fault = refl;
        in_time = zero-le;
        meets_post = λ e. (s, ns, (λ v l. agree_itself v.sort s v), side);
      })
  emp_right zs (suc n) t run = absurd run.1

emp_correct : IsCorrect (program_of (102 ∷ []) by_emp) empty_node.preds empty_goal None
emp_correct s h ns side n t run = emp_right s h ns side (map s.number (kept_params empty_node.preds empty_goal)) n t run
