-- Derivations whose program keeps the rules.
use Rattle.std.specs.List.{All}
use Rattle.std.specs.Prelude.{[], List, length, ◌≡◌, ◌≤◌, ℕ}
use Rattle.cyp_heap.specs.PredsFormed.{IsFormedPreds}
use Rattle.cyp_kernel.specs.Accepted.{StepsHold, root_node}
use Rattle.cyp_kernel.specs.Companions.{Proof}
use Rattle.cyp_kernel.specs.Compile.{program_of}
use Rattle.cyp_kernel.specs.SteadyLaws.{IsSteadyNode}
use Rattle.cyp_prog.specs.Programs.{Body, Choosing, End, Failing, Giving, Invoking, Loading, Procedure, Statement, Storing, Taking, Then}
use Rattle.cyp_prog.specs.Rules.{IsShallowBody, KeepsRules, NumbersFit}

-- each place of the derivation is a step, and its root is a steady node without companions over formed predicates
pub record IsReadyProof (d : Proof) : Type 0 where
  pub steps : StepsHold d
  pub formed : IsFormedPreds (root_node d).preds
  pub steady : IsSteadyNode (root_node d)
  pub alone : (root_node d).links ≡ []

abbrev mutual
  -- each allocation in the statement is one of 1 to 8 cells
  pub StatementSizesFit : Statement → Type 0
  StatementSizesFit (Loading v e) = Unit {0}
  StatementSizesFit (Storing a e) = Unit {0}
  StatementSizesFit (Taking v n) = (1 ≤ n) × (n ≤ 8)
  StatementSizesFit (Giving e) = Unit {0}
  StatementSizesFit (Invoking p es) = Unit {0}
  StatementSizesFit (Choosing t a b) = SizesFit a × SizesFit b
  StatementSizesFit Failing = Unit {0}

  pub SizesFit : Body → Type 0
  SizesFit End = Unit {0}
  SizesFit (Then s b) = StatementSizesFit s × SizesFit b

-- what is seen of a procedure by itself: at most 65,535 parameters, sizes, numbers and nesting
pub record IsSmall (q : Procedure) : Type 0 where
  pub params : q.params ≤ 65535
  pub sizes : SizesFit q.body
  pub numbers : NumbersFit q.body
  pub shallow : IsShallowBody 0 q.body

-- where each procedure is small, and there are at most 65,535, the program of a derivation keeps the rules
abbrev pub ProgramsKeepRules : Type 0
ProgramsKeepRules =
    (name : List ℕ) (d : Proof) → IsReadyProof d → length (program_of name d) ≤ 65535 → All IsSmall (program_of name d) → KeepsRules (program_of name d)
