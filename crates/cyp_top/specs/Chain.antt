-- What `gen` answers: the search for the chain of so many cells.
use Rattle.std.specs.Prelude.{List, [], codes, decimal, map, pos, ◌++◌, ◌∷◌, ℕ}
use Rattle.cyp_heap.specs.declared.chunk.Chunk.{Chunk}
use Rattle.cyp_heap.specs.declared.chunk.Chunk.TheVariants.{Cell}
use Rattle.cyp_heap.specs.declared.goal.Goal.{Goal}
use Rattle.cyp_heap.specs.declared.goal.Node.{Node}
use Rattle.cyp_moves.specs.Moves.{is_any}
use Rattle.cyp_pred.specs.Unfold.{count_from, new_ints}
use Rattle.cyp_search.specs.Reports.{Found, NoneFound, PlainReport, PlainVerdict}
use Rattle.cyp_search.specs.Reports.{Spent as BudgetSpent}
use Rattle.cyp_names.specs.Specifications.{Specification}
use Rattle.cyp_step.specs.declared.rule.Rule.{Rule}
use Rattle.cyp_term.specs.Terms.{number_term, plus, var_term}
use Rattle.cyp_term.specs.declared.lit.Lit.{Lit}
use Rattle.cyp_term.specs.declared.lit.Lit.TheVariants.{Lt}
use Rattle.cyp_term.specs.declared.term.Sort.TheVariants.{Int}
use Rattle.cyp_term.specs.declared.term.Var.{Var}
use Rattle.cyp_top.specs.Lines.{Output, line, output}
use Rattle.cyp_top.specs.Synthesis.{spec_report}
use Rattle.cyp_top.specs.declared.status.Status.{Status}
use Rattle.cyp_top.specs.declared.status.Status.TheVariants.{NoProgram, Program, Spent}

-- cells with content 7 at the variable and behind it
abbrev pub chain_cells : Var → ℕ → List Chunk
chain_cells x n = map (λ i. Cell (record { at = plus (var_term x) (pos i); content = number_term (pos 7) })) (count_from 0 n)

-- each variable is below the one before
abbrev pub falling : List Var → List Lit
falling [] = []
falling (a ∷ []) = []
falling (a ∷ b ∷ vs) = Lt (var_term b) (var_term a) ∷ falling (b ∷ vs)

-- a cell with content 7 at each variable
abbrev pub cells_at : List Var → List Chunk
cells_at vs = map (λ v. Cell (record { at = var_term v; content = number_term (pos 7) })) vs

-- the variable of the chain's address
abbrev pub chain_start : Var
chain_start = record { sort = Int; number = 0 }

-- the existentials, one for each cell
abbrev pub chain_exist : ℕ → List Var
chain_exist n = new_ints 1 n

-- the variables in the order in which they first stand in `y2 < y1`, `y3 < y2` and so on
abbrev pub by_occurrence : List Var → List Var
by_occurrence (a ∷ b ∷ vs) = b ∷ a ∷ vs
by_occurrence vs = vs

-- the cells from x on are to be found again at falling existential addresses
abbrev pub chain : ℕ → Goal
chain n = record {
  program = chain_start ∷ [];
  exist = by_occurrence (chain_exist n);
  pure_pre = [];
  pre = record { chunks = chain_cells chain_start n };
  pure_post = falling (chain_exist n);
  post = record { chunks = cells_at (chain_exist n) };
}

-- the chain as a specification without predicates
abbrev pub chain_spec : ℕ → Specification
chain_spec n = record { preds = record { list = [] }; name = codes "gen"; goal = chain n }

-- how a verdict is named
abbrev pub verdict_name : PlainVerdict Rule Node → List ℕ
verdict_name (Found d) = codes "program"
verdict_name NoneFound = codes "no program"
verdict_name BudgetSpent = codes "budget spent"

-- the status of a verdict
abbrev pub verdict_status : PlainVerdict Rule Node → Status
verdict_status (Found d) = Program
verdict_status NoneFound = NoProgram
verdict_status BudgetSpent = Spent

-- the five lines of the report for the chain of n cells
abbrev pub chain_lines : ℕ → PlainReport Rule Node → Output
chain_lines n r =
    output
    (line (codes "gen " ++ decimal n) ++ line (codes "answer " ++ verdict_name r.verdict) ++ line (codes "expansions " ++ decimal r.expansions)
    ++ line (codes "nodes " ++ decimal r.nodes) ++ line (codes "depth " ++ decimal r.depth))
    (verdict_status r.verdict)

-- the search has 2 unfoldings and a budget of 100,000
abbrev pub gen_output : ℕ → Output
gen_output n = chain_lines n (spec_report is_any 2 100000 (chain_spec n))
