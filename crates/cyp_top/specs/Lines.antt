-- Outputs, and lines that more than one command writes.
use Rattle.std.specs.Prelude.{[], List, codes, ℕ, ◌++◌, ◌∷◌}
use Rattle.cyp_heap.specs.declared.goal.Node.{Node}
use Rattle.cyp_kernel.specs.Compile.{program_of}
use Rattle.cyp_prog.specs.ProgramText.{program_text}
use Rattle.cyp_search.specs.Reports.{Found, NoneFound, PlainVerdict}
use Rattle.cyp_search.specs.Reports.{Spent as BudgetSpent}
use Rattle.cyp_step.specs.declared.rule.Rule.{Rule}
use Rattle.cyp_top.specs.declared.status.Status.{Status}
use Rattle.cyp_top.specs.declared.status.Status.TheVariants.{NoProgram, Program, Spent, Usage}

-- the bytes that are written, and how the command ends
pub record Output : Type 0 where
  pub text : List ℕ
  pub status : Status

-- these bytes with this status
abbrev pub output : List ℕ → Status → Output
output text status = record { text = text; status = status }

-- a line with its end
abbrev pub line : List ℕ → List ℕ
line text = text ++ 10 ∷ []

-- the program's text under this name, `no program`, `budget spent`
abbrev pub verdict_output : List ℕ → PlainVerdict Rule Node → Output
verdict_output name (Found d) = output (program_text (program_of name d)) Program
verdict_output name NoneFound = output (line (codes "no program")) NoProgram
verdict_output name BudgetSpent = output (line (codes "budget spent")) Spent

-- the line that refuses the words
abbrev pub words_refused : Output
words_refused = output (line (codes "words refused")) Usage
