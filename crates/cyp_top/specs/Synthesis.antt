-- What `synth` answers for a specification, with the options of the command line and these kinds of row.
use Rattle.std.specs.Prelude.{Bool, List, Result, Ok, Err, ◌≡◌, ℕ}
use Rattle.cyp_heap.specs.declared.goal.Node.{Node}
use Rattle.cyp_lex.specs.declared.fault.Fault.{Fault}
use Rattle.cyp_moves.specs.Moves.{moves_of_kinds, weight}
use Rattle.cyp_search.specs.Reports.{PlainReport, report}
use Rattle.cyp_formed.specs.Reading.{IsReading}
use Rattle.cyp_names.specs.Specifications.{Specification}
use Rattle.cyp_step.specs.declared.rule.Rule.{Rule}
use Rattle.cyp_top.specs.Lines.{Output, verdict_output}
use Rattle.cyp_top.specs.Reports.{fault_name, followed_by, refused_at, stats_if}
use Rattle.cyp_top.specs.Roots.{root_of}
use Rattle.cyp_tree.specs.Trees.{Moving}
use Rattle.cyp_words.specs.Words.{Search}

-- the moves of these kinds and the weights of nodes, where an instance may be unfolded this often
abbrev pub goal_space : (Rule → Bool) → ℕ → Moving Rule Node
goal_space kinds limit = record { moves = moves_of_kinds kinds limit; weight = weight }

-- best-first search with these unfoldings and this budget, and at most 500,000 nodes
abbrev pub spec_report : (Rule → Bool) → ℕ → ℕ → Specification → PlainReport Rule Node
spec_report kinds unfoldings budget s = report (goal_space kinds unfoldings) budget 500000 (root_of s)

-- what the report says, and its lines where they are asked for
abbrev pub report_output : Search → List ℕ → PlainReport Rule Node → Output
report_output o name r = followed_by (verdict_output name r.verdict) (stats_if o.stats r)

-- what is answered for a specification, or for the one fault of its text
abbrev pub result_output : (Rule → Bool) → Search → Result Specification Fault → Output
result_output kinds o (Ok s) = report_output o s.name (spec_report kinds o.unfoldings o.budget s)
result_output kinds o (Err f) = refused_at (fault_name f.kind) f.place

-- the output of `synth` for these bytes
abbrev pub IsSpecOutput : (Rule → Bool) → Search → List ℕ → Output → Type 0
IsSpecOutput kinds o bytes out = (r : Result Specification Fault) × IsReading bytes r × (out ≡ result_output kinds o r)
