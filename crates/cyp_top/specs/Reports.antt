-- The lines of a report, and of faults.
use Rattle.std.specs.Prelude.{List, [], codes, decimal, ◌++◌, Bool, false, true, ℕ}
use Rattle.cyp_heap.specs.declared.goal.Node.{Node}
use Rattle.cyp_lex.specs.declared.fault.FaultKind.{FaultKind}
use Rattle.cyp_lex.specs.declared.fault.FaultKind.TheVariants.{BadByte, DuplicateName, Expected, GuardsOverlap, MissingProcedure, NotDifference, NumberRange, ReservedName, TooLarge, TooLong, UnboundVariable, UnknownPredicate, Unproductive, WrongArity, WrongSort}
use Rattle.cyp_search.specs.Reports.{PlainReport}
use Rattle.cyp_step.specs.declared.rule.Rule.{Rule}
use Rattle.cyp_top.specs.Lines.{Output, line, output}
use Rattle.cyp_top.specs.declared.status.Status.TheVariants.{Refused}

-- the expansions, nodes and depth of a report, as comments
abbrev pub stats_text : PlainReport Rule Node → List ℕ
stats_text r =
    line (codes "// expansions " ++ decimal r.expansions) ++ line (codes "// nodes " ++ decimal r.nodes) ++ line (codes "// depth " ++ decimal r.depth)

-- the text behind another
abbrev pub followed_by : Output → List ℕ → Output
followed_by o text = output (o.text ++ text) o.status

-- the report's lines, where they are asked for
abbrev pub stats_if : Bool → PlainReport Rule Node → List ℕ
stats_if true r = stats_text r
stats_if false r = []

-- a kind of fault by its name
abbrev pub fault_name : FaultKind → List ℕ
fault_name BadByte = codes "BadByte"
fault_name Expected = codes "Expected"
fault_name NumberRange = codes "NumberRange"
fault_name DuplicateName = codes "DuplicateName"
fault_name ReservedName = codes "ReservedName"
fault_name UnknownPredicate = codes "UnknownPredicate"
fault_name WrongArity = codes "WrongArity"
fault_name WrongSort = codes "WrongSort"
fault_name NotDifference = codes "NotDifference"
fault_name UnboundVariable = codes "UnboundVariable"
fault_name GuardsOverlap = codes "GuardsOverlap"
fault_name Unproductive = codes "Unproductive"
fault_name TooLarge = codes "TooLarge"
fault_name MissingProcedure = codes "MissingProcedure"
fault_name TooLong = codes "TooLong"

-- the line of a fault with its place
abbrev pub refused_at : List ℕ → ℕ → Output
refused_at name place = output (line (codes "refused: " ++ name ++ codes " at " ++ decimal place)) Refused
