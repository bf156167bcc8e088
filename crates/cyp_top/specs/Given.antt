-- The output that an answer of the code stands for, and what its parts are given.
use Rattle.cyp_heap.specs.declared.goal.Node.{Node}
use Rattle.cyp_print.specs.Found.{IsFound}
use Rattle.cyp_search.specs.Reports.{Found, PlainVerdict}
use Rattle.cyp_step.specs.declared.rule.Rule.{Rule}
use Rattle.cyp_top.specs.Lines.{Output, output}
use Rattle.cyp_top.specs.declared.answer.Answer.{Answer}
use Rattle.cyp_top.specs.declared.answer.Answer.TheVariants as answers
use Rattle.cyp_top.specs.declared.status.Status.TheVariants.{NoProgram, Program, Refused, Spent}

-- the text with the status that goes with it
abbrev pub plain_answer : Answer → Output
plain_answer (answers.Program text) = output text Program
plain_answer (answers.NoProgram text) = output text NoProgram
plain_answer (answers.Spent text) = output text Spent
plain_answer (answers.Refused text) = output text Refused

-- what is found follows the moves of goals
abbrev pub IsFoundVerdict : PlainVerdict Rule Node → Type 0
IsFoundVerdict (Found d) = IsFound d
IsFoundVerdict v = Unit {0}
