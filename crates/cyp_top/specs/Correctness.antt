-- What is written for a program is the text of one, and it is correct for the specification that was read.
use Rattle.std.specs.Prelude.{IfSome, List, Ok, Option, Some, ◌++◌, ◌≡◌, ℕ}
use Rattle.std.specs.Io.KnownBytes.{Appends}
use Rattle.cyp_formed.specs.Reading.{IsReading}
use Rattle.cyp_kernel.specs.Accepted.{lead_of}
use Rattle.cyp_kernel.specs.Companions.{Proof}
use Rattle.cyp_kernel.specs.Compile.{program_of}
use Rattle.cyp_kernel.specs.Correct.{IsCorrect}
use Rattle.cyp_moves.specs.Moves.{is_built}
use Rattle.cyp_names.specs.Specifications.{Specification}
use Rattle.cyp_prog.specs.ProgramText.{program_text}
use Rattle.cyp_search.specs.Reports.{Found}
use Rattle.cyp_top.specs.Lines.{Output}
use Rattle.cyp_top.specs.Output.{IsOutput}
use Rattle.cyp_top.specs.Reports.{stats_if}
use Rattle.cyp_top.specs.Synthesis.{spec_report}
use Rattle.cyp_top.specs.declared.status.Status.TheVariants.{Program}
use Rattle.cyp_words.specs.Words.{Command, Search, Synth, one_worker_command_of}

-- the bytes are read as a specification, this search from its goal finds a derivation, and the text is that of the derivation's program, with the report's lines behind it where they are asked for
pub record WritesCorrect (o : Search) (bytes text : List ℕ) : Type 0 where
  pub spec : Specification
  pub derivation : Proof
  pub read : IsReading bytes (Ok spec)
  pub found : (spec_report is_built o.unfoldings o.budget spec).verdict ≡ Found derivation
  pub written : text ≡ program_text (program_of spec.name derivation) ++ stats_if o.stats (spec_report is_built o.unfoldings o.budget spec)
  -- and that program is correct for the specification's goal, with the lead of the derivation
  pub correct : IsCorrect (program_of spec.name derivation) spec.preds spec.goal (lead_of derivation)

-- the command is a search, and the text is that of a program that is correct for the bytes
abbrev pub WritesFor : Option Command → (bytes text : List ℕ) → Type 0
WritesFor c bytes text = (o : Search) × (c ≡ Some (Synth o)) × WritesCorrect o bytes text

-- it is so with each output whose status is that of a program
abbrev pub WrittenIsCorrect : Type 0
WrittenIsCorrect = (words : List (List ℕ)) (bytes : List ℕ) (o : Output) → IsOutput words bytes o → o.status ≡ Program → WritesFor (one_worker_command_of words) bytes o.text

-- where the source tells its bytes, a text is appended to what the sink took, and it is that of a program that is correct for them
abbrev pub AppendsCorrect : Option Command → (source sink sink' : Option (List ℕ)) → Type 0
AppendsCorrect c source sink sink' = IfSome source (λ bytes. (text : List ℕ) × Appends sink sink' text × WritesFor c bytes text)
