-- The text of a program that is written is that of a correct one.
use Rattle.std.proofs.Common.{Err, List, None, Ok, Option, Result, Some, ap, false, inl, inr, is_some, refl, subst, sym, ◌∙◌, ◌≡◌, ℕ}
use Rattle.std.proofs.lemmas.Bool.{and_parts, false≢true}
use Rattle.std.proofs.lemmas.Option.{IfSome_then}
use Rattle.cyp_formed.proofs.ReadTrees.{read_is_formed, read_is_sorted, read_preds_are_formed}
use Rattle.cyp_formed.specs.Reading.{IsReading}
use Rattle.cyp_found.proofs.Accepted.{found_is_correct}
use Rattle.cyp_goal.specs.Normal.{Renaming, normal}
use Rattle.cyp_heap.specs.Limits.{is_goal_within}
use Rattle.cyp_heap.specs.declared.goal.Node.{Node}
use Rattle.cyp_kernel.specs.Accepted.{lead_of}
use Rattle.cyp_kernel.specs.Companions.{Proof}
use Rattle.cyp_kernel.specs.Compile.{program_of}
use Rattle.cyp_kernel.specs.Correct.{IsCorrect}
use Rattle.cyp_lex.specs.declared.fault.Fault.{Fault}
use Rattle.cyp_moves.specs.Moves.{is_built}
use Rattle.cyp_names.specs.Specifications.{Specification}
use Rattle.cyp_search.specs.Reports.{Found, NoneFound, PlainVerdict, Spent, report}
use Rattle.cyp_step.specs.declared.rule.Rule.{Rule}
use Rattle.cyp_top.specs.Answers.{Answers, End, Sends}
use Rattle.cyp_top.specs.Correctness.{AppendsCorrect, WritesCorrect, WritesFor, WrittenIsCorrect}
use Rattle.cyp_top.specs.Lines.{Output, verdict_output}
use Rattle.cyp_top.specs.Output.{IsOutputBy}
use Rattle.cyp_top.specs.Reports.{followed_by, stats_if}
use Rattle.cyp_top.specs.Roots.{node_or, spec_node}
use Rattle.cyp_top.specs.Synthesis.{goal_space, result_output, spec_report}
use Rattle.cyp_top.specs.declared.status.Status.{Status}
use Rattle.cyp_top.specs.declared.status.Status.TheVariants.{NoProgram, Program, Refused, Spent as BudgetSpent, Usage, WriteFault}
use Rattle.cyp_top.proofs.FitRead.{read_is_fit}
use Rattle.cyp_words.specs.Words.{Command, Gen, RunOn, Search, Synth, one_worker_command_of}

module _ (q : Search) (bytes : List ℕ) (s : Specification) (read : IsReading bytes (Ok s)) where
  no_normal : is_some (normal (spec_node s)) ≡ false → ⊥
  no_normal e = false≢true (sym e ∙ (and_parts (is_goal_within s.goal) (is_some (normal (spec_node s))) (read_is_formed bytes s read).1).1)

  module _ (d : Proof) where
    found_by : (o : Option Renaming) → normal (spec_node s) ≡ o → (report (goal_space is_built q.unfoldings) q.budget 500000 (node_or (spec_node s) o)).verdict ≡ Found d
        → IsCorrect (program_of s.name d) s.preds s.goal (lead_of d)
    found_by None e found = absurd (no_normal (ap is_some e))
    found_by (Some r) e found =
        found_is_correct is_built q.unfoldings q.budget 500000 s.name s.preds s.goal r d (read_preds_are_formed bytes s read) (read_is_formed bytes s read).0 (read_is_fit bytes s read)
        (read_is_sorted bytes s read) e found

    -- the program of what is found for a specification that is read is correct
    found_correct : (spec_report is_built q.unfoldings q.budget s).verdict ≡ Found d → IsCorrect (program_of s.name d) s.preds s.goal (lead_of d)
    found_correct found = found_by (normal (spec_node s)) refl found

  verdict_correct : (v : PlainVerdict Rule Node) → (spec_report is_built q.unfoldings q.budget s).verdict ≡ v → (o : Output)
      → o ≡ followed_by (verdict_output s.name v) (stats_if q.stats (spec_report is_built q.unfoldings q.budget s)) → o.status ≡ Program → WritesCorrect q bytes o.text
  verdict_correct (Found d) e o is p =
      record { spec = s; derivation = d; read = read; found = e; written = ap (λ (x : Output). x.text) is; correct = found_correct d e }
  verdict_correct NoneFound e o is p = absurd (none_is_no_program (sym (ap (λ (x : Output). x.status) is) ∙ p))
    where
      none_is_no_program : NoProgram ≡ Program → ⊥
      none_is_no_program c = cc
  verdict_correct Spent e o is p = absurd (spent_is_no_program (sym (ap (λ (x : Output). x.status) is) ∙ p))
    where
      spent_is_no_program : BudgetSpent ≡ Program → ⊥
      spent_is_no_program c = cc

result_correct : (q : Search) (bytes : List ℕ) (r : Result Specification Fault) → IsReading bytes r → (o : Output) → o ≡ result_output is_built q r → o.status ≡ Program → WritesCorrect q bytes o.text
result_correct q bytes (Ok s) read o is p = verdict_correct q bytes s read (spec_report is_built q.unfoldings q.budget s).verdict refl o is p
result_correct q bytes (Err f) read o is p = absurd (refused_is_no_program (sym (ap (λ (x : Output). x.status) is) ∙ p))
  where
    refused_is_no_program : Refused ≡ Program → ⊥
    refused_is_no_program c = cc

usage_is_no_program : Usage ≡ Program → ⊥
usage_is_no_program c = cc

fault_is_no_program : WriteFault ≡ Program → ⊥
fault_is_no_program c = cc

-- what is written with the status of a program is correct
output_correct : (c : Option Command) (bytes : List ℕ) (o : Output) → IsOutputBy c bytes o → o.status ≡ Program → WritesFor c bytes o.text
output_correct None bytes o is p = absurd (usage_is_no_program (sym (ap (λ (x : Output). x.status) is) ∙ p))
output_correct (Some (Synth q)) bytes o is p = (q, refl, result_correct q bytes is.0 is.1 o is.2 p)
output_correct (Some (RunOn fuel)) bytes o is p = absurd (usage_is_no_program (sym (ap (λ (x : Output). x.status) is) ∙ p))
output_correct (Some (Gen n)) bytes o is p = absurd (usage_is_no_program (sym (ap (λ (x : Output). x.status) is) ∙ p))

pub written_is_correct : WrittenIsCorrect
written_is_correct words bytes o is p = output_correct (one_worker_command_of words) bytes o is p

-- ---- calls

-- where a call answers that there is a program, what it appended is the text of a correct one
pub answer_correct : (c : Option Command) (s s' k k' : End) (status : Status) → Answers c s s' k k' status → status ≡ Program → AppendsCorrect c s.told k.told k'.told
answer_correct c s s' k k' status a e =
    let whole : Answers c s s' k k' Program = subst (Answers c s s' k k') e a in
    IfSome_then s.told whole.2 (λ bytes h. (h.1.0.text, h.1.2.1, output_correct c bytes h.1.0 h.1.1 (sym h.1.2.0)))

-- what is sent with the status of refused words isn't answered as a program
pub refused_not_program : (text : List ℕ) (k k' : End) (status : Status) → Sends Usage text k k' status → status ≡ Program → ⊥
refused_not_program text k k' status (inl sent) e = usage_is_no_program (sym sent.0 ∙ e)
refused_not_program text k k' status (inr cut) e = fault_is_no_program (sym cut.0 ∙ e)
