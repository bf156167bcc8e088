-- The output of a text: it is one, and what the code says is it.
use Rattle.std.proofs.Common.{Err, IfOk, List, None, Ok, Option, Result, Some, ap, refl, subst, sym, ℕ, ◌∙◌, ◌≡◌}
use Rattle.std.proofs.lemmas.Result.{IfOk-weaker}
use Rattle.cyp_lex.specs.declared.fault.Fault.{Fault}
use Rattle.cyp_spec.specs.ReadSpecs.{IsReadSpec}
use Rattle.cyp_term.specs.declared.fail.Fail.{Fail}
use Rattle.cyp_term.specs.declared.fail.Fail.TheVariants.{Named}
use Rattle.cyp_term.specs.declared.fail.NoMemory.{NoMemory}
use Rattle.cyp_text.proofs.Decided.{one_tree}
use Rattle.cyp_spec.proofs.Unique.{one_reading}
use Rattle.cyp_moves.specs.Moves.{is_built}
use Rattle.cyp_names.specs.Specifications.{Specification}
use Rattle.cyp_top.specs.Given.{plain_answer}
use Rattle.cyp_top.specs.Lines.{Output, output}
use Rattle.cyp_top.specs.Output.{IsOutputBy}
use Rattle.cyp_top.specs.Reports.{fault_name, refused_at}
use Rattle.cyp_top.specs.Synthesis.{IsSpecOutput, result_output}
use Rattle.cyp_top.specs.declared.answer.Answer.{Answer}
use Rattle.cyp_top.specs.declared.status.Status.TheVariants.{Refused}
use Rattle.cyp_words.specs.Words.{Command, Gen, RunOn, Search, Synth}

-- there is one output at most
pub one_output : (c : Option Command) (bytes : List ℕ) (a b : Output) → IsOutputBy c bytes a → IsOutputBy c bytes b → a ≡ b
one_output None bytes a b h k = h ∙ sym k
one_output (Some (Synth s)) bytes a b h k = h.2 ∙ ap (result_output is_built s) (one_reading one_tree bytes h.0 k.0 h.1 k.1) ∙ sym k.2
one_output (Some (RunOn fuel)) bytes a b h k = h ∙ sym k
one_output (Some (Gen n)) bytes a b h k = h ∙ sym k

-- ---- texts

-- what is said of the specification that is read is the output
pub is_read : (o : Search) (bytes : List ℕ) (r : Result Specification (Fail Fault)) (s : Specification) (said : Result Answer NoMemory) → IsReadSpec bytes r → r ≡ Ok s
    → IfOk said (λ a. plain_answer a ≡ result_output is_built o (Ok s)) → IfOk said (λ a. IsSpecOutput is_built o bytes (plain_answer a))
is_read o bytes r s said read e h =
    IfOk-weaker said (λ a. plain_answer a ≡ result_output is_built o (Ok s)) (λ a. IsSpecOutput is_built o bytes (plain_answer a))
    (λ a is. (Ok s, subst (IsReadSpec bytes) e read, is)) h

-- the line of the text's fault is the output
pub is_refused : (o : Search) (bytes : List ℕ) (r : Result Specification (Fail Fault)) (f : Fault) (text : List ℕ) → IsReadSpec bytes r → r ≡ Err (Named f)
    → text ≡ (refused_at (fault_name f.kind) f.place).text → IsSpecOutput is_built o bytes (output text Refused)
is_refused o bytes r f text read e h = (Err f, subst (IsReadSpec bytes) e read, ap (λ t. output t Refused) h)
