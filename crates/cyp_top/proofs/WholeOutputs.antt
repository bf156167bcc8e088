-- Words and bytes have one output, and the number of workers is no part of it.
use Rattle.std.proofs.Common.{Bool, Err, List, None, Ok, Option, Result, Some, ap, false, length, refl, subst, sym, true, ℕ, ◌∙◌, ◌≡◌}
use Rattle.std.specs.Prelude.{nat_le}
use Rattle.cyp_lex.specs.declared.fault.Fault.{Fault}
use Rattle.cyp_machine.proofs.ClosedPrograms.{input_is_closed}
use Rattle.cyp_machine.proofs.Inputs.{one_input_reading, some_input_reading}
use Rattle.cyp_machine.specs.RunInput.{IsInputReading, RunInput}
use Rattle.cyp_prog.specs.declared.fault.ProgFault.{ProgFault}
use Rattle.cyp_text.proofs.Decided.{one_tree, parsed}
use Rattle.cyp_spec.proofs.Exists.{some_reading}
use Rattle.cyp_spec.proofs.Unique.{one_reading}
use Rattle.cyp_moves.specs.Moves.{is_any}
use Rattle.cyp_names.specs.Specifications.{Specification}
use Rattle.cyp_top.proofs.RunOutputs.{one_run_output, some_run_output}
use Rattle.cyp_top.specs.Chain.{gen_output}
use Rattle.cyp_top.specs.Lines.{Output, words_refused}
use Rattle.cyp_top.specs.RunOutput.{IsResultOutput, IsRunOutputOf, kind_name}
use Rattle.cyp_top.specs.Reports.{refused_at}
use Rattle.cyp_top.specs.Synthesis.{IsSpecOutput, result_output}
use Rattle.cyp_top.specs.WholeOutput.{IsCommandOutput, OneWholeOutput, SomeWholeOutput}
use Rattle.cyp_top.specs.Workers.{WorkersChangeNothing, with_workers}
use Rattle.cyp_words.specs.Words.{Command, Gen, RunOn, Search, Synth, command_of}

-- ---- specifications

one_spec_output : (s : Search) (bytes : List ℕ) (a b : Output) → IsSpecOutput is_any s bytes a → IsSpecOutput is_any s bytes b → a ≡ b
one_spec_output s bytes a b x y = x.2 ∙ ap (result_output is_any s) (one_reading one_tree bytes x.0 y.0 x.1 y.1) ∙ sym y.2

some_spec_output : (s : Search) (bytes : List ℕ) → (o : Output) × IsSpecOutput is_any s bytes o
some_spec_output s bytes = let r = some_reading parsed bytes in (result_output is_any s r.0, (r.0, r.1, refl))

-- ---- runs

one_result_output : (fuel : ℕ) (r : Result RunInput ProgFault) (a b : Output) → IsResultOutput fuel r a → IsResultOutput fuel r b → a ≡ b
one_result_output fuel (Ok i) a b x y = one_run_output i fuel a b x y
one_result_output fuel (Err f) a b x y = x ∙ sym y

one_output_of : (short : Bool) (fuel : ℕ) (bytes : List ℕ) (a b : Output) → IsRunOutputOf short fuel bytes a → IsRunOutputOf short fuel bytes b → a ≡ b
one_output_of false fuel bytes a b x y = x ∙ sym y
one_output_of true fuel bytes a b x y =
    let same : x.0 ≡ y.0 = one_input_reading bytes x.0 y.0 x.1 y.1 in
    one_result_output fuel y.0 a b (subst (λ (r : Result RunInput ProgFault). IsResultOutput fuel r a) same x.2) y.2

some_result_output : (fuel : ℕ) (bytes : List ℕ) (r : Result RunInput ProgFault) → IsInputReading bytes r → (o : Output) × IsResultOutput fuel r o
some_result_output fuel bytes (Ok i) h = some_run_output i (input_is_closed bytes i h) fuel
some_result_output fuel bytes (Err f) h = (refused_at (kind_name f.kind) f.place, refl)

some_output_of : (short : Bool) (fuel : ℕ) (bytes : List ℕ) → (o : Output) × IsRunOutputOf short fuel bytes o
some_output_of false fuel bytes = (_, refl)
some_output_of true fuel bytes =
    let r = some_input_reading bytes in
    let o = some_result_output fuel bytes r.0 r.1 in
    (o.0, (r.0, r.1, o.1))

-- ---- commands

one_command_output : (c : Option Command) (bytes : List ℕ) (a b : Output) → IsCommandOutput c bytes a → IsCommandOutput c bytes b → a ≡ b
one_command_output None bytes a b x y = x ∙ sym y
one_command_output (Some (Synth s)) bytes a b x y = one_spec_output s bytes a b x y
one_command_output (Some (RunOn fuel)) bytes a b x y = one_output_of (nat_le (length bytes) 65536) fuel bytes a b x y
one_command_output (Some (Gen n)) bytes a b x y = x ∙ sym y

some_command_output : (c : Option Command) (bytes : List ℕ) → (o : Output) × IsCommandOutput c bytes o
some_command_output None bytes = (words_refused, refl)
some_command_output (Some (Synth s)) bytes = some_spec_output s bytes
some_command_output (Some (RunOn fuel)) bytes = some_output_of (nat_le (length bytes) 65536) fuel bytes
some_command_output (Some (Gen n)) bytes = (gen_output n, refl)

pub one_whole_output : OneWholeOutput
one_whole_output words bytes a b x y = one_command_output (command_of words) bytes a b x y

pub some_whole_output : SomeWholeOutput
some_whole_output words bytes = some_command_output (command_of words) bytes

-- ---- workers

same_result : (s : Search) (n : ℕ) (r : Result Specification Fault) → result_output is_any s r ≡ result_output is_any (with_workers n s) r
same_result s n (Ok t) = refl
same_result s n (Err f) = refl

pub workers_change_nothing : WorkersChangeNothing
workers_change_nothing v w s n p q bytes o x =
    let said : IsSpecOutput is_any s bytes o = subst (λ (c : Option Command). IsCommandOutput c bytes o) p x in
    subst (λ (c : Option Command). IsCommandOutput c bytes o) (sym q) (said.0, said.1, said.2 ∙ same_result s n said.0)
