-- What is sent to the sink is an answer.
use Rattle.std.proofs.Common.{◌≡◌, ◌<◌, ◌≤◌, inl, inr, ℕ, List, [], length, false, Err, Option, Some, None, IfSome, refl, sym, subst, arith}
use Rattle.std.proofs.lemmas.Bool.{false≢true, lt-leb}
use Rattle.std.proofs.lemmas.List.{drop_all}
use Rattle.std.proofs.lemmas.Option.{IfSome_then}
use Rattle.std.specs.Fmt.{digits}
use Rattle.std.specs.Prelude.{codes}
use Rattle.cyp_lex.specs.declared.fault.Fault.{Fault}
use Rattle.cyp_lex.specs.declared.fault.FaultKind.TheVariants.{TooLong}
use Rattle.cyp_formed.specs.Reading.{IsReadingOf}
use Rattle.cyp_moves.specs.Moves.{is_built}
use Rattle.cyp_top.specs.Answers.{Answers, End, IsSaid, Sends, Whole, left_of}
use Rattle.cyp_top.specs.Lines.{Output, output, words_refused}
use Rattle.cyp_top.specs.Output.{IsOutputBy, is_search}
use Rattle.cyp_top.specs.Synthesis.{IsSpecOutput}
use Rattle.cyp_words.specs.Words.{Command, Gen, RunOn, Search, Synth}
use Rattle.cyp_top.specs.declared.status.Status.{Status}
use Rattle.cyp_top.specs.declared.status.Status.TheVariants.{NoMemory, NoProgram, Program, ReadFault, Refused, Spent, Usage, WriteFault}

-- a status that comes with an output is answered where the output is whole
whole_answers : (c : Option Command) (s s' k k' : End) (status : Status) → IsSaid status → Whole c s s' k k' status → Answers c s s' k k' status
whole_answers c s s' k k' Program said h = h
whole_answers c s s' k k' NoProgram said h = h
whole_answers c s s' k k' Spent said h = h
whole_answers c s s' k k' Refused said h = h
whole_answers c s s' k k' Usage said h = h
whole_answers c s s' k k' ReadFault said h = absurd said
whole_answers c s s' k k' WriteFault said h = absurd said
whole_answers c s s' k k' NoMemory said h = absurd said

-- what is sent of an output is an answer
pub sends_answer : (c : Option Command) (s s' k k' : End) (o : Output) (status : Status) → s'.faults ≡ s.faults
    → IfSome s.told (λ bytes. (s'.told ≡ Some (left_of c bytes)) × IsOutputBy c bytes o)
    → IsSaid o.status → Sends o.status o.text k k' status → Answers c s s' k k' status
sends_answer c s s' k k' o status quiet out said (inl sent) =
    whole_answers c s s' k k' status (subst IsSaid (sym sent.0) said)
    (quiet, sent.1, IfSome_then s.told out (λ bytes is. (is.0, (o, is.1, (sent.0, sent.2)))))
sends_answer c s s' k k' o status quiet out said (inr cut) =
    subst (Answers c s s' k k') (sym cut.0) (cut.1, quiet, IfSome_then s.told out (λ bytes is. (is.0, (o, is.1, cut.2))))

-- words that ask for no search are refused, and leave the source as it is
pub unheard : (c : Option Command) → is_search c ≡ false → (told : Option (List ℕ)) → IfSome told (λ bytes. (told ≡ Some (left_of c bytes)) × IsOutputBy c bytes words_refused)
unheard c e None = tt
unheard None e (Some bytes) = (refl, refl)
unheard (Some (Synth s)) e (Some bytes) = absurd (false≢true (sym e))
unheard (Some (RunOn fuel)) e (Some bytes) = (refl, refl)
unheard (Some (Gen n)) e (Some bytes) = (refl, refl)

-- what is sent of the refusal of words that ask for no search is an answer
pub refused_answers : (c : Option Command) → is_search c ≡ false → (s k k' : End) (status : Status) → Sends Usage words_refused.text k k' status → Answers c s s k k' status
refused_answers c e s k k' status sent = sends_answer c s s k k' words_refused status refl (unheard c e s.told) tt sent

-- nothing is left of a text within the limit
pub all_read : (s : Search) (bytes : List ℕ) → length bytes ≤ 65536 → left_of (Some (Synth s)) bytes ≡ []
all_read s bytes len = drop_all 65537 bytes (omega (arith, len))

-- the line of a text that is too long
abbrev pub long_refused : Output
long_refused = output (codes "refused: TooLong at 65536\n") Refused

-- a text that is too long has this fault
pub too_long : (s : Search) (told : List ℕ) → 65536 < length told → IsSpecOutput is_built s told long_refused
unfolding digits
too_long s told long =
    let f : Fault = record { kind = TooLong; place = 65536 } in
    (Err f, subst (λ b. IsReadingOf b told (Err f)) (sym (lt-leb (length told) 65536 long)) refl, refl)
