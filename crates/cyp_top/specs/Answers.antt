-- What a call of the program leaves: each status with its cause.
use Rattle.std.specs.Prelude.{◌≡◌, ◌⊎◌, ◌<◌, ℕ, List, drop, length, take, Option, Some, IfSome}
use Rattle.std.specs.Io.KnownBytes.{Appends}
use Rattle.cyp_io.specs.Outside.{Rose}
use Rattle.cyp_io.specs.Whole.{ReadsFront}
use Rattle.cyp_top.specs.declared.status.Status.{Status}
use Rattle.cyp_top.specs.declared.status.Status.TheVariants.{ReadFault, WriteFault, NoMemory}
use Rattle.cyp_top.specs.Lines.{Output}
use Rattle.cyp_top.specs.Output.{IsOutputBy}
use Rattle.cyp_words.specs.Words.{Command, Synth}

-- an end of the outside: the bytes that it tells, and its count of faults
pub record End : Type 0 where
  pub told : Option (List ℕ)
  pub faults : ℕ

-- what is left of the source's bytes: where the words ask for a search nothing, or what stands behind one byte past the limit, else all
abbrev pub left_of : Option Command → List ℕ → List ℕ
left_of (Some (Synth s)) bytes = drop 65537 bytes
left_of _ bytes = bytes

-- the source's bytes were read as far as the words ask, and this is the output for them
abbrev pub IsHeard : Option Command → (source source' : End) → (Output → Type 0) → Type 0
IsHeard c s s' P = IfSome s.told (λ bytes. (s'.told ≡ Some (left_of c bytes)) × ((o : Output) × IsOutputBy c bytes o × P o))

-- no fault came, and where the source tells its bytes, the status and the bytes written are the output
abbrev pub Whole : Option Command → (source source' sink sink' : End) → Status → Type 0
Whole c s s' k k' status =
    (s'.faults ≡ s.faults) × (k'.faults ≡ k.faults) × IsHeard c s s' (λ o. (status ≡ o.status) × Appends k.told k'.told o.text)

-- the source failed in this call, behind a front of its bytes, and nothing was written
abbrev pub ReadFailed : (source source' sink sink' : End) → Type 0
ReadFailed s s' k k' = Rose s.faults s'.faults × ReadsFront s.told s'.told 65536 × (k' ≡ k)

-- the sink failed in this call, behind a front of the output that isn't all of it
abbrev pub WriteFailed : Option Command → (source source' sink sink' : End) → Type 0
WriteFailed c s s' k k' =
    Rose k.faults k'.faults × (s'.faults ≡ s.faults)
    × IsHeard c s s' (λ o. (n : ℕ) × (n < length o.text) × Appends k.told k'.told (take n o.text))

-- memory ran out: no fault came, a front of the source's bytes was read, and nothing was written
abbrev pub OutOfMemory : (source source' sink sink' : End) → Type 0
OutOfMemory s s' k k' = (s'.faults ≡ s.faults) × ReadsFront s.told s'.told 65537 × (k' ≡ k)

-- each status comes only with its cause, where the words are this command
abbrev pub Answers : Option Command → (source source' sink sink' : End) → Status → Type 0
Answers c s s' k k' ReadFault = ReadFailed s s' k k'
Answers c s s' k k' WriteFault = WriteFailed c s s' k k'
Answers c s s' k k' NoMemory = OutOfMemory s s' k k'
Answers c s s' k k' status = Whole c s s' k k' status

-- a status that comes with an output
abbrev pub IsSaid : Status → Type 0
IsSaid ReadFault = ⊥
IsSaid WriteFault = ⊥
IsSaid NoMemory = ⊥
IsSaid status = Unit {0}

-- all was written and the status is the one asked for, or the write failed behind the front of the text
abbrev pub Sends : Status → List ℕ → (sink sink' : End) → Status → Type 0
Sends asked text k k' status =
    ((status ≡ asked) × (k'.faults ≡ k.faults) × Appends k.told k'.told text)
    ⊎ ((status ≡ WriteFault) × Rose k.faults k'.faults × ((n : ℕ) × (n < length text) × Appends k.told k'.told (take n text)))
