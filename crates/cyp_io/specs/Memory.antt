use Rattle.std.specs.Prelude.{◌≡◌, ℕ, ◌-◌, ◌<◌, min, List, [], ◌++◌, length, take, drop, ◌⊎◌}
use Rattle.std.specs.List.{Contains}
use Rattle.cyp_io.specs.Outside.{raised}
use Rattle.cyp_io.specs.declared.outside.Got.{Got}
use Rattle.cyp_io.specs.declared.outside.Got.TheVariants.{Bytes, End, Failed}
use Rattle.cyp_io.specs.declared.outside.Wrote.{Wrote}
use Rattle.cyp_io.specs.declared.outside.Wrote.TheVariants.{Took, Failed as NoneTook}

-- a source in memory: the bytes left, how many it gives at one call, the numbers of the calls that fail,
-- the number of the next call, and how many calls failed
pub record BytesLeft : Type 0 where
  pub bytes : List ℕ
  pub step : ℕ
  pub failing : List ℕ
  pub calls : ℕ
  pub faults : ℕ

-- a sink in memory: the bytes taken, how many it can take in all, how many it takes at one call, and the calls as above
pub record BytesTaken : Type 0 where
  pub bytes : List ℕ
  pub room : ℕ
  pub step : ℕ
  pub failing : List ℕ
  pub calls : ℕ
  pub faults : ℕ

-- A read fails exactly at the calls that are named. Every other read gives as many bytes as the step, the buffer
-- and the bytes left allow, and the end where none is left. The rest of the buffer stays.
-- The number of a call stays at the last value of 64 bits, which no name of a failing call reaches.
abbrev pub ReadsMemory : BytesLeft → BytesLeft → List ℕ → List ℕ → Got → Type 0
ReadsMemory old new buf buf' (Bytes n) =
    (¬ Contains old.failing old.calls) × (n ≡ min (length old.bytes) (min old.step (length buf)))
    × (new ≡ record old { bytes = drop n old.bytes; calls = raised old.calls })
    × (buf' ≡ take n old.bytes ++ drop n buf)
ReadsMemory old new buf buf' End =
    (¬ Contains old.failing old.calls) × (old.bytes ≡ []) × (new ≡ record old { calls = raised old.calls }) × (buf' ≡ buf)
ReadsMemory old new buf buf' Failed =
    Contains old.failing old.calls × (new ≡ record old { calls = raised old.calls; faults = raised old.faults }) × (buf' ≡ buf)

-- A write fails exactly at the calls that are named and where the room is full. Every other write takes as many bytes
-- as the step, the piece and the room left allow.
abbrev pub WritesMemory : BytesTaken → BytesTaken → List ℕ → Wrote → Type 0
WritesMemory old new piece (Took n) =
    (¬ Contains old.failing old.calls) × (length old.bytes < old.room)
    × (n ≡ min (old.room - length old.bytes) (min old.step (length piece)))
    × (new ≡ record old { bytes = old.bytes ++ take n piece; calls = raised old.calls })
WritesMemory old new piece NoneTook =
    (Contains old.failing old.calls ⊎ (length old.bytes ≡ old.room))
    × (new ≡ record old { calls = raised old.calls; faults = raised old.faults })
