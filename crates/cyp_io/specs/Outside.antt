use Rattle.std.specs.Prelude.{◌≡◌, ℕ, ◌+◌, ◌-◌, ◌^◌, ◌<◌, ◌≤◌, min, List, length, take, Option}
use Rattle.std.specs.Io.KnownBytes.{Keeps, Appends, Consumes, IsAtEnd}
use Rattle.cyp_io.specs.declared.outside.Got.{Got}
use Rattle.cyp_io.specs.declared.outside.Got.TheVariants.{Bytes, End, Failed}
use Rattle.cyp_io.specs.declared.outside.Wrote.{Wrote}
use Rattle.cyp_io.specs.declared.outside.Wrote.TheVariants.{Took, Failed as NoneTook}

-- one more, where a count stays once it is at the last value of 64 bits
abbrev pub raised : ℕ → ℕ
raised n = min (n + 1) (2 ^ 64 - 1)

-- the count rose, or stands at its end
abbrev pub Rose : ℕ → ℕ → Type 0
Rose before now = (before ≤ now) × (raised before ≤ now)

-- a read gives the next bytes, at least one; it says that there is an end only where no byte is left,
-- and takes none there and at a fault
abbrev pub Gives : Option (List ℕ) → Option (List ℕ) → List ℕ → Got → Type 0
Gives old new buf (Bytes n) = (0 < n) × (n ≤ length buf) × Consumes old new (take n buf)
Gives old new buf End = IsAtEnd old × Keeps old new
Gives old new buf Failed = Keeps old new

-- a failed read raises the count, and no other answer moves it
abbrev pub ReadCounts : ℕ → ℕ → Got → Type 0
ReadCounts before now (Bytes n) = now ≡ before
ReadCounts before now End = now ≡ before
ReadCounts before now Failed = Rose before now

-- a write takes the front of the piece, at least one byte, and nothing at a fault
abbrev pub Takes : Option (List ℕ) → Option (List ℕ) → List ℕ → Wrote → Type 0
Takes old new piece (Took n) = (0 < n) × (n ≤ length piece) × Appends old new (take n piece)
Takes old new piece NoneTook = Keeps old new

-- a failed write raises the count, and no other answer moves it
abbrev pub WriteCounts : ℕ → ℕ → Wrote → Type 0
WriteCounts before now (Took n) = now ≡ before
WriteCounts before now NoneTook = Rose before now
