use Rattle.std.proofs.Common.{ℕ, ◌+◌, ◌≤◌, length, List, ◌++◌, take, ap, Option, None, Some, arith, length-append}
use Rattle.std.proofs.lemmas.Grind.{common_steps}
use Rattle.std.proofs.lemmas.List.{length-take-le}
use Rattle.std.specs.Io.KnownBytes.{Consumes, Keeps}
use Rattle.cyp_io.specs.Whole.{ReadsFront}

-- what was read is the front of the bytes
pub front_of_read : (old new : Option (List ℕ)) (read : List ℕ) (most : ℕ) → length read ≤ most → Consumes old new read → ReadsFront old new most
front_of_read None new read most fits c = tt
front_of_read (Some told) None read most fits c = absurd c
front_of_read (Some told) (Some rest) read most fits c =
    (length read, fits, omega (arith, ap length c, length-append read rest), grind (arith, common_steps))

-- a failed read takes nothing more
pub read_and_kept : (old mid new : Option (List ℕ)) (read : List ℕ) → Consumes old mid read → Keeps mid new → Consumes old new read
read_and_kept None mid new read c k = tt
read_and_kept (Some told) None new read c k = absurd c
read_and_kept (Some told) (Some rest) None read c k = absurd k
read_and_kept (Some told) (Some rest) (Some rest') read c k = grind arith

-- one piece after another
pub reads_more : (old mid new : Option (List ℕ)) (read more : List ℕ) → Consumes old mid read → Consumes mid new more → Consumes old new (read ++ more)
reads_more None mid new read more c d = tt
reads_more (Some told) None new read more c d = absurd c
reads_more (Some told) (Some rest) None read more c d = absurd d
reads_more (Some told) (Some rest) (Some rest') read more c d = grind (arith, common_steps)

pub front_of_more : (old mid new : Option (List ℕ)) (read buf : List ℕ) (n most : ℕ) → n ≤ length buf → length read + n ≤ most → Consumes old mid read → Consumes mid new (take n buf) → ReadsFront old new most
front_of_more old mid new read buf n most within fits c d =
    front_of_read _ _ (read ++ take n buf) most
    (omega (arith, length-append read (take n buf), length-take-le n buf within))
    (reads_more old mid new read (take n buf) c d)
