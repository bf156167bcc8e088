use Rattle.std.specs.Prelude.{◌≡◌, ℕ, ◌+◌, ◌<◌, ◌≤◌, List, [], length, take, drop, Option, Some, IfSome}
use Rattle.std.specs.Io.KnownBytes.{Appends}
use Rattle.cyp_io.specs.Outside.{Rose}
use Rattle.cyp_io.specs.declared.all.Reading.{Reading}
use Rattle.cyp_io.specs.declared.all.Reading.TheVariants.{Whole, Long, Failed}
use Rattle.cyp_io.specs.declared.all.Writing.{Writing}
use Rattle.cyp_io.specs.declared.all.Writing.TheVariants.{Written, Failed as Cut}

-- where the bytes are told: at most so many of them were read
abbrev pub ReadsFront : Option (List ℕ) → Option (List ℕ) → ℕ → Type 0
ReadsFront old new most = IfSome old (λ told. (n : ℕ) × (n ≤ most) × (n ≤ length told) × (new ≡ Some (drop n told)))

-- where the bytes are told: whole are all of them, of which there are no more than the limit, and none is left;
-- long are more than the limit, of which one more than the limit was read
abbrev pub ReadsAll : Option (List ℕ) → Option (List ℕ) → ℕ → Reading → Type 0
ReadsAll old new limit (Whole bytes) = (length bytes ≤ limit) × IfSome old (λ told. (told ≡ bytes) × (new ≡ Some []))
ReadsAll old new limit Long = IfSome old (λ told. (limit < length told) × (new ≡ Some (drop (limit + 1) told)))
ReadsAll old new limit Failed = ReadsFront old new limit

-- only a failed read raises the count
abbrev pub ReadingCounts : ℕ → ℕ → Reading → Type 0
ReadingCounts before now (Whole bytes) = now ≡ before
ReadingCounts before now Long = now ≡ before
ReadingCounts before now Failed = Rose before now

-- all of the text was taken, or the front of it and not all
abbrev pub WritesAll : Option (List ℕ) → Option (List ℕ) → List ℕ → Writing → Type 0
WritesAll old new text Written = Appends old new text
WritesAll old new text Cut = (n : ℕ) × (n < length text) × Appends old new (take n text)

-- only a failed write raises the count
abbrev pub WritingCounts : ℕ → ℕ → Writing → Type 0
WritingCounts before now Written = now ≡ before
WritingCounts before now Cut = Rose before now
