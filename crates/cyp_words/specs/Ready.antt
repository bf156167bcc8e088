-- The words that `clap` is asked about: all others are refused whatever stands beside them.
use Rattle.std.specs.Prelude.{Bool, false, ◌&&◌, ◌==◌, ◌||◌, ◌∷◌}
use Rattle.cyp_words.specs.Options.{Text, is_number}

-- the word is `--` and at least one byte more
abbrev pub is_long : Text → Bool
is_long (a ∷ b ∷ c ∷ rest) = (a == 45) && (b == 45)
is_long w = false

-- the word can be an option or a number
abbrev pub is_ready : Text → Bool
is_ready w = is_long w || is_number w
