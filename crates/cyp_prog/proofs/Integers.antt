-- Integers as they are printed.
use Rattle.std.proofs.Common.{negsuc, pos, refl, ℤ, ◌≡◌}
use Rattle.std.specs.Fmt.{signed_decimal}
use Rattle.cyp_prog.specs.ProgramText.{number_text}

-- a program prints an integer as std does
pub signed_text : (z : ℤ) → signed_decimal z ≡ number_text z
signed_text (pos n) = refl
signed_text (negsuc n) = refl
