-- Worked rows of names.
use Rattle.std.proofs.Common.{◌≡◌, true, false, refl}
use Rattle.std.specs.Prelude.{codes}
use Rattle.cyp_kernel.specs.Compile.{main_name}
use Rattle.cyp_prog.specs.Lexemes.{is_variable_name}

least_variable : is_variable_name (codes "v1") ≡ true
least_variable = refl

greatest_variable : is_variable_name (codes "v65535") ≡ true
greatest_variable = refl

past_the_greatest : is_variable_name (codes "v65536") ≡ false
past_the_greatest = refl

leading_zero : is_variable_name (codes "v01") ≡ false
leading_zero = refl

no_number : is_variable_name (codes "v") ≡ false
no_number = refl

other_letter : is_variable_name (codes "w1") ≡ false
other_letter = refl

longer_name : main_name (codes "v12") ≡ codes "v12_0"
longer_name = refl

kept_name : main_name (codes "swap") ≡ codes "swap"
kept_name = refl
