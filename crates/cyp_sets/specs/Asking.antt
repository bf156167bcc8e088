-- What may be asked.
use Rattle.std.specs.Prelude.{◌≡◌, false, List}
use Rattle.std.specs.List.{All}
use Rattle.cyp_term.specs.declared.lit.Lit.{Lit}
use Rattle.cyp_term.specs.Integers.{is_int_lit}

-- each literal compares sets, or an integer with a set
abbrev pub AreSets : List Lit → Type 0
AreSets ls = All (λ l. is_int_lit l ≡ false) ls
