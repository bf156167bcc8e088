-- Where a name keeps its bytes: in itself, or apart.
use Rattle.std.specs.Prelude.{List, ℕ}
use Rattle.cyp_lex.specs.declared.name.Kept.{Kept}
use Rattle.cyp_lex.specs.declared.name.Kept.TheVariants.{Long, Short}

-- the bytes themselves
abbrev pub kept_bytes : Kept → List ℕ
kept_bytes (Short s) = s
kept_bytes (Long t) = t
