use Rattle.std.specs.Prelude.{ℕ}
use Rattle.cyp_term.specs.TermValue.{TermValue}

-- a block of so many cells at a base
pub record BlockValue : Type 0 where
  pub at : TermValue
  pub size : ℕ
