-- Numbers that are read digit by digit.
use Rattle.std.specs.Prelude.{◌&&◌, ◌*◌, ◌+◌, ◌-◌, Bool, List, None, Option, Some, cond, nat_le, ℕ}
use Rattle.std.specs.List.{list_all}
use Rattle.cyp_lex.specs.Lexing.{decimal_value, is_digit}

-- all are digits, and with this number before them they are a number of at most 65,535
abbrev pub is_short_from : ℕ → List ℕ → Bool
is_short_from n cs = list_all is_digit cs && nat_le (decimal_value n cs) 65535

-- the number with a digit behind it, if it is at most 65,535
abbrev pub with_digit : ℕ → ℕ → Option ℕ
with_digit n c = cond (is_digit c && nat_le (10 * n + (c - 48)) 65535) (Some (10 * n + (c - 48))) None
