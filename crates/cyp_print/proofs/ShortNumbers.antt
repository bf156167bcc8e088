-- Numbers that are read digit by digit.
use Rattle.std.proofs.Common.{◌≡◌, ◌∙◌, ◌+◌, ◌-◌, ◌*◌, ◌<◌, ◌≤◌, ◌&&◌, ℕ, List, ◌∷◌, Bool, Some, None, true, false, cond, nat_le, refl, ap, arith}
use Rattle.std.specs.List.{list_all}
use Rattle.std.proofs.lemmas.Bool.{leb-false, leb-true, lt-leb}
use Rattle.std.proofs.lemmas.Option.{same_Some, none-some}
use Rattle.cyp_lex.proofs.Laws.{decimal_grows}
use Rattle.cyp_lex.specs.Lexing.{decimal_value, is_digit}
use Rattle.cyp_print.specs.ShortNumbers.{is_short_from, with_digit}

and_false : (b : Bool) → (b && false) ≡ false
and_false true = refl
and_false false = refl

-- a long number stays long
long_number : (n : ℕ) (cs : List ℕ) → nat_le n 65535 ≡ false → is_short_from n cs ≡ false
long_number n cs e =
    let more : 65535 < n = leb-false n 65535 e in
    let far : 65535 < decimal_value n cs = omega (arith, decimal_grows n cs) in
    ap (λ b. list_all is_digit cs && b) (lt-leb (decimal_value n cs) 65535 far) ∙ and_false (list_all is_digit cs)

-- one digit more
taken_by : (digit short : Bool) (n n' : ℕ) (cs : List ℕ) → nat_le n 65535 ≡ short → cond (digit && short) (Some n) None ≡ Some n' → (digit && list_all is_digit cs && nat_le (decimal_value n cs) 65535) ≡ is_short_from n' cs
taken_by true true n n' cs s e = ap (λ k. is_short_from k cs) (same_Some n n' e)
taken_by true false n n' cs s e = absurd (none-some n' e)
taken_by false short n n' cs s e = absurd (none-some n' e)

pub digit_taken : (n c n' : ℕ) (cs : List ℕ) → with_digit n c ≡ Some n' → is_short_from n (c ∷ cs) ≡ is_short_from n' cs
digit_taken n c n' cs e = taken_by (is_digit c) (nat_le (10 * n + (c - 48)) 65535) (10 * n + (c - 48)) n' cs refl e

refused_by : (digit short : Bool) (n : ℕ) (cs : List ℕ) → nat_le n 65535 ≡ short → cond (digit && short) (Some n) None ≡ None → (digit && list_all is_digit cs && nat_le (decimal_value n cs) 65535) ≡ false
refused_by true true n cs s e = let bad : ⊥ = cc in absurd bad
refused_by true false n cs s e = long_number n cs s
refused_by false short n cs s e = refl

pub digit_refused : (n c : ℕ) (cs : List ℕ) → with_digit n c ≡ None → is_short_from n (c ∷ cs) ≡ false
digit_refused n c cs e = refused_by (is_digit c) (nat_le (10 * n + (c - 48)) 65535) (10 * n + (c - 48)) cs refl e

short_by : (digit short : Bool) (n n' : ℕ) → nat_le n 65535 ≡ short → cond (digit && short) (Some n) None ≡ Some n' → n' ≤ 65535
short_by true true n n' s e = let same : n ≡ n' = same_Some n n' e in let small : n ≤ 65535 = leb-true n 65535 s in omega arith
short_by true false n n' s e = absurd (none-some n' e)
short_by false short n n' s e = absurd (none-some n' e)

-- and the number stays short
pub digit_short : (n c n' : ℕ) → with_digit n c ≡ Some n' → n' ≤ 65535
digit_short n c n' e = short_by (is_digit c) (nat_le (10 * n + (c - 48)) 65535) (10 * n + (c - 48)) n' refl e
