-- Tokens that lie in order.
use Rattle.std.proofs.Common.{ℕ, ◌≤◌, ◌<◌, List, [], ◌∷◌, ◌++◌, arith}
use Rattle.std.specs.List.{All}
use Rattle.std.proofs.lemmas.List.Elements.{All-cons, All-nil}
use Rattle.cyp_lex.specs.declared.token.Token.{Token}
use Rattle.cyp_lex.specs.Lexing.{LieInOrder}

-- within more bytes
pub LieInOrder-le : (from : ℕ) (ts : List Token) (m n : ℕ) → m ≤ n → LieInOrder from ts m → LieInOrder from ts n
LieInOrder-le from [] m n h o = tt
LieInOrder-le from (t ∷ ts) m n h o = (o.0, o.1, omega (arith, o.2), LieInOrder-le t.end ts m n h o.3)

-- with one more behind them
pub LieInOrder-snoc : (from : ℕ) (ts : List Token) (t : Token) (n : ℕ) → from ≤ n → n ≤ t.start → t.start < t.end → LieInOrder from ts n → LieInOrder from (ts ++ t ∷ []) t.end
LieInOrder-snoc from [] t n f s e o = (omega arith, e, omega arith, tt)
LieInOrder-snoc from (u ∷ us) t n f s e o = (o.0, o.1, omega (arith, o.2), LieInOrder-snoc u.end us t n o.2 s e o.3)

-- each is within the bytes
pub LieInOrder-within : (from : ℕ) (ts : List Token) (n : ℕ) → LieInOrder from ts n → All (λ t. (t.start ≤ t.end) × (t.end ≤ n)) ts
LieInOrder-within from [] n o = All-nil (λ (t : Token). (t.start ≤ t.end) × (t.end ≤ n))
LieInOrder-within from (t ∷ ts) n o =
    All-cons (λ (u : Token). (u.start ≤ u.end) × (u.end ≤ n)) t ts (omega (arith, o.1), o.2) (LieInOrder-within t.end ts n o.3)
