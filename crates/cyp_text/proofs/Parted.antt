-- Ways to part a list of lexemes.
use Rattle.std.proofs.Common.{List, [], ap, refl, ◌++◌, ◌∷◌, ◌≡◌, ◌⊎◌, inl, inr}
use Rattle.cyp_lex.specs.Lexemes.{Lexeme}

-- both ways part it at one place, or one of them parts a front of the other
pub data Parted (b c : List Lexeme) (l m : Lexeme) : Type 0 where
  same : b ≡ c → l ≡ m → Parted b c l m
  longer : (more : List Lexeme) → c ≡ b ++ l ∷ more → Parted b c l m
  shorter : (more : List Lexeme) → b ≡ c ++ m ∷ more → Parted b c l m

put_front : (k n : Lexeme) (b c : List Lexeme) (l m : Lexeme) → k ≡ n → Parted b c l m → Parted (k ∷ b) (n ∷ c) l m
put_front k n b c l m e (same p q) = same (cc (e, p)) q
put_front k n b c l m e (longer more p) = longer more (cc (e, p))
put_front k n b c l m e (shorter more p) = shorter more (cc (e, p))

pub parted : (b c : List Lexeme) (l m : Lexeme) (x y : List Lexeme) → b ++ l ∷ x ≡ c ++ m ∷ y → Parted b c l m
parted [] [] l m x y e = same refl cc
parted [] (n ∷ c) l m x y e = longer c cc
parted (k ∷ b) [] l m x y e = shorter b cc
parted (k ∷ b) (n ∷ c) l m x y e =
    let heads : k ≡ n = cc in
    let rests : b ++ l ∷ x ≡ c ++ m ∷ y = cc in
    put_front k n b c l m heads (parted b c l m x y rests)

-- ---- the last lexeme

pub no_end : (c : List Lexeme) (l : Lexeme) → [] ≡ c ++ l ∷ [] → ⊥
no_end [] l e = cc
no_end (n ∷ c) l e = cc

-- a list has one last lexeme
pub one_last : (b c : List Lexeme) (l m : Lexeme) → b ++ l ∷ [] ≡ c ++ m ∷ [] → (b ≡ c) × (l ≡ m)
one_last [] [] l m e = (refl, cc)
one_last [] (n ∷ c) l m e = absurd (no_end c m cc)
one_last (k ∷ b) [] l m e = absurd (no_end b l cc)
one_last (k ∷ b) (n ∷ c) l m e =
    let heads : k ≡ n = cc in
    let rests : b ++ l ∷ [] ≡ c ++ m ∷ [] = cc in
    let more = one_last b c l m rests in
    (cc (heads, more.0), more.1)

-- an empty list, or a front and a last lexeme
abbrev pub LastSplit : List Lexeme → Type 0
LastSplit ls = (ls ≡ []) ⊎ ((front : List Lexeme) × (l : Lexeme) × (ls ≡ front ++ l ∷ []))

pub last_split : (ls : List Lexeme) → LastSplit ls
last_split [] = inl refl
last_split (l ∷ ls) = inr (behind (last_split ls))
  where
    behind : LastSplit ls → (front : List Lexeme) × (k : Lexeme) × (l ∷ ls ≡ front ++ k ∷ [])
    behind (inl e) = ([], l, ap (λ (xs : List Lexeme). l ∷ xs) e)
    behind (inr s) = (l ∷ s.0, s.1, ap (λ (xs : List Lexeme). l ∷ xs) s.2)
