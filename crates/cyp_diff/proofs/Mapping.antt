-- A list changed place by place.
use Rattle.std.proofs.Common.{◌≡◌, ℕ, zero, suc, ◌<◌, ◌≤◌, List, [], ◌∷◌, ◌++◌, length, take, drop, get_or, map, refl, ap, arith}
use Rattle.std.proofs.Math.ListN.{set}

-- the places below i are changed
abbrev pub mapped_to : {X : Type 0} → (X → X) → ℕ → List X → List X
mapped_to f i xs = map f (take i xs) ++ drop i xs

pub set-mapped : {X : Type 0} (f : X → X) (i : ℕ) (xs : List X) (d : X) → i < length xs → set (mapped_to f i xs) i (f (get_or xs i d)) ≡ mapped_to f (suc i) xs
set-mapped f i [] d h = absurd (omega arith)
set-mapped f zero (x ∷ xs) d h = refl
set-mapped f (suc i) (x ∷ xs) d h = ap (λ zs. f x ∷ zs) (set-mapped f i xs d (omega arith))

pub get_or-mapped : {X : Type 0} (f : X → X) (i : ℕ) (xs : List X) (d : X) → get_or (mapped_to f i xs) i d ≡ get_or xs i d
get_or-mapped f zero xs d = refl
get_or-mapped f (suc i) [] d = refl
get_or-mapped f (suc i) (x ∷ xs) d = get_or-mapped f i xs d

pub mapped_to-all : {X : Type 0} (f : X → X) (n : ℕ) (xs : List X) → n ≡ length xs → mapped_to f n xs ≡ map f xs
mapped_to-all f zero [] e = refl
mapped_to-all f (suc n) (x ∷ xs) e = ap (λ zs. f x ∷ zs) (mapped_to-all f n xs (omega arith))
mapped_to-all f zero (x ∷ xs) e = absurd (omega arith)
mapped_to-all f (suc n) [] e = absurd (omega arith)

pub get_or-map_default : {X Y : Type 0} (f : X → Y) (xs : List X) (i : ℕ) (d : X) (e : Y) → e ≡ f d → get_or (map f xs) i e ≡ f (get_or xs i d)
get_or-map_default f [] i d e h = h
get_or-map_default f (x ∷ xs) zero d e h = refl
get_or-map_default f (x ∷ xs) (suc i) d e h = get_or-map_default f xs i d e h

pub get_or-past : {X : Type 0} (xs : List X) (i : ℕ) (d : X) → length xs ≤ i → get_or xs i d ≡ d
get_or-past [] i d h = refl
get_or-past (x ∷ xs) zero d h = absurd (omega arith)
get_or-past (x ∷ xs) (suc i) d h = get_or-past xs i d (omega arith)

-- within a list the default says nothing
pub get_or-any : {X : Type 0} (xs : List X) (i : ℕ) (d e : X) → i < length xs → get_or xs i d ≡ get_or xs i e
get_or-any [] i d e h = absurd (omega arith)
get_or-any (x ∷ xs) zero d e h = refl
get_or-any (x ∷ xs) (suc i) d e h = get_or-any xs i d e (omega arith)
