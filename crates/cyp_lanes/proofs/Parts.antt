-- Two lists joined place by place, a part at a time.
use Rattle.std.proofs.Common.{◌≡◌, ℕ, zero, suc, ◌+◌, ◌≤◌, ◌<◌, List, [], ◌∷◌, ◌++◌, length, take, drop, get_or, refl, ap, zero-add, suc-add, arith}
use Rattle.std.proofs.Math.ListN.{set}
use lib.Lanes.{zip2, put_chunk, chunk}

-- the places below i are joined
abbrev pub joined_to : {X Y : Type 0} → (X → Y → X) → ℕ → List X → List Y → List X
joined_to f i xs ys = zip2 f (take i xs) (take i ys) ++ drop i xs

-- one place more
pub set-joined : {X Y : Type 0} (f : X → Y → X) (i : ℕ) (xs : List X) (ys : List Y) (d : X) (e : Y) → length ys ≡ length xs → i < length xs → set (joined_to f i xs ys) i (f (get_or xs i d) (get_or ys i e)) ≡ joined_to f (suc i) xs ys
set-joined f zero (x ∷ xs) (y ∷ ys) d e same h = refl
set-joined f (suc i) (x ∷ xs) (y ∷ ys) d e same h = ap (λ zs. f x y ∷ zs) (set-joined f i xs ys d e (omega arith) (omega arith))
set-joined f i [] ys d e same h = absurd (omega arith)
set-joined f i (x ∷ xs) [] d e same h = absurd (omega arith)

-- n places more
put_front : {X Y : Type 0} (f : X → Y → X) (n : ℕ) (xs : List X) (ys : List Y) → length ys ≡ length xs → n ≤ length xs → put_chunk 0 xs (zip2 f (take n xs) (take n ys)) ≡ joined_to f n xs ys
put_front f zero [] [] same h = refl
put_front f zero (x ∷ xs) (y ∷ ys) same h = refl
put_front f (suc n) (x ∷ xs) (y ∷ ys) same h = ap (λ zs. f x y ∷ zs) (put_front f n xs ys (omega arith) (omega arith))
put_front f n [] (y ∷ ys) same h = absurd (omega arith)
put_front f n (x ∷ xs) [] same h = absurd (omega arith)
put_front f (suc n) [] [] same h = absurd (omega arith)

pub put-joined : {X Y : Type 0} (f : X → Y → X) (i n : ℕ) (xs : List X) (ys : List Y) → length ys ≡ length xs → i + n ≤ length xs → put_chunk i (joined_to f i xs ys) (zip2 f (chunk i n xs) (chunk i n ys)) ≡ joined_to f (i + n) xs ys
put-joined f zero n xs ys same h = rw zero-add (put_front f n xs ys same (omega arith))
put-joined f (suc i) n (x ∷ xs) (y ∷ ys) same h = rw suc-add (ap (λ zs. f x y ∷ zs) (put-joined f i n xs ys (omega arith) (omega arith)))
put-joined f (suc i) n [] ys same h = absurd (omega arith)
put-joined f (suc i) n (x ∷ xs) [] same h = absurd (omega arith)

-- all places
pub joined_to-all : {X Y : Type 0} (f : X → Y → X) (n : ℕ) (xs : List X) (ys : List Y) → n ≡ length xs → length ys ≡ length xs → joined_to f n xs ys ≡ zip2 f xs ys
joined_to-all f zero [] [] e same = refl
joined_to-all f (suc n) (x ∷ xs) (y ∷ ys) e same = ap (λ zs. f x y ∷ zs) (joined_to-all f n xs ys (omega arith) (omega arith))
joined_to-all f zero (x ∷ xs) ys e same = absurd (omega arith)
joined_to-all f (suc n) [] ys e same = absurd (omega arith)
joined_to-all f zero [] (y ∷ ys) e same = absurd (omega arith)
joined_to-all f (suc n) (x ∷ xs) [] e same = absurd (omega arith)

pub length-joined : {X Y : Type 0} (f : X → Y → X) (i : ℕ) (xs : List X) (ys : List Y) → length ys ≡ length xs → length (joined_to f i xs ys) ≡ length xs
length-joined f zero xs ys same = refl
length-joined f (suc i) (x ∷ xs) (y ∷ ys) same = ap suc (length-joined f i xs ys (omega arith))
length-joined f (suc i) [] ys same = refl
length-joined f (suc i) (x ∷ xs) [] same = absurd (omega arith)

-- from i on the first list is as it was
pub drop-joined : {X Y : Type 0} (f : X → Y → X) (i : ℕ) (xs : List X) (ys : List Y) → length ys ≡ length xs → drop i (joined_to f i xs ys) ≡ drop i xs
drop-joined f zero xs ys same = refl
drop-joined f (suc i) (x ∷ xs) (y ∷ ys) same = drop-joined f i xs ys (omega arith)
drop-joined f (suc i) [] ys same = refl
drop-joined f (suc i) (x ∷ xs) [] same = absurd (omega arith)

pub get_or-joined : {X Y : Type 0} (f : X → Y → X) (i : ℕ) (xs : List X) (ys : List Y) (d : X) → length ys ≡ length xs → get_or (joined_to f i xs ys) i d ≡ get_or xs i d
get_or-joined f zero xs ys d same = refl
get_or-joined f (suc i) (x ∷ xs) (y ∷ ys) d same = get_or-joined f i xs ys d (omega arith)
get_or-joined f (suc i) [] ys d same = refl
get_or-joined f (suc i) (x ∷ xs) [] d same = absurd (omega arith)

-- the rest joined as well
pub rest-joined : {X Y : Type 0} (f : X → Y → X) (i : ℕ) (xs : List X) (ys : List Y) → length ys ≡ length xs → take i (joined_to f i xs ys) ++ zip2 f (drop i xs) (drop i ys) ≡ zip2 f xs ys
rest-joined f zero xs ys same = refl
rest-joined f (suc i) (x ∷ xs) (y ∷ ys) same = ap (λ zs. f x y ∷ zs) (rest-joined f i xs ys (omega arith))
rest-joined f (suc i) [] ys same = refl
rest-joined f (suc i) (x ∷ xs) [] same = absurd (omega arith)
