-- The bound grows with its arguments.
use Rattle.std.proofs.Common.{[], ◌+◌, List, ap, arith, length, max, refl, replicate, subst, suc, zero, ℕ, ◌∷◌, ◌≡◌, ◌≤◌}
use Rattle.cyp_kernel.specs.Bound.{bound_by_first, bound_by_places, first_number, later_numbers, times}
use Rattle.cyp_kernel.specs.Laws.{AtMostEach, BoundGrows, BoundIsAbove}

-- ---- a function applied again and again

times-above : (g : ℕ → ℕ) → ((z : ℕ) → z ≤ g z) → (k y : ℕ) → y ≤ times k g y
times-above g up zero y = omega arith
times-above g up (suc k) y = let first = up y in let later = times-above g up k (g y) in omega arith

-- the second function at a greater number gives more than the first
abbrev GrowsInto : (ℕ → ℕ) → (ℕ → ℕ) → Type 0
GrowsInto g f = (z v : ℕ) → z ≤ v → g z ≤ f v

times-grows : (g f : ℕ → ℕ) → GrowsInto g f → ((z : ℕ) → z ≤ f z) → (k l y x : ℕ) → k ≤ l → y ≤ x → times k g y ≤ times l f x
times-grows g f grow up zero l y x p q = let e = times-above f up l x in omega arith
times-grows g f grow up (suc k) zero y x p q = absurd (omega arith)
times-grows g f grow up (suc k) (suc l) y x p q = times-grows g f grow up k l (g y) (f x) (omega arith) (grow y x q)

-- ---- the bound is above the number that it begins from

-- a bound, by what the places before need, the numbers of the places that are left, and the number that it begins from
abbrev Bounding : Type 0
Bounding = (ℕ → ℕ) → List ℕ → ℕ → ℕ

first-above : (tail : Bounding) → ((above : ℕ → ℕ) (ms : List ℕ) (y : ℕ) → y ≤ tail above ms y)
    → (places a : ℕ) (above : ℕ → ℕ) (ms : List ℕ) (y : ℕ) → y ≤ bound_by_first tail places a above ms y
first-above tail up places zero above ms y = up above ms y
first-above tail up places (suc a) above ms y = up (λ z. max (above z) (bound_by_first tail places a above (replicate places z) (suc z))) ms y

places-above : (steps places : ℕ) (above : ℕ → ℕ) (m : List ℕ) (y : ℕ) → y ≤ bound_by_places steps places above m y
places-above steps zero above m y = times-above (λ z. max (z + 9) (above z)) (λ z. omega arith) steps y
places-above steps (suc places) above m y =
    first-above (bound_by_places steps places) (places-above steps places) places (first_number m) above (later_numbers m) y

pub bound_is_above : BoundIsAbove
bound_is_above steps m y = places-above steps (length m) (λ z. 0) m y

-- ---- and grows

-- the second bound, at greater arguments, is more than the first
abbrev Grows : Bounding → Bounding → Type 0
Grows w v = (above over : ℕ → ℕ) → GrowsInto above over → (ms ks : List ℕ) → AtMostEach ms ks → (y z : ℕ) → y ≤ z → w above ms y ≤ v over ks z

most-first : (ms ks : List ℕ) → AtMostEach ms ks → first_number ms ≤ first_number ks
most-first [] [] e = omega arith
most-first [] (k ∷ ks) e = absurd e
most-first (m ∷ ms) [] e = absurd e
most-first (m ∷ ms) (k ∷ ks) e = e.0

most-later : (ms ks : List ℕ) → AtMostEach ms ks → AtMostEach (later_numbers ms) (later_numbers ks)
most-later [] [] e = e
most-later [] (k ∷ ks) e = absurd e
most-later (m ∷ ms) [] e = absurd e
most-later (m ∷ ms) (k ∷ ks) e = e.1

most-replicate : (n z v : ℕ) → z ≤ v → AtMostEach (replicate n z) (replicate n v)
most-replicate zero z v l = tt
most-replicate (suc n) z v l = (l, most-replicate n z v l)

most-length : (ms ks : List ℕ) → AtMostEach ms ks → length ms ≡ length ks
most-length [] [] e = refl
most-length [] (k ∷ ks) e = absurd e
most-length (m ∷ ms) [] e = absurd e
most-length (m ∷ ms) (k ∷ ks) e = ap suc (most-length ms ks e.1)

max-more : (a b c : ℕ) → a ≤ b → a ≤ max b c
max-more a b c l = omega arith

max-both : (a b c d : ℕ) → a ≤ c → b ≤ d → max a b ≤ max c d
max-both a b c d p q = omega arith

first-grows : (w v : Bounding) → Grows w v → (places a b : ℕ) → a ≤ b → Grows (bound_by_first w places a) (bound_by_first v places b)
first-grows w v grow places zero zero l above over g ms ks e y z q = grow above over g ms ks e y z q
first-grows w v grow places zero (suc b) l above over g ms ks e y z q =
    let low : ℕ → ℕ = λ x. bound_by_first v places b over (replicate places x) (suc x) in
    grow above (λ x. max (over x) (low x)) (λ x u p. max-more (above x) (over u) (low u) (g x u p)) ms ks e y z q
first-grows w v grow places (suc a) zero l above over g ms ks e y z q = absurd (omega arith)
first-grows w v grow places (suc a) (suc b) l above over g ms ks e y z q =
    let low : ℕ → ℕ = λ x. bound_by_first w places a above (replicate places x) (suc x) in
    let high : ℕ → ℕ = λ x. bound_by_first v places b over (replicate places x) (suc x) in
    grow (λ x. max (above x) (low x)) (λ x. max (over x) (high x))
    (λ x u p. max-both (above x) (low x) (over u) (high u) (g x u p)
    (first-grows w v grow places a b (omega arith) above over g (replicate places x) (replicate places u) (most-replicate places x u p) (suc x) (suc u) (omega arith)))
    ms ks e y z q

places-grow : (steps more : ℕ) → steps ≤ more → (places : ℕ) → Grows (bound_by_places steps places) (bound_by_places more places)
places-grow steps more l zero above over g ms ks e y z q =
    times-grows (λ x. max (x + 9) (above x)) (λ x. max (x + 9) (over x)) (λ x u p. max-both (x + 9) (above x) (u + 9) (over u) (omega arith) (g x u p)) (λ x. omega arith) steps more y z l q
places-grow steps more l (suc places) above over g ms ks e y z q =
    first-grows (bound_by_places steps places) (bound_by_places more places) (places-grow steps more l places) places
    (first_number ms) (first_number ks) (most-first ms ks e) above over g (later_numbers ms) (later_numbers ks) (most-later ms ks e) y z q

pub bound_grows : BoundGrows
bound_grows steps more m k y z l e q =
    subst (λ (n : ℕ). bound_by_places steps (length m) (λ x. 0) m y ≤ bound_by_places more n (λ x. 0) k z) (most-length m k e)
    (places-grow steps more l (length m) (λ x. 0) (λ x. 0) (λ x u p. omega arith) m k e y z q)
