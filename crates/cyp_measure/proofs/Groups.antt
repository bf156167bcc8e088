-- The groups of tuples, and the zeros behind them.
use Rattle.std.proofs.Common.{◌≡◌, ℕ, zero, suc, ◌+◌, ◌-◌, ◌*◌, ◌<◌, ◌≤◌, All, List, [], ◌∷◌, ◌++◌, flat_map, length, replicate, take, drop, Result, Ok, Err, OnOk, refl, sym, ap, ◌∙◌, arith, append_assoc, append-nil, length-append}
use Rattle.std.proofs.lemmas.List.Elements.{All-head, All-tail}
use Rattle.std.proofs.lemmas.List.{drop_all, length-replicate, replicate-append-replicate, take-replicate, take_at}
use Rattle.cyp_measure.specs.Levels.{group, groups, levels, pad}

-- the first numbers of a list with zeros behind it
padded : (n m : ℕ) (xs : List ℕ) → length xs ≤ n → n ≤ m → take n (xs ++ replicate m 0) ≡ xs ++ replicate (n - length xs) 0
padded n m [] lt le = let all : n ≡ n - 0 = omega arith in take-replicate n m 0 le ∙ ap (λ k. replicate k 0) all
padded zero m (x ∷ xs) lt le = absurd (omega (arith, lt))
padded (suc n) m (x ∷ xs) lt le =
    let rest : length xs ≤ n = omega (arith, lt) in
    let less : n ≤ m = omega (arith, le) in
    let same : n - length xs ≡ suc n - suc (length xs) = omega arith in
    ap (λ ys. x ∷ ys) (padded n m xs rest less ∙ ap (λ k. xs ++ replicate k 0) same)

pub group_short : (xs : List ℕ) → length xs ≤ 16 → (0 ∷ xs) ++ replicate (16 - length xs) 0 ≡ group xs
group_short xs le =
    let within : length (0 ∷ xs) ≤ 17 = omega (arith, le) in
    let same : 16 - length xs ≡ 17 - length (0 ∷ xs) = omega arith in
    ap (λ k. (0 ∷ xs) ++ replicate k 0) same ∙ sym (padded 17 17 (0 ∷ xs) within (omega arith))

-- the tuple behind its mark, and the zeros
pub group_added : {A E : Type 0} (r : Result A E) (old now new t : List ℕ) (k : ℕ) → now ++ drop k t ≡ (old ++ 0 ∷ []) ++ t → length t ≤ k → length t ≤ 16
    → OnOk r (new ≡ now ++ replicate (16 - length t) 0) → OnOk r (new ≡ old ++ group t)
group_added (Ok x) old now new t k h all le e =
    let whole : now ≡ old ++ 0 ∷ t = sym (append-nil now) ∙ ap (λ r. now ++ r) (sym (drop_all k t all)) ∙ h ∙ append_assoc old (0 ∷ []) t in
    e ∙ ap (λ ns. ns ++ replicate (16 - length t) 0) whole ∙ append_assoc old (0 ∷ t) (replicate (16 - length t) 0) ∙ ap (λ ns. old ++ ns) (group_short t le)
group_added (Err x) old now new t k h all le e = tt

pub length-group : (xs : List ℕ) → length xs ≤ 16 → length (group xs) ≡ 17
length-group xs le =
    sym (ap length (group_short xs le)) ∙ length-append (0 ∷ xs) (replicate (16 - length xs) 0) ∙ ap (λ k. length (0 ∷ xs) + k) (length-replicate (16 - length xs) 0) ∙ omega (arith, le)

length-groups : (ts : List (List ℕ)) → All (λ t. length t ≤ 16) ts → length (flat_map group ts) ≡ 17 * length ts
length-groups [] h = refl
length-groups (t ∷ ts) h =
    length-append (group t) (flat_map group ts)
    ∙ (λ j. length-group t (All-head (λ x. length x ≤ 16) t ts h) j + length-groups ts (All-tail (λ x. length x ≤ 16) t ts h) j) ∙ omega arith

groups-flat : (ts : List (List ℕ)) → groups ts ≡ flat_map group ts ++ pad 17 (1 ∷ [])
groups-flat [] = refl
groups-flat (t ∷ ts) = ap (λ ns. group t ++ ns) (groups-flat ts) ∙ sym (append_assoc (group t) (flat_map group ts) (pad 17 (1 ∷ [])))

-- fewer tuples than groups: the mark 1, and zeros
pub levels_fewer : (ts : List (List ℕ)) → All (λ t. length t ≤ 16) ts → length ts < 4 → (flat_map group ts ++ 1 ∷ []) ++ replicate (17 * (4 - length ts) - 1) 0 ≡ levels ts
levels_fewer ts h lt =
    let long : length (flat_map group ts ++ 1 ∷ []) ≡ 17 * length ts + 1 = length-append (flat_map group ts) (1 ∷ []) ∙ ap (λ k. k + 1) (length-groups ts h) in
    let within : length (flat_map group ts ++ 1 ∷ []) ≤ 68 = omega (arith, long, lt) in
    let zeros : 17 * (4 - length ts) - 1 ≡ 68 - length (flat_map group ts ++ 1 ∷ []) = omega (arith, long, lt) in
    let behind : (flat_map group ts ++ 1 ∷ []) ++ replicate (16 + 68) 0 ≡ groups ts ++ replicate 68 0
    = ap (λ r. (flat_map group ts ++ 1 ∷ []) ++ r) (sym (replicate-append-replicate 16 68 0))
    ∙ sym (append_assoc (flat_map group ts ++ 1 ∷ []) (replicate 16 0) (replicate 68 0))
    ∙ ap (λ r. r ++ replicate 68 0) (append_assoc (flat_map group ts) (1 ∷ []) (replicate 16 0) ∙ sym (groups-flat ts)) in
    ap (λ k. (flat_map group ts ++ 1 ∷ []) ++ replicate k 0) zeros ∙ sym (padded 68 (16 + 68) (flat_map group ts ++ 1 ∷ []) within (omega arith)) ∙ ap (take 68) behind

-- as many tuples as groups
pub levels_full : (ts : List (List ℕ)) → All (λ t. length t ≤ 16) ts → length ts ≡ 4 → flat_map group ts ≡ levels ts
levels_full ts h e =
    let long : length (flat_map group ts) ≡ 68 = length-groups ts h ∙ ap (λ k. 17 * k) e in
    sym (ap (take 68) (ap (λ r. r ++ replicate 68 0) (groups-flat ts) ∙ append_assoc (flat_map group ts) (pad 17 (1 ∷ [])) (replicate 68 0)) ∙ take_at (flat_map group ts) (pad 17 (1 ∷ []) ++ replicate 68 0) 68 long)
