use Rattle.std.proofs.Common.{◌≡◌, ℕ, ◌+◌, ◌≤◌, List, [], ◌∷◌, ◌++◌, length, arith, Option, Some, None, zero, suc, refl, ap, MatchOption}
use Rattle.std.specs.Prelude.{slice_get, slice_set}
use Rattle.cyp_space.specs.declared.solved.Solved.{Solved}
use Rattle.cyp_space.specs.declared.solved.Solved.TheOpen.{Solved-F}
use Rattle.cyp_space.specs.declared.solved.Solved.TheViews.{out-Solved, roll-Solved}
use Rattle.cyp_space.specs.declared.solved.Solved.TheFolds.{fold-roll-Solved, fold_out-Solved}
use Rattle.cyp_space.specs.Counts.{solved_step, solved_count, solveds_count}

-- a tree is its root and its parts
pub count_out : {R N : Type 0} (s : Solved R N) → solved_count s ≡ 1 + solveds_count (out-Solved R N s).parts
count_out {R} {N} s = fold_out-Solved R N ℕ solved_step s

pub count_roll : {R N : Type 0} (x : Solved-F R N (Solved R N)) → solved_count (roll-Solved R N x) ≡ 1 + solveds_count x.parts
count_roll {R} {N} x = fold-roll-Solved R N ℕ solved_step x

pub count_push : {R N : Type 0} (xs : List (Solved R N)) (x : Solved R N) → solveds_count (xs ++ x ∷ []) ≡ solveds_count xs + solved_count x
count_push [] x = omega arith
count_push (y ∷ ys) x = omega (arith, count_push ys x)

-- there are no more parts than nodes in them
pub count_length : {R N : Type 0} (xs : List (Solved R N)) → length xs ≤ solveds_count xs
count_length [] = omega arith
count_length (y ∷ ys) = omega (arith, count_length ys, count_out y)

pub count_set : {R N : Type 0} (xs : List (Solved R N)) (i : ℕ) (old new : Solved R N) → slice_get xs i ≡ Some old → solveds_count (slice_set xs i new) + solved_count old ≡ solveds_count xs + solved_count new
count_set [] i old new e = let bad : ⊥ = cc in absurd bad
count_set (y ∷ ys) zero old new e = grind arith
count_set (y ∷ ys) (suc i) old new e = omega (arith, count_set ys i old new e)

pub count_at : {R N : Type 0} (xs : List (Solved R N)) (i : ℕ) (x : Solved R N) → slice_get xs i ≡ Some x → solved_count x ≤ solveds_count xs
count_at [] i x e = let bad : ⊥ = cc in absurd bad
count_at (y ∷ ys) zero x e = grind arith
count_at (y ∷ ys) (suc i) x e = omega (arith, count_at ys i x e)

pub no_parts : {R N : Type 0} (xs : List (Solved R N)) → length xs ≡ 0 → solveds_count xs ≡ 0
no_parts [] e = refl
no_parts (y ∷ ys) e = let bad : ⊥ = omega arith in absurd bad

pub empty_parts : {R N : Type 0} (xs : List (Solved R N)) → solveds_count xs ≡ 0 → xs ≡ []
empty_parts [] e = refl
empty_parts (y ∷ ys) e = let bad : ⊥ = omega (arith, count_out y) in absurd bad

pub popped : {R N : Type 0} (r : Option (Solved R N)) (old new : List (Solved R N)) (n m : ℕ) → n ≡ 1 + solveds_count old → m ≡ 1 + solveds_count new → MatchOption r ((old ≡ []) × (new ≡ [])) (λ last. old ≡ new ++ last ∷ []) → MatchOption r (m ≡ 1) (λ part. m + solved_count part ≡ n)
popped None old new n m e f h = rw h.1 at f
popped (Some x) old new n m e f h = let k : solveds_count old ≡ solveds_count (new ++ x ∷ []) = ap solveds_count h in omega (arith, count_push new x)

pub swapped : {R N : Type 0} (old new : List (Solved R N)) (i : ℕ) (x y : Solved R N) (n m : ℕ) → n ≡ 1 + solveds_count old → m ≡ 1 + solveds_count new → slice_get old i ≡ Some x → new ≡ slice_set old i y → m + solved_count x ≡ n + solved_count y
swapped old new i x y n m e f g h = let k : solveds_count new ≡ solveds_count (slice_set old i y) = ap solveds_count h in omega (arith, count_set old i x y g)
