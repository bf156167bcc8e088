-- The entries of a measure that falls, one by one.
use Rattle.std.proofs.Common.{◌≡◌, ℕ, zero, suc, ◌+◌, ◌-◌, ◌<◌, ◌≤◌, List, [], ◌∷◌, ◌++◌, length, get_or, take, drop, refl, sym, ap, ◌∙◌, arith, add-one, drop-cons, append_assoc}
use Rattle.std.proofs.lemmas.List.{get_or-map, length-map, take_all, take_more}
use Rattle.cyp_measure.specs.Decrease.{decreases, falls_at}
use Rattle.cyp_term.specs.declared.lit.Lit.{Lit}
use Rattle.cyp_term.specs.declared.lit.Lit.TheVariants.{Le, Lt}
use Rattle.cyp_term.specs.declared.term.Term.{Term}

-- the places before the one that falls
pub one_more : (made : List Lit) (k i : ℕ) (os ns : List Term) (o n : Term) (all : List Lit) → i < k → i < length os → i < length ns
    → made ++ falls_at (k - i) (drop i os) (drop i ns) ≡ all → (made ++ Le (get_or ns i n) (get_or os i o) ∷ []) ++ falls_at (k - (i + 1)) (drop (i + 1) os) (drop (i + 1) ns) ≡ all
one_more made k i os ns o n all lt lo ln e =
    let left : k - i ≡ suc (k - (i + 1)) = omega arith in
    append_assoc made (Le (get_or ns i n) (get_or os i o) ∷ []) (falls_at (k - (i + 1)) (drop (i + 1) os) (drop (i + 1) ns))
    ∙ ap (λ x. made ++ x) (λ j. Le (get_or ns i n) (get_or os i o) ∷ falls_at (k - (i + 1)) (drop (add-one i j) os) (drop (add-one i j) ns))
    ∙ ap (λ x. made ++ x) (sym (λ j. falls_at (left j) (drop-cons os i o lo j) (drop-cons ns i n ln j))) ∙ e

-- and the one that falls
pub last_one : (made : List Lit) (k : ℕ) (os ns : List Term) (o n : Term) (all : List Lit) → k < length os → k < length ns
    → made ++ falls_at (k - k) (drop k os) (drop k ns) ≡ all → made ++ Lt (get_or ns k n) (get_or os k o) ∷ [] ≡ all
last_one made k os ns o n all lo ln e =
    let none : k - k ≡ zero = omega arith in
    ap (λ x. made ++ x) (sym (λ j. falls_at (none j) (drop-cons os k o lo j) (drop-cons ns k n ln j))) ∙ e

pub length-decreases : (os ns : List Term) → length os ≡ length ns → length (decreases os ns) ≡ length os
length-decreases [] [] e = refl
length-decreases [] (n ∷ ns) e = refl
length-decreases (o ∷ os) [] e = absurd (omega (arith, e))
length-decreases (o ∷ os) (n ∷ ns) e =
    let rest : length os ≡ length ns = omega (arith, e) in
    ap suc (length-map (decreases os ns) (λ (ls : List Lit). Le n o ∷ ls) ∙ length-decreases os ns rest)

entry : (os ns : List Term) (k : ℕ) → k < length os → length os ≡ length ns → get_or (decreases os ns) k [] ≡ falls_at k os ns
entry [] ns k lt e = absurd (omega arith)
entry (o ∷ os) [] k lt e = absurd (omega (arith, e))
entry (o ∷ os) (n ∷ ns) zero lt e = refl
entry (o ∷ os) (n ∷ ns) (suc k) lt e =
    let rest : length os ≡ length ns = omega (arith, e) in
    let there : k < length os = omega (arith, lt) in
    let within : k < length (decreases os ns) = omega (arith, length-decreases os ns rest, there) in
    get_or-map (λ (ls : List Lit). Le n o ∷ ls) (decreases os ns) k [] [] within ∙ ap (λ (ls : List Lit). Le n o ∷ ls) (entry os ns k there rest)

pub entry_more : (os ns : List Term) (k : ℕ) → k < length os → length os ≡ length ns → take k (decreases os ns) ++ falls_at k os ns ∷ [] ≡ take (k + 1) (decreases os ns)
entry_more os ns k lt e =
    let within : k < length (decreases os ns) = omega (arith, length-decreases os ns e, lt) in
    ap (λ x. take k (decreases os ns) ++ x ∷ []) (sym (entry os ns k lt e)) ∙ sym (take_more (decreases os ns) k [] within)

pub all_entries : (os ns : List Term) (k : ℕ) (made : List (List Lit)) → length os ≡ length ns → length os ≤ k → made ≡ take k (decreases os ns) → made ≡ decreases os ns
all_entries os ns k made e all h = h ∙ take_all k (decreases os ns) (omega (arith, length-decreases os ns e, all))
