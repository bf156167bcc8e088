-- Terms are added until they are too many.
use Rattle.std.proofs.Common.{◌≡◌, ◌∙◌, ◌⊎◌, [], ◌∷◌, ◌++◌, ◌<◌, ◌≤◌, ◌+◌, ℕ, List, false, drop, get_or, length, length-append, nat_le, refl, ap, sym, arith, leb-true, le_refl, le_trans, ⊎_elim}
use Rattle.std.specs.List.{flat_map, list_any}
use Rattle.std.proofs.lemmas.Bool.{both_ways, cases_Bool, cond-false, cond-true, cond_both, le-leb}
use Rattle.cyp_goal.proofs.Loops.{rest_step}
use Rattle.cyp_goal.specs.Counting.{with_all_few, with_few}
use Rattle.cyp_term.specs.Terms.{lit_elements, term_eq, with_all_new, with_new}
use Rattle.cyp_term.specs.declared.lit.Lit.{Lit}
use Rattle.cyp_term.specs.declared.lit.Lit.TheVariants.{NotSame, NotSub, Same, Sub}
use Rattle.cyp_term.specs.declared.lit.SetTerm.{SetTerm}
use Rattle.cyp_term.specs.declared.term.Term.{Term}

-- ---- parts

pub few_append : (old xs ys : List Term) → with_all_few old (xs ++ ys) ≡ with_all_few (with_all_few old xs) ys
few_append old [] ys = refl
few_append old (x ∷ xs) ys = few_append (with_few old x) xs ys

-- two parts
pub few_two : (old mid new xs ys : List Term) → mid ≡ with_all_few old xs → new ≡ with_all_few mid ys → new ≡ with_all_few old (xs ++ ys)
few_two old mid new xs ys e f = f ∙ ap (λ ts. with_all_few ts ys) e ∙ sym (few_append old xs ys)

-- one more item
pub few_item : {X : Type 0} (f : X → List Term) (xs : List X) (i : ℕ) (x : X) (old new r : List Term) → with_all_few old (flat_map f (drop i xs)) ≡ r → i < length xs → x ≡ get_or xs i x
    → new ≡ with_all_few old (f x) → with_all_few new (flat_map f (drop (i + 1) xs)) ≡ r
few_item f xs i x old new r h lt is e =
    rest_step (λ (s : List Term) ys. with_all_few s (flat_map f ys)) xs i r old new x h lt is
    (λ ys. few_append old (f x) (flat_map f ys) ∙ ap (λ ts. with_all_few ts (flat_map f ys)) (sym e))

-- one more term
pub few_term : (xs : List Term) (i : ℕ) (x : Term) (old new r : List Term) → with_all_few old (drop i xs) ≡ r → i < length xs → x ≡ get_or xs i x → new ≡ with_few old x
    → with_all_few new (drop (i + 1) xs) ≡ r
few_term xs i x old new r h lt is e = rest_step with_all_few xs i r old new x h lt is (λ ys. ap (λ ts. with_all_few ts ys) (sym e))

-- ---- as many as without the limit, where they are few

with_new_least : (xs : List Term) (x : Term) → length xs ≤ length (with_new term_eq xs x)
with_new_least xs x =
    cond_both (list_any (term_eq x) xs) xs (xs ++ x ∷ []) (λ ys. length xs ≤ length ys) (λ e. le_refl (length xs))
    (λ e. let more : length (xs ++ x ∷ []) ≡ length xs + 1 = length-append xs (x ∷ []) in omega arith)

with_all_new_least : (xs ys : List Term) → length xs ≤ length (with_all_new term_eq xs ys)
with_all_new_least xs [] = le_refl (length xs)
with_all_new_least xs (y ∷ ys) = le_trans (with_new_least xs y) (with_all_new_least (with_new term_eq xs y) ys)

many_stay : (xs ys : List Term) → nat_le (length xs) 6 ≡ false → with_all_few xs ys ≡ xs
many_stay xs [] h = refl
many_stay xs (y ∷ ys) h = ap (λ ts. with_all_few ts ys) (cond-false (nat_le (length xs) 6) (with_new term_eq xs y) xs h) ∙ many_stay xs ys h

still_many : (m n : ℕ) → m ≤ n → nat_le m 6 ≡ false → nat_le n 6 ≡ false
still_many m n le h =
    ⊎_elim (λ e. absurd (both_ways (nat_le m 6) h (le-leb m 6 (le_trans le (leb-true n 6 e))))) (λ e. e) (cases_Bool (nat_le n 6))

pub few_same : (xs ys : List Term) → nat_le (length (with_all_few xs ys)) 6 ≡ nat_le (length (with_all_new term_eq xs ys)) 6
few_same xs [] = refl
few_same xs (y ∷ ys) =
    ⊎_elim
    (λ e. ap (λ ts. nat_le (length (with_all_few ts ys)) 6) (cond-true (nat_le (length xs) 6) (with_new term_eq xs y) xs e) ∙ few_same (with_new term_eq xs y) ys)
    (λ e. ap (λ ts. nat_le (length ts) 6) (many_stay xs (y ∷ ys) e) ∙ e ∙ sym (still_many (length xs) (length (with_all_new term_eq xs (y ∷ ys))) (with_all_new_least xs (y ∷ ys)) e))
    (cases_Bool (nat_le (length xs) 6))

-- ---- literals of two sets
pub two_elements : (l : Lit) (a b : SetTerm) → (l ≡ Same a b) ⊎ (l ≡ NotSame a b) ⊎ (l ≡ Sub a b) ⊎ (l ≡ NotSub a b) → lit_elements l ≡ a.elems ++ b.elems
two_elements l a b = ⊎_elim (λ e. ap lit_elements e) (⊎_elim (λ e. ap lit_elements e) (⊎_elim (λ e. ap lit_elements e) (λ e. ap lit_elements e)))
