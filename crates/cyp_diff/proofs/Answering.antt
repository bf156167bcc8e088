-- The values that are read off make the literals true.
use Rattle.std.proofs.Common.{◌≡◌, ℕ, ◌+◌, ◌^◌, ◌<◌, ◌≤◌, ℤ, pos, negsuc, neg_ℤ, ◌-ℤ◌, ◌≤ℤ◌, List, [], ◌∷◌, ◌++◌, length, get_or, map, take, Option, Some, None, FitsSigned, to_z, of_z, w64, sym, ap, ap₂, ◌∙◌, subst, add-one, arith}
use Rattle.std.proofs.lemmas.Int.{ints, to_z-of_z}
use Rattle.std.specs.List.{All}
use lib.Signed.{mag}
use Rattle.cyp_term.specs.declared.lit.Lit.{Lit}
use Rattle.cyp_term.specs.declared.term.Var.{Var}
use Rattle.cyp_term.specs.Meaning.{AllTrue}
use Rattle.cyp_diff.specs.declared.solver.Value.{Value}
use Rattle.cyp_diff.specs.Solution.{IsLow, at}
use Rattle.cyp_diff.specs.Solving.{AreInts, SolveMeans, given, values_from, variables}
use Rattle.cyp_diff.specs.Systems.{SystemMeans}
use Rattle.cyp_diff.proofs.Truths.{all_true_from, all_true_to, among_variables, Among, at_places, given_is, values_more, values_vars}

pub solved_some : (ls : List Lit) (vs : List Var) (o : Option (List ℤ)) (xs : List ℤ) (bs : List Value) → AreInts ls → vs ≡ variables ls → SystemMeans vs ls o → o ≡ Some xs → bs ≡ values_from (at xs) vs 1 → SolveMeans ls (Some bs)
solved_some ls vs o xs bs ints' ev m is eb =
    let m' : SystemMeans vs ls (Some xs) = subst (λ p. SystemMeans vs ls p) is m in (
      ap (map (λ (b : Value). b.var)) eb ∙ values_vars (at xs) vs 1 ∙ ev,
      subst (λ a. AllTrue a ls) (sym (ap given eb ∙ given_is (at xs) vs)) (all_true_from vs (at xs) ls ints' m'.2),
    )

pub solved_none : (ls : List Lit) (vs : List Var) (o : Option (List ℤ)) → AreInts ls → vs ≡ variables ls → SystemMeans vs ls o → o ≡ None → SolveMeans ls None
solved_none ls vs o ints' ev m is sat =
    let m' : SystemMeans vs ls None = subst (λ p. SystemMeans vs ls p) is m in
    m' (at_places sat.0 vs) (all_true_to sat.0 vs ls ints' (λ v a. subst (λ ws. Among v ws) (sym ev) (among_variables ls v a)) sat.1)

mag_from : (z : ℤ) (n : ℕ) → (neg_ℤ (pos n)) ≤ℤ z → z ≤ℤ pos n → mag z ≤ n
mag_from (pos m) n l h = omega (arith, ints)
mag_from (negsuc m) n l h = omega (arith, ints)

fits_by : (z : ℤ) → (neg_ℤ (pos (2 ^ 41))) ≤ℤ z → z ≤ℤ pos (2 ^ 41) → FitsSigned w64 z
fits_by z l h = record { sfits = omega (arith, mag_from z (2 ^ 41) l h) }

low_fits : (z : ℤ) → IsLow z → FitsSigned w64 z
low_fits z h = let l = h.least in let m = h.most in fits_by z (omega (arith, ints)) (omega (arith, ints))

above_is : (y z : ℤ) → IsLow y → IsLow z → to_z w64 (of_z w64 (to_z w64 (of_z w64 y) -ℤ to_z w64 (of_z w64 z))) ≡ (y -ℤ z)
above_is y z h k =
    let l = h.least in let m = h.most in let l' = k.least in let m' = k.most in
    ap₂ (λ a b. to_z w64 (of_z w64 (a -ℤ b))) (to_z-of_z w64 y (low_fits y h)) (to_z-of_z w64 z (low_fits z k)) ∙ to_z-of_z w64 (y -ℤ z) (fits_by (y -ℤ z) (omega (arith, ints)) (omega (arith, ints)))

pub value_step : (vs : List Var) (xs : List ℤ) (items new : List Value) (k : ℕ) (d : Var) → length xs ≡ length vs + 1 → All IsLow xs → k < length vs → items ≡ values_from (at xs) (take k vs) 1 →
    new ≡ items ++ record { var = get_or vs k d; value = to_z w64 (of_z w64 (to_z w64 (of_z w64 (get_or xs (k + 1) (pos 0))) -ℤ to_z w64 (of_z w64 (get_or xs 0 (pos 0))))) } ∷ [] → new ≡ values_from (at xs) (take (k + 1) vs) 1
value_step vs xs items new k d len low lt e is =
    let value : to_z w64 (of_z w64 (to_z w64 (of_z w64 (at xs (k + 1))) -ℤ to_z w64 (of_z w64 (at xs 0)))) ≡ (at xs (1 + k) -ℤ at xs 0) =
    above_is (at xs (k + 1)) (at xs 0) (low (k + 1) (pos 0) (omega arith)) (low 0 (pos 0) (omega arith)) ∙ ap (λ n. at xs n -ℤ at xs 0) (omega arith) in
    is ∙ ap₂ (λ bs z. bs ++ record { var = get_or vs k d; value = z } ∷ []) e value ∙ sym (values_more (at xs) vs k 1 d lt) ∙ ap (λ n. values_from (at xs) (take n vs) 1) (sym (add-one k))
