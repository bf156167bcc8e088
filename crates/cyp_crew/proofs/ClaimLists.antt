-- Lists of claims in order: their serials differ, and a claim is found by its serial.
use Rattle.std.proofs.Common.{◌≡◌, refl, sym, ◌∙◌, ap, ℕ, zero, suc, ◌<◌, ◌==◌, Bool, true, false, cond, List, [], ◌∷◌, Some, arith}
use Rattle.std.specs.List.{All, Contains, filter}
use Rattle.std.proofs.lemmas.Bool.{eqb-true, eqb-false, eq-eqb, ne_eqb}
use Rattle.std.proofs.lemmas.Option.{same_Some}
use Rattle.std.proofs.lemmas.List.Elements.{All-nil, All-cons, All-head, All-tail, All-weaker, All-contains}
use Rattle.cyp_crew.specs.Crews.{Outstanding}
use Rattle.cyp_crew.specs.Claims.{first_claim, cancelled_at, with_cancelled}
use Rattle.cyp_crew.specs.Orderly.{InOrder}

-- what is in a filtered list passed the test
pub filter_passed : {A : Type 0} (p : A → Bool) (P Q : A → Type 0) → ((x : A) → P x → p x ≡ true → Q x) → (xs : List A) → All P xs → All Q (filter p xs)
filter_passed p P Q f [] h = All-nil Q
filter_passed {A} p P Q f (x ∷ xs) h = by_test (p x) refl (filter_passed p P Q f xs (All-tail P x xs h))
  where
    by_test : (b : Bool) → p x ≡ b → All Q (filter p xs) → All Q (cond b (x ∷ filter p xs) (filter p xs))
    by_test true e later = All-cons Q x (filter p xs) (f x (All-head P x xs h) e) later
    by_test false e later = later

module _ {N : Type 0} where
  pub above : (low high : ℕ) (os : List (Outstanding N)) → InOrder low high os → All (λ o. low < o.serial) os
  above low high [] is = All-nil (λ (o : Outstanding N). low < o.serial)
  above low high (o ∷ os) is =
      All-cons (λ (x : Outstanding N). low < x.serial) o os is.0
      (All-weaker (λ (x : Outstanding N). o.serial < x.serial) (λ (x : Outstanding N). low < x.serial) (λ x h. omega (arith, is.0)) os (above o.serial high os is.3))

  abbrev IsOnly : ℕ → Outstanding N → Outstanding N → Type 0
  IsOnly s k x = x.serial ≡ s → x ≡ k

  -- the claim found by a serial is the only one with it
  pub only_with : (s low high : ℕ) (os : List (Outstanding N)) (k : Outstanding N) → InOrder low high os → first_claim (λ o. o.serial == s) os ≡ Some k → All (IsOnly s k) os
  only_with s low high [] k is e = All-nil (IsOnly s k)
  only_with s low high (o ∷ os) k is e = by_test (o.serial == s) refl e (only_with s o.serial high os k is.3)
    where
      by_test : (b : Bool) → (o.serial == s) ≡ b → cond b (Some o) (first_claim (λ x. x.serial == s) os) ≡ Some k → (first_claim (λ x. x.serial == s) os ≡ Some k → All (IsOnly s k) os) → All (IsOnly s k) (o ∷ os)
      by_test true t f later =
          let same : o.serial ≡ s = eqb-true o.serial s t in
          All-cons (IsOnly s k) o os (λ q. same_Some o k f) (All-weaker (λ (x : Outstanding N). o.serial < x.serial) (IsOnly s k) (λ x h q. let past : ⊥ = omega (arith, h) in absurd past) os (above o.serial high os is.3))
      by_test false t f later = All-cons (IsOnly s k) o os (λ q. absurd (eqb-false o.serial s t q)) (later f)

  -- what is found by a serial has it
  pub found_serial : (s : ℕ) (os : List (Outstanding N)) (k : Outstanding N) → first_claim (λ o. o.serial == s) os ≡ Some k → k.serial ≡ s
  found_serial s [] k e = cc
  found_serial s (o ∷ os) k e = by_test (o.serial == s) refl e (found_serial s os k)
    where
      by_test : (b : Bool) → (o.serial == s) ≡ b → cond b (Some o) (first_claim (λ x. x.serial == s) os) ≡ Some k → (first_claim (λ x. x.serial == s) os ≡ Some k → k.serial ≡ s) → k.serial ≡ s
      by_test true t f later = ap (λ (x : Outstanding N). x.serial) (sym (same_Some o k f)) ∙ eqb-true o.serial s t
      by_test false t f later = later f

  -- a claim of the list is found by its serial
  pub found_at : (low high : ℕ) (os : List (Outstanding N)) (k : Outstanding N) → InOrder low high os → Contains os k → first_claim (λ o. o.serial == k.serial) os ≡ Some k
  found_at low high [] k is (j, h, e) = let past : ⊥ = omega arith in absurd past
  found_at low high (o ∷ os) k is (zero, h, e) = (λ i. cond (test i) (Some o) (first_claim (λ x. x.serial == k.serial) os)) ∙ ap Some e
    where
      test : (o.serial == k.serial) ≡ true
      test = eq-eqb o.serial k.serial (ap (λ (x : Outstanding N). x.serial) e)
  found_at low high (o ∷ os) k is (suc j, h, e) =
      let later : o.serial < k.serial = All-contains (λ (x : Outstanding N). o.serial < x.serial) os k (above o.serial high os is.3) (j, omega arith, e) in
      let other : (o.serial == k.serial) ≡ false = ne_eqb o.serial k.serial (λ q. omega arith) in
      (λ i. cond (other i) (Some o) (first_claim (λ x. x.serial == k.serial) os)) ∙ found_at o.serial high os k is.3 (j, omega arith, e)

  unchanged : (s : ℕ) (b : Bool) (o : Outstanding N) → (o.serial == s) ≡ b → (o.serial ≡ s → ⊥) → cancelled_at s o ≡ o
  unchanged s true o e other = absurd (other (eqb-true o.serial s e))
  unchanged s false o e other = λ i. cond (e i) (record o { cancelled = true }) o

  -- a claim of another serial isn't changed by a cancellation
  pub others_stay : (s : ℕ) (os : List (Outstanding N)) (k : Outstanding N) → (k.serial ≡ s → ⊥) → Contains os k → Contains (with_cancelled s os) k
  others_stay s [] k other (j, h, e) = let past : ⊥ = omega arith in absurd past
  others_stay s (o ∷ os) k other (zero, h, e) = (0, omega arith, unchanged s (o.serial == s) o refl (λ q. other (sym (ap (λ (x : Outstanding N). x.serial) e) ∙ q)) ∙ e)
  others_stay s (o ∷ os) k other (suc j, h, e) = let later : Contains (with_cancelled s os) k = others_stay s os k other (j, omega arith, e) in (suc later.0, omega (arith, later.1), later.2)
