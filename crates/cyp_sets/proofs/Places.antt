-- Places of elements in lists, and lists without repeats.
use Rattle.std.proofs.Common.{◌≡◌, ℕ, suc, ◌+◌, ◌*◌, ◌%◌, ◌^◌, ◌<◌, ◌≤◌, ◌==◌, nat_lt, Bool, true, false, cond, List, [], ◌∷◌, ◌++◌, length, get_or, Some, None, Decides, refl, sym, ap, ◌∙◌, inl, inr, lit<, one-add, length-append, arith}
use Rattle.std.proofs.Math.Nat.{one-mul}
use Rattle.std.proofs.Math.Pow.{shl_exact}
use Rattle.std.proofs.lemmas.Bool.{both_ways, cases_lt, lt-ltb, le-ltb}
use Rattle.std.proofs.lemmas.List.{get_or_read}
use Rattle.std.proofs.lemmas.List.Recursion.{is_position_or_len}
use Rattle.std.specs.List.{list_any, position_or_len}
use Rattle.std.specs.Option.{unwrap_or}
use Rattle.cyp_term.specs.declared.term.Term.{Term}
use Rattle.cyp_term.specs.Regions.{class_by, term_in}
use Rattle.cyp_term.specs.Terms.{term_eq, with_all_new, with_new, without_repeats}
use Rattle.cyp_term.proofs.Lists.{Among, Decides-some}
use Rattle.cyp_term.proofs.Equality.{Decides-term_eq}
use Rattle.cyp_sets.specs.Names.{IsFew, Named, class_in, place}

-- the place of the first that equals, by recursion
abbrev pub first_place : {X : Type 0} → (X → X → Bool) → List X → X → ℕ
first_place eq [] x = 0
first_place eq (y ∷ ys) x = cond (eq y x) 0 (suc (first_place eq ys x))

place_from : (p n : ℕ) → p ≤ n → unwrap_or (cond (nat_lt p n) (Some p) None) n ≡ p
place_from p n h =
    elim (cases_lt p n) [
      | inl l ↦ ap (λ t. unwrap_or (cond t (Some p) None) n) (lt-ltb p n l)
      | inr g ↦ ap (λ t. unwrap_or (cond t (Some p) None) n) (le-ltb p n g) ∙ omega arith
    ]

module _ {X : Type 0} (eq : X → X → Bool) where
  suc_cond : (t : Bool) (n : ℕ) → cond t 0 (suc n) ≡ cond t 0 (1 + n)
  suc_cond t n = ap (cond t 0) (sym (one-add n))

  le_by : (t : Bool) (m n : ℕ) → m ≤ n → cond t 0 (suc m) ≤ suc n
  le_by true m n h = omega arith
  le_by false m n h = omega arith

  first_place-le : (xs : List X) (x : X) → first_place eq xs x ≤ length xs
  first_place-le [] x = omega arith
  first_place-le (y ∷ ys) x = le_by (eq y x) (first_place eq ys x) (length ys) (first_place-le ys x)

  pub place-first : (xs : List X) (x : X) → place eq xs x ≡ first_place eq xs x
  place-first xs x =
      let same : first_place eq xs x ≡ position_or_len (λ y. eq y x) xs =
      is_position_or_len (λ ys. first_place eq ys x) (λ y. eq y x) refl (λ y ys. suc_cond (eq y x) (first_place eq ys x)) xs in
      place_from (position_or_len (λ y. eq y x) xs) (length xs) (omega (arith, first_place-le xs x)) ∙ sym same

  pub place-le : (xs : List X) (x : X) → place eq xs x ≤ length xs
  place-le xs x = omega (arith, place-first xs x, first_place-le xs x)

module _ {X : Type 0} (eq : X → X → Bool) (decides : (x y : X) → Decides (eq x y) (x ≡ y)) where
  at_by : (y : X) (ys : List X) (x d : X) (m : ℕ) (t : Bool) → eq y x ≡ t → (Among x ys → (m < length ys) × (get_or ys m d ≡ x)) → Among x (y ∷ ys) → (cond t 0 (suc m) < suc (length ys)) × (get_or (y ∷ ys) (cond t 0 (suc m)) d ≡ x)
  at_by y ys x d m true e ih k = (omega arith, (decides y x).0 e)
  at_by y ys x d m false e ih (inl p) = absurd (both_ways (eq y x) e ((decides y x).1 (sym p)))
  at_by y ys x d m false e ih (inr i) = let r = ih i in (omega (arith, r.0), r.1)

  first_place-at : (xs : List X) (x d : X) → Among x xs → (first_place eq xs x < length xs) × (get_or xs (first_place eq xs x) d ≡ x)
  first_place-at [] x d h = absurd h
  first_place-at (y ∷ ys) x d h = at_by y ys x d (first_place eq ys x) (eq y x) refl (first_place-at ys x d) h

  -- an element stands at its place
  pub place-at : (xs : List X) (x d : X) → Among x xs → (place eq xs x < length xs) × (get_or xs (place eq xs x) d ≡ x)
  place-at xs x d h =
      let r = first_place-at xs x d h in
      let e = place-first eq xs x in
      (omega (arith, r.0, e), ap (λ k. get_or xs k d) e ∙ r.1)

-- the class of a term stands at its place
class_by_step : (b : Bool) (k c : ℕ) (ks : List ℕ) (m : ℕ) → c ≡ get_or ks m 0 → cond b k c ≡ get_or (k ∷ ks) (cond b 0 (suc m)) 0
class_by_step true k c ks m e = refl
class_by_step false k c ks m e = e

class_by-first : (ts : List Term) (ks : List ℕ) (t : Term) → length ks ≡ length ts → class_by ts ks t ≡ get_or ks (first_place term_eq ts t) 0
class_by-first [] [] t e = refl
class_by-first [] (k ∷ ks) t e = absurd (omega arith)
class_by-first (s ∷ ss) [] t e = absurd (omega arith)
class_by-first (s ∷ ss) (k ∷ ks) t e = class_by_step (term_eq s t) k (class_by ss ks t) ks (first_place term_eq ss t) (class_by-first ss ks t (omega arith))

pub class_by-place : (ts : List Term) (ks : List ℕ) (t : Term) → length ks ≡ length ts → class_by ts ks t ≡ get_or ks (place term_eq ts t) 0
class_by-place ts ks t e = class_by-first ts ks t e ∙ ap (λ n. get_or ks n 0) (sym (place-first term_eq ts t))

-- ---- lists without repeats

module _ {X : Type 0} (eq : X → X → Bool) where
  length-with_new : (xs : List X) (y : X) → length (with_new eq xs y) ≤ length xs + 1
  length-with_new xs y = by (list_any (eq y) xs)
    where
      by : (t : Bool) → length (cond t xs (xs ++ y ∷ [])) ≤ length xs + 1
      by true = omega arith
      by false = omega (arith, length-append xs (y ∷ []))

  length-with_all_new : (xs ys : List X) → length (with_all_new eq xs ys) ≤ length xs + length ys
  length-with_all_new xs [] = omega arith
  length-with_all_new xs (y ∷ ys) = omega (arith, length-with_all_new (with_new eq xs y) ys, length-with_new xs y)

  pub length-without_repeats : (xs : List X) → length (without_repeats eq xs) ≤ length xs
  length-without_repeats xs = omega (arith, length-with_all_new [] xs)

-- ---- names

pub term_index : (n : Named) → IsFew n → (e : Term) → term_in e n.terms ≡ true → place term_eq n.terms e < length n.classes
term_index n few e h =
    let among : Among e n.terms = (Decides-some (λ t. e ≡ t) (term_eq e) (Decides-term_eq e) n.terms).0 h in
    omega (arith, (place-at term_eq Decides-term_eq n.terms e e among).0, few.class_each)

pub kind_place : (n : Named) → IsFew n → (k : ℕ) → place ◌==◌ n.kinds k ≤ 6
kind_place n few k =
    omega (arith, place-le ◌==◌ n.kinds k, ap length few.kinds_once, length-without_repeats ◌==◌ n.classes, few.class_each, few.few_terms)

-- ---- what the code reads of names

pub read_class : (n : Named) → IsFew n → (e : Term) (ts : List Term) (ks : List ℕ) (p k : ℕ) → term_in e n.terms ≡ true → ts ≡ n.terms → ks ≡ n.classes → p ≡ place term_eq ts e → k ≡ get_or ks p k → k ≡ class_in n e
read_class n few e ts ks p k h et ek ep is =
    let at : p ≡ place term_eq n.terms e = ep ∙ ap (λ us. place term_eq us e) et in
    get_or_read n.classes p k (omega (arith, term_index n few e h)) (is ∙ ap (λ us. get_or us p k) ek) 0 ∙ ap (λ i. get_or n.classes i 0) at ∙ sym (class_by-place n.terms n.classes e few.class_each)

pub read_bit : (n : Named) → IsFew n → (k : ℕ) (ks : List ℕ) (p : ℕ) → ks ≡ n.kinds → p ≡ place ◌==◌ ks k → (p < 8) × (1 * 2 ^ p % 256 ≡ 2 ^ place ◌==◌ n.kinds k)
read_bit n few k ks p ek ep =
    let at : p ≡ place ◌==◌ n.kinds k = ep ∙ ap (λ us. place ◌==◌ us k) ek in
    let small : p ≤ 6 = omega (arith, kind_place n few k) in
    (omega (arith, small), shl_exact 1 p 8 (lit< tt) (omega (arith, small)) ∙ one-mul (2 ^ p) ∙ ap (λ i. 2 ^ i) at)
