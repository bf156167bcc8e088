-- Some base is free, and so there is a least one.
use Rattle.std.proofs.Common.{[], ◌&&◌, ◌+◌, ◌+ℤ◌, ◌<ℤ◌, Bool, List, None, Some, ap, arith, cond, false, int_cmp, int_eq, is_none, max, nat_abs, negsuc, pos, refl, replicate, suc, sym, true, zero, ℕ, ℤ, ◌∙◌, ◌∷◌, ◌≡◌, ◌≤◌, ◌≤ℤ◌}
use Rattle.std.proofs.lemmas.Bool.{and_from, and_parts, false≢true}
use Rattle.std.proofs.lemmas.Bool.Decides.{Decides-int_eq}
use Rattle.std.proofs.lemmas.Int.{ints}
use Rattle.std.specs.FinMap.{FinMap, entries, find, get, get-entries}
use Rattle.std.specs.List.{list_all}
use Rattle.cyp_heap.specs.Stores.{Store}
use Rattle.cyp_machine.proofs.Options.{none_of}
use Rattle.cyp_machine.specs.Steps.{IsFree, addresses, has_none}

-- ---- no key is above all sizes of keys

abbrev greatest_key : {X : Type 0} → List (ℤ × X) → ℕ
greatest_key [] = 0
greatest_key (e ∷ es) = max (nat_abs e.0) (greatest_key es)

above_size : (z : ℤ) (b : ℕ) → nat_abs z ≤ b → pos b <ℤ z → ⊥
above_size (pos n) b s l = omega (arith, ints)
above_size (negsuc n) b s l = omega (arith, ints)

not_equal : (t : Bool) (z k : ℤ) (b : ℕ) → int_eq z k ≡ t → nat_abs k ≤ b → pos b <ℤ z → t ≡ false
not_equal true z k b e s l = let same : z ≡ k = (Decides-int_eq z k).0 e in absurd (above_size k b s (rw same at l))
not_equal false z k b e s l = refl

module _ {X : Type 0} where
  find_none : (es : List (ℤ × X)) (b : ℕ) (z : ℤ) → greatest_key es ≤ b → pos b <ℤ z → find int_cmp z es ≡ None
  find_none [] b z s l = refl
  find_none (e ∷ es) b z s l =
      ap (λ t. cond t (Some e.1) (find int_cmp z es)) (not_equal (int_eq z e.0) z e.0 b refl (omega arith) l) ∙ find_none es b z (omega arith) l

  get_none : (m : FinMap int_cmp X) (b : ℕ) (z : ℤ) → greatest_key (entries m) ≤ b → pos b <ℤ z → get m z ≡ None
  get_none m b z s l = get-entries m z ∙ find_none (entries m) b z s l

no_cells : (m : FinMap int_cmp ℤ) (b n : ℕ) (z : ℤ) → greatest_key (entries m) ≤ b → pos b <ℤ z → has_none m (addresses z n) ≡ true
no_cells m b zero z s l = refl
no_cells m b (suc n) z s l =
    and_from (is_none (get m z)) (has_none m (addresses (z +ℤ pos 1) n)) (ap is_none (get_none m b z s l)) (no_cells m b n (z +ℤ pos 1) s (omega (arith, ints)))

-- ---- the test of a positive base

abbrev is_free : Store → ℕ → ℕ → Bool
is_free h n j = has_none h.cells (addresses (pos (suc j)) n) && is_none (get h.blocks (pos (suc j)))

free_of : (h : Store) (n j : ℕ) → is_free h n j ≡ true → IsFree h (pos (suc j)) n
free_of h n j e =
    let parts = and_parts (has_none h.cells (addresses (pos (suc j)) n)) (is_none (get h.blocks (pos (suc j)))) e in
    (omega (arith, ints), parts.0, none_of (get h.blocks (pos (suc j))) parts.1)

is_free_of : (h : Store) (n j : ℕ) → IsFree h (pos (suc j)) n → is_free h n j ≡ true
is_free_of h n j f = and_from (has_none h.cells (addresses (pos (suc j)) n)) (is_none (get h.blocks (pos (suc j)))) f.1 (ap is_none f.2)

-- ---- the least number that passes a test

-- the number passes the test, and none below it does
abbrev IsLeast : (ℕ → Bool) → ℕ → Type 0
IsLeast p j = (p j ≡ true) × ((i : ℕ) → p i ≡ true → j ≤ i)

not_first : (p : ℕ → Bool) (j i : ℕ) → p 0 ≡ false → IsLeast (λ a. p (suc a)) j → p i ≡ true → suc j ≤ i
not_first p j zero none l q = absurd (false≢true (sym none ∙ q))
not_first p j (suc i) none l q = let e : j ≤ i = l.1 i q in omega arith

first_or_later : (p : ℕ → Bool) (t : Bool) → p 0 ≡ t → (j : ℕ) × IsLeast (λ a. p (suc a)) j → (j : ℕ) × IsLeast p j
first_or_later p true first l = (0, (first, λ i q. omega arith))
first_or_later p false none l = (suc l.0, (l.1.0, λ i q. not_first p l.0 i none l.1 q))

least : (p : ℕ → Bool) (k : ℕ) → p k ≡ true → (j : ℕ) × IsLeast p j
least p zero e = (0, (e, λ i q. omega arith))
least p (suc k) e = first_or_later p (p 0) refl (least (λ a. p (suc a)) k e)

-- ---- the least free base

some_free : (h : Store) (n : ℕ) → (j : ℕ) × (is_free h n j ≡ true)
some_free h n =
    let cells : ℕ = greatest_key (entries h.cells) in
    let blocks : ℕ = greatest_key (entries h.blocks) in
    let j : ℕ = cells + blocks in (
      j,
      and_from (has_none h.cells (addresses (pos (suc j)) n)) (is_none (get h.blocks (pos (suc j))))
          (no_cells h.cells j n (pos (suc j)) (omega arith) (omega (arith, ints)))
          (ap is_none (get_none h.blocks j (pos (suc j)) (omega arith) (omega (arith, ints)))),
    )

below_free : (h : Store) (n j : ℕ) (z : ℤ) → IsLeast (is_free h n) j → IsFree h z n → pos (suc j) ≤ℤ z
below_free h n j (pos zero) l f = let p : pos 0 <ℤ pos 0 = f.0 in absurd (omega (arith, ints))
below_free h n j (pos (suc i)) l f = let e : j ≤ i = l.1 i (is_free_of h n i f) in omega (arith, ints)
below_free h n j (negsuc i) l f = let p : pos 0 <ℤ negsuc i = f.0 in absurd (omega (arith, ints))

pub least_free : (h : Store) (n : ℕ) → (a : ℤ) × IsFree h a n × ((z : ℤ) → IsFree h z n → a ≤ℤ z)
least_free h n =
    let some = some_free h n in
    let l = least (is_free h n) some.0 some.1 in
    (pos (suc l.0), free_of h n l.0 l.1.0, λ z f. below_free h n l.0 z l.1 f)

pub zeros_zero : (n : ℕ) → list_all (int_eq (pos 0)) (replicate n (pos 0)) ≡ true
zeros_zero zero = refl
zeros_zero (suc n) = zeros_zero n
