-- Bases that are free before and behind what happens to a heap.
use Rattle.std.proofs.Common.{[], Bool, List, None, Some, ap, arith, cond, false, int_cmp, int_eq, is_none, pos, refl, replicate, subst, suc, sym, true, zero, ℕ, ℤ, ◌+ℤ◌, ◌<◌, ◌<ℤ◌, ◌^◌, ◌∙◌, ◌∷◌, ◌≡◌, ◌≤ℤ◌}
use Rattle.std.proofs.lemmas.Bool.{and_from, and_parts, false≢true}
use Rattle.std.proofs.lemmas.Bool.Decides.{Decides-int_eq}
use Rattle.std.proofs.lemmas.Cmp.{int_cmp_total}
use Rattle.std.proofs.lemmas.Int.{by_lt_z, ints}
use Rattle.std.specs.FinMap.{FinMap, get, get-insert, get-remove, insert, remove}
use Rattle.cyp_heap.specs.Stores.{Store}
use Rattle.cyp_machine.proofs.Options.{none_of}
use Rattle.cyp_machine.specs.LowBases.{IsLow, has_place}
use Rattle.cyp_machine.specs.Steps.{IsFree, addresses, has_none, insert_all, remove_all}

-- ---- keys that are missing

module _ {X : Type 0} where
  none_insert : (m : FinMap int_cmp X) (k : ℤ) (v : X) (q : ℤ) → get (insert m k v) q ≡ None → get m q ≡ None
  none_insert m k v q e = of (int_eq q k) (sym (get-insert int_cmp_total m k v q) ∙ e)
    where
      of : (t : Bool) → cond t (Some v) (get m q) ≡ None → get m q ≡ None
      of true i = cc
      of false i = i

  none_remove : (m : FinMap int_cmp X) (k q : ℤ) → q <ℤ k → get (remove m k) q ≡ None → get m q ≡ None
  none_remove m k q l e = of (int_eq q k) refl (sym (get-remove int_cmp_total m k q) ∙ e)
    where
      of : (t : Bool) → int_eq q k ≡ t → cond t None (get m q) ≡ None → get m q ≡ None
      of true s i = let same : q ≡ k = (Decides-int_eq q k).0 s in absurd (omega (arith, ints))
      of false s i = i

none_inserted : (m : FinMap int_cmp ℤ) (a : ℤ) (zs : List ℤ) (q : ℤ) → get (insert_all m a zs) q ≡ None → get m q ≡ None
none_inserted m a [] q e = e
none_inserted m a (z ∷ zs) q e = none_inserted m (a +ℤ pos 1) zs q (none_insert (insert_all m (a +ℤ pos 1) zs) a z q e)

none_removed : (m : FinMap int_cmp ℤ) (a : ℤ) (n : ℕ) (q : ℤ) → q <ℤ a → get (remove_all m (addresses a n)) q ≡ None → get m q ≡ None
none_removed m a zero q l e = e
none_removed m a (suc n) q l e =
    none_removed m (a +ℤ pos 1) n q (omega (arith, ints)) (none_remove (remove_all m (addresses (a +ℤ pos 1) n)) a q l e)

-- ---- free bases

none_fewer : (m l : FinMap int_cmp ℤ) (a : ℤ) (n : ℕ) → ((q : ℤ) → get m q ≡ None → get l q ≡ None) → has_none m (addresses a n) ≡ true → has_none l (addresses a n) ≡ true
none_fewer m l a zero f h = refl
none_fewer m l a (suc n) f h =
    let parts = and_parts (is_none (get m a)) (has_none m (addresses (a +ℤ pos 1) n)) h in
    and_from (is_none (get l a)) (has_none l (addresses (a +ℤ pos 1) n)) (ap is_none (f a (none_of (get m a) parts.0))) (none_fewer m l (a +ℤ pos 1) n f parts.1)

-- a base that is free in the larger heap is free in the smaller one
free_fewer : (g h : Store) (a : ℤ) (n : ℕ) → ((q : ℤ) → get g.cells q ≡ None → get h.cells q ≡ None) → ((q : ℤ) → get g.blocks q ≡ None → get h.blocks q ≡ None)
    → IsFree g a n → IsFree h a n
free_fewer g h a n f k i = (i.0, none_fewer g.cells h.cells a n f i.1, k a i.2)

pub free_first : (h : Store) (a : ℤ) (n : ℕ) → IsFree h a (suc n) → IsFree h a 1
free_first h a n i =
    let parts = and_parts (is_none (get h.cells a)) (has_none h.cells (addresses (a +ℤ pos 1) n)) i.1 in
    (i.0, and_from (is_none (get h.cells a)) true parts.0 refl, i.2)

-- ---- the low base

pub low_first : (h : Store) → IsLow h (pos 1)
low_first h = record { positive = omega (arith, ints); small = omega (arith, ints); least = λ a n f. let p : pos 0 <ℤ a = f.0 in omega (arith, ints) }

pub low_raised : (h : Store) (low up : ℤ) → IsLow h low → low ≤ℤ up → up ≤ℤ pos (2 ^ 60) → ((a : ℤ) → low ≤ℤ a → IsFree h a 1 → up ≤ℤ a) → IsLow h up
low_raised h low up l r s f = record {
  positive = let p : pos 0 <ℤ low = l.positive in omega (arith, ints);
  small = s;
  least = λ a n i. f a (l.least a n i) (free_first h a n i);
}

pub low_written : (h : Store) (low a z : ℤ) → IsLow h low → IsLow (record { cells = insert h.cells a z; blocks = h.blocks }) low
low_written h low a z l = record {
  positive = l.positive;
  small = l.small;
  least = λ b n i. l.least b n (free_fewer (record { cells = insert h.cells a z; blocks = h.blocks }) h b (suc n) (λ q. none_insert h.cells a z q) (λ q e. e) i);
}

pub low_taken : (h : Store) (low a : ℤ) (zs : List ℤ) (size : ℕ) → IsLow h low → IsLow (record { cells = insert_all h.cells a zs; blocks = insert h.blocks a size }) low
low_taken h low a zs size l = record {
  positive = l.positive;
  small = l.small;
  least = λ b n i.
      l.least b n (free_fewer (record { cells = insert_all h.cells a zs; blocks = insert h.blocks a size }) h b (suc n) (none_inserted h.cells a zs) (none_insert h.blocks a size) i);
}

below_given : (h : Store) (base : ℤ) (size : ℕ) (a : ℤ) (n : ℕ) → a <ℤ base
    → IsFree (record { cells = remove_all h.cells (addresses base size); blocks = remove h.blocks base }) a (suc n) → IsFree h a 1
below_given h base size a n l i =
    let g : Store = record { cells = remove_all h.cells (addresses base size); blocks = remove h.blocks base } in
    let parts = and_parts (is_none (get g.cells a)) (has_none g.cells (addresses (a +ℤ pos 1) n)) i.1 in
    (i.0, and_from (is_none (get h.cells a)) true (ap is_none (none_removed h.cells base size a l (none_of (get g.cells a) parts.0))) refl, none_remove h.blocks base a l i.2)

-- the base that was given back, unless the low one is below it; and 1 where it isn't positive
pub low_given : (h : Store) (low base : ℤ) (size : ℕ) (down : ℤ) → IsLow h low → pos 0 <ℤ down → down ≤ℤ low → ((a : ℤ) → pos 0 <ℤ a → a <ℤ down → a <ℤ base)
    → IsLow (record { cells = remove_all h.cells (addresses base size); blocks = remove h.blocks base }) down
low_given h low base size down l p d below = record {
  positive = p;
  small = let s : low ≤ℤ pos (2 ^ 60) = l.small in omega (arith, ints);
  least = λ a n i.
      by_lt_z a down
      (λ u. let e : low ≤ℤ a = l.least a 0 (below_given h base size a n (below a i.0 u) i) in absurd (omega (arith, ints)))
      (λ u. u);
}

-- ---- the search for a free base

pub place_of_free : (h : Store) (a : ℤ) (n : ℕ) → IsFree h a n → has_place h a n ≡ true
place_of_free h a n f = and_from (is_none (get h.blocks a)) (has_none h.cells (addresses a n)) (ap is_none f.2) f.1

pub free_of_place : (h : Store) (a : ℤ) (n : ℕ) → pos 0 <ℤ a → has_place h a n ≡ true → IsFree h a n
free_of_place h a n p e =
    let parts = and_parts (is_none (get h.blocks a)) (has_none h.cells (addresses a n)) e in
    (p, parts.1, none_of (get h.blocks a) parts.0)

-- a base without a place is passed
pub passed : (h : Store) (base a : ℤ) (n : ℕ) → has_place h base n ≡ false → IsFree h a n → base ≤ℤ a → (base +ℤ pos 1) ≤ℤ a
passed h base a n none f l =
    by_lt_z base a (λ u. omega (arith, ints))
    (λ u. let same : a ≡ base = omega (arith, ints) in absurd (false≢true (sym none ∙ place_of_free h base n (subst (λ (b : ℤ). IsFree h b n) same f))))

-- ---- a heap whose block was made or given back, step by step

pub low_along : (h g : Store) (low : ℤ) → g ≡ h → IsLow h low → IsLow g low
low_along h g low e l = subst (λ (s : Store). IsLow s low) (sym e) l

pub low_made : (h g k : Store) (low a : ℤ) (n : ℕ) → g ≡ record { cells = insert_all h.cells a (replicate n (pos 0)); blocks = h.blocks }
    → k ≡ record { cells = g.cells; blocks = insert g.blocks a n } → IsLow h low → IsLow k low
low_made h g k low a n made is l =
    low_along _ k low (is ∙ ap (λ (s : Store). let t : Store = record { cells = s.cells; blocks = insert s.blocks a n } in t) made)
    (low_taken h low a (replicate n (pos 0)) n l)

pub low_behind : (h g k : Store) (low a : ℤ) (n : ℕ) (down : ℤ) → g ≡ record { cells = remove_all h.cells (addresses a n); blocks = h.blocks }
    → k ≡ record { cells = g.cells; blocks = remove g.blocks a } → IsLow h low → pos 0 <ℤ down → down ≤ℤ low → ((b : ℤ) → pos 0 <ℤ b → b <ℤ down → b <ℤ a) → IsLow k down
low_behind h g k low a n down gone is l p d below =
    low_along _ k down (is ∙ ap (λ (s : Store). let t : Store = record { cells = s.cells; blocks = remove s.blocks a } in t) gone)
    (low_given h low a n down l p d below)

-- no free base is below it
pub low_below : (h : Store) (low a : ℤ) (n : ℕ) → IsLow h low → 0 < n → IsFree h a n → low ≤ℤ a
low_below h low a zero l p f = absurd (omega arith)
low_below h low a (suc n) l p f = l.least a n f
