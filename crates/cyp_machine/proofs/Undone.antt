-- Cells that were made and are taken away again.
use Rattle.std.proofs.Common.{[], Bool, List, None, Option, Some, ap, cond, false, int_cmp, int_eq, is_none, length, pos, refl, replicate, suc, sym, true, zero, ℕ, ℤ, ◌+ℤ◌, ◌∙◌, ◌∷◌, ◌≡◌, ◌||◌}
use Rattle.std.proofs.lemmas.Bool.{and_parts, false≢true}
use Rattle.std.proofs.lemmas.Bool.Decides.{Decides-int_eq}
use Rattle.std.proofs.lemmas.Cmp.{int_cmp_total}
use Rattle.std.proofs.lemmas.List.{length-replicate}
use Rattle.std.specs.FinMap.{FinMap, get, get-insert, get-remove, int_cmp-IsAntisymmetric, same_map}
use Rattle.cyp_heap.specs.Stores.{Store}
use Rattle.cyp_machine.proofs.Options.{none_of}
use Rattle.cyp_machine.specs.Steps.{addresses, has_none, insert_all, remove_all}

-- the address is among this many from the base on
abbrev inside : ℤ → ℕ → ℤ → Bool
inside a zero q = false
inside a (suc n) q = int_eq q a || inside (a +ℤ pos 1) n q

joined_none : (b c : Bool) (o : Option ℤ) → cond b None (cond c None o) ≡ cond (b || c) None o
joined_none true c o = refl
joined_none false c o = refl

get-removed : (m : FinMap int_cmp ℤ) (a : ℤ) (n : ℕ) (q : ℤ) → get (remove_all m (addresses a n)) q ≡ cond (inside a n q) None (get m q)
get-removed m a zero q = refl
get-removed m a (suc n) q =
    get-remove int_cmp_total (remove_all m (addresses (a +ℤ pos 1) n)) a q
    ∙ ap (cond (int_eq q a) None) (get-removed m (a +ℤ pos 1) n q)
    ∙ joined_none (int_eq q a) (inside (a +ℤ pos 1) n q) (get m q)

outside : (b c : Bool) → (b || c) ≡ false → (b ≡ false) × (c ≡ false)
outside true c h = absurd (false≢true (sym h))
outside false c h = (refl, h)

get-inserted : (m : FinMap int_cmp ℤ) (a : ℤ) (zs : List ℤ) (q : ℤ) → inside a (length zs) q ≡ false → get (insert_all m a zs) q ≡ get m q
get-inserted m a [] q h = refl
get-inserted m a (z ∷ zs) q h =
    let parts = outside (int_eq q a) (inside (a +ℤ pos 1) (length zs) q) h in
    get-insert int_cmp_total (insert_all m (a +ℤ pos 1) zs) a z q
    ∙ ap (λ b. cond b (Some z) (get (insert_all m (a +ℤ pos 1) zs) q)) parts.0
    ∙ get-inserted m (a +ℤ pos 1) zs q parts.1

none_first : (m : FinMap int_cmp ℤ) (a q : ℤ) (b c : Bool) → int_eq q a ≡ b → is_none (get m a) ≡ true → (c ≡ true → get m q ≡ None) → (b || c) ≡ true → get m q ≡ None
none_first m a q true c e first rest j = ap (get m) ((Decides-int_eq q a).0 e) ∙ none_of (get m a) first
none_first m a q false c e first rest j = rest j

none_inside : (m : FinMap int_cmp ℤ) (a : ℤ) (n : ℕ) (q : ℤ) → has_none m (addresses a n) ≡ true → inside a n q ≡ true → get m q ≡ None
none_inside m a zero q h i = absurd (false≢true i)
none_inside m a (suc n) q h i =
    let parts = and_parts (is_none (get m a)) (has_none m (addresses (a +ℤ pos 1) n)) h in
    none_first m a q (int_eq q a) (inside (a +ℤ pos 1) n q) refl parts.0 (none_inside m (a +ℤ pos 1) n q parts.1) i

cells_undone : (m : FinMap int_cmp ℤ) (a : ℤ) (n : ℕ) → has_none m (addresses a n) ≡ true → remove_all (insert_all m a (replicate n (pos 0))) (addresses a n) ≡ m
cells_undone m a n h =
    same_map int_cmp_total int_cmp-IsAntisymmetric _ _ (λ q. get-removed (insert_all m a (replicate n (pos 0))) a n q ∙ of q (inside a n q) refl)
  where
    of : (q : ℤ) (b : Bool) → inside a n q ≡ b → cond b None (get (insert_all m a (replicate n (pos 0))) q) ≡ get m q
    of q true e = sym (none_inside m a n q h e)
    of q false e = get-inserted m a (replicate n (pos 0)) q (ap (λ k. inside a k q) (length-replicate n (pos 0)) ∙ e)

-- g has the cells, and k is what is left without them
pub undone : (h g k : Store) (a : ℤ) (n : ℕ) → has_none h.cells (addresses a n) ≡ true
    → g ≡ record { cells = insert_all h.cells a (replicate n (pos 0)); blocks = h.blocks } → k ≡ record { cells = remove_all g.cells (addresses a n); blocks = g.blocks } → k ≡ h
undone h g k a n room made gone =
    gone
    ∙ ap (λ (s : Store). let t : Store = record { cells = remove_all s.cells (addresses a n); blocks = s.blocks } in t) made
    ∙ (λ i. record { cells = cells_undone h.cells a n room i; blocks = h.blocks })

-- the same from the second address on
pub room_behind : (m : FinMap int_cmp ℤ) (base : ℤ) (count : ℕ) (a : ℤ) (n : ℕ) → a ≡ base +ℤ pos 1 → count ≡ suc n → has_none m (addresses base count) ≡ true → has_none m (addresses a n) ≡ true
room_behind m base count a n e f h =
    ap (λ b. has_none m (addresses b n)) e
    ∙ (and_parts (is_none (get m base)) (has_none m (addresses (base +ℤ pos 1) n)) (sym (ap (λ k. has_none m (addresses base k)) f) ∙ h)).1

-- the program's base is this number
pub undone_at : (h g k : Store) (a b : ℤ) (n : ℕ) → b ≡ a → has_none h.cells (addresses a n) ≡ true
    → g ≡ record { cells = insert_all h.cells b (replicate n (pos 0)); blocks = h.blocks } → k ≡ record { cells = remove_all g.cells (addresses b n); blocks = g.blocks } → k ≡ h
undone_at h g k a b n e room made gone = undone h g k b n (ap (λ (x : ℤ). has_none h.cells (addresses x n)) e ∙ room) made gone
