-- How many cells there are behind inserts and removals.
use Rattle.std.proofs.Common.{[], ◌+◌, ◌+ℤ◌, ◌-◌, Bool, List, arith, cond, false, is_some, length, pos, true, ℕ, ℤ, ◌∷◌, ◌≡◌, ◌≤◌}
use Rattle.std.specs.Cmp.{int_cmp_total}
use Rattle.std.specs.FinMap.{FinMap, get, insert, len, len-insert, len-remove, remove}
use Rattle.std.specs.Ordering.{int_cmp}
use Rattle.cyp_machine.specs.Steps.{insert_all, remove_all}

one_more : (b : Bool) (n k : ℕ) → k ≡ cond b n (n + 1) → k ≤ n + 1
one_more true n k e = omega arith
one_more false n k e = omega arith

one_less : (b : Bool) (n k : ℕ) → k ≡ cond b (n - 1) n → k ≤ n
one_less true n k e = omega arith
one_less false n k e = omega arith

no_more : (b : Bool) (n k : ℕ) → b ≡ true → k ≡ cond b n (n + 1) → k ≤ n
no_more true n k b e = omega arith
no_more false n k b e = cc

module _ (m : FinMap int_cmp ℤ) where
  insert_count : (a z : ℤ) → len (insert m a z) ≤ len m + 1
  insert_count a z = one_more (is_some (get m a)) (len m) (len (insert m a z)) (len-insert int_cmp_total m a z)

  -- a content changed
  pub change_count : (a z : ℤ) → is_some (get m a) ≡ true → len (insert m a z) ≤ len m
  change_count a z h = no_more (is_some (get m a)) (len m) (len (insert m a z)) h (len-insert int_cmp_total m a z)

  remove_count : (a : ℤ) → len (remove m a) ≤ len m
  remove_count a = one_less (is_some (get m a)) (len m) (len (remove m a)) (len-remove int_cmp_total m a)

pub insert_all_count : (m : FinMap int_cmp ℤ) (a : ℤ) (zs : List ℤ) → len (insert_all m a zs) ≤ len m + length zs
insert_all_count m a [] = omega arith
insert_all_count m a (z ∷ zs) =
    let one : len (insert (insert_all m (a +ℤ pos 1) zs) a z) ≤ len (insert_all m (a +ℤ pos 1) zs) + 1 = insert_count (insert_all m (a +ℤ pos 1) zs) a z in
    let more : len (insert_all m (a +ℤ pos 1) zs) ≤ len m + length zs = insert_all_count m (a +ℤ pos 1) zs in
    omega arith

pub remove_all_count : (m : FinMap int_cmp ℤ) (zs : List ℤ) → len (remove_all m zs) ≤ len m
remove_all_count m [] = omega arith
remove_all_count m (z ∷ zs) =
    let one : len (remove (remove_all m zs) z) ≤ len (remove_all m zs) = remove_count (remove_all m zs) z in
    let more : len (remove_all m zs) ≤ len m = remove_all_count m zs in
    omega arith
