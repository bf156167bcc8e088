-- The heap of new cells.
use Rattle.std.proofs.Common.{◌≡◌, refl, sym, ◌∙◌, ℕ, suc, List, [], ◌∷◌, map, length, ℤ, pos, ◌+ℤ◌, ◌<ℤ◌, Some, None, arith, subst}
use Rattle.std.specs.Ordering.{int_cmp, eq_by_cmp}
use Rattle.std.specs.Cmp.{int_cmp_total}
use Rattle.std.specs.FinMap.{FinMap, empty, get, get-empty, get-insert, insert}
use Rattle.std.proofs.lemmas.Bool.{cond-false, false_from_ne_true}
use Rattle.std.proofs.lemmas.Bool.Decides.{Decides-int_eq}
use Rattle.std.proofs.lemmas.Int.{ints}
use Rattle.cyp_heap.proofs.Unions.{empty_beside, one_beside}
use Rattle.cyp_heap.specs.Instances.{Instances}
use Rattle.cyp_heap.specs.Stores.{Store}
use Rattle.cyp_heap.specs.declared.chunk.Chunk.TheVariants.{Cell}
use Rattle.cyp_kernel.proofs.ChunkOrder.{AllHold, first_holds}
use Rattle.cyp_kernel.proofs.NewNumber.{NumbersAre, int_var}
use Rattle.cyp_kernel.proofs.Offsets.{plus-zero}
use Rattle.cyp_machine.specs.Steps.{insert_all}
use Rattle.cyp_pred.specs.Unfold.{new_ints}
use Rattle.cyp_step.specs.FlatRules.{new_cells}
use Rattle.cyp_term.specs.Meaning.{Assignment, base_value, value}
use Rattle.cyp_term.specs.Terms.{plus, var_term}
use Rattle.cyp_term.specs.declared.term.Term.{Term}

abbrev no_cells : FinMap int_cmp ℤ
no_cells = empty

-- there is nothing below the first address
below_all : (zs : List ℤ) (a q : ℤ) → q <ℤ a → get (insert_all no_cells a zs) q ≡ None
below_all [] a q l = get-empty int_cmp q
below_all (z ∷ zs) a q l =
    get-insert int_cmp_total (insert_all no_cells (a +ℤ pos 1) zs) a z q
    ∙ cond-false (eq_by_cmp int_cmp q a) (Some z) (get (insert_all no_cells (a +ℤ pos 1) zs) q) (false_from_ne_true (eq_by_cmp int_cmp q a) (λ e. apart q a l ((Decides-int_eq q a).0 e)))
    ∙ below_all zs (a +ℤ pos 1) q (later q a l)
  where
    apart : (q a : ℤ) → q <ℤ a → q ≡ a → ⊥
    apart q a l e = omega (arith, ints)

    later : (q a : ℤ) → q <ℤ a → q <ℤ (a +ℤ pos 1)
    later q a l = omega (arith, ints)

-- the cells with these values from the address on, and nothing else
abbrev pub cells_at : ℤ → List ℤ → Store
cells_at a zs = record { cells = insert_all empty a zs; blocks = empty }

module _ (inst : Instances) (s : Assignment) where
  pub new_cells_hold : (t : Term) (j k : ℕ) (a : ℤ) (zs : List ℤ) → pos 0 <ℤ a → value s (plus t (pos j)) ≡ a → NumbersAre s k zs
      → AllHold inst s (new_cells t j (map var_term (new_ints k (length zs)))) (cells_at a zs)
  new_cells_hold t j k a [] l e h = ([], (refl, refl), tt)
  new_cells_hold t j k a (z ∷ zs) l e h =
      let one : Store = record { cells = insert no_cells a z; blocks = empty } in
      let here = one_beside (insert_all no_cells (a +ℤ pos 1) zs) a z (below_all zs (a +ℤ pos 1) a (up a)) in
      let content : value s (var_term (int_var k)) ≡ z = plus-zero (s.number (int_var k)) ∙ h.0 in
      let at_back = sym e in
      let content_back = sym content in
      first_holds inst s (Cell (record { at = plus t (pos j); content = var_term (int_var k) })) (new_cells t (suc j) (map var_term (new_ints (suc k) (length zs)))) (cells_at a (z ∷ zs)) one (cells_at (a +ℤ pos 1) zs)
      (here, empty_beside empty)
      (subst (λ (y : ℤ). pos 0 <ℤ y) (sym e) l, (λ i. insert no_cells (at_back i) (content_back i)), refl)
      (new_cells_hold t (suc j) (suc k) (a +ℤ pos 1) zs (more a l) (address t j a e) h.1)
    where
      up : (a : ℤ) → a <ℤ (a +ℤ pos 1)
      up a = omega (arith, ints)

      more : (a : ℤ) → pos 0 <ℤ a → pos 0 <ℤ (a +ℤ pos 1)
      more a l = omega (arith, ints)

      next : (b o a : ℤ) (j : ℕ) → b +ℤ (o +ℤ pos j) ≡ a → b +ℤ (o +ℤ pos (suc j)) ≡ a +ℤ pos 1
      next b o a j e = omega (arith, ints)

      address : (t : Term) (j : ℕ) (a : ℤ) → value s (plus t (pos j)) ≡ a → value s (plus t (pos (suc j))) ≡ a +ℤ pos 1
      address t j a e = next (base_value s t.base) t.offset a j e
