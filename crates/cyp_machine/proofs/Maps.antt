-- An ordered map of the program, seen as a finite map.
use Rattle.std.proofs.Common.{[], List, None, Option, Some, ap, cond, refl, sym, ℤ, ◌∙◌, ◌∷◌, ◌≡◌}
use Rattle.std.proofs.lemmas.Cmp.{int_cmp_total}
use Rattle.std.specs.BTreeMap.{is_at}
use Rattle.std.specs.Cmp.{eq_by_cmp_equiv}
use Rattle.std.specs.FinMap.{find, from_entries, get, get-from_entries, get-insert, get-remove, insert, int_cmp-IsAntisymmetric, remove, same_map}
use Rattle.std.specs.Map.{lookup}
use Rattle.std.specs.Ordering.{eq_by_cmp, int_cmp}

module _ {X : Type 0} where
  find_lookup : (es : List (ℤ × X)) (q : ℤ) → find int_cmp q es ≡ lookup (is_at (int_cmp q)) es
  find_lookup [] q = refl
  find_lookup (e ∷ es) q = ap (cond (eq_by_cmp int_cmp q e.0) (Some e.1)) (find_lookup es q)

  pub get_view : (es : List (ℤ × X)) (q : ℤ) → get (from_entries {R = int_cmp} es) q ≡ lookup (is_at (int_cmp q)) es
  get_view es q = get-from_entries int_cmp_total es q ∙ find_lookup es q

  -- the entries behind it are those before it with this at the key
  abbrev pub Updated : List (ℤ × X) → List (ℤ × X) → ℤ → Option X → Type 0
  Updated old new k w = (q : ℤ) → lookup (is_at (int_cmp q)) new ≡ cond (is_at (int_cmp k) q) w (lookup (is_at (int_cmp q)) old)

  updated_get : (old new : List (ℤ × X)) (k : ℤ) (w : Option X) → Updated old new k w → (q : ℤ)
      → get (from_entries {R = int_cmp} new) q ≡ cond (eq_by_cmp int_cmp q k) w (get (from_entries {R = int_cmp} old) q)
  updated_get old new k w u q =
      get_view new q ∙ u q
      ∙ ap (λ b. cond b w (lookup (is_at (int_cmp q)) old)) ((eq_by_cmp_equiv int_cmp_total).symm k q)
      ∙ ap (cond (eq_by_cmp int_cmp q k) w) (sym (get_view old q))

  -- the program's key and value are these numbers
  pub inserted_view : (old new : List (ℤ × X)) (k j : ℤ) (v w : X) → j ≡ k → w ≡ v → Updated old new j (Some w) → from_entries {R = int_cmp} new ≡ insert (from_entries old) k v
  inserted_view old new k j v w e f u =
      same_map int_cmp_total int_cmp-IsAntisymmetric _ _ (λ q. updated_get old new j (Some w) u q ∙ sym (get-insert int_cmp_total (from_entries old) j w q))
      ∙ (λ i. insert (from_entries old) (e i) (f i))

  pub removed_view : (old new : List (ℤ × X)) (k j : ℤ) → j ≡ k → Updated old new j None → from_entries {R = int_cmp} new ≡ remove (from_entries old) k
  removed_view old new k j e u =
      same_map int_cmp_total int_cmp-IsAntisymmetric _ _ (λ q. updated_get old new j None u q ∙ sym (get-remove int_cmp_total (from_entries old) j q))
      ∙ (λ i. remove (from_entries old) (e i))

  pub read_view : (es : List (ℤ × X)) (k j : ℤ) → j ≡ k → lookup (is_at (int_cmp j)) es ≡ get (from_entries {R = int_cmp} es) k
  read_view es k j e = sym (get_view es j) ∙ ap (get (from_entries {R = int_cmp} es)) e
