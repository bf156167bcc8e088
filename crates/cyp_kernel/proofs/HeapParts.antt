-- Parts of heaps: unions built and regrouped, a chunk's heap taken out and put back.
use Rattle.std.proofs.Common.{◌≡◌, refl, sym, ap, ◌∙◌, ℕ, ◌⊎◌, inl, inr, Bool, true, false, cond, List, [], ◌∷◌, map, ℤ, Option, Some, None, subst}
use Rattle.std.specs.Ordering.{int_cmp, eq_by_cmp}
use Rattle.std.specs.Cmp.{int_cmp_total}
use Rattle.std.specs.FinMap.{FinMap, get, insert, empty, entries, find, get-empty, get-entries, get-insert, int_cmp-IsAntisymmetric, same_map}
use Rattle.std.proofs.lemmas.Bool.Decides.{Decides-int_eq}
use Rattle.cyp_heap.proofs.SameChunks.{Respects, SameChunk}
use Rattle.cyp_heap.specs.Instances.{Instances, arg_value}
use Rattle.cyp_heap.specs.Stores.{IsBlock, IsCell, IsDisjointUnion, IsUnion, Store}
use Rattle.cyp_heap.specs.declared.chunk.Chunk.{Chunk}
use Rattle.cyp_heap.specs.declared.chunk.Chunk.TheVariants.{Block, Cell, Inst}
use Rattle.cyp_term.specs.Meaning.{Assignment, value}

-- ---- unions

pub map_union_sym : {A : Type 0} (all a b : FinMap int_cmp A) → IsDisjointUnion all a b → IsDisjointUnion all b a
map_union_sym all a b u z = elim (u z) [ inl p ↦ inr p | inr p ↦ inl p ]

pub union_sym : (h a b : Store) → IsUnion h a b → IsUnion h b a
union_sym h a b u = (map_union_sym h.cells a.cells b.cells u.0, map_union_sym h.blocks a.blocks b.blocks u.1)

module _ {A : Type 0} where
  -- the second map with the entries put in
  put_entries : List (ℤ × A) → FinMap int_cmp A → FinMap int_cmp A
  put_entries [] m = m
  put_entries (e ∷ es) m = insert (put_entries es m) e.0 e.1

  over : Option A → Option A → Option A
  over None b = b
  over (Some x) b = Some x

  over_cond : (t : Bool) (x : A) (a b : Option A) → cond t (Some x) (over a b) ≡ over (cond t (Some x) a) b
  unfolding over
  over_cond true x a b = refl
  over_cond false x a b = refl

  get_put_entries : (es : List (ℤ × A)) (m : FinMap int_cmp A) (z : ℤ) → get (put_entries es m) z ≡ over (find int_cmp z es) (get m z)
  unfolding put_entries over
  get_put_entries [] m z = refl
  get_put_entries (e ∷ es) m z =
      get-insert int_cmp_total (put_entries es m) e.0 e.1 z
      ∙ ap (λ (o : Option A). cond (eq_by_cmp int_cmp z e.0) (Some e.1) o) (get_put_entries es m z)
      ∙ over_cond (eq_by_cmp int_cmp z e.0) e.1 (find int_cmp z es) (get m z)

  join : FinMap int_cmp A → FinMap int_cmp A → FinMap int_cmp A
  join a b = put_entries (entries a) b

  get_join : (a b : FinMap int_cmp A) (z : ℤ) → get (join a b) z ≡ over (get a z) (get b z)
  unfolding join
  get_join a b z = get_put_entries (entries a) b z ∙ ap (λ (o : Option A). over o (get b z)) (sym (get-entries a z))

  over_none : (o b : Option A) → o ≡ None → over o b ≡ b
  unfolding over
  over_none None b e = refl
  over_none (Some x) b e = cc

  over_other : (o b : Option A) → b ≡ None → over o b ≡ o
  unfolding over
  over_other None b e = e
  over_other (Some x) b e = refl

  -- what is left beside the second of three parts: all is of a0 and b0, and b0 is of a and b
  regroup : (all a0 b0 a b : FinMap int_cmp A) → IsDisjointUnion all a0 b0 → IsDisjointUnion b0 a b
      → IsDisjointUnion all a (join a0 b) × IsDisjointUnion (join a0 b) a0 b
  regroup all a0 b0 a b u v = (λ z. outer z (u z) (v z), λ z. inner z (u z) (v z))
    where
      outer : (z : ℤ) → ((get a0 z ≡ None) × (get all z ≡ get b0 z)) ⊎ ((get b0 z ≡ None) × (get all z ≡ get a0 z))
          → ((get a z ≡ None) × (get b0 z ≡ get b z)) ⊎ ((get b z ≡ None) × (get b0 z ≡ get a z))
          → ((get a z ≡ None) × (get all z ≡ get (join a0 b) z)) ⊎ ((get (join a0 b) z ≡ None) × (get all z ≡ get a z))
      outer z (inl p) (inl q) = inl (q.0, p.1 ∙ q.1 ∙ sym (get_join a0 b z ∙ over_none (get a0 z) (get b z) p.0))
      outer z (inl p) (inr q) = inr (get_join a0 b z ∙ over_none (get a0 z) (get b z) p.0 ∙ q.0, p.1 ∙ q.1)
      outer z (inr p) (inl q) = inl (q.0, p.1 ∙ sym (get_join a0 b z ∙ over_other (get a0 z) (get b z) (sym q.1 ∙ p.0)))
      outer z (inr p) (inr q) = inl (sym q.1 ∙ p.0, p.1 ∙ sym (get_join a0 b z ∙ over_other (get a0 z) (get b z) q.0))

      inner : (z : ℤ) → ((get a0 z ≡ None) × (get all z ≡ get b0 z)) ⊎ ((get b0 z ≡ None) × (get all z ≡ get a0 z))
          → ((get a z ≡ None) × (get b0 z ≡ get b z)) ⊎ ((get b z ≡ None) × (get b0 z ≡ get a z))
          → ((get a0 z ≡ None) × (get (join a0 b) z ≡ get b z)) ⊎ ((get b z ≡ None) × (get (join a0 b) z ≡ get a0 z))
      inner z (inl p) q = inl (p.0, get_join a0 b z ∙ over_none (get a0 z) (get b z) p.0)
      inner z (inr p) (inl q) = inr (sym q.1 ∙ p.0, get_join a0 b z ∙ over_other (get a0 z) (get b z) (sym q.1 ∙ p.0))
      inner z (inr p) (inr q) = inr (q.0, get_join a0 b z ∙ over_other (get a0 z) (get b z) q.0)

  abbrev no_entries : FinMap int_cmp A
  no_entries = empty

  -- a map beside nothing
  pub union_with_none : (all b : FinMap int_cmp A) → IsDisjointUnion all no_entries b → all ≡ b
  union_with_none all b u = same_map int_cmp_total int_cmp-IsAntisymmetric all b (λ q. elim (u q) [ inl p ↦ p.1 | inr p ↦ p.1 ∙ get-empty int_cmp q ∙ sym p.0 ])

  -- a single entry
  pub get_single : (k : ℤ) (v : A) → get {R = int_cmp} (insert empty k v) k ≡ Some v
  get_single k v = get-insert int_cmp_total no_entries k v k ∙ ap (λ (t : Bool). cond t (Some v) (get no_entries k)) ((Decides-int_eq k k).1 refl)

-- the store of a0 and b
pub beside : Store → Store → Store
beside a b = record { cells = join a.cells b.cells; blocks = join a.blocks b.blocks }

pub regrouped : (h a0 b0 a b : Store) → IsUnion h a0 b0 → IsUnion b0 a b → IsUnion h a (beside a0 b) × IsUnion (beside a0 b) a0 b
unfolding beside
regrouped h a0 b0 a b u v =
    let c = regroup h.cells a0.cells b0.cells a.cells b.cells u.0 v.0 in
    let d = regroup h.blocks a0.blocks b0.blocks a.blocks b.blocks u.1 v.1 in
    ((c.0, d.0), (c.1, d.1))

-- ---- one chunk

module _ (inst : Instances) where
  -- the heap is that of the chunk
  abbrev pub OneHolds : Assignment → Chunk → Store → Type 0
  OneHolds s (Inst i) a = (n : ℕ) × inst i.pred (map (arg_value s) i.args) a n
  OneHolds s (Block b) a = IsBlock a (value s b.at) b.size
  OneHolds s (Cell c) a = IsCell a (value s c.at) (value s c.content)

  pub one_same : Respects inst → (s t : Assignment) (c d : Chunk) (a : Store) → SameChunk s t c d → OneHolds s c a → OneHolds t d a
  one_same r s t (Inst i) (Inst j) a e k =
      (k.0, subst (λ (p : ℕ). inst p (map (arg_value t) j.args) a k.0) e.0 (r i.pred (map (arg_value s) i.args) (map (arg_value t) j.args) a k.0 e.1 k.1))
  one_same r s t (Block b) (Block c) a e k = subst (λ (n : ℕ). IsBlock a (value t c.at) n) e.1 (subst (λ (z : ℤ). IsBlock a z b.size) e.0 k)
  one_same r s t (Cell b) (Cell c) a e k = subst (λ (z : ℤ). IsCell a (value t c.at) z) e.1 (subst (λ (z : ℤ). IsCell a z (value s b.content)) e.0 k)
  one_same r s t (Inst i) (Block c) a e k = absurd e
  one_same r s t (Inst i) (Cell c) a e k = absurd e
  one_same r s t (Block b) (Inst j) a e k = absurd e
  one_same r s t (Block b) (Cell c) a e k = absurd e
  one_same r s t (Cell b) (Inst j) a e k = absurd e
  one_same r s t (Cell b) (Block c) a e k = absurd e
