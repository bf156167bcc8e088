-- Chunks put among others, in heaps put together.
use Rattle.std.proofs.Common.{◌≡◌, refl, sym, ℕ, zero, suc, Some, List, [], ◌∷◌, map, nat_lt, subst}
use Rattle.std.specs.Prelude.{slice_get}
use Rattle.std.proofs.lemmas.Bool.{cond_both}
use Rattle.std.proofs.lemmas.Option.{none-some, same_Some}
use Rattle.cyp_heap.proofs.Unions.{beside_nothing}
use Rattle.cyp_heap.specs.Assertions.{CardIs, CardsAre}
use Rattle.cyp_heap.specs.Chunks.{kind_rank, put, put_all, without}
use Rattle.cyp_heap.specs.Instances.{ChunksHold, Instances, arg_value}
use Rattle.cyp_heap.specs.Stores.{IsBlock, IsCell, IsUnion, Store, no_store}
use Rattle.cyp_heap.specs.declared.chunk.Chunk.{Chunk}
use Rattle.cyp_heap.specs.declared.chunk.Chunk.TheVariants.{Block, Cell, Inst}
use Rattle.cyp_kernel.proofs.HeapParts.{beside, regrouped, union_sym, union_with_none}
use Rattle.cyp_term.specs.Meaning.{Assignment, value}

module _ (inst : Instances) (s : Assignment) where
  -- the heap is that of the chunk, its cardinality being the height
  abbrev pub OneAt : Chunk → Store → Type 0
  OneAt (Inst i) a = (n : ℕ) × inst i.pred (map (arg_value s) i.args) a n × CardIs s i.card n
  OneAt (Block b) a = IsBlock a (value s b.at) b.size
  OneAt (Cell c) a = IsCell a (value s c.at) (value s c.content)

  -- the chunks hold at some heights, which are the cardinalities
  abbrev pub AllHold : List Chunk → Store → Type 0
  AllHold cs h = (ns : List ℕ) × ChunksHold inst s cs h ns × CardsAre s cs ns

  pub first_holds : (c : Chunk) (cs : List Chunk) (h a b : Store) → IsUnion h a b → OneAt c a → AllHold cs b → AllHold (c ∷ cs) h
  first_holds (Inst i) cs h a b u o k = (o.0 ∷ k.0, (a, b, o.0, k.0, refl, u, o.1, k.1), (o.2, k.2))
  first_holds (Block c) cs h a b u o k = (k.0, (a, b, u, o, k.1), k.2)
  first_holds (Cell c) cs h a b u o k = (k.0, (a, b, u, o, k.1), k.2)

  -- the first chunk has a part of the heap, and the others have the rest
  pub record FirstOut (c : Chunk) (cs : List Chunk) (h : Store) : Type 0 where
    pub part : Store
    pub rest : Store
    pub union : IsUnion h part rest
    pub one : OneAt c part
    pub others : AllHold cs rest

  pub first_out : (c : Chunk) (cs : List Chunk) (h : Store) → AllHold (c ∷ cs) h → FirstOut c cs h
  first_out (Inst i) cs h k =
      let l = subst (λ (ms : List ℕ). CardsAre s (Inst i ∷ cs) ms) k.1.4 k.2 in
      record { part = k.1.0; rest = k.1.1; union = k.1.5; one = (k.1.2, k.1.6, l.0); others = (k.1.3, k.1.7, l.1) }
  first_out (Block b) cs h k = record { part = k.1.0; rest = k.1.1; union = k.1.2; one = k.1.3; others = (k.0, k.1.4, k.2) }
  first_out (Cell c) cs h k = record { part = k.1.0; rest = k.1.1; union = k.1.2; one = k.1.3; others = (k.0, k.1.4, k.2) }

  -- ---- chunks put among others

  pub put_holds : (cs : List Chunk) (c : Chunk) (h a b : Store) → IsUnion h a b → OneAt c a → AllHold cs b → AllHold (put cs c) h
  put_holds [] c h a b u o k = first_holds c [] h a b u o k
  put_holds (d ∷ ds) c h a b u o k =
      let f = first_out d ds b k in
      let r = regrouped h a b f.part f.rest u f.union in
      cond_both (nat_lt (kind_rank c) (kind_rank d)) (c ∷ d ∷ ds) (d ∷ put ds c) (λ (xs : List Chunk). AllHold xs h)
      (λ e. first_holds c (d ∷ ds) h a b u o k)
      (λ e. first_holds d (put ds c) h f.part (beside a f.rest) r.0 f.one (put_holds ds c (beside a f.rest) a f.rest r.1 o f.others))

  alone : (h b : Store) → IsUnion h no_store b → h ≡ b
  alone h b u = let cells = union_with_none h.cells b.cells u.0 in let blocks = union_with_none h.blocks b.blocks u.1 in λ i. record { cells = cells i; blocks = blocks i }

  pub put_all_holds : (cs ds : List Chunk) (h a b : Store) → IsUnion h a b → AllHold ds a → AllHold cs b → AllHold (put_all cs ds) h
  put_all_holds cs [] h a b u o k = subst (λ (g : Store). AllHold cs g) (sym (alone h b (subst (λ (g : Store). IsUnion h g b) o.1.0 u))) k
  put_all_holds cs (d ∷ ds) h a b u o k =
      let f = first_out d ds a o in
      let r = regrouped h b a f.rest f.part (union_sym h a b u) (union_sym a f.part f.rest f.union) in
      put_all_holds (put cs d) ds h f.rest (beside b f.part) r.0 f.others
      (put_holds cs d (beside b f.part) f.part b (union_sym (beside b f.part) b f.part r.1) f.one k)

  -- ---- and taken out again

  pub record PutOut (cs ds : List Chunk) (h : Store) : Type 0 where
    pub part : Store
    pub rest : Store
    pub union : IsUnion h part rest
    pub new : AllHold ds part
    pub old : AllHold cs rest

  pub put_out : (cs : List Chunk) (c : Chunk) (h : Store) → AllHold (put cs c) h → FirstOut c cs h
  put_out [] c h k = first_out c [] h k
  put_out (d ∷ ds) c h k =
      cond_both (nat_lt (kind_rank c) (kind_rank d)) (c ∷ d ∷ ds) (d ∷ put ds c) (λ (xs : List Chunk). AllHold xs h → FirstOut c (d ∷ ds) h)
      (λ e m. first_out c (d ∷ ds) h m)
      (λ e m.
      let f = first_out d (put ds c) h m in
      let g = put_out ds c f.rest f.others in
      let r = regrouped h f.part f.rest g.part g.rest f.union g.union in
      record { part = g.part; rest = beside f.part g.rest; union = r.0; one = g.one; others = first_holds d ds (beside f.part g.rest) f.part g.rest r.1 f.one g.others })
      k

  pub put_all_out : (cs ds : List Chunk) (h : Store) → AllHold (put_all cs ds) h → PutOut cs ds h
  put_all_out cs [] h k = record { part = no_store; rest = h; union = union_sym h h no_store (beside_nothing h); new = ([], (refl, refl), tt); old = k }
  put_all_out cs (d ∷ ds) h k =
      let o = put_all_out (put cs d) ds h k in
      let f = put_out cs d o.rest o.old in
      let r = regrouped h o.part o.rest f.rest f.part o.union (union_sym o.rest f.part f.rest f.union) in
      record {
        part = beside o.part f.part;
        rest = f.rest;
        union = union_sym h f.rest (beside o.part f.part) r.0;
        new = first_holds d ds (beside o.part f.part) f.part o.part (union_sym (beside o.part f.part) o.part f.part r.1) f.one o.new;
        old = f.others;
      }

  -- ---- the chunk at a place

  pub place_out : (cs : List Chunk) (i : ℕ) (c : Chunk) (h : Store) → slice_get cs i ≡ Some c → AllHold cs h → FirstOut c (without cs i) h
  place_out [] i c h e k = absurd (none-some c e)
  place_out (d ∷ cs) zero c h e k = subst (λ (x : Chunk). FirstOut x cs h) (same_Some d c e) (first_out d cs h k)
  place_out (d ∷ cs) (suc i) c h e k =
      let f = first_out d cs h k in
      let g = place_out cs i c f.rest e f.others in
      let r = regrouped h f.part f.rest g.part g.rest f.union g.union in
      record { part = g.part; rest = beside f.part g.rest; union = r.0; one = g.one; others = first_holds d (without cs i) (beside f.part g.rest) f.part g.rest r.1 f.one g.others }
