-- Bodies that are read and printed: their names, what they are read as, and that they have no faults.
use Rattle.std.proofs.Common.{List, [], ap, append-nil, cond, false, filter, flat_map, inl, inr, map, not, refl, subst, sym, true, ◌++◌, ◌∙◌, ◌∷◌, ◌≡◌, ◌&&◌, ◌||◌, ℕ, suc}
use Rattle.std.specs.Prelude.{Bool}
use Rattle.std.specs.List.{list_any}
use Rattle.cyp_goal.specs.Raw.{lit_once}
use Rattle.cyp_heap.specs.Chunks.{is_inst}
use Rattle.cyp_heap.specs.Formed.{term_part_vars}
use Rattle.cyp_heap.specs.PredsFormed as formed
use Rattle.cyp_heap.specs.declared.chunk.Chunk.{Chunk}
use Rattle.cyp_heap.specs.declared.chunk.Chunk.TheVariants.{Block, Cell, Inst}
use Rattle.cyp_heap.specs.declared.pred.Preds.{Preds}
use Rattle.cyp_term.specs.Terms.{lit_vars}
use Rattle.cyp_term.specs.declared.lit.Lit.{Lit}
use Rattle.cyp_term.specs.declared.term.Var.{Var}
use Rattle.cyp_term.proofs.Lists.{Among, each_at, flat_in, Among-map, map_from}
use Rattle.cyp_names.specs.Bodies.{body_lits, body_uses, in_kinds, is_block, is_cell, is_instance, item_lits, kept_body, kept_lit, kept_parts, pure_lits}
use Rattle.cyp_names.specs.PredFaults.{size_fault, size_faults}
use Rattle.cyp_names.specs.NameFaults.{chunk_faults}
use Rattle.cyp_writing.specs.PrintedTrees.{body_tree, cell_tree, chunk_tree, later_tree, lit_tree, pure_tree, term_tree}
use Rattle.cyp_names.specs.ReadTerms.{Scope, read_chunk, read_chunks, read_lit, read_lits, var_named}
use Rattle.cyp_names.specs.Specifications.{read_preds, with_cards}
use Rattle.cyp_text.specs.LitTrees.{LitTree}
use Rattle.cyp_text.specs.declared.tree.BodyTree.{BodyTree}
use Rattle.cyp_text.specs.declared.tree.ChunkTree.{ChunkTree}
use Rattle.cyp_text.specs.declared.tree.ChunkTree.TheVariants.{BlockOf, InstanceOf}
use Rattle.cyp_text.specs.declared.tree.Conjunction.{Conjunction}
use Rattle.cyp_text.specs.declared.tree.IntTree.{IntTree}
use Rattle.cyp_text.specs.declared.tree.IntTree.TheVariants.{Named}
use Rattle.cyp_text.specs.declared.tree.ItemTree.{ItemTree}
use Rattle.cyp_text.specs.declared.tree.PredTree.{PredTree}
use Rattle.cyp_names.specs.Uses.{Use, chunk_uses, lit_uses, parts_uses}
use Rattle.cyp_formed.proofs.FormedInstances.{kinds_among}
use Rattle.cyp_names.proofs.NoFaults.{none_each}
use Rattle.cyp_formed.proofs.FormedOnce.{lits_once}
use Rattle.cyp_formed.proofs.FormedOwners.{owns_cell}
use Rattle.cyp_formed.proofs.Names.{Comes, chunks_come, lits_come}
use Rattle.cyp_printed.proofs.PrintedAgain.{again_preds}
use Rattle.cyp_printed.proofs.PrintedBack.{IsBack, lit_back}
use Rattle.cyp_printed.proofs.PrintedChunks.{again_block, again_cell, again_chunk, again_instance, again_size, chunk_back, chunk_kept, chunk_no_fault, chunk_told, printed_chunk_uses}
use Rattle.cyp_printed.proofs.PrintedFirsts.{Firsts, firsts_each, firsts_mapped, firsts_same, firsts_then}
use Rattle.cyp_printed.proofs.PrintedKept.{lit_kept}
use Rattle.cyp_formed.proofs.Maps.{any_mapped, back_among, both_mapped, filter_mapped, flat_among, flat_then, map_then, none_from}
use Rattle.cyp_formed.proofs.Nameables.{HasAll}
use Rattle.cyp_printed.proofs.PrintedNames.{printed_use}
use Rattle.cyp_printed.proofs.PrintedUses.{kept_printed_lit, kept_printed_parts, printed_lit_uses, written_lit, written_parts}
use Rattle.cyp_names.proofs.ScopeNames.{Has}

-- ---- lists

filter_both : {A : Type 0} (p : A → Bool) (xs ys : List A) → filter p (xs ++ ys) ≡ filter p xs ++ filter p ys
filter_both p [] ys = refl
filter_both {A} p (x ∷ xs) ys = by_test (filter_both p xs ys) (p x)
  where
    by_test : filter p (xs ++ ys) ≡ filter p xs ++ filter p ys → (t : Bool) → cond t (x ∷ filter p (xs ++ ys)) (filter p (xs ++ ys)) ≡ cond t (x ∷ filter p xs) (filter p xs) ++ filter p ys
    by_test h true = ap (λ (zs : List A). x ∷ zs) h
    by_test h false = h

filter_same : {A : Type 0} (p : A → Bool) (xs : List A) → filter p (filter p xs) ≡ filter p xs
filter_same p [] = refl
filter_same {A} p (x ∷ xs) = by_test (filter_same p xs) (p x) refl
  where
    by_test : filter p (filter p xs) ≡ filter p xs → (t : Bool) → p x ≡ t → filter p (cond t (x ∷ filter p xs) (filter p xs)) ≡ cond t (x ∷ filter p xs) (filter p xs)
    by_test h true e = ap (λ (t : Bool). cond t (x ∷ filter p (filter p xs)) (filter p (filter p xs))) e ∙ ap (λ (zs : List A). x ∷ zs) h
    by_test h false e = h

filter_none : {A : Type 0} (p q : A → Bool) → ((x : A) → q x ≡ true → p x ≡ false) → (xs : List A) → filter p (filter q xs) ≡ []
filter_none p q other [] = refl
filter_none {A} p q other (x ∷ xs) = by_test (filter_none p q other xs) (q x) refl
  where
    by_test : filter p (filter q xs) ≡ [] → (t : Bool) → q x ≡ t → filter p (cond t (x ∷ filter q xs) (filter q xs)) ≡ []
    by_test h true e = ap (λ (t : Bool). cond t (x ∷ filter p (filter q xs)) (filter p (filter q xs))) (other x e) ∙ h
    by_test h false e = h

-- ---- kinds

block_first : (c : ChunkTree) → is_block c ≡ true → is_instance c ≡ false
block_first (InstanceOf i xs) e = absurd cc
block_first _ e = refl

cell_first : (c : ChunkTree) → is_cell c ≡ true → is_instance c ≡ false
cell_first (InstanceOf i xs) e = absurd cc
cell_first _ e = refl

inst_block : (c : ChunkTree) → is_instance c ≡ true → is_block c ≡ false
inst_block (BlockOf a p n) e = absurd cc
inst_block _ e = refl

cell_block : (c : ChunkTree) → is_cell c ≡ true → is_block c ≡ false
cell_block (BlockOf a p n) e = absurd cc
cell_block _ e = refl

inst_cell : (c : ChunkTree) → is_instance c ≡ true → is_cell c ≡ false
inst_cell (InstanceOf i xs) e = refl
inst_cell _ e = absurd cc

block_cell : (c : ChunkTree) → is_block c ≡ true → is_cell c ≡ false
block_cell (BlockOf a p n) e = refl
block_cell _ e = absurd cc

three : (p : ChunkTree → Bool) (as' bs cs : List ChunkTree) → filter p (as' ++ bs ++ cs) ≡ filter p as' ++ filter p bs ++ filter p cs
three p as' bs cs = filter_both p (as' ++ bs) cs ∙ ap (λ (ds : List ChunkTree). ds ++ filter p cs) (filter_both p as' bs)

-- chunks by their kinds stay so
kinds_twice : (cs : List ChunkTree) → in_kinds (in_kinds cs) ≡ in_kinds cs
kinds_twice cs = λ i. insts_part i ++ blocks_part i ++ cells_part i
  where
    insts_of : List ChunkTree
    insts_of = filter is_instance cs

    blocks_of : List ChunkTree
    blocks_of = filter is_block cs

    cells_of : List ChunkTree
    cells_of = filter is_cell cs

    insts_part : filter is_instance (in_kinds cs) ≡ insts_of
    insts_part = three is_instance insts_of blocks_of cells_of
        ∙ (λ i. filter_same is_instance cs i ++ filter_none is_instance is_block block_first cs i ++ filter_none is_instance is_cell cell_first cs i)
        ∙ append-nil (insts_of ++ []) ∙ append-nil insts_of

    blocks_part : filter is_block (in_kinds cs) ≡ blocks_of
    blocks_part = three is_block insts_of blocks_of cells_of
        ∙ (λ i. filter_none is_block is_instance inst_block cs i ++ filter_same is_block cs i ++ filter_none is_block is_cell cell_block cs i)
        ∙ append-nil blocks_of

    cells_part : filter is_cell (in_kinds cs) ≡ cells_of
    cells_part = three is_cell insts_of blocks_of cells_of
        ∙ (λ i. filter_none is_cell is_instance inst_cell cs i ++ filter_none is_cell is_block block_cell cs i ++ filter_same is_cell cs i)

-- ---- literals of a printed body

later_lits : (ls : List Lit) → flat_map (λ (p : Conjunction × ItemTree). item_lits p.1) (map later_tree ls) ≡ map lit_tree ls
later_lits [] = refl
later_lits (l ∷ ls) = ap (λ (ks : List LitTree). lit_tree l ∷ ks) (later_lits ls)

printed_lits : (ls : List Lit) → pure_lits (pure_tree ls) ≡ map lit_tree ls
printed_lits [] = refl
printed_lits (l ∷ ls) = ap (λ (ks : List LitTree). lit_tree l ∷ ks) (later_lits ls)

-- cardinalities aren't printed
pub cards_unprinted : (preds : Preds) (k : ℕ) (cs : List Chunk) → map (chunk_tree preds) (with_cards k cs) ≡ map (chunk_tree preds) cs
cards_unprinted preds k [] = refl
cards_unprinted preds k (Inst i ∷ cs) = ap (λ (ds : List ChunkTree). chunk_tree preds (Inst i) ∷ ds) (cards_unprinted preds (suc k) cs)
cards_unprinted preds k (Block b ∷ cs) = ap (λ (ds : List ChunkTree). chunk_tree preds (Block b) ∷ ds) (cards_unprinted preds k cs)
cards_unprinted preds k (Cell c ∷ cs) = ap (λ (ds : List ChunkTree). chunk_tree preds (Cell c) ∷ ds) (cards_unprinted preds k cs)

-- ---- the kinds of printed chunks

cell_is : (a t : IntTree) → (is_instance (cell_tree a t) ≡ false) × (is_cell (cell_tree a t) ≡ true)
cell_is (Named i) t = (refl, refl)
cell_is _ t = (refl, refl)

printed_inst : (preds : Preds) (c : Chunk) → is_instance (chunk_tree preds c) ≡ is_inst c
printed_inst preds (Inst i) = refl
printed_inst preds (Block b) = refl
printed_inst preds (Cell k) = (cell_is (term_tree k.at) (term_tree k.content)).0

printed_cell : (preds : Preds) (c : Chunk) → is_cell (chunk_tree preds c) ≡ formed.is_cell c
printed_cell preds (Inst i) = refl
printed_cell preds (Block b) = refl
printed_cell preds (Cell k) = (cell_is (term_tree k.at) (term_tree k.content)).1

module _ (qs : List PredTree) (sc : Scope) (b : BodyTree) where
  -- the body as it is printed
  abbrev pub again_body : BodyTree
  again_body = body_tree (read_preds qs) (read_lits sc b) (read_chunks qs sc b)

  -- the names in the printed body
  abbrev pub printed_body_uses : List Use
  printed_body_uses = flat_map printed_lit_uses (read_lits sc b) ++ flat_map printed_chunk_uses (read_chunks qs sc b)

  lits_are : body_lits again_body ≡ map lit_tree (read_lits sc b)
  lits_are = printed_lits (read_lits sc b)

  chunks_are : again_body.chunks ≡ map (again_chunk qs sc) (in_kinds b.chunks)
  chunks_are = map_then (read_chunk qs sc) (chunk_tree (read_preds qs)) (again_chunk qs sc) (λ c. refl) (in_kinds b.chunks)

  kinds_are : in_kinds again_body.chunks ≡ map (again_chunk qs sc) (in_kinds b.chunks)
  kinds_are = ap in_kinds chunks_are ∙ mapped (in_kinds b.chunks) ∙ ap (λ (cs : List ChunkTree). map (again_chunk qs sc) cs) (kinds_twice b.chunks)
    where
      mapped : (cs : List ChunkTree) → in_kinds (map (again_chunk qs sc) cs) ≡ map (again_chunk qs sc) (in_kinds cs)
      mapped cs =
          both_mapped (again_chunk qs sc) (filter is_instance cs ++ filter is_block cs) (filter is_cell cs) _ _
          (both_mapped (again_chunk qs sc) (filter is_instance cs) (filter is_block cs) _ _ (filter_mapped (again_chunk qs sc) is_instance is_instance (again_instance qs sc) cs) (filter_mapped (again_chunk qs sc) is_block is_block (again_block qs sc) cs))
          (filter_mapped (again_chunk qs sc) is_cell is_cell (again_cell qs sc) cs)

  -- a clause that owns a cell where it has an instance still does
  pub owns_again : (list_any is_instance b.chunks && not (list_any is_cell b.chunks)) ≡ false → (list_any is_instance again_body.chunks && not (list_any is_cell again_body.chunks)) ≡ false
  owns_again e =
      (λ i. any_mapped (chunk_tree (read_preds qs)) is_instance is_inst (printed_inst (read_preds qs)) (read_chunks qs sc b) i
      && not (any_mapped (chunk_tree (read_preds qs)) is_cell formed.is_cell (printed_cell (read_preds qs)) (read_chunks qs sc b) i))
      ∙ turned (list_any is_inst (read_chunks qs sc b)) (list_any formed.is_cell (read_chunks qs sc b)) (owns_cell qs sc b.chunks e)
    where
      turned : (x y : Bool) → (not x || y) ≡ true → (x && not y) ≡ false
      turned false y h = refl
      turned true true h = refl
      turned true false h = absurd cc

  module _ (right : (c : ChunkTree) → Among c b.chunks → chunk_faults qs c ≡ []) where
    kind_right : (c : ChunkTree) → Among c (in_kinds b.chunks) → chunk_faults qs c ≡ []
    kind_right c m = right c (kinds_among b.chunks c m)

    -- ---- names

    chunk_names : (us : List Use) → us ≡ flat_map (λ c. printed_chunk_uses (read_chunk qs sc c)) (in_kinds b.chunks) → us ≡ flat_map printed_chunk_uses (read_chunks qs sc b)
    chunk_names us e = e ∙ sym (flat_then (read_chunk qs sc) printed_chunk_uses (λ c. printed_chunk_uses (read_chunk qs sc c)) (λ c. refl) (in_kinds b.chunks))

    pub kept_again : kept_body (again_preds qs) again_body ≡ printed_body_uses
    kept_again = λ i. lits_part i ++ chunks_part i
      where
        lits_part : flat_map (kept_lit false) (body_lits again_body) ≡ flat_map printed_lit_uses (read_lits sc b)
        lits_part = ap (λ (ls : List LitTree). flat_map (kept_lit false) ls) lits_are ∙ flat_then lit_tree (kept_lit false) printed_lit_uses kept_printed_lit (read_lits sc b)

        chunks_part : flat_map (chunk_uses kept_parts (again_preds qs)) (in_kinds again_body.chunks) ≡ flat_map printed_chunk_uses (read_chunks qs sc b)
        chunks_part =
            chunk_names _ (ap (λ (cs : List ChunkTree). flat_map (chunk_uses kept_parts (again_preds qs)) cs) kinds_are
            ∙ flat_among (again_chunk qs sc) (chunk_uses kept_parts (again_preds qs)) (λ c. printed_chunk_uses (read_chunk qs sc c)) (in_kinds b.chunks) (λ c m. chunk_told qs sc kept_parts kept_printed_parts c (kind_right c m)))

    pub written_again : body_uses (again_preds qs) again_body ≡ printed_body_uses
    written_again = λ i. lits_part i ++ chunks_part i
      where
        lits_part : flat_map lit_uses (body_lits again_body) ≡ flat_map printed_lit_uses (read_lits sc b)
        lits_part = ap (λ (ls : List LitTree). flat_map lit_uses ls) lits_are ∙ flat_then lit_tree lit_uses printed_lit_uses written_lit (read_lits sc b)

        chunks_part : flat_map (chunk_uses parts_uses (again_preds qs)) again_body.chunks ≡ flat_map printed_chunk_uses (read_chunks qs sc b)
        chunks_part =
            chunk_names _ (ap (λ (cs : List ChunkTree). flat_map (chunk_uses parts_uses (again_preds qs)) cs) chunks_are
            ∙ flat_among (again_chunk qs sc) (chunk_uses parts_uses (again_preds qs)) (λ c. printed_chunk_uses (read_chunk qs sc c)) (in_kinds b.chunks) (λ c m. chunk_told qs sc parts_uses written_parts c (kind_right c m)))

    pub body_firsts : Firsts printed_body_uses (map (printed_use sc) (kept_body qs b))
    body_firsts = firsts_mapped (printed_use sc) (flat_map printed_lit_uses (read_lits sc b)) (flat_map printed_chunk_uses (read_chunks qs sc b)) (flat_map (kept_lit false) (body_lits b)) (flat_map (chunk_uses kept_parts qs) (in_kinds b.chunks)) lits_part chunks_part
      where
        lits_part : Firsts (flat_map printed_lit_uses (read_lits sc b)) (map (printed_use sc) (flat_map (kept_lit false) (body_lits b)))
        lits_part =
            firsts_then _ _ _ (firsts_same (flat_map printed_lit_uses (read_lits sc b)) (flat_map (λ l. printed_lit_uses (read_lit sc l)) (body_lits b)) (flat_then (read_lit sc) printed_lit_uses (λ l. printed_lit_uses (read_lit sc l)) (λ l. refl) (body_lits b)))
            (firsts_each (printed_use sc) (λ l. printed_lit_uses (read_lit sc l)) (kept_lit false) (body_lits b) (λ l m. lit_kept sc false l))

        chunks_part : Firsts (flat_map printed_chunk_uses (read_chunks qs sc b)) (map (printed_use sc) (flat_map (chunk_uses kept_parts qs) (in_kinds b.chunks)))
        chunks_part =
            firsts_then _ _ _ (firsts_same (flat_map printed_chunk_uses (read_chunks qs sc b)) (flat_map (λ c. printed_chunk_uses (read_chunk qs sc c)) (in_kinds b.chunks)) (flat_then (read_chunk qs sc) printed_chunk_uses (λ c. printed_chunk_uses (read_chunk qs sc c)) (λ c. refl) (in_kinds b.chunks)))
            (firsts_each (printed_use sc) (λ c. printed_chunk_uses (read_chunk qs sc c)) (chunk_uses kept_parts qs) (in_kinds b.chunks) (λ c m. chunk_kept qs sc c (kind_right c m)))

    -- ---- faults

    pub chunks_right_again : (c : ChunkTree) → Among c again_body.chunks → chunk_faults (again_preds qs) c ≡ []
    chunks_right_again c m =
        let f = map_from (again_chunk qs sc) c (in_kinds b.chunks) (subst (λ (cs : List ChunkTree). Among c cs) chunks_are m) in
        ap (λ (d : ChunkTree). chunk_faults (again_preds qs) d) f.2 ∙ chunk_no_fault qs sc f.0 (kind_right f.0 f.1)

    -- ---- what is read

    module _ (sd : Scope) (has : HasAll sc (kept_body qs b)) (back : (a : List ℕ) → Has sc a → IsBack sd (var_named sc a)) where
      come_back : (v : Var) → Comes sc (kept_body qs b) v → IsBack sd v
      come_back v c = subst (λ (w : Var). IsBack sd w) (sym c.2) (back c.0.name.text (has c.0 c.1))

      pub lits_again : read_lits sd again_body ≡ read_lits sc b
      lits_again =
          ap (λ (ls : List LitTree). map (read_lit sd) ls) lits_are
          ∙ back_among lit_tree (read_lit sd) (read_lits sc b) (λ l m.
          lit_back sd l (λ v k. come_back v (lits_come sc v qs b (flat_in lit_vars v l (read_lits sc b) m k))) (each_at lit_once l (read_lits sc b) (lits_once sc b) m))

      pub chunks_again : read_chunks (again_preds qs) sd again_body ≡ read_chunks qs sc b
      chunks_again = ap (λ (cs : List ChunkTree). map (read_chunk (again_preds qs) sd) cs) kinds_are ∙ each (in_kinds b.chunks) (λ c m. m)
        where
          each : (cs : List ChunkTree) → ((c : ChunkTree) → Among c cs → Among c (in_kinds b.chunks)) → map (read_chunk (again_preds qs) sd) (map (again_chunk qs sc) cs) ≡ map (read_chunk qs sc) cs
          each [] k = refl
          each (c ∷ cs) k =
              let here : Among c (in_kinds b.chunks) = k c (inl refl) in
              λ i. chunk_back qs sc sd c (kind_right c here) (λ v m. come_back v (chunks_come sc v qs b (flat_in term_part_vars v (read_chunk qs sc c) (read_chunks qs sc b) (Among-map (read_chunk qs sc) c (in_kinds b.chunks) here) m))) i
              ∷ each cs (λ d m. k d (inr m)) i

  -- ---- sizes

  pub sizes_again : size_faults b ≡ [] → size_faults again_body ≡ []
  sizes_again e = none_from size_fault again_body.chunks (λ c m.
      let f = map_from (again_chunk qs sc) c (in_kinds b.chunks) (subst (λ (cs : List ChunkTree). Among c cs) chunks_are m) in
      ap size_fault f.2 ∙ again_size qs sc f.0 (none_each size_fault b.chunks e f.0 (kinds_among b.chunks f.0 f.1)))
