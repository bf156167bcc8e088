-- Instances in clauses that are read are plain, and clauses that have some own a cell; no two guards can both hold.
use Rattle.std.proofs.Common.{List, [], ap, cond, false, filter, inl, inr, map, not, refl, sym, true, ◌&&◌, ◌++◌, ◌∙◌, ◌∷◌, ◌≡◌, ◌||◌}
use Rattle.std.specs.Prelude.{Bool, is_none, ◌==◌}
use Rattle.std.specs.List.{list_all, list_any}
use Rattle.std.proofs.lemmas.Bool.{and_from}
use Rattle.cyp_heap.specs.Chunks.{insts, is_inst}
use Rattle.cyp_heap.specs.Formed.{inst_fits}
use Rattle.cyp_heap.specs.PredsFormed.{none_overlap, overlap}
use Rattle.cyp_heap.specs.PredsFormed as formed
use Rattle.cyp_heap.specs.declared.chunk.InstOf.{InstOf}
use Rattle.cyp_lex.specs.declared.fault.FaultKind.TheVariants.{GuardsOverlap}
use Rattle.cyp_term.specs.declared.lit.Lit.{Lit}
use Rattle.cyp_term.proofs.Lists.{Among, Among-left, Among-right, Among-map, filter_in, map_from, some_from, some_out}
use Rattle.cyp_names.specs.Bodies.{in_kinds, is_block, is_cell, is_instance}
use Rattle.cyp_names.specs.PredFaults.{overlap_faults, overlaps}
use Rattle.cyp_names.specs.NameFaults.{chunk_faults, fault_at, lit_place}
use Rattle.cyp_names.specs.ReadTerms.{Scope, read_chunk}
use Rattle.cyp_names.specs.Specifications.{read_preds}
use Rattle.cyp_text.specs.declared.tree.ChunkTree.{ChunkTree}
use Rattle.cyp_text.specs.declared.tree.ChunkTree.TheVariants.{BlockOf, InstanceOf, NamedCell, TermCell}
use Rattle.cyp_text.specs.declared.tree.ClauseTree.{ClauseTree}
use Rattle.cyp_text.specs.declared.tree.PredTree.{PredTree}
use Rattle.cyp_names.specs.Uses.{pred_named}
use Rattle.cyp_formed.proofs.FormedInstances.{fits_named, kinds_among}
use Rattle.cyp_names.proofs.NoFaults.{none_both}
use Rattle.cyp_names.proofs.NoFaults.{test_false}

-- ---- instances

pub plain_insts : (qs : List PredTree) (sc : Scope) (cs : List ChunkTree) → ((c : ChunkTree) → Among c cs → chunk_faults qs c ≡ [])
    → list_all (λ (i : InstOf). inst_fits (read_preds qs) i && is_none i.card && (i.tag == 0)) (insts (map (read_chunk qs sc) cs)) ≡ true
plain_insts qs sc [] h = refl
plain_insts qs sc (NamedCell i t ∷ cs) h = plain_insts qs sc cs (λ c m. h c (inr m))
plain_insts qs sc (TermCell a t ∷ cs) h = plain_insts qs sc cs (λ c m. h c (inr m))
plain_insts qs sc (BlockOf a p n ∷ cs) h = plain_insts qs sc cs (λ c m. h c (inr m))
plain_insts qs sc (InstanceOf i xs ∷ cs) h =
    and_from _ _ (and_from _ _ (and_from _ _ (fits_named qs sc i xs (pred_named i.text qs) refl (h (InstanceOf i xs) (inl refl))) refl) refl) (plain_insts qs sc cs (λ c m. h c (inr m)))

-- ---- cells

inst_tree : (qs : List PredTree) (sc : Scope) (c : ChunkTree) → is_inst (read_chunk qs sc c) ≡ is_instance c
inst_tree qs sc (NamedCell i t) = refl
inst_tree qs sc (TermCell a t) = refl
inst_tree qs sc (BlockOf a p n) = refl
inst_tree qs sc (InstanceOf i xs) = refl

cell_tree : (qs : List PredTree) (sc : Scope) (c : ChunkTree) → formed.is_cell (read_chunk qs sc c) ≡ is_cell c
cell_tree qs sc (NamedCell i t) = refl
cell_tree qs sc (TermCell a t) = refl
cell_tree qs sc (BlockOf a p n) = refl
cell_tree qs sc (InstanceOf i xs) = refl

module _ (qs : List PredTree) (sc : Scope) (cs : List ChunkTree) where
  -- an instance of the heap is one of the text, and a cell of the text one of the heap
  inst_before : list_any is_inst (map (read_chunk qs sc) (in_kinds cs)) ≡ true → list_any is_instance cs ≡ true
  inst_before e =
      let o = some_out is_inst (map (read_chunk qs sc) (in_kinds cs)) e in
      let f = map_from (read_chunk qs sc) o.0 (in_kinds cs) o.1 in
      some_from is_instance f.0 cs (kinds_among cs f.0 f.1) (sym (inst_tree qs sc f.0) ∙ ap is_inst (sym f.2) ∙ o.2)

  cell_after : list_any is_cell cs ≡ true → list_any formed.is_cell (map (read_chunk qs sc) (in_kinds cs)) ≡ true
  cell_after e =
      let o = some_out is_cell cs e in
      let there : Among o.0 (in_kinds cs) = Among-right o.0 (filter is_instance cs ++ filter is_block cs) (filter is_cell cs) (filter_in is_cell o.0 cs o.1 o.2) in
      some_from formed.is_cell (read_chunk qs sc o.0) (map (read_chunk qs sc) (in_kinds cs)) (Among-map (read_chunk qs sc) o.0 (in_kinds cs) there) (cell_tree qs sc o.0 ∙ o.2)

  pub owns_cell : (list_any is_instance cs && not (list_any is_cell cs)) ≡ false
      → (not (list_any is_inst (map (read_chunk qs sc) (in_kinds cs))) || list_any formed.is_cell (map (read_chunk qs sc) (in_kinds cs))) ≡ true
  owns_cell e = by_tests (list_any is_inst (map (read_chunk qs sc) (in_kinds cs))) refl (list_any is_cell cs) refl
    where
      by_tests : (x : Bool) → list_any is_inst (map (read_chunk qs sc) (in_kinds cs)) ≡ x → (y : Bool) → list_any is_cell cs ≡ y
          → (not x || list_any formed.is_cell (map (read_chunk qs sc) (in_kinds cs))) ≡ true
      by_tests false p y q = refl
      by_tests true p true q = cell_after q
      by_tests true p false q = let wrong = rw (inst_before p, q) at e in absurd cc

-- ---- guards

no_overlap_in : (guard : ClauseTree → Lit) (seen : List Lit) (cs : List ClauseTree) → overlap_faults guard seen cs ≡ [] → (g : Lit) → Among g seen → list_any (overlap g) (map guard cs) ≡ false
no_overlap_in guard seen [] e g m = refl
no_overlap_in guard seen (c ∷ cs) e g m = by_test (overlap g (guard c)) refl (no_overlap_in guard (seen ++ guard c ∷ []) cs parts.1 g (Among-left g seen (guard c ∷ []) m))
  where
    parts : (cond (overlaps seen (guard c)) (fault_at GuardsOverlap (lit_place c.guard)) [] ≡ []) × (overlap_faults guard (seen ++ guard c ∷ []) cs ≡ [])
    parts = none_both _ (overlap_faults guard (seen ++ guard c ∷ []) cs) e

    by_test : (t : Bool) → overlap g (guard c) ≡ t → list_any (overlap g) (map guard cs) ≡ false → (t || list_any (overlap g) (map guard cs)) ≡ false
    by_test false p h = h
    by_test true p h =
        let yes : overlaps seen (guard c) ≡ true = some_from (λ (h : Lit). overlap h (guard c)) g seen m p in
        let wrong : overlaps seen (guard c) ≡ false = test_false (overlaps seen (guard c)) _ [] parts.0 in
        absurd cc

pub none_overlaps : (guard : ClauseTree → Lit) (seen : List Lit) (cs : List ClauseTree) → overlap_faults guard seen cs ≡ [] → none_overlap (map guard cs) ≡ true
none_overlaps guard seen [] e = refl
none_overlaps guard seen (c ∷ cs) e =
    let rest : overlap_faults guard (seen ++ guard c ∷ []) cs ≡ [] = (none_both (cond (overlaps seen (guard c)) (fault_at GuardsOverlap (lit_place c.guard)) []) (overlap_faults guard (seen ++ guard c ∷ []) cs) e).1 in
    and_from _ _ (ap not (no_overlap_in guard (seen ++ guard c ∷ []) cs rest (guard c) (Among-right (guard c) seen (guard c ∷ []) (inl refl)))) (none_overlaps guard (seen ++ guard c ∷ []) cs rest)
