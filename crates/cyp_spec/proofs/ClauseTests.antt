-- The limits of a clause as its tree tells them.
use Rattle.std.proofs.Common.{◌≡◌, ◌∙◌, [], ◌++◌, ◌&&◌, List, Bool, true, false, flat_map, length, map, nat_le, ◌<◌, ◌≤◌, refl, ap, sym}
use Rattle.std.proofs.lemmas.Bool.{and_from, and_parts, false≢true, le-leb, lt-leb}
use Rattle.std.proofs.lemmas.List.{length-map}
use Rattle.std.proofs.lemmas.List.Folds.{flat_map-map}
use Rattle.cyp_heap.specs.Limits.{chunk_elements}
use Rattle.cyp_heap.specs.PredsFormed.{is_clause_within}
use Rattle.cyp_spec.proofs.KindsTogether.{flat_map-in_kinds}
use Rattle.cyp_spec.specs.Elements.{body_elements, tree_elements}
use Rattle.cyp_reading.proofs.Lengths.{kinds_length}
use Rattle.cyp_term.specs.Terms.{lit_elements, term_eq, without_repeats}
use Rattle.cyp_term.specs.declared.term.Sort.TheVariants.{Int, Set}
use Rattle.cyp_names.specs.Bodies.{in_kinds, is_block, is_cell}
use Rattle.cyp_names.specs.ReadTerms.{Scope, read_chunk, read_lits}
use Rattle.cyp_names.specs.Specifications.{clause_scope, count_sort, read_clause}
use Rattle.cyp_text.specs.declared.tree.ChunkTree.{ChunkTree}
use Rattle.cyp_text.specs.declared.tree.ChunkTree.TheVariants.{BlockOf, InstanceOf, NamedCell, TermCell}
use Rattle.cyp_text.specs.declared.tree.ClauseTree.{ClauseTree}
use Rattle.cyp_text.specs.declared.tree.ParamTree.{ParamTree}
use Rattle.cyp_text.specs.declared.tree.PredTree.{PredTree}

-- ---- element terms

module _ (qs : List PredTree) (sc : Scope) where
  blocks_none : (c : ChunkTree) → is_block c ≡ true → tree_elements qs sc c ≡ []
  blocks_none (BlockOf a p n) e = refl
  blocks_none (InstanceOf i xs) e = absurd (false≢true e)
  blocks_none (NamedCell i t) e = absurd (false≢true e)
  blocks_none (TermCell a t) e = absurd (false≢true e)

  cells_none : (c : ChunkTree) → is_cell c ≡ true → tree_elements qs sc c ≡ []
  cells_none (NamedCell i t) e = refl
  cells_none (TermCell a t) e = refl
  cells_none (BlockOf a p n) e = absurd (false≢true e)
  cells_none (InstanceOf i xs) e = absurd (false≢true e)

  -- the chunks' element terms, whatever their order by kinds
  pub chunks_elements : (cs : List ChunkTree) → flat_map chunk_elements (map (read_chunk qs sc) (in_kinds cs)) ≡ flat_map (tree_elements qs sc) cs
  chunks_elements cs =
      flat_map-map chunk_elements (read_chunk qs sc) (in_kinds cs) ∙ flat_map-in_kinds (tree_elements qs sc) (record { blocks = blocks_none; cells = cells_none }) cs

  pub chunks_count : (cs : List ChunkTree) → length (map (read_chunk qs sc) (in_kinds cs)) ≡ length cs
  chunks_count cs = length-map (in_kinds cs) (read_chunk qs sc) ∙ kinds_length cs

-- ---- five tests

middle_fails : (a b c d e : Bool) → (c && d) ≡ false → false ≡ (a && b && c && d && e)
middle_fails false b c d e h = refl
middle_fails true false c d e h = refl
middle_fails true true c d e h = sym (ap (λ (x : Bool). x && e) h)

second_fails : (a b c d e : Bool) → b ≡ false → false ≡ (a && b && c && d && e)
second_fails false b c d e h = refl
second_fails true b c d e h = sym (ap (λ (x : Bool). x && c && d && e) h)

all_pass : (a b c d e f : Bool) → a ≡ true → b ≡ true → (c && d) ≡ true → f ≡ e → f ≡ (a && b && c && d && e)
all_pass a b c d e f h k l m = m ∙ sym (ap (λ (x : Bool). x && e) l) ∙ sym (ap (λ (x : Bool). x && c && d && e) k) ∙ sym (ap (λ (x : Bool). x && b && c && d && e) h)

-- ---- the tests of a clause

module _ (qs : List PredTree) (ps : List ParamTree) (c : ClauseTree) where
  abbrev sc : Scope
  sc = clause_scope qs ps c

  abbrev few_chunks : Bool
  few_chunks = nat_le (length c.body.chunks) 8

  abbrev few_lits : Bool
  few_lits = nat_le (length (read_lits sc c.body)) 8

  abbrev few_ints : Bool
  few_ints = nat_le (count_sort Int sc) 64

  abbrev few_sets : Bool
  few_sets = nat_le (count_sort Set sc) 32

  abbrev few_elements : Bool
  few_elements = nat_le (length (without_repeats term_eq (body_elements qs sc c.body))) 32

  within_is : is_clause_within (read_clause qs ps c) ≡ (few_chunks && few_lits && few_ints && few_sets && few_elements)
  within_is = λ i.
      nat_le (chunks_count qs sc c.body.chunks i) 8 && few_lits && few_ints && few_sets
      && nat_le (length (without_repeats term_eq (flat_map lit_elements (read_lits sc c.body) ++ chunks_elements qs sc c.body.chunks i))) 32

  pub many_chunks : 8 < length c.body.chunks → false ≡ is_clause_within (read_clause qs ps c)
  many_chunks h = sym (within_is ∙ ap (λ (x : Bool). x && few_lits && few_ints && few_sets && few_elements) (lt-leb (length c.body.chunks) 8 h))

  pub many_names : (few_ints && few_sets) ≡ false → false ≡ is_clause_within (read_clause qs ps c)
  many_names h = middle_fails few_chunks few_lits few_ints few_sets few_elements h ∙ sym within_is

  pub many_lits : 8 < length (read_lits sc c.body) → false ≡ is_clause_within (read_clause qs ps c)
  many_lits h = second_fails few_chunks few_lits few_ints few_sets few_elements (lt-leb (length (read_lits sc c.body)) 8 h) ∙ sym within_is

  pub elements_decide : length c.body.chunks ≤ 8 → length (read_lits sc c.body) ≤ 8 → (few_ints && few_sets) ≡ true → (f : Bool) → f ≡ few_elements
      → f ≡ is_clause_within (read_clause qs ps c)
  elements_decide h k l f m =
      all_pass few_chunks few_lits few_ints few_sets few_elements f (le-leb (length c.body.chunks) 8 h) (le-leb (length (read_lits sc c.body)) 8 k) l m ∙ sym within_is

  -- a clause within the limits has few names
  pub names_within : is_clause_within (read_clause qs ps c) ≡ true → (few_ints && few_sets) ≡ true
  names_within e =
      let all = and_parts (few_chunks && few_lits && few_ints && few_sets) few_elements (sym within_is ∙ e) in
      let sets = and_parts (few_chunks && few_lits && few_ints) few_sets all.0 in
      let ints = and_parts (few_chunks && few_lits) few_ints sets.0 in
      and_from few_ints few_sets ints.1 sets.1
