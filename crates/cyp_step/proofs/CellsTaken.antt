-- The cells of a block are taken out one by one.
use Rattle.std.proofs.Common.{◌≡◌, ◌∙◌, ◌+◌, ◌-◌, ◌<◌, ◌≤◌, ℕ, pos, zero, suc, List, [], ◌∷◌, None, Option, Some, add-one, length, sym, ap, arith}
use Rattle.cyp_heap.specs.Chunks.{without}
use Rattle.cyp_heap.specs.declared.chunk.Chunk.{Chunk}
use Rattle.cyp_step.specs.FlatRules.{block_cells, cells_from, first_place, is_written_at, without_cells}
use Rattle.cyp_term.specs.Terms.{plus}
use Rattle.cyp_term.specs.declared.term.Term.{Term}

pub length-without : (cs : List Chunk) (k : ℕ) → length (without cs k) ≤ length cs
length-without [] k = omega arith
length-without (c ∷ cs) zero = omega arith
length-without (c ∷ cs) (suc k) = let rest = length-without cs k in omega arith

module _ (t : Term) (j m : ℕ) (cs : List Chunk) (r : Option (List Chunk)) (h : without_cells (cells_from t j (m - j)) cs ≡ r) where
  -- one address more
  first_cell : j < m → cells_from t j (m - j) ≡ plus t (pos j) ∷ cells_from t (j + 1) (m - (j + 1))
  first_cell lt =
      let left : m - j ≡ suc (m - (j + 1)) = omega arith in
      ap (cells_from t j) left ∙ ap (λ i. plus t (pos j) ∷ cells_from t i (m - (j + 1))) (sym (add-one j))

  -- what is left after a cell at that address
  taken : Option ℕ → Option (List Chunk)
  taken o = elim o [ None ↦ None | Some k ↦ without_cells (cells_from t (j + 1) (m - (j + 1))) (without cs k) ]

  at_first : j < m → taken (first_place (is_written_at (plus t (pos j))) 0 cs) ≡ r
  unfolding taken
  at_first lt = sym (ap (λ ts. without_cells ts cs) (first_cell lt)) ∙ h

  pub cell_taken : (k : ℕ) (o : Option ℕ) → j < m → o ≡ first_place (is_written_at (plus t (pos j))) 0 cs → o ≡ Some k
      → without_cells (cells_from t (j + 1) (m - (j + 1))) (without cs k) ≡ r
  unfolding taken
  cell_taken k o lt e f = ap taken (sym f ∙ e) ∙ at_first lt

  pub cell_missing : (o : Option ℕ) → j < m → o ≡ first_place (is_written_at (plus t (pos j))) 0 cs → o ≡ None → None ≡ r
  unfolding taken
  cell_missing o lt e f = ap taken (sym f ∙ e) ∙ at_first lt

-- the same block
pub same_block : (cs : List Chunk) (t u : Term) (m n : ℕ) → t ≡ u → m ≡ n → without_cells (cells_from t 0 m) cs ≡ without_cells (block_cells u n) cs
same_block cs t u m n e f = λ i. without_cells (cells_from (e i) 0 (f i)) cs
