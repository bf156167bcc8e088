-- A block and its cells are put among chunks.
use Rattle.std.proofs.Common.{◌≡◌, ◌∙◌, ◌+◌, ◌-◌, ◌++◌, ◌<◌, ◌≤◌, ℕ, suc, List, [], ◌∷◌, IsTrue, append-nil, append_assoc, insert, map, nat_lt, pos, refl, subst, sym, ap, arith}
use Rattle.std.specs.List.{position_or_len}
use Rattle.cyp_heap.proofs.Order.{put-insert, put_in_order}
use Rattle.cyp_heap.specs.Chunks.{in_order, kind_rank, put, put_all}
use Rattle.cyp_heap.specs.declared.chunk.BlockAt.{BlockAt}
use Rattle.cyp_heap.specs.declared.chunk.CellAt.{CellAt}
use Rattle.cyp_heap.specs.declared.chunk.Chunk.{Chunk}
use Rattle.cyp_heap.specs.declared.chunk.Chunk.TheVariants.{Block, Cell, Inst}
use Rattle.cyp_heap.specs.declared.goal.Goal.{Goal}
use Rattle.cyp_pred.specs.Unfold.{new_ints}
use Rattle.cyp_step.specs.FlatGoals.{allocated_goal, with_block, with_pre}
use Rattle.cyp_step.specs.FlatRules.{new_cells}
use Rattle.cyp_term.specs.Terms.{plus, var_term}
use Rattle.cyp_term.specs.declared.lit.Lit.{Lit}
use Rattle.cyp_term.specs.declared.lit.Lit.TheVariants.{Eq}
use Rattle.cyp_term.specs.declared.term.Sort.TheVariants.{Int}
use Rattle.cyp_term.specs.declared.term.Term.{Term}
use Rattle.cyp_term.specs.declared.term.Var.{Var}

-- ---- cells stand at the end

put_cell : (cs : List Chunk) (c : CellAt) → put cs (Cell c) ≡ cs ++ Cell c ∷ []
put_cell [] c = refl
put_cell (Inst i ∷ cs) c = ap (λ ds. Inst i ∷ ds) (put_cell cs c)
put_cell (Block b ∷ cs) c = ap (λ ds. Block b ∷ ds) (put_cell cs c)
put_cell (Cell d ∷ cs) c = ap (λ ds. Cell d ∷ ds) (put_cell cs c)

put_cells : (cs : List Chunk) (t : Term) (j : ℕ) (vs : List Term) → put_all cs (new_cells t j vs) ≡ cs ++ new_cells t j vs
put_cells cs t j [] = sym (append-nil cs)
put_cells cs t j (v ∷ vs) =
    let c : CellAt = record { at = plus t (pos j); content = v } in
    ap (λ ds. put_all ds (new_cells t (suc j) vs)) (put_cell cs c) ∙ put_cells (cs ++ Cell c ∷ []) t (suc j) vs ∙ append_assoc cs (Cell c ∷ []) (new_cells t (suc j) vs)

pub all_in_order : (cs ds : List Chunk) → IsTrue (in_order cs) → IsTrue (in_order (put_all cs ds))
all_in_order cs [] h = h
all_in_order cs (d ∷ ds) h = all_in_order (put cs d) ds (put_in_order cs d h)

with_block_in_order : (cs : List Chunk) (z : Var) (n : ℕ) → IsTrue (in_order cs) → IsTrue (in_order (with_block cs z n))
with_block_in_order cs z n h =
    let block : Chunk = Block (record { at = var_term z; size = n }) in
    all_in_order (put cs block) (new_cells (var_term z) 0 (map var_term (new_ints (suc z.number) n))) (put_in_order cs block h)

-- ---- one by one

-- the cell that is so far behind the base, and the cells from there on
abbrev pub cell_of : Var → ℕ → Chunk
cell_of z j = Cell (record { at = plus (var_term z) (pos j); content = var_term (record { sort = Int; number = suc z.number + j }) })

abbrev pub cells_left : Var → ℕ → ℕ → List Chunk
cells_left z n j = new_cells (var_term z) j (map var_term (new_ints (suc z.number + j) (n - j)))

module _ (z : Var) (n : ℕ) where
  one_more : (j : ℕ) → j < n → cells_left z n j ≡ cell_of z j ∷ cells_left z n (j + 1)
  one_more j lt =
      let left : n - j ≡ suc (n - (j + 1)) = omega arith in
      let place : suc j ≡ j + 1 = omega arith in
      let number : suc (suc z.number + j) ≡ suc z.number + (j + 1) = omega arith in
      ap (λ m. new_cells (var_term z) j (map var_term (new_ints (suc z.number + j) m))) left
      ∙ (λ i. cell_of z j ∷ new_cells (var_term z) (place i) (map var_term (new_ints (number i) (n - (j + 1)))))

  pub cell_put : (j : ℕ) (cs ds : List Chunk) (c : Chunk) (r : List Chunk) → j < n → c ≡ cell_of z j → ds ≡ cs ++ c ∷ [] → cs ++ cells_left z n j ≡ r
      → ds ++ cells_left z n (j + 1) ≡ r
  cell_put j cs ds c r lt is made h =
      ap (λ es. es ++ cells_left z n (j + 1)) made ∙ append_assoc cs (c ∷ []) (cells_left z n (j + 1)) ∙ ap (λ d. cs ++ d ∷ cells_left z n (j + 1)) is
      ∙ ap (λ es. cs ++ es) (sym (one_more j lt)) ∙ h

  cells_put : (j : ℕ) (cs r : List Chunk) → n ≤ j → cs ++ cells_left z n j ≡ r → cs ≡ r
  cells_put j cs r le h =
      let none : n - j ≡ 0 = omega arith in
      sym (append-nil cs) ∙ sym (ap (λ m. cs ++ new_cells (var_term z) j (map var_term (new_ints (suc z.number + j) m))) none) ∙ h

  -- the block at a base
  abbrev pub block_at : Term → BlockAt
  block_at t = record { at = t; size = n }

  pub block_put : (cs bs seen ds : List Chunk) (k : ℕ) (t : Term) (b : BlockAt) → bs ≡ cs → seen ≡ bs → t ≡ var_term z → b ≡ block_at t → k ≡ position_or_len (λ c. nat_lt 1 (kind_rank c)) seen
      → ds ≡ insert bs k (Block b) → ds ++ cells_left z n 0 ≡ with_block cs z n
  block_put cs bs seen ds k t b same view base is place made =
      let block : Chunk = Block (block_at (var_term z)) in
      let whole : b ≡ block_at (var_term z) = is ∙ ap block_at base in
      let there : k ≡ position_or_len (λ c. nat_lt 1 (kind_rank c)) cs = place ∙ ap (position_or_len (λ c. nat_lt 1 (kind_rank c))) (view ∙ same) in
      let put_in : ds ≡ put cs block = made ∙ (λ i. insert (same i) (there i) (Block (whole i))) ∙ put-insert cs block in
      let first : suc z.number + 0 ≡ suc z.number = omega arith in
      let all : n - 0 ≡ n = omega arith in
      (λ i. put_in i ++ new_cells (var_term z) 0 (map var_term (new_ints (first i) (all i)))) ∙ sym (put_cells (put cs block) (var_term z) 0 (map var_term (new_ints (suc z.number) n)))

  pub made_in_order : (j : ℕ) (cs bs ds : List Chunk) → bs ≡ cs → IsTrue (in_order bs) → n ≤ j → ds ++ cells_left z n j ≡ with_block cs z n → IsTrue (in_order ds)
  made_in_order j cs bs ds same order le h =
      subst (λ es. IsTrue (in_order es)) (sym (cells_put j ds (with_block cs z n) le h)) (with_block_in_order cs z n (subst (λ es. IsTrue (in_order es)) same order))

-- ---- the goal

pub allocated_made : (g h : Goal) (z : Var) (f : BlockAt) (at t : Term) (m : ℕ) (ps cs : List Chunk) (vs : List Var) (ls : List Lit) → at ≡ f.at → t ≡ var_term z → m ≡ f.size
    → ps ≡ g.pre.chunks → cs ≡ with_block ps z m → h ≡ with_pre g cs → vs ≡ h.program ++ z ∷ [] → ls ≡ h.pure_post ++ Eq at t ∷ []
    → record h { program = vs; pure_post = ls } ≡ allocated_goal g z f
allocated_made g h z f at t m ps cs vs ls a e s p b d v l =
    (λ j. record h { program = v j; pure_post = l j })
    ∙ ap (λ (k : Goal). record k { program = k.program ++ z ∷ []; pure_post = k.pure_post ++ Eq at t ∷ [] }) (d ∙ ap (with_pre g) (b ∙ (λ i. with_block (p i) z (s i))))
    ∙ (λ j. record g { program = g.program ++ z ∷ []; pre = record { chunks = with_block g.pre.chunks z f.size }; pure_post = g.pure_post ++ Eq (a j) (e j) ∷ [] })
