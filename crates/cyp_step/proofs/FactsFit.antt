-- The facts of a node's goal are within the limits of the decision of entailment, and so are they with its pure postcondition.
use Rattle.std.proofs.Common.{◌≡◌, ◌≤◌, ◌+◌, ◌*◌, ◌∙◌, List, [], ◌∷◌, ◌++◌, Bool, true, false, cond, ◌||◌, IsTrue, not, append-nil, arith, flat_map, length, length-append, refl, le_trans, subst, sym, ⊎_elim}
use Rattle.std.proofs.lemmas.Bool.{and_from, le-leb}
use Rattle.std.proofs.lemmas.Grind.{flat_map-append}
use Rattle.cyp_goal.specs.Facts.{all_apart, apart, block_address, block_addresses, cell_address, cell_addresses, facts}
use Rattle.cyp_heap.specs.Chunks.{chunk_vars, chunks_vars}
use Rattle.cyp_heap.specs.Goals.{goal_vars}
use Rattle.cyp_heap.specs.Limits.{chunk_elements, goal_elements}
use Rattle.cyp_heap.specs.declared.chunk.Chunk.{Chunk}
use Rattle.cyp_heap.specs.declared.chunk.Chunk.TheVariants.{Block, Cell, Inst}
use Rattle.cyp_heap.specs.declared.goal.Goal.{Goal}
use Rattle.cyp_pure.proofs.Fewer.{fewer_without_repeats}
use Rattle.cyp_pure.specs.Fits.{fits}
use Rattle.cyp_step.proofs.Fewer.{fewer_pass}
use Rattle.cyp_step.specs.NodeGoals.{IsGoalOfNode}
use Rattle.cyp_term.proofs.Equality.{Decides-term_eq, Decides-var_eq}
use Rattle.cyp_term.proofs.Lists.{Among, Among-cases, Among-left, Among-right}
use Rattle.cyp_term.proofs.Repeats.{without_repeats_in}
use Rattle.cyp_term.specs.Terms.{base_eq, is_set_var, lit_elements, lit_vars, lits_vars, term_eq, term_vars, var_eq, without_repeats}
use Rattle.cyp_term.specs.declared.lit.Lit.{Lit}
use Rattle.cyp_term.specs.declared.lit.Lit.TheVariants.{Ne}
use Rattle.cyp_term.specs.declared.term.Term.{Term}
use Rattle.cyp_term.specs.declared.term.Var.{Var}

-- ---- that addresses lie apart

-- the test of two addresses
abbrev are_told : Term → Term → Bool
are_told a b = not (base_eq a.base b.base) || term_eq a b

few_apart : (a b : Term) (t : Bool) → length (cond t (Ne a b ∷ []) []) ≤ 1
few_apart a b true = omega arith
few_apart a b false = omega arith

few_from : (t : Term) (ts : List Term) → length (flat_map (apart t) ts) ≤ length ts
few_from t [] = omega arith
few_from t (u ∷ us) =
    let e = length-append (apart t u) (flat_map (apart t) us) in
    let here = few_apart t u (are_told t u) in
    let rest = few_from t us in
    omega arith

-- each of at most 16 addresses stands before at most 15 others
few_all_apart : (ts : List Term) → length ts ≤ 16 → length (all_apart ts) ≤ 15 * length ts
few_all_apart [] h = omega arith
few_all_apart (t ∷ ts) h =
    let e = length-append (flat_map (apart t) ts) (all_apart ts) in
    let here = few_from t ts in
    let rest = few_all_apart ts (omega arith) in
    omega arith

-- they have no element terms
plain_apart : (a b : Term) (t : Bool) → flat_map lit_elements (cond t (Ne a b ∷ []) []) ≡ []
plain_apart a b true = refl
plain_apart a b false = refl

plain_from : (t : Term) (ts : List Term) → flat_map lit_elements (flat_map (apart t) ts) ≡ []
plain_from t [] = refl
plain_from t (u ∷ us) = flat_map-append lit_elements (apart t u) (flat_map (apart t) us) ∙ (λ i. plain_apart t u (are_told t u) i ++ plain_from t us i)

plain_all_apart : (ts : List Term) → flat_map lit_elements (all_apart ts) ≡ []
plain_all_apart [] = refl
plain_all_apart (t ∷ ts) = flat_map-append lit_elements (flat_map (apart t) ts) (all_apart ts) ∙ (λ i. plain_from t ts i ++ plain_all_apart ts i)

-- ---- variables

module _ (P : Var → Type 0) where
  -- it holds of each of these
  abbrev Each : List Var → Type 0
  Each vs = (v : Var) → Among v vs → P v

  both : (us ws : List Var) → Each us → Each ws → Each (us ++ ws)
  both us ws p q = λ v k. ⊎_elim (p v) (q v) (Among-cases v us ws k)

  first : (us ws : List Var) → Each (us ++ ws) → Each us
  first us ws p = λ v k. p v (Among-left v us ws k)

  second : (us ws : List Var) → Each (us ++ ws) → Each ws
  second us ws p = λ v k. p v (Among-right v us ws k)

  in_both : (xs ys : List Lit) → Each (lits_vars xs) → Each (lits_vars ys) → Each (lits_vars (xs ++ ys))
  in_both xs ys p q = rw (flat_map-append lit_vars xs ys) (both (lits_vars xs) (lits_vars ys) p q)

  in_apart : (a b : Term) (t : Bool) → Each (term_vars a) → Each (term_vars b) → Each (lits_vars (cond t (Ne a b ∷ []) []))
  in_apart a b true p q = both (term_vars a ++ term_vars b) [] (both (term_vars a) (term_vars b) p q) (λ v k. absurd k)
  in_apart a b false p q = λ v k. absurd k

  in_from : (t : Term) (ts : List Term) → Each (term_vars t) → Each (flat_map term_vars ts) → Each (lits_vars (flat_map (apart t) ts))
  in_from t [] p q = λ v k. absurd k
  in_from t (u ∷ us) p q =
      in_both (apart t u) (flat_map (apart t) us) (in_apart t u (are_told t u) p (first (term_vars u) (flat_map term_vars us) q))
      (in_from t us p (second (term_vars u) (flat_map term_vars us) q))

  in_all_apart : (ts : List Term) → Each (flat_map term_vars ts) → Each (lits_vars (all_apart ts))
  in_all_apart [] p = λ v k. absurd k
  in_all_apart (t ∷ ts) p =
      let here = first (term_vars t) (flat_map term_vars ts) p in
      let rest = second (term_vars t) (flat_map term_vars ts) p in
      in_both (flat_map (apart t) ts) (all_apart ts) (in_from t ts here rest) (in_all_apart ts rest)

  at_cell : (c : Chunk) → Each (chunk_vars c) → Each (flat_map term_vars (cell_address c))
  at_cell (Inst i) p = λ v k. absurd k
  at_cell (Block k) p = λ v k. absurd k
  at_cell (Cell k) p = both (term_vars k.at) [] (first (term_vars k.at) (term_vars k.content) p) (λ v k. absurd k)

  at_block : (c : Chunk) → Each (chunk_vars c) → Each (flat_map term_vars (block_address c))
  at_block (Inst i) p = λ v k. absurd k
  at_block (Block k) p = both (term_vars k.at) [] p (λ v k. absurd k)
  at_block (Cell k) p = λ v k. absurd k

  at_all : (f : Chunk → List Term) → ((c : Chunk) → Each (chunk_vars c) → Each (flat_map term_vars (f c)))
      → (cs : List Chunk) → Each (chunks_vars cs) → Each (flat_map term_vars (flat_map f cs))
  at_all f h [] p = λ v k. absurd k
  at_all f h (c ∷ cs) p =
      rw (flat_map-append term_vars (f c) (flat_map f cs))
      (both (flat_map term_vars (f c)) (flat_map term_vars (flat_map f cs)) (h c (first (chunk_vars c) (chunks_vars cs) p))
      (at_all f h cs (second (chunk_vars c) (chunks_vars cs) p)))

  in_facts : (g : Goal) → Each (lits_vars g.pure_pre) → Each (chunks_vars g.pre.chunks) → Each (lits_vars (facts g))
  in_facts g p q =
      let cells = all_apart (cell_addresses g.pre.chunks) in
      in_both (g.pure_pre ++ cells) (all_apart (block_addresses g.pre.chunks))
      (in_both g.pure_pre cells p (in_all_apart (cell_addresses g.pre.chunks) (at_all cell_address at_cell g.pre.chunks q)))
      (in_all_apart (block_addresses g.pre.chunks) (at_all block_address at_block g.pre.chunks q))

-- ---- the goal of a node

few_addresses : (cs : List Chunk) → length (cell_addresses cs) + length (block_addresses cs) ≤ length cs
few_addresses [] = omega arith
few_addresses (Inst i ∷ cs) = let rest = few_addresses cs in omega arith
few_addresses (Block k ∷ cs) = let rest = few_addresses cs in omega arith
few_addresses (Cell k ∷ cs) = let rest = few_addresses cs in omega arith

few_facts : (g : Goal) → length g.pre.chunks ≤ 16 → length (facts g) ≤ length g.pure_pre + 240
few_facts g h =
    let cells = cell_addresses g.pre.chunks in
    let blocks = block_addresses g.pre.chunks in
    let few = few_addresses g.pre.chunks in
    let of_cells = few_all_apart cells (omega arith) in
    let of_blocks = few_all_apart blocks (omega arith) in
    let e = length-append (g.pure_pre ++ all_apart cells) (all_apart blocks) in
    let f = length-append g.pure_pre (all_apart cells) in
    omega arith

elements_of_facts : (g : Goal) → flat_map lit_elements (facts g) ≡ flat_map lit_elements g.pure_pre
elements_of_facts g =
    let cells = all_apart (cell_addresses g.pre.chunks) in
    let blocks = all_apart (block_addresses g.pre.chunks) in
    flat_map-append lit_elements (g.pure_pre ++ cells) blocks
    ∙ (λ i. flat_map-append lit_elements g.pure_pre cells i ++ plain_all_apart (block_addresses g.pre.chunks) i)
    ∙ append-nil (flat_map lit_elements g.pure_pre ++ flat_map lit_elements cells)
    ∙ (λ i. flat_map lit_elements g.pure_pre ++ plain_all_apart (cell_addresses g.pre.chunks) i)
    ∙ append-nil (flat_map lit_elements g.pure_pre)

module _ (g : Goal) (w : IsGoalOfNode g) where
  -- one of the goal's variables
  abbrev IsOf : Var → Type 0
  IsOf v = Among v (goal_vars g)

  -- literals of the goal's variables and element terms fit, where they are few
  fit : (ls : List Lit) → ((v : Var) → Among v (lits_vars ls) → IsOf v) → ((t : Term) → Among t (flat_map lit_elements ls) → Among t (goal_elements g))
      → length ls ≤ 320 → IsTrue (fits ls [])
  fit ls vars elements few =
      rw (append-nil ls)
      (and_from _ _
      (and_from _ _
      (and_from _ _
      (and_from _ _ (le-leb _ 32 (le_trans (fewer_pass var_eq Decides-var_eq (λ v. not (is_set_var v)) (lits_vars ls) (goal_vars g) vars) w.numbers))
      (le-leb _ 12 (le_trans (fewer_pass var_eq Decides-var_eq is_set_var (lits_vars ls) (goal_vars g) vars) w.sets)))
      (le-leb _ 6
      (le_trans
      (fewer_without_repeats term_eq Decides-term_eq (flat_map lit_elements ls) (without_repeats term_eq (goal_elements g))
      (λ t k. without_repeats_in term_eq Decides-term_eq t (goal_elements g) (elements t k)))
      w.elements)))
      (le-leb _ 320 few))
      refl)

  of_pre : (v : Var) → Among v (lits_vars g.pure_pre) → IsOf v
  of_pre v k =
      let before : List Var = g.program ++ chunks_vars g.pre.chunks ++ chunks_vars g.post.chunks in
      Among-left v (before ++ lits_vars g.pure_pre) (lits_vars g.pure_post) (Among-right v before (lits_vars g.pure_pre) k)

  of_chunks : (v : Var) → Among v (chunks_vars g.pre.chunks) → IsOf v
  of_chunks v k =
      let upto : List Var = g.program ++ chunks_vars g.pre.chunks in
      Among-left v (upto ++ chunks_vars g.post.chunks ++ lits_vars g.pure_pre) (lits_vars g.pure_post)
      (Among-left v (upto ++ chunks_vars g.post.chunks) (lits_vars g.pure_pre)
      (Among-left v upto (chunks_vars g.post.chunks) (Among-right v g.program (chunks_vars g.pre.chunks) k)))

  of_post : (v : Var) → Among v (lits_vars g.pure_post) → IsOf v
  of_post v k = Among-right v (g.program ++ chunks_vars g.pre.chunks ++ chunks_vars g.post.chunks ++ lits_vars g.pure_pre) (lits_vars g.pure_post) k

  of_facts : (v : Var) → Among v (lits_vars (facts g)) → IsOf v
  of_facts = in_facts IsOf g of_pre of_chunks

  element_of_pre : (t : Term) → Among t (flat_map lit_elements g.pure_pre) → Among t (goal_elements g)
  element_of_pre t k =
      let pre : List Term = flat_map lit_elements g.pure_pre in
      let of_pre_chunks : List Term = flat_map chunk_elements g.pre.chunks in
      let post : List Term = flat_map lit_elements g.pure_post in
      Among-left t (pre ++ of_pre_chunks ++ post) (flat_map chunk_elements g.post.chunks)
      (Among-left t (pre ++ of_pre_chunks) post (Among-left t pre of_pre_chunks k))

  element_of_post : (t : Term) → Among t (flat_map lit_elements g.pure_post) → Among t (goal_elements g)
  element_of_post t k =
      let before : List Term = flat_map lit_elements g.pure_pre ++ flat_map chunk_elements g.pre.chunks in
      Among-left t (before ++ flat_map lit_elements g.pure_post) (flat_map chunk_elements g.post.chunks)
      (Among-right t before (flat_map lit_elements g.pure_post) k)

  element_of_facts : (t : Term) → Among t (flat_map lit_elements (facts g)) → Among t (goal_elements g)
  element_of_facts t k = element_of_pre t (subst (λ ts. Among t ts) (elements_of_facts g) k)

  facts_alone : IsTrue (fits (facts g) [])
  facts_alone =
      let few = few_facts g w.pre_chunks in
      let pure : length g.pure_pre ≤ 40 = w.pure_pre in
      fit (facts g) of_facts element_of_facts (omega arith)

  facts_and_post : IsTrue (fits (facts g ++ g.pure_post) [])
  facts_and_post =
      let few = few_facts g w.pre_chunks in
      let pre : length g.pure_pre ≤ 40 = w.pure_pre in
      let post : length g.pure_post ≤ 40 = w.pure_post in
      let e = length-append (facts g) g.pure_post in
      fit (facts g ++ g.pure_post) (in_both IsOf (facts g) g.pure_post of_facts of_post)
      (λ t k.
      ⊎_elim (element_of_facts t) (element_of_post t)
      (Among-cases t (flat_map lit_elements (facts g)) (flat_map lit_elements g.pure_post) (subst (λ ts. Among t ts) (flat_map-append lit_elements (facts g) g.pure_post) k)))
      (omega arith)

  pub facts_fit : (ls : List Lit) → ls ≡ facts g → IsTrue (fits ls [])
  facts_fit ls e = rw e facts_alone

  pub facts_and_post_fit : (ls fs ps : List Lit) → fs ≡ facts g → ps ≡ g.pure_post → ls ≡ fs ++ ps → IsTrue (fits ls [])
  facts_and_post_fit ls fs ps d e f = subst (λ xs. IsTrue (fits xs [])) (sym (f ∙ (λ i. d i ++ e i))) facts_and_post
