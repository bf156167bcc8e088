-- Normal forms and facts, computed.
use Rattle.std.proofs.Common.{◌≡◌, ℕ, List, [], ◌∷◌, map, Some, None, refl}
use Rattle.cyp_goal.specs.Facts.{facts}
use Rattle.cyp_goal.specs.Normal.{normal}
use Rattle.cyp_heap.specs.declared.chunk.Chunk.{Chunk}
use Rattle.cyp_heap.specs.declared.goal.Node.{Node}
use Rattle.cyp_term.specs.declared.lit.Lit.{Lit}
use Rattle.cyp_term.specs.declared.lit.Lit.TheVariants.{Eq, Le, Lt, Ne, Same}
use Rattle.cyp_term.specs.declared.subst.IntBind.{IntBind}
use Rattle.cyp_term.specs.declared.term.Term.{Term}
use Rattle.cyp_term.specs.declared.term.Var.{Var}
use Rattle.cyp_heap.proofs.Short.{K, S, X, X+, block, cell, dispose, no_preds, node, num, swap, two_at_one, with_elem, write_five, x}

-- a node whose pre has one cell, at the first program variable
abbrev one_cell : List Var → List Lit → Term → Node
one_cell program pure_pre content = node no_preds program [] pure_pre (cell (X 0) content ∷ []) [] []

-- ---- addresses are positive

normal_write : normal write_five
    ≡ Some (record { node = node no_preds (x 0 ∷ []) [] (Lt (num 0) (X 0) ∷ []) (cell (X 0) (X 1) ∷ []) [] (cell (X 0) (num 5) ∷ []); old = x 0 ∷ [] })
normal_write = refl

normal_swap : normal swap
    ≡ Some (record {
      node = node no_preds (x 0 ∷ x 1 ∷ []) [] (Lt (num 0) (X 0) ∷ Lt (num 0) (X 1) ∷ []) (cell (X 0) (X 2) ∷ cell (X 1) (X 3) ∷ []) [] (cell (X 0) (X 3) ∷ cell (X 1) (X 2) ∷ []);
      old = x 0 ∷ x 1 ∷ [];
    })
normal_swap = refl

-- an instance says nothing of addresses
normal_dispose : normal dispose ≡ Some (record { node = dispose; old = x 0 ∷ [] })
normal_dispose = refl

-- of a block and its cells the base is the least address
normal_block : normal (node no_preds (x 0 ∷ []) [] [] (block (X 0) 2 ∷ cell (X+ 0 1) (X 1) ∷ []) [] [])
    ≡ Some (record { node = node no_preds (x 0 ∷ []) [] (Lt (num 0) (X 0) ∷ []) (block (X 0) 2 ∷ cell (X+ 0 1) (X 1) ∷ []) [] []; old = x 0 ∷ [] })
normal_block = refl

-- ---- equations

-- y == x + 2 is solved for the logical variable y, on whichever side it stands
solved_left : normal (one_cell (x 0 ∷ []) (Eq (X 1) (X+ 0 2) ∷ []) (X 1))
    ≡ Some (record { node = one_cell (x 0 ∷ []) (Lt (num 0) (X 0) ∷ []) (X+ 0 2); old = x 0 ∷ [] })
solved_left = refl

solved_right : normal (one_cell (x 0 ∷ []) (Eq (X+ 0 2) (X 1) ∷ []) (X 1))
    ≡ Some (record { node = one_cell (x 0 ∷ []) (Lt (num 0) (X 0) ∷ []) (X+ 0 2); old = x 0 ∷ [] })
solved_right = refl

-- an equation of two program variables stays
unsolved : normal (one_cell (x 0 ∷ x 1 ∷ []) (Eq (X 0) (X 1) ∷ []) (X 1))
    ≡ Some (record { node = one_cell (x 0 ∷ x 1 ∷ []) (Eq (X 0) (X 1) ∷ Lt (num 0) (X 0) ∷ []) (X 1); old = x 0 ∷ x 1 ∷ [] })
unsolved = refl

-- an equation of sets stays in the pre
sets_unsolved : normal (one_cell (x 0 ∷ []) (Same (S 0) (with_elem (X 0) 1) ∷ []) (num 5))
    ≡ Some (record { node = one_cell (x 0 ∷ []) (Same (S 0) (with_elem (X 0) 1) ∷ Lt (num 0) (X 0) ∷ []) (num 5); old = x 0 ∷ [] })
sets_unsolved = refl

-- an existential of the post is solved for
solved_post : normal (node no_preds (x 0 ∷ []) (x 1 ∷ []) [] [] (Eq (num 5) (X 1) ∷ []) (cell (X 0) (X 1) ∷ []))
    ≡ Some (record { node = node no_preds (x 0 ∷ []) [] [] [] [] (cell (X 0) (num 5) ∷ []); old = x 0 ∷ [] })
solved_post = refl

-- plain truths and repeats go
tidied : normal (one_cell (x 0 ∷ []) (Le (X 0) (X+ 0 1) ∷ Lt (num 0) (X 0) ∷ Lt (num 0) (X 0) ∷ []) (num 5))
    ≡ Some (record { node = one_cell (x 0 ∷ []) (Lt (num 0) (X 0) ∷ []) (num 5); old = x 0 ∷ [] })
tidied = refl

-- ---- limits

-- y is x + 2 ^ 32
just_fits : normal (one_cell (x 0 ∷ []) (Eq (X 1) (X+ 0 4294967296) ∷ []) (X 1))
    ≡ Some (record { node = one_cell (x 0 ∷ []) (Lt (num 0) (X 0) ∷ []) (X+ 0 4294967296); old = x 0 ∷ [] })
just_fits = refl

-- and y + 1 doesn't fit
too_wide : normal (one_cell (x 0 ∷ []) (Eq (X 1) (X+ 0 4294967296) ∷ []) (X+ 1 1)) ≡ None
too_wide = refl

abbrev numbers : List ℕ
numbers = 0 ∷ 1 ∷ 2 ∷ 3 ∷ 4 ∷ 5 ∷ 6 ∷ 7 ∷ 8 ∷ 9 ∷ 10 ∷ 11 ∷ []

abbrev used_variables : List ℕ → Node
used_variables ns = node no_preds (map x ns) [] (map (λ n. Le (num 0) (X n)) ns) [] [] []

twelve_variables : normal (used_variables numbers) ≡ Some (record { node = used_variables numbers; old = map x numbers })
twelve_variables = refl

thirteen_variables : normal (used_variables (12 ∷ numbers)) ≡ None
thirteen_variables = refl

-- ---- what is dropped

-- of x2 < x3 no variable is live; x7 is used and x4 isn't; the literals that tie x5 to x7 and to x9 stay; then all are numbered anew
pruned : normal (node no_preds (x 4 ∷ x 7 ∷ []) [] (Lt (X 2) (X 3) ∷ Le (X 7) (X 5) ∷ Le (X 5) (X 9) ∷ []) (cell (X 7) (X 9) ∷ []) [] [])
    ≡ Some (record { node = one_cell (x 0 ∷ []) (Le (X 0) (X 2) ∷ Le (X 2) (X 1) ∷ Lt (num 0) (X 0) ∷ []) (X 1); old = x 7 ∷ [] })
pruned = refl

-- a literal without variables stays, and so does a contradiction
no_variables : normal (one_cell (x 0 ∷ []) (Lt (num 1) (num 0) ∷ []) (num 5))
    ≡ Some (record { node = one_cell (x 0 ∷ []) (Lt (num 1) (num 0) ∷ Lt (num 0) (X 0) ∷ []) (num 5); old = x 0 ∷ [] })
no_variables = refl

-- an existential that doesn't occur goes
unused_existential : normal (node no_preds (x 0 ∷ []) (x 1 ∷ x 2 ∷ []) [] [] [] (cell (X 0) (X 2) ∷ []))
    ≡ Some (record { node = node no_preds (x 0 ∷ []) (x 1 ∷ []) [] [] [] (cell (X 0) (X 1) ∷ []); old = x 0 ∷ [] })
unused_existential = refl

-- ---- companions

-- the node with one companion, with this map and with a measure of these terms
abbrev linked : List IntBind → List Term → Node → Node
linked ints tuple n = record n { links = record { goal = write_five.goal; own = []; map = record { ints = ints; sets = [] }; tuple = tuple } ∷ [] }

-- nothing ties the cardinalities to the goal
cardinality_dropped : normal (one_cell (x 0 ∷ []) (Lt (K 2) (K 1) ∷ []) (num 5))
    ≡ Some (record { node = one_cell (x 0 ∷ []) (Lt (num 0) (X 0) ∷ []) (num 5); old = x 0 ∷ [] })
cardinality_dropped = refl

-- the measure of a companion has one of them, so the literal stays
cardinality_kept : normal (linked [] (K 1 ∷ []) (one_cell (x 0 ∷ []) (Lt (K 2) (K 1) ∷ []) (num 5)))
    ≡ Some (record { node = linked [] (K 1 ∷ []) (one_cell (x 0 ∷ []) (Lt (K 0) (K 1) ∷ Lt (num 0) (X 0) ∷ []) (num 5)); old = x 0 ∷ [] })
cardinality_kept = refl

-- a solved variable is replaced in the images of a map, and an entry goes where its image has a dropped program variable
map_followed : normal (linked (record { var = x 0; to = X 0 } ∷ record { var = x 1; to = X 1 } ∷ record { var = x 2; to = X 5 } ∷ []) [] (one_cell (x 0 ∷ x 5 ∷ []) (Eq (X 1) (X+ 0 2) ∷ []) (X 1)))
    ≡ Some (record { node = linked (record { var = x 0; to = X 0 } ∷ record { var = x 1; to = X+ 0 2 } ∷ []) [] (one_cell (x 0 ∷ []) (Lt (num 0) (X 0) ∷ []) (X+ 0 2)); old = x 0 ∷ [] })
map_followed = refl

-- ---- facts

abbrev facts_at : List Chunk → List Lit
facts_at cs = facts (node no_preds (x 0 ∷ x 1 ∷ []) [] (Lt (num 0) (X 0) ∷ []) cs [] []).goal

two_cells : facts_at (cell (X 0) (X 2) ∷ cell (X 1) (X 3) ∷ []) ≡ Lt (num 0) (X 0) ∷ Ne (X 0) (X 1) ∷ []
two_cells = refl

two_blocks : facts_at (block (X 0) 2 ∷ block (X 1) 1 ∷ []) ≡ Lt (num 0) (X 0) ∷ Ne (X 0) (X 1) ∷ []
two_blocks = refl

-- a block may stand at its own cells
block_and_cell : facts_at (block (X 0) 1 ∷ cell (X 0) (X 2) ∷ []) ≡ Lt (num 0) (X 0) ∷ []
block_and_cell = refl

-- where the offsets tell two addresses apart nothing is said
neighbours : facts_at (cell (X 0) (X 2) ∷ cell (X+ 0 1) (X 3) ∷ []) ≡ Lt (num 0) (X 0) ∷ []
neighbours = refl

-- two cells at one address are a contradiction
same_address : facts two_at_one.goal ≡ Ne (X 0) (X 0) ∷ []
same_address = refl
