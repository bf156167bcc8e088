-- The rules that unfold nothing: Read, Frame, Write, Free, Alloc and Pick.
use Rattle.std.specs.Prelude.{[], ◌&&◌, ◌++◌, ◌==◌, Bool, List, None, Option, Some, cond, count_by, false, filter, length, map, nat_le, not, option_map, pos, slice_get, slice_set, suc, true, zero, ◌||◌, ℕ, ◌∷◌}
use Rattle.std.specs.List.{list_all, list_any}
use Rattle.std.specs.Ordering.{int_eq}
use Rattle.cyp_heap.specs.Chunks.{chunks_vars, insts, put, put_all, without}
use Rattle.cyp_heap.specs.Goals.{goal_vars}
use Rattle.cyp_heap.specs.declared.chunk.Chunk.{Chunk}
use Rattle.cyp_heap.specs.declared.chunk.Chunk.TheVariants.{Block, Cell}
use Rattle.cyp_heap.specs.declared.goal.Goal.{Goal}
use Rattle.cyp_heap.specs.declared.goal.Node.{Node}
use Rattle.cyp_pred.specs.Unfold.{new_ints}
use Rattle.cyp_step.specs.Changes.{Raws, add_post, add_pre, new_int, post_of, pre_of, where_true}
use Rattle.cyp_step.specs.Shown.{is_open, is_program_expr, shown}
use Rattle.cyp_term.specs.Terms.{is_set_var, lits_vars, plus, set_var, sort_eq, term_eq, term_vars, var_eq, var_in, var_term}
use Rattle.cyp_term.specs.declared.lit.Lit.{Lit}
use Rattle.cyp_term.specs.declared.lit.Lit.TheVariants.{Eq, Same}
use Rattle.cyp_term.specs.declared.term.Sort.{Sort}
use Rattle.cyp_term.specs.declared.term.Sort.TheVariants.{Card}
use Rattle.cyp_term.specs.declared.term.Term.{Term}
use Rattle.cyp_term.specs.declared.term.Var.{Var}
use Rattle.cyp_unify.specs.Frames.{frame_pairs}
use Rattle.cyp_unify.specs.declared.found.Pair.{Pair}

-- there is a variable, and it occurs at least twice in the chunks and literals of the goal
abbrev pub base_occurs_twice : Goal → Option Var → Bool
base_occurs_twice g None = false
base_occurs_twice g (Some v) =
    nat_le 2 (count_by (var_eq v) (chunks_vars g.pre.chunks ++ chunks_vars g.post.chunks ++ lits_vars g.pure_pre ++ lits_vars g.pure_post))

-- the variable of a term stands more than once in chunks and literals
abbrev pub occurs_elsewhere : Goal → Term → Bool
occurs_elsewhere g t = base_occurs_twice g t.base

-- a new program variable takes the place of the content
abbrev pub raw_read : Node → ℕ → Option Chunk → Raws
raw_read n i (Some (Cell c)) =
    where_true (is_program_expr n.goal c.at && not (is_program_expr n.goal c.content) && occurs_elsewhere n.goal c.content)
    (let y : Var = new_int n in
    let m : Node = add_pre n (Eq (var_term y) c.content ∷ []) (slice_set (pre_of n) i (Cell (record { at = c.at; content = var_term y }))) in
    Some (record m { goal = record m.goal { program = n.goal.program ++ y ∷ [] } } ∷ []))
raw_read n i _ = None

-- the pair with this chunk of the pre
abbrev pub pair_at : ℕ → List Pair → Option Pair
pair_at i [] = None
pair_at i (p ∷ ps) = cond (p.pre == i) (Some p) (pair_at i ps)

-- the focus and the chunk go, and what makes them equal is left to show
abbrev pub raw_frame : Node → ℕ → Raws
raw_frame n i = elim (pair_at i (frame_pairs n.goal)) [
  | None ↦ None
  | Some p ↦ elim (list_all (λ l. is_open n.goal l || shown n.goal (l ∷ [])) p.lits) [
    | false ↦ None
    | true ↦ Some (add_post (add_pre n [] (without (pre_of n) i)) p.lits (without (post_of n) 0) ∷ [])
  ]
]

-- the chunk is a cell at an address that is shown equal
abbrev pub is_cell_at : Goal → Term → Chunk → Bool
is_cell_at g t (Cell c) = shown g (Eq t c.at ∷ [])
is_cell_at g t _ = false

-- the first place at or after k whose chunk passes
abbrev pub first_place : (Chunk → Bool) → ℕ → List Chunk → Option ℕ
first_place p k [] = None
first_place p k (c ∷ cs) = elim (p c) [ true ↦ Some k | false ↦ first_place p (suc k) cs ]

-- a place was found, and it is this one
abbrev pub is_place : ℕ → Option ℕ → Bool
is_place i None = false
is_place i (Some k) = i == k

-- the term has an existential
abbrev pub has_exist : Goal → Term → Bool
has_exist g t = list_any (λ v. var_in v g.exist) (term_vars t)

-- the focus's content is stored in the cell
abbrev pub raw_write : Node → ℕ → Option Chunk → Option Chunk → Raws
raw_write n i (Some (Cell f)) (Some (Cell c)) =
    elim (not (has_exist n.goal f.at) && is_program_expr n.goal c.at && is_program_expr n.goal f.content) [
      | false ↦ None
      | true ↦ elim (is_place i (first_place (is_cell_at n.goal f.at) 0 (pre_of n))) [
        | false ↦ None
        | true ↦ elim (shown n.goal (Eq f.content c.content ∷ [])) [
          | true ↦ None
          | false ↦ Some (add_pre n [] (slice_set (pre_of n) i (Cell (record { at = c.at; content = f.content }))) ∷ [])
        ]
      ]
    ]
raw_write n i _ _ = None

-- the chunk is a cell whose address is this very term, not just one that is shown equal
abbrev pub is_written_at : Term → Chunk → Bool
is_written_at t (Cell c) = term_eq t c.at
is_written_at t _ = false

-- the chunks without the first cell written at each of these addresses, or none where one has no cell
abbrev pub without_cells : List Term → List Chunk → Option (List Chunk)
without_cells [] cs = Some cs
without_cells (t ∷ ts) cs = elim (first_place (is_written_at t) 0 cs) [
  | None ↦ None
  | Some k ↦ without_cells ts (without cs k)
]

-- the addresses of consecutive cells, of which the first is `j` past the term
abbrev pub cells_from : Term → ℕ → ℕ → List Term
cells_from t j zero = []
cells_from t j (suc m) = plus t (pos j) ∷ cells_from t (suc j) m

-- the addresses of a block's cells
abbrev pub block_cells : Term → ℕ → List Term
block_cells t n = cells_from t 0 n

-- a block goes with its cells
abbrev pub raw_free : Node → ℕ → Option Chunk → Raws
raw_free n i (Some (Block b)) =
    elim (length (post_of n) == 0 && is_program_expr n.goal b.at) [
      | false ↦ None
      | true ↦ option_map (λ (cs : List Chunk). add_pre n [] cs ∷ []) (without_cells (block_cells b.at b.size) (without (pre_of n) i))
    ]
raw_free n i _ = None

-- cells with these contents at consecutive addresses, of which the first is `j` past the term
abbrev pub new_cells : Term → ℕ → List Term → List Chunk
new_cells t j [] = []
new_cells t j (v ∷ vs) = Cell (record { at = plus t (pos j); content = v }) ∷ new_cells t (suc j) vs

-- a bare existential
abbrev pub is_bare_open : Goal → Term → Bool
is_bare_open g t = has_exist g t && int_eq t.offset (pos 0)

-- a new block at a new program variable, with cells of any contents
abbrev pub raw_alloc : Node → Option Chunk → Raws
raw_alloc n (Some (Block f)) =
    where_true (is_bare_open n.goal f.at)
    (let z : Var = new_int n in
    let contents : List Term = map var_term (new_ints (suc z.number) f.size) in
    let m : Node = add_pre n [] (put_all (put (pre_of n) (Block (record { at = var_term z; size = f.size }))) (new_cells (var_term z) 0 contents)) in
    let q : Node = add_post m (Eq f.at (var_term z) ∷ []) (post_of n) in
    Some (record q { goal = record q.goal { program = n.goal.program ++ z ∷ [] } } ∷ []))
raw_alloc n _ = None

-- the first existential in the literals
abbrev pub first_exist : Goal → Option Var
first_exist g = slice_get (filter (λ v. var_in v g.exist) (lits_vars g.pure_post)) 0

-- the literal by which two variables are equal: one of sets for set variables, else one of terms
abbrev pub equal_vars : Var → Var → Lit
equal_vars a b = cond (is_set_var a) (Same (set_var a) (set_var b)) (Eq (var_term a) (var_term b))

-- a variable of this sort that is no cardinality and no existential, and occurs in the goal
abbrev pub is_universal : Goal → Sort → Var → Bool
is_universal g t u = sort_eq u.sort t && not (sort_eq t Card) && not (var_in u g.exist) && var_in u (goal_vars g)

-- an existential is taken to be a universal variable
abbrev pub raw_pick : Node → Var → Raws
raw_pick n u = elim (first_exist n.goal) [
  | None ↦ None
  | Some v ↦ where_true (length (insts (post_of n)) == 0 && is_universal n.goal v.sort u) (Some (add_post n (equal_vars v u ∷ []) (post_of n) ∷ []))
]
