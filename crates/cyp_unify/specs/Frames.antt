-- How the focus, the first chunk of the postcondition, is framed.
use Rattle.std.specs.Prelude.{[], ◌++◌, ◌==◌, Bool, List, None, Option, Some, false, filter, map, slice_get, suc, true, ℕ, ◌∷◌}
use Rattle.cyp_heap.specs.declared.chunk.Arg.{Arg}
use Rattle.cyp_heap.specs.declared.chunk.Arg.TheVariants.{Int as IntArg, Set as SetArg}
use Rattle.cyp_heap.specs.declared.chunk.Chunk.{Chunk}
use Rattle.cyp_heap.specs.declared.chunk.Chunk.TheVariants.{Block, Cell, Inst}
use Rattle.cyp_heap.specs.declared.goal.Goal.{Goal}
use Rattle.cyp_term.specs.declared.lit.Lit.{Lit}
use Rattle.cyp_term.specs.declared.lit.Lit.TheVariants.{Eq, Same}
use Rattle.cyp_unify.specs.declared.found.Pair.{Pair}

-- the same kind, predicate or size
abbrev pub alike : Chunk → Chunk → Bool
alike (Inst i) (Inst j) = i.pred == j.pred
alike (Block b) (Block c) = b.size == c.size
alike (Cell b) (Cell c) = true
alike _ _ = false

-- that two arguments of one sort are equal; nothing where their sorts differ
abbrev pub arg_equality : Arg → Arg → List Lit
arg_equality (IntArg t) (IntArg r) = Eq t r ∷ []
arg_equality (SetArg u) (SetArg r) = Same u r ∷ []
arg_equality _ _ = []

-- that the arguments at equal places are equal, in order
abbrev pub arg_equalities : List Arg → List Arg → List Lit
arg_equalities (a ∷ xs) (b ∷ ys) = arg_equality a b ++ arg_equalities xs ys
arg_equalities _ _ = []

-- that a chunk of the post is a chunk of the pre: the arguments in order, or the address and then the content
abbrev pub frame_lits : Chunk → Chunk → List Lit
frame_lits (Inst i) (Inst j) = arg_equalities i.args j.args
frame_lits (Block b) (Block c) = Eq b.at c.at ∷ []
frame_lits (Cell b) (Cell c) = Eq b.at c.at ∷ Eq b.content c.content ∷ []
frame_lits _ _ = []

-- each element with its place
abbrev pub with_places : {A : Type 0} → ℕ → List A → List (ℕ × A)
with_places k [] = []
with_places k (y ∷ ys) = (k, y) ∷ with_places (suc k) ys

-- the first chunk of the post
abbrev pub focus : Goal → Option Chunk
focus g = slice_get g.post.chunks 0

-- the focus with each chunk of the pre of its kind
abbrev pub frame_pairs : Goal → List Pair
frame_pairs g = elim (focus g) [
  | None ↦ []
  | Some f ↦ map (λ (p : ℕ × Chunk). record { pre = p.0; lits = frame_lits f p.1 }) (filter (λ (p : ℕ × Chunk). alike f p.1) (with_places 0 g.pre.chunks))
]
