-- Chunks of symbolic heaps: their variables, their order, substitution in them.
use Rattle.std.specs.Prelude.{[], ◌&&◌, ◌++◌, Bool, List, None, Option, Some, cond, false, flat_map, map, nat_le, nat_lt, slice_get, suc, true, zero, ◌||◌, ℕ, ◌∷◌}
use Rattle.std.specs.List.{list_all, list_any}
use Rattle.cyp_heap.specs.HeapValue.{HeapValue}
use Rattle.cyp_heap.specs.declared.chunk.Arg.{Arg}
use Rattle.cyp_heap.specs.declared.chunk.Arg.TheVariants.{Int as IntArg, Set as SetArg}
use Rattle.cyp_heap.specs.declared.chunk.Chunk.{Chunk}
use Rattle.cyp_heap.specs.declared.chunk.Chunk.TheVariants.{Block, Cell, Inst}
use Rattle.cyp_heap.specs.declared.chunk.InstOf.{InstOf}
use Rattle.cyp_term.specs.Terms.{apply_set, apply_term, apply_var, set_vars, term_vars, wide_set, wide_term}
use Rattle.cyp_term.specs.declared.subst.Subst.{Subst}
use Rattle.cyp_term.specs.declared.term.Term.{Term}
use Rattle.cyp_term.specs.declared.term.Var.{Var}

-- the cardinality of an instance as a list, empty where it has none
abbrev pub card_vars : Option Var → List Var
card_vars None = []
card_vars (Some v) = v ∷ []

-- the variables of an argument, be it an integer term or a set term, as they are written
abbrev pub arg_vars : Arg → List Var
arg_vars (IntArg t) = term_vars t
arg_vars (SetArg u) = set_vars u

-- the variables of a chunk: the arguments before the cardinality, the address before the content
abbrev pub chunk_vars : Chunk → List Var
chunk_vars (Inst i) = flat_map arg_vars i.args ++ card_vars i.card
chunk_vars (Block k) = term_vars k.at
chunk_vars (Cell k) = term_vars k.at ++ term_vars k.content

-- the variables of the chunks, one chunk after another, with repeats
abbrev pub chunks_vars : List Chunk → List Var
chunks_vars cs = flat_map chunk_vars cs

-- the chunk is an instance of a predicate
abbrev pub is_inst : Chunk → Bool
is_inst (Inst i) = true
is_inst _ = false

-- the instances among the chunks in order
abbrev pub insts : List Chunk → List InstOf
insts [] = []
insts (Inst i ∷ cs) = i ∷ insts cs
insts (Block k ∷ cs) = insts cs
insts (Cell k ∷ cs) = insts cs

-- ---- order of chunks: instances, blocks, cells

-- where the kind of a chunk stands in a heap: instances first, then blocks, then cells
abbrev pub kind_rank : Chunk → ℕ
kind_rank (Inst i) = 0
kind_rank (Block k) = 1
kind_rank (Cell k) = 2

-- no chunk stands before one of an earlier kind: instances before blocks before cells
abbrev pub in_order : List Chunk → Bool
in_order [] = true
in_order (c ∷ cs) = list_all (λ d. nat_le (kind_rank c) (kind_rank d)) cs && in_order cs

-- the second chunk is of a later kind than the first
abbrev pub is_later : Chunk → Chunk → Bool
is_later c d = nat_lt (kind_rank c) (kind_rank d)

-- the chunk stands after the last of its kind
abbrev pub put : List Chunk → Chunk → List Chunk
put [] c = c ∷ []
put (d ∷ ds) c = cond (nat_lt (kind_rank c) (kind_rank d)) (c ∷ d ∷ ds) (d ∷ put ds c)

-- each of these in order
abbrev pub put_all : List Chunk → List Chunk → List Chunk
put_all cs [] = cs
put_all cs (d ∷ ds) = put_all (put cs d) ds

-- the list without the element at this place
abbrev pub without : {A : Type 0} → List A → ℕ → List A
without [] k = []
without (x ∷ xs) zero = xs
without (x ∷ xs) (suc k) = x ∷ without xs k

-- there is a chunk, and it is a cell
abbrev pub some_cell : Option Chunk → Bool
some_cell (Some (Cell k)) = true
some_cell _ = false

-- a cell stands at the place
abbrev pub is_cell_at : List Chunk → ℕ → Bool
is_cell_at cs k = some_cell (slice_get cs k)

-- a cell gets the content and keeps its address; other chunks stay
abbrev pub chunk_with : Term → Chunk → Chunk
chunk_with t (Cell k) = Cell (record { at = k.at; content = t })
chunk_with t c = c

-- the cell at the place gets the content, all else stays
abbrev pub with_content : List Chunk → ℕ → Term → List Chunk
with_content [] k t = []
with_content (c ∷ cs) zero t = chunk_with t c ∷ cs
with_content (c ∷ cs) (suc k) t = c ∷ with_content cs k t

-- ---- substitution

-- the argument with every variable replaced by its image
abbrev pub apply_arg : Subst → Arg → Arg
apply_arg by (IntArg t) = IntArg (apply_term by t)
apply_arg by (SetArg u) = SetArg (apply_set by u)

-- the cardinality replaced by the base of its image, where there is one
abbrev pub apply_card : Subst → Option Var → Option Var
apply_card by None = None
apply_card by (Some v) = Some (apply_var by v)

-- the chunk with every variable replaced by its image; predicate, tag and size stay
abbrev pub apply_chunk : Subst → Chunk → Chunk
apply_chunk by (Inst i) = Inst (record { pred = i.pred; args = map (apply_arg by) i.args; card = apply_card by i.card; tag = i.tag })
apply_chunk by (Block k) = Block (record { at = apply_term by k.at; size = k.size })
apply_chunk by (Cell k) = Cell (record { at = apply_term by k.at; content = apply_term by k.content })

-- the substitution in each chunk, in the same order
abbrev pub apply_heap : Subst → HeapValue → HeapValue
apply_heap by h = record { chunks = map (apply_chunk by) h.chunks }

-- ---- offsets past 2 ^ 32

-- a term of the argument, or an element of its set term, has an offset past 2 ^ 32
abbrev pub wide_arg : Arg → Bool
wide_arg (IntArg t) = wide_term t
wide_arg (SetArg u) = wide_set u

-- an argument, the address or the content has an offset past 2 ^ 32
abbrev pub wide_chunk : Chunk → Bool
wide_chunk (Inst i) = list_any wide_arg i.args
wide_chunk (Block k) = wide_term k.at
wide_chunk (Cell k) = wide_term k.at || wide_term k.content
