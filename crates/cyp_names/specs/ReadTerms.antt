-- The terms, literals and chunks that a tree says, where its names stand for these variables.
use Rattle.std.specs.Prelude.{[], List, None, cond, flat_map, map, neg_ℤ, pos, ℕ, ◌+◌, ◌∷◌}
use Rattle.std.specs.Str.{bytes_eq}
use Rattle.cyp_heap.specs.declared.chunk.Arg.{Arg}
use Rattle.cyp_heap.specs.declared.chunk.Arg.TheVariants.{Int as IntArg, Set as SetArg}
use Rattle.cyp_heap.specs.declared.chunk.Chunk.{Chunk}
use Rattle.cyp_heap.specs.declared.chunk.Chunk.TheVariants.{Block, Cell, Inst}
use Rattle.cyp_term.specs.Terms.{negated, number_term, plus, set_var, sort_eq, term_eq, var_eq, var_term, without_repeats}
use Rattle.cyp_term.specs.declared.lit.Lit.{Lit}
use Rattle.cyp_term.specs.declared.lit.Lit.TheVariants.{Eq, Le, Lt, Member, Ne, Same, Sub}
use Rattle.cyp_term.specs.declared.lit.SetTerm.{SetTerm}
use Rattle.cyp_term.specs.declared.term.Sort.{Sort}
use Rattle.cyp_term.specs.declared.term.Sort.TheVariants.{Int, Set}
use Rattle.cyp_term.specs.declared.term.Term.{Term}
use Rattle.cyp_term.specs.declared.term.Var.{Var}
use Rattle.cyp_names.specs.Bodies.{body_lits, in_kinds}
use Rattle.cyp_text.specs.LitTrees.{Comparing, Inside, LitTree, Negation, SameSets, SubSets}
use Rattle.cyp_text.specs.declared.tree.ArgTree.{ArgTree}
use Rattle.cyp_text.specs.declared.tree.ArgTree.TheVariants.{BracesArg, TermArg, UnionArg}
use Rattle.cyp_text.specs.declared.tree.BodyTree.{BodyTree}
use Rattle.cyp_text.specs.declared.tree.ChunkTree.{ChunkTree}
use Rattle.cyp_text.specs.declared.tree.ChunkTree.TheVariants.{BlockOf, InstanceOf, NamedCell, TermCell}
use Rattle.cyp_text.specs.declared.tree.Comparison.{Comparison}
use Rattle.cyp_text.specs.declared.tree.Comparison.TheVariants.{IsAbove, IsAtLeast, IsAtMost, IsBelow, IsEqual, IsUnequal}
use Rattle.cyp_text.specs.declared.tree.IntTree.{IntTree}
use Rattle.cyp_text.specs.declared.tree.IntTree.TheVariants.{MinusNum, NameMinus, NamePlus, Named, Num, NumPlus}
use Rattle.cyp_text.specs.declared.tree.PartTree.{PartTree}
use Rattle.cyp_text.specs.declared.tree.PartTree.TheVariants.{Braces, PartName}
use Rattle.cyp_text.specs.declared.tree.PredTree.{PredTree}
use Rattle.cyp_text.specs.declared.tree.SetTree.{SetTree}
use Rattle.cyp_names.specs.Uses.{Use, arg_sorts, pred_place, set_parts}

-- ---- variables

-- the different names with their sorts, in the order of their first occurrence
abbrev pub Scope : Type 0
Scope = List Use

-- the sort of a name
abbrev pub sort_in : Scope → List ℕ → Sort
sort_in [] name = Int
sort_in (u ∷ us) name = cond (bytes_eq u.name.text name) u.sort (sort_in us name)

-- how many names of the sort stand before this one
abbrev pub rank_of : Sort → Scope → List ℕ → ℕ
rank_of s [] name = 0
rank_of s (u ∷ us) name = cond (bytes_eq u.name.text name) 0 (cond (sort_eq u.sort s) 1 0 + rank_of s us name)

-- the variable of a name: each sort is numbered from 0, by first occurrence
abbrev pub var_named : Scope → List ℕ → Var
var_named sc name = let s : Sort = sort_in sc name in record { sort = s; number = rank_of s sc name }

-- the variable of a name
abbrev pub use_var : Scope → Use → Var
use_var sc u = var_named sc u.name.text

-- ---- terms and literals

-- a number, a variable, or a variable plus or minus a number
abbrev pub read_int : Scope → IntTree → Term
read_int sc (Num p n) = number_term (pos n)
read_int sc (MinusNum p n) = number_term (neg_ℤ (pos n))
read_int sc (Named i) = var_term (var_named sc i.text)
read_int sc (NamePlus i n) = plus (var_term (var_named sc i.text)) (pos n)
read_int sc (NameMinus i n) = plus (var_term (var_named sc i.text)) (neg_ℤ (pos n))
read_int sc (NumPlus p n i) = plus (var_term (var_named sc i.text)) (pos n)

-- a part that is a name is a set variable
abbrev pub part_vars : Scope → PartTree → List Var
part_vars sc (PartName i) = var_named sc i.text ∷ []
part_vars sc (Braces p ts) = []

-- a part in braces has its terms as elements
abbrev pub part_elems : Scope → PartTree → List Term
part_elems sc (PartName i) = []
part_elems sc (Braces p ts) = map (read_int sc) ts

-- a union without repeats
abbrev pub read_union : Scope → List PartTree → SetTerm
read_union sc us = record { vars = without_repeats var_eq (flat_map (part_vars sc) us); elems = without_repeats term_eq (flat_map (part_elems sc) us) }

-- the set term that a union says
abbrev pub read_set : Scope → SetTree → SetTerm
read_set sc u = read_union sc (set_parts u)

-- `a > b` is `b < a`, and `a >= b` is `b <= a`
abbrev pub compared : Comparison → Term → Term → Lit
compared IsEqual a b = Eq a b
compared IsUnequal a b = Ne a b
compared IsAtMost a b = Le a b
compared IsBelow a b = Lt a b
compared IsAtLeast a b = Le b a
compared IsAbove a b = Lt b a

-- `not` negates its literal, and elsewhere the sides are kept as `compared` says
abbrev pub read_lit : Scope → LitTree → Lit
read_lit sc (Comparing a c b) = compared c (read_int sc a) (read_int sc b)
read_lit sc (SameSets a b) = Same (read_set sc a) (read_set sc b)
read_lit sc (SubSets a b) = Sub (read_set sc a) (read_set sc b)
read_lit sc (Inside a b) = Member (read_int sc a) (read_set sc b)
read_lit sc (Negation p l) = negated (read_lit sc l)

-- the literals of a body in their order
abbrev pub read_lits : Scope → BodyTree → List Lit
read_lits sc b = map (read_lit sc) (body_lits b)

-- ---- chunks

-- a name alone is a term or a set by the sort of its parameter
abbrev pub read_arg : Scope → Sort → ArgTree → Arg
read_arg sc Set (TermArg (Named i)) = SetArg (set_var (var_named sc i.text))
read_arg sc s (TermArg t) = IntArg (read_int sc t)
read_arg sc s (BracesArg p ts us) = SetArg (read_union sc (Braces p ts ∷ us))
read_arg sc s (UnionArg i u us) = SetArg (read_union sc (PartName i ∷ u ∷ us))

-- each argument by the sort of its parameter
abbrev pub read_args : Scope → List Sort → List ArgTree → List Arg
read_args sc (s ∷ ss) (x ∷ xs) = read_arg sc s x ∷ read_args sc ss xs
read_args sc _ _ = []

-- an instance has no cardinality yet, and tag 0
abbrev pub read_chunk : List PredTree → Scope → ChunkTree → Chunk
read_chunk qs sc (NamedCell i t) = Cell (record { at = var_term (var_named sc i.text); content = read_int sc t })
read_chunk qs sc (TermCell a t) = Cell (record { at = read_int sc a; content = read_int sc t })
read_chunk qs sc (BlockOf a p n) = Block (record { at = read_int sc a; size = n })
read_chunk qs sc (InstanceOf i xs) = Inst (record { pred = pred_place i.text qs; args = read_args sc (arg_sorts qs i xs) xs; card = None; tag = 0 })

-- the chunks of a body: instances before blocks before cells
abbrev pub read_chunks : List PredTree → Scope → BodyTree → List Chunk
read_chunks qs sc b = map (read_chunk qs sc) (in_kinds b.chunks)
