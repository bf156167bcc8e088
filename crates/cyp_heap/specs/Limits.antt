-- The limits of a node, and its units.
use Rattle.std.specs.Prelude.{[], ◌&&◌, ◌*◌, ◌+◌, ◌++◌, Bool, List, filter, flat_map, length, nat_le, not, sum_by, ℕ}
use Rattle.cyp_heap.specs.Goals.{goal_vars, node_vars}
use Rattle.cyp_heap.specs.NodeValue.{NodeValue}
use Rattle.cyp_heap.specs.declared.chunk.Arg.{Arg}
use Rattle.cyp_heap.specs.declared.chunk.Arg.TheVariants.{Int as IntArg, Set as SetArg}
use Rattle.cyp_heap.specs.declared.chunk.Chunk.{Chunk}
use Rattle.cyp_heap.specs.declared.chunk.Chunk.TheVariants.{Block, Cell, Inst}
use Rattle.cyp_heap.specs.declared.goal.Goal.{Goal}
use Rattle.cyp_heap.specs.declared.goal.Link.{Link}
use Rattle.cyp_term.specs.Terms.{is_set_var, lit_elements, sort_eq, term_eq, var_eq, without_repeats}
use Rattle.cyp_term.specs.declared.lit.Lit.{Lit}
use Rattle.cyp_term.specs.declared.lit.Lit.TheVariants.{Member, NotMember, NotSame, NotSub, Same, Sub}
use Rattle.cyp_term.specs.declared.lit.SetTerm.{SetTerm}
use Rattle.cyp_term.specs.declared.subst.SetBind.{SetBind}
use Rattle.cyp_term.specs.declared.term.Sort.TheVariants.{Int}
use Rattle.cyp_term.specs.declared.term.Term.{Term}
use Rattle.cyp_term.specs.declared.term.Var.{Var}

-- the element terms of an argument: the single elements in a set term, none in an integer term
abbrev pub arg_elements : Arg → List Term
arg_elements (IntArg t) = []
arg_elements (SetArg u) = u.elems

-- the element terms in the arguments of an instance; blocks and cells have none
abbrev pub chunk_elements : Chunk → List Term
chunk_elements (Inst i) = flat_map arg_elements i.args
chunk_elements _ = []

-- the element terms of the literals and chunks of both sides, with repeats
abbrev pub goal_elements : Goal → List Term
goal_elements g =
    flat_map lit_elements g.pure_pre ++ flat_map chunk_elements g.pre.chunks ++ flat_map lit_elements g.pure_post ++ flat_map chunk_elements g.post.chunks

-- the parts of a set term
abbrev pub set_units : SetTerm → ℕ
set_units u = length u.vars + length u.elems

-- an integer term is a unit, a set term has one for each of its parts
abbrev pub arg_units : Arg → ℕ
arg_units (IntArg t) = 1
arg_units (SetArg u) = set_units u

-- a chunk is a unit, and each integer term and each part of a set term in it is one
abbrev pub chunk_units : Chunk → ℕ
chunk_units (Inst i) = 1 + sum_by arg_units i.args
chunk_units (Block k) = 2
chunk_units (Cell k) = 3

-- a literal is a unit, and each integer term and each part of a set term in it is one
abbrev pub lit_units : Lit → ℕ
lit_units (Same a b) = 1 + set_units a + set_units b
lit_units (NotSame a b) = 1 + set_units a + set_units b
lit_units (Member t b) = 2 + set_units b
lit_units (NotMember t b) = 2 + set_units b
lit_units (Sub a b) = 1 + set_units a + set_units b
lit_units (NotSub a b) = 1 + set_units a + set_units b
lit_units _ = 3

-- each program variable is a unit, beside those of the chunks and literals of both sides
abbrev pub goal_units : Goal → ℕ
goal_units g =
    length g.program + sum_by chunk_units g.pre.chunks + sum_by chunk_units g.post.chunks + sum_by lit_units g.pure_pre + sum_by lit_units g.pure_post

-- a map's entry is a unit beside those of its image; what stands in the companion's variables has none
abbrev pub link_units : Link → ℕ
link_units k = length k.tuple + 2 * length k.map.ints + sum_by (λ (b : SetBind). 1 + set_units b.to) k.map.sets

-- the units of the goal and of all its companions
abbrev pub node_units : NodeValue → ℕ
node_units n = goal_units n.goal + sum_by link_units n.links

-- no limit of a node is passed
abbrev pub is_within_limits : NodeValue → Bool
is_within_limits n =
    nat_le (length n.goal.pre.chunks) 16 && nat_le (length n.goal.post.chunks) 16
    && nat_le (length n.goal.pure_pre) 40 && nat_le (length n.goal.pure_post) 40
    && nat_le (length n.goal.program) 12
    && nat_le (length (filter (λ v. not (is_set_var v)) (node_vars n))) 32
    && nat_le (length (filter is_set_var (node_vars n))) 12
    && nat_le (length (without_repeats term_eq (goal_elements n.goal))) 6
    && nat_le (length n.links) 4
    && nat_le (node_units n) 240

-- no limit of a goal as it is written is passed
abbrev pub is_goal_within : Goal → Bool
is_goal_within g =
    let vs : List Var = without_repeats var_eq (goal_vars g) in
    nat_le (length g.pre.chunks) 16 && nat_le (length g.post.chunks) 16
    && nat_le (length g.pure_pre) 40 && nat_le (length g.pure_post) 40
    && nat_le (length g.program) 12
    && nat_le (length (filter (λ (v : Var). sort_eq v.sort Int) vs)) 64
    && nat_le (length (filter is_set_var vs)) 32
    && nat_le (length (without_repeats term_eq (goal_elements g))) 32
