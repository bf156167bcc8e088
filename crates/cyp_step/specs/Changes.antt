-- New variables, changes of a node, and premises before the normal form.
use Rattle.std.specs.Prelude.{[], ◌++◌, Bool, List, None, Option, cond, false, max, suc, true, ℕ, ◌∷◌}
use Rattle.cyp_heap.specs.Goals.{node_vars}
use Rattle.cyp_heap.specs.declared.chunk.Chunk.{Chunk}
use Rattle.cyp_heap.specs.declared.goal.Node.{Node}
use Rattle.cyp_pred.specs.declared.unfolded.Next.{Next}
use Rattle.cyp_term.specs.Terms.{sort_eq}
use Rattle.cyp_term.specs.declared.lit.Lit.{Lit}
use Rattle.cyp_term.specs.declared.term.Sort.{Sort}
use Rattle.cyp_term.specs.declared.term.Sort.TheVariants.{Card, Int, Set}
use Rattle.cyp_term.specs.declared.term.Var.{Var}

-- one more than the greatest number of a variable of this sort, and 0 where there is none
abbrev pub above : Sort → List Var → ℕ
above t [] = 0
above t (v ∷ vs) = cond (sort_eq v.sort t) (max (suc v.number) (above t vs)) (above t vs)

-- for each sort, the least number above those of its variables in the node, the existentials that stand nowhere among them
abbrev pub next_of : Node → Next
next_of n = let vs : List Var = node_vars n ++ n.goal.exist in record { ints = above Int vs; cards = above Card vs; sets = above Set vs }

-- an integer variable that does not occur in the node
abbrev pub new_int : Node → Var
new_int n = record { sort = Int; number = (next_of n).ints }

-- ---- changes of a goal

-- the chunks of the node's precondition
abbrev pub pre_of : Node → List Chunk
pre_of n = n.goal.pre.chunks

-- the chunks of the node's postcondition
abbrev pub post_of : Node → List Chunk
post_of n = n.goal.post.chunks

-- the precondition gets these literals behind its own, and these chunks in place of its own
abbrev pub add_pre : Node → List Lit → List Chunk → Node
add_pre n ls cs = record n { goal = record n.goal { pure_pre = n.goal.pure_pre ++ ls; pre = record { chunks = cs } } }

-- the postcondition gets these literals behind its own, and these chunks in place of its own
abbrev pub add_post : Node → List Lit → List Chunk → Node
add_post n ls cs = record n { goal = record n.goal { pure_post = n.goal.pure_post ++ ls; post = record { chunks = cs } } }

-- ---- premises before the normal form

-- how a rule's premise is not there, or is a list of raw nodes
abbrev pub Raws : Type 0
Raws = Option (List Node)

-- the premises under a side condition: none where it doesn't hold, so that the rule isn't allowed
abbrev pub where_true : Bool → Raws → Raws
where_true true r = r
where_true false r = None
