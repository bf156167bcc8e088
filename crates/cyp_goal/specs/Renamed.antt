-- A node under new names for its variables.
use Rattle.std.specs.Prelude.{◌≡◌, List, None, Option, Some, map, true}
use Rattle.cyp_heap.specs.declared.chunk.Arg.{Arg}
use Rattle.cyp_heap.specs.declared.chunk.Arg.TheVariants.{Int as IntArg, Set as SetArg}
use Rattle.cyp_heap.specs.declared.chunk.Chunk.{Chunk}
use Rattle.cyp_heap.specs.declared.chunk.Chunk.TheVariants.{Block, Cell, Inst}
use Rattle.cyp_heap.specs.declared.goal.Goal.{Goal}
use Rattle.cyp_heap.specs.declared.goal.Link.{Link}
use Rattle.cyp_heap.specs.declared.goal.Node.{Node}
use Rattle.cyp_term.specs.Terms.{var_in}
use Rattle.cyp_term.specs.declared.lit.Lit.{Lit}
use Rattle.cyp_term.specs.declared.lit.Lit.TheVariants.{Eq, Le, Lt, Member, Ne, NotMember, NotSame, NotSub, Same, Sub}
use Rattle.cyp_term.specs.declared.lit.SetTerm.{SetTerm}
use Rattle.cyp_term.specs.declared.subst.IntBind.{IntBind}
use Rattle.cyp_term.specs.declared.subst.SetBind.{SetBind}
use Rattle.cyp_term.specs.declared.subst.Subst.{Subst}
use Rattle.cyp_term.specs.declared.term.Term.{Term}
use Rattle.cyp_term.specs.declared.term.Var.{Var}

-- new names by which the variables of the list stay different, and each keeps its sort
pub record AreNewNames (vs : List Var) (r : Var → Var) : Type 0 where
  pub injective : (v w : Var) → var_in v vs ≡ true → var_in w vs ≡ true → r v ≡ r w → v ≡ w
  pub sort : (v : Var) → var_in v vs ≡ true → (r v).sort ≡ v.sort

-- the base under its new name, where there is one; a cardinality likewise
abbrev pub rename_base : (Var → Var) → Option Var → Option Var
rename_base r None = None
rename_base r (Some v) = Some (r v)

-- the base renamed, the offset as it is
abbrev pub rename_term : (Var → Var) → Term → Term
rename_term r t = record { base = rename_base r t.base; offset = t.offset }

-- the variables and the elements renamed, in the same order
abbrev pub rename_set : (Var → Var) → SetTerm → SetTerm
rename_set r u = record { vars = map r u.vars; elems = map (rename_term r) u.elems }

-- both sides renamed
abbrev pub rename_lit : (Var → Var) → Lit → Lit
rename_lit r (Eq a b) = Eq (rename_term r a) (rename_term r b)
rename_lit r (Ne a b) = Ne (rename_term r a) (rename_term r b)
rename_lit r (Le a b) = Le (rename_term r a) (rename_term r b)
rename_lit r (Lt a b) = Lt (rename_term r a) (rename_term r b)
rename_lit r (Same a b) = Same (rename_set r a) (rename_set r b)
rename_lit r (NotSame a b) = NotSame (rename_set r a) (rename_set r b)
rename_lit r (Member a b) = Member (rename_term r a) (rename_set r b)
rename_lit r (NotMember a b) = NotMember (rename_term r a) (rename_set r b)
rename_lit r (Sub a b) = Sub (rename_set r a) (rename_set r b)
rename_lit r (NotSub a b) = NotSub (rename_set r a) (rename_set r b)

-- the term or the set term renamed
abbrev pub rename_arg : (Var → Var) → Arg → Arg
rename_arg r (IntArg t) = IntArg (rename_term r t)
rename_arg r (SetArg u) = SetArg (rename_set r u)

-- arguments and cardinality, address and content renamed; predicate, tag and size stay
abbrev pub rename_chunk : (Var → Var) → Chunk → Chunk
rename_chunk r (Inst i) = Inst (record { pred = i.pred; args = map (rename_arg r) i.args; card = rename_base r i.card; tag = i.tag })
rename_chunk r (Block k) = Block (record { at = rename_term r k.at; size = k.size })
rename_chunk r (Cell k) = Cell (record { at = rename_term r k.at; content = rename_term r k.content })

-- the images renamed; the variables that are bound stay, they are the companion's own
abbrev pub rename_images : (Var → Var) → Subst → Subst
rename_images r m = record {
  ints = map (λ (b : IntBind). record { var = b.var; to = rename_term r b.to }) m.ints;
  sets = map (λ (b : SetBind). record { var = b.var; to = rename_set r b.to }) m.sets;
}

-- the map's images and the measure renamed; the goal and its own measure stay in the companion's variables
abbrev pub rename_link : (Var → Var) → Link → Link
rename_link r k = record { goal = k.goal; own = k.own; map = rename_images r k.map; tuple = map (rename_term r) k.tuple }

-- both lists of variables, the literals and the chunks of both sides renamed
abbrev pub rename_goal : (Var → Var) → Goal → Goal
rename_goal r g = record {
  program = map r g.program;
  exist = map r g.exist;
  pure_pre = map (rename_lit r) g.pure_pre;
  pre = record { chunks = map (rename_chunk r) g.pre.chunks };
  pure_post = map (rename_lit r) g.pure_post;
  post = record { chunks = map (rename_chunk r) g.post.chunks };
}

-- the goal and the links renamed; the predicates stay
abbrev pub rename_node : (Var → Var) → Node → Node
rename_node r n = record { preds = n.preds; goal = rename_goal r n.goal; links = map (rename_link r) n.links }
