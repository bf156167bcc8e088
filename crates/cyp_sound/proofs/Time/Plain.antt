-- Plain nodes: their cardinalities stand alone. It is what the proof of the bound asks of a node.
use Rattle.cyp_sound.specs.Kept.{is_small, are_small}
use Rattle.cyp_goal.specs.Raw.{arg_fits, lit_fits, set_fits, term_fits}
use Rattle.cyp_heap.specs.Chunks.{card_vars, insts}
use Rattle.cyp_heap.specs.Goals.{goal_vars}
use Rattle.cyp_heap.specs.declared.chunk.Chunk.{Chunk}
use Rattle.cyp_heap.specs.declared.chunk.Chunk.TheVariants.{Block, Cell, Inst}
use Rattle.cyp_heap.specs.declared.chunk.InstOf.{InstOf}
use Rattle.cyp_heap.specs.declared.goal.Goal.{Goal}
use Rattle.cyp_heap.specs.declared.goal.Link.{Link}
use Rattle.cyp_heap.specs.declared.goal.Node.{Node}
use Rattle.cyp_sound.proofs.Time.Measures.{AreShort, ends_of}
use Rattle.cyp_term.specs.Terms.{is_set_var, sort_eq, var_in}
use Rattle.cyp_term.specs.declared.lit.Lit.{Lit}
use Rattle.cyp_term.specs.declared.lit.Lit.TheVariants.{Lt}
use Rattle.cyp_term.specs.declared.subst.IntBind.{IntBind}
use Rattle.cyp_term.specs.declared.subst.SetBind.{SetBind}
use Rattle.cyp_term.specs.declared.term.Sort.TheVariants.{Card, Int}
use Rattle.cyp_term.specs.declared.term.Term.{Term}
use Rattle.cyp_term.specs.declared.term.Var.{Var}
use Rattle.std.specs.List.{flat_map, list_all}
use Rattle.std.specs.Ordering.{int_eq}
use Rattle.std.specs.Prelude.{◌&&◌, ◌||◌, Bool, IsTrue, None, Option, Some, cond, false, not, pos}

abbrev pub is_int : Var → Bool
is_int v = sort_eq v.sort Int

abbrev pub is_card : Var → Bool
is_card v = sort_eq v.sort Card

-- there is a base, and it is a cardinality
abbrev pub is_card_base : Option Var → Bool
is_card_base None = false
is_card_base (Some v) = is_card v

-- a cardinality alone, without an offset
abbrev pub is_bare_card : Term → Bool
is_bare_card t = int_eq t.offset (pos 0) && is_card_base t.base

-- cardinalities are compared with one another by `<` alone, and stand in no other literal
abbrev pub lit_plain : Lit → Bool
lit_plain (Lt a b) = lit_fits is_int is_set_var (Lt a b) || (term_fits is_card a && term_fits is_card b)
lit_plain l = lit_fits is_int is_set_var l

-- no cardinality stands in an argument, an address or a content
abbrev pub chunk_plain : Chunk → Bool
chunk_plain (Inst i) = list_all (arg_fits is_int is_set_var) i.args
chunk_plain (Block k) = term_fits is_int k.at
chunk_plain (Cell k) = term_fits is_int k.at && term_fits is_int k.content

-- so it is in a whole goal, of which no existential is a cardinality
abbrev pub goal_plain : Goal → Bool
goal_plain g =
    list_all lit_plain g.pure_pre && list_all chunk_plain g.pre.chunks && list_all lit_plain g.pure_post && list_all chunk_plain g.post.chunks
    && list_all (λ v. not (is_card v)) g.exist

-- a cardinality has a cardinality alone as its image, and no other variable has one
abbrev pub bind_plain : IntBind → Bool
bind_plain b = cond (is_card b.var) (is_bare_card b.to) (term_fits is_int b.to)

-- the companion's goal is plain, its measures are cardinalities, and its map is as said
abbrev pub link_plain : Link → Bool
link_plain l =
    goal_plain l.goal && list_all is_bare_card l.own && list_all is_bare_card l.tuple
    && list_all bind_plain l.map.ints && list_all (λ (b : SetBind). set_fits is_int is_set_var b.to) l.map.sets

-- what the bound asks of a node, and what each node of a derivation keeps
pub record IsPlain (n : Node) : Type 0 where
  pub goal : IsTrue (goal_plain n.goal)
  pub links : IsTrue (list_all link_plain n.links)
  -- each companion's tuple has at most 16 terms more than the one before
  pub short : AreShort 0 (ends_of n.links)
  -- no allocation is of more than 8 cells
  pub post_small : IsTrue (list_all is_small n.goal.post.chunks)
  pub preds_small : IsTrue (are_small n.preds)

-- each cardinality in the goal is that of an instance of the precondition
abbrev pub CardsAlone : Goal → Type 0
CardsAlone g = (v : Var) → IsTrue (var_in v (goal_vars g)) → IsTrue (is_card v) → IsTrue (var_in v (flat_map (λ (i : InstOf). card_vars i.card) (insts g.pre.chunks)))
