-- New names where a table has the variable, and parts whose variables have the sorts of their places.
use Rattle.std.specs.Prelude.{◌&&◌, ◌++◌, ◌≡◌, Bool, List, cond, map, not, true}
use Rattle.std.specs.List.{flat_map, list_all}
use Rattle.cyp_goal.specs.Numbering.{new_name, numbering}
use Rattle.cyp_goal.specs.Raw.{arg_fits, link_fits, lit_fits, term_fits}
use Rattle.cyp_heap.specs.Goals.{apply_goal, image_vars}
use Rattle.cyp_heap.specs.declared.chunk.Chunk.{Chunk}
use Rattle.cyp_heap.specs.declared.chunk.Chunk.TheVariants.{Block, Cell, Inst}
use Rattle.cyp_heap.specs.declared.goal.Goal.{Goal}
use Rattle.cyp_heap.specs.declared.goal.Link.{Link}
use Rattle.cyp_heap.specs.declared.goal.Node.{Node}
use Rattle.cyp_term.specs.Terms.{is_set_var, term_vars, var_in}
use Rattle.cyp_term.specs.declared.term.Var.{Var}

-- the variable's new name, or the variable where it has none
abbrev pub named : List Var → Var → Var
named vs v = cond (var_in v vs) (new_name vs v) v

-- the variable is no set
abbrev pub no_set : Var → Bool
no_set v = not (is_set_var v)

-- the variables of a chunk have the sorts of their places, but for its cardinality
abbrev pub parts_fit : Chunk → Bool
parts_fit (Inst i) = list_all (arg_fits no_set is_set_var) i.args
parts_fit (Block k) = term_fits no_set k.at
parts_fit (Cell k) = term_fits no_set k.at && term_fits no_set k.content

-- those of literals and chunks do
pub record GoalFits (g : Goal) : Type 0 where
  pub pure_pre : list_all (lit_fits no_set is_set_var) g.pure_pre ≡ true
  pub pre : list_all parts_fit g.pre.chunks ≡ true
  pub pure_post : list_all (lit_fits no_set is_set_var) g.pure_post ≡ true
  pub post : list_all parts_fit g.post.chunks ≡ true

-- those of companions do too
pub record PartsFit (n : Node) : Type 0 where
  pub goal : GoalFits n.goal
  pub links : list_all (link_fits no_set is_set_var) n.links ≡ true

-- the goal numbered by the list of variables
abbrev pub named_goal : List Var → Goal → Goal
named_goal vs g =
    let h : Goal = apply_goal (numbering vs) g in
    record h { program = map (named vs) g.program; exist = map (named vs) g.exist }

-- the variables of a companion's measure, then those of the images of its map
abbrev pub link_vars : Link → List Var
link_vars k = flat_map term_vars k.tuple ++ image_vars k.map
