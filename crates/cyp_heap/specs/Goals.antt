-- Goals, companions and nodes as plain lists: their variables and substitution in them.
use Rattle.std.specs.Prelude.{◌++◌, Bool, List, flat_map, map, ◌||◌}
use Rattle.std.specs.List.{list_any}
use Rattle.cyp_heap.specs.Chunks.{apply_heap, chunks_vars, wide_chunk}
use Rattle.cyp_heap.specs.NodeValue.{NodeValue}
use Rattle.cyp_heap.specs.declared.goal.Goal.{Goal}
use Rattle.cyp_heap.specs.declared.goal.Link.{Link}
use Rattle.cyp_term.specs.Terms.{apply_lit, apply_set, apply_term, lits_vars, set_vars, term_vars, var_eq, wide_lit, wide_set, wide_term, without_repeats}
use Rattle.cyp_term.specs.declared.subst.IntBind.{IntBind}
use Rattle.cyp_term.specs.declared.subst.SetBind.{SetBind}
use Rattle.cyp_term.specs.declared.subst.Subst.{Subst}
use Rattle.cyp_term.specs.declared.term.Var.{Var}

-- the variables of the companions' measures, as these are written in the node's variables
abbrev pub tuple_vars : List Link → List Var
tuple_vars ks = flat_map (λ (k : Link). flat_map term_vars k.tuple) ks

-- the variables of the images of a map: integer images before set images
abbrev pub image_vars : Subst → List Var
image_vars m = flat_map (λ (b : IntBind). term_vars b.to) m.ints ++ flat_map (λ (b : SetBind). set_vars b.to) m.sets

-- the program variables, then the variables of the chunks, then those of the literals, with repeats
abbrev pub goal_vars : Goal → List Var
goal_vars g = g.program ++ chunks_vars g.pre.chunks ++ chunks_vars g.post.chunks ++ lits_vars g.pure_pre ++ lits_vars g.pure_post

-- the variables of a node in order of first occurrence
abbrev pub node_vars : NodeValue → List Var
node_vars n = without_repeats var_eq (goal_vars n.goal ++ flat_map (λ (k : Link). flat_map term_vars k.tuple ++ image_vars k.map) n.links)

-- ---- substitution

-- the literals and chunks of both sides; the lists of variables stay
abbrev pub apply_goal : Subst → Goal → Goal
apply_goal by g = record {
  program = g.program;
  exist = g.exist;
  pure_pre = map (apply_lit by) g.pure_pre;
  pre = apply_heap by g.pre;
  pure_post = map (apply_lit by) g.pure_post;
  post = apply_heap by g.post;
}

-- the entry of a map with its integer image substituted; the variable that it binds stays
abbrev pub apply_bind : Subst → IntBind → IntBind
apply_bind by b = record { var = b.var; to = apply_term by b.to }

-- the entry of a map with its set image substituted; the variable that it binds stays
abbrev pub apply_set_bind : Subst → SetBind → SetBind
apply_set_bind by b = record { var = b.var; to = apply_set by b.to }

-- the tuple and the images of the map; the goal and its own measure stay in the companion's variables
abbrev pub apply_link : Subst → Link → Link
apply_link by k = record {
  goal = k.goal;
  own = k.own;
  map = record { ints = map (apply_bind by) k.map.ints; sets = map (apply_set_bind by) k.map.sets };
  tuple = map (apply_term by) k.tuple;
}

-- the substitution in the goal and in each companion's measure and map; the predicates stay
abbrev pub apply_node : Subst → NodeValue → NodeValue
apply_node by n = record { preds = n.preds; goal = apply_goal by n.goal; links = map (apply_link by) n.links }

-- ---- offsets past 2 ^ 32

-- a literal or a chunk of either side has an offset past 2 ^ 32
abbrev pub wide_goal : Goal → Bool
wide_goal g = list_any wide_lit g.pure_pre || list_any wide_chunk g.pre.chunks || list_any wide_lit g.pure_post || list_any wide_chunk g.post.chunks

-- a term of the companion's measure or an image of its map has an offset past 2 ^ 32
abbrev pub wide_link : Link → Bool
wide_link k = list_any wide_term k.tuple || list_any (λ (b : IntBind). wide_term b.to) k.map.ints || list_any (λ (b : SetBind). wide_set b.to) k.map.sets

-- the goal or one of the companions has an offset past 2 ^ 32
abbrev pub wide_node : NodeValue → Bool
wide_node n = wide_goal n.goal || list_any wide_link n.links
