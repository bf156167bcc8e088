-- What is asked of goals and of the companions of a node.
use Rattle.std.specs.Prelude.{[], ◌&&◌, ◌+◌, ◌++◌, ◌==◌, Bool, IsTrue, List, None, Option, Some, false, filter, flat_map, is_none, length, nat_le, not, slice_get, true, ℕ, ◌∷◌, ◌≡◌}
use Rattle.std.specs.List.{list_all}
use Rattle.cyp_heap.specs.Chunks.{arg_vars, card_vars, chunks_vars, insts}
use Rattle.cyp_heap.specs.Limits.{is_within_limits}
use Rattle.cyp_heap.specs.NodeValue.{NodeValue}
use Rattle.cyp_heap.specs.PredsValue.{PredsValue}
use Rattle.cyp_heap.specs.declared.chunk.Arg.{Arg}
use Rattle.cyp_heap.specs.declared.chunk.Arg.TheVariants.{Int as IntArg, Set as SetArg}
use Rattle.cyp_heap.specs.declared.chunk.Chunk.{Chunk}
use Rattle.cyp_heap.specs.declared.chunk.Chunk.TheVariants.{Block, Cell, Inst}
use Rattle.cyp_heap.specs.declared.chunk.InstOf.{InstOf}
use Rattle.cyp_heap.specs.declared.goal.Goal.{Goal}
use Rattle.cyp_heap.specs.declared.goal.Link.{Link}
use Rattle.cyp_heap.specs.declared.pred.Pred.{Pred}
use Rattle.cyp_term.specs.Terms.{lits_vars, sort_eq, term_eq, term_vars, var_in}
use Rattle.cyp_term.specs.declared.term.Sort.{Sort}
use Rattle.cyp_term.specs.declared.term.Sort.TheVariants.{Card, Int, Set}
use Rattle.cyp_term.specs.declared.term.Term.{Term}
use Rattle.cyp_term.specs.declared.term.Var.{Var}

-- an integer term has sort Int, a set term has sort Set
abbrev pub arg_sort : Arg → Sort
arg_sort (IntArg t) = Int
arg_sort (SetArg u) = Set

-- there are as many arguments as sorts, and each argument has the sort at its place
abbrev pub sorts_fit : List Arg → List Sort → Bool
sorts_fit [] [] = true
sorts_fit (a ∷ xs) (s ∷ ss) = sort_eq (arg_sort a) s && sorts_fit xs ss
sorts_fit _ _ = false

-- the predicate is there, and the arguments of the instance fit its parameters in number and sorts
abbrev pub fits_pred : InstOf → Option Pred → Bool
fits_pred i None = false
fits_pred i (Some q) = sorts_fit i.args q.params

-- the arguments of the instance fit its predicate in number and sorts
abbrev pub inst_fits : PredsValue → InstOf → Bool
inst_fits preds i = fits_pred i (slice_get preds.list i.pred)

-- there is a cardinality, and it is a variable of sort Card
abbrev pub is_card_var : Option Var → Bool
is_card_var None = false
is_card_var (Some v) = sort_eq v.sort Card

-- each instance fits its predicate; those of the pre have a cardinality, those of the post have none
abbrev pub insts_fit : PredsValue → Goal → Bool
insts_fit preds g =
    list_all (inst_fits preds) (insts g.pre.chunks ++ insts g.post.chunks)
    && list_all (λ (i : InstOf). is_card_var i.card) (insts g.pre.chunks)
    && list_all (λ (i : InstOf). is_none i.card) (insts g.post.chunks)

-- ---- a goal that is formed

-- no variable stands twice in the list
abbrev pub all_differ : List Var → Bool
all_differ [] = true
all_differ (v ∷ vs) = not (var_in v vs) && all_differ vs

-- the variables of a chunk but for its cardinality
abbrev pub term_part_vars : Chunk → List Var
term_part_vars (Inst i) = flat_map arg_vars i.args
term_part_vars (Block k) = term_vars k.at
term_part_vars (Cell k) = term_vars k.at ++ term_vars k.content

-- the variables of sort Card in literals, arguments, addresses and contents
abbrev pub stray_cards : Goal → List Var
stray_cards g = filter (λ v. sort_eq v.sort Card)
    (g.program ++ g.exist ++ lits_vars g.pure_pre ++ lits_vars g.pure_post ++ flat_map term_part_vars (g.pre.chunks ++ g.post.chunks))

-- what each goal that is read from a text keeps
pub record IsFormed (preds : PredsValue) (g : Goal) : Type 0 where
  -- each instance fits its predicate in number and sorts of arguments
  pub instances_fit : IsTrue (list_all (inst_fits preds) (insts g.pre.chunks ++ insts g.post.chunks))
  -- the program variables are integers and differ
  pub program_int : IsTrue (list_all (λ (v : Var). sort_eq v.sort Int) g.program)
  pub program_differs : IsTrue (all_differ g.program)
  pub exist_differs : IsTrue (all_differ g.exist)
  -- no existential is a program variable or occurs in the precondition
  pub exist_apart : IsTrue (list_all (λ v. not (var_in v (g.program ++ lits_vars g.pure_pre ++ chunks_vars g.pre.chunks))) g.exist)
  -- each instance of the precondition has a cardinality, and none of the postcondition has one
  pub pre_cards : IsTrue (list_all (λ (i : InstOf). is_card_var i.card) (insts g.pre.chunks))
  pub post_cards : IsTrue (list_all (λ (i : InstOf). is_none i.card) (insts g.post.chunks))
  -- each cardinality stands once, and nowhere but at its instance
  pub cards_differ : IsTrue (all_differ (flat_map (λ (i : InstOf). card_vars i.card) (insts g.pre.chunks)))
  pub cards_alone : stray_cards g ≡ []

-- ---- a node that is well linked

-- the second list begins with the terms of the first
abbrev pub is_prefix : List Term → List Term → Bool
is_prefix [] ys = true
is_prefix (x ∷ xs) (y ∷ ys) = term_eq x y && is_prefix xs ys
is_prefix (x ∷ xs) [] = false

-- each tuple begins the next one
abbrev pub tuples_grow : List Link → Bool
tuples_grow [] = true
tuples_grow (k ∷ []) = true
tuples_grow (k ∷ l ∷ ks) = is_prefix k.tuple l.tuple && tuples_grow (l ∷ ks)

-- the k-th link has at most 16 k terms, counted from this number of terms
abbrev pub tuples_short : ℕ → List Link → Bool
tuples_short room [] = true
tuples_short room (k ∷ ks) = nat_le (length k.tuple) room && tuples_short (room + 16) ks

-- at most 4 companions with fitting goals within limits, and short measures that each extend the one before
pub record IsWellLinked (n : NodeValue) : Type 0 where
  pub few : IsTrue (nat_le (length n.links) 4)
  pub goals_within : IsTrue (list_all (λ (k : Link). is_within_limits (record { preds = n.preds; goal = k.goal; links = [] })) n.links)
  pub goals_fit : IsTrue (list_all (λ (k : Link). insts_fit n.preds k.goal) n.links)
  pub grows : IsTrue (tuples_grow n.links)
  pub short : IsTrue (tuples_short 16 n.links)
  pub own_as_long : IsTrue (list_all (λ (k : Link). length k.own == length k.tuple) n.links)
