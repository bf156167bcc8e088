-- How a companion's precondition lies in a node's.
use Rattle.std.specs.Prelude.{[], ◌&&◌, ◌++◌, ◌==◌, Bool, List, None, Option, Some, cond, false, filter, filter_map, flat_map, is_some, map, neg_ℤ, not, option_map, slice_get, take, true, ◌||◌, ℕ, ◌∷◌}
use Rattle.std.specs.List.{list_any}
use Rattle.std.specs.Option.{option_and_then}
use Rattle.cyp_term.specs.Terms.{apply_set, apply_term, int_image, is_set_var, plus, set_image, term_vars, var_eq, var_in, var_term, wide_lit, wide_subst, wide_term, without_repeats}
use Rattle.cyp_heap.specs.Goals.{goal_vars}
use Rattle.cyp_heap.specs.declared.chunk.Arg.{Arg}
use Rattle.cyp_heap.specs.declared.chunk.Arg.TheVariants.{Int as IntArg, Set as SetArg}
use Rattle.cyp_heap.specs.declared.chunk.Chunk.{Chunk}
use Rattle.cyp_heap.specs.declared.chunk.Chunk.TheVariants.{Block, Cell, Inst}
use Rattle.cyp_heap.specs.declared.goal.Link.{Link}
use Rattle.cyp_heap.specs.declared.goal.Node.{Node}
use Rattle.cyp_term.specs.declared.lit.Lit.{Lit}
use Rattle.cyp_term.specs.declared.lit.Lit.TheVariants.{Eq, Same}
use Rattle.cyp_term.specs.declared.lit.SetTerm.{SetTerm}
use Rattle.cyp_term.specs.declared.subst.Subst.{Subst}
use Rattle.cyp_term.specs.declared.term.Term.{Term}
use Rattle.cyp_term.specs.declared.term.Var.{Var}
use Rattle.cyp_unify.specs.Frames.{alike, with_places}
use Rattle.cyp_unify.specs.declared.found.Match.{Match}
use Rattle.cyp_unify.specs.declared.found.Mend.{Mend}

-- a place where a companion's chunk and a present chunk meet
pub data Position : Type 0 where
  -- an argument, an address or a cardinality
  Plain : Term → Term → Position
  -- the content of the present cell at this place
  Content : ℕ → Term → Term → Position
  OfSet : SetTerm → SetTerm → Position

-- the position where two arguments of one sort meet; none where their sorts differ
abbrev pub arg_position : Arg → Arg → List Position
arg_position (IntArg t) (IntArg r) = Plain t r ∷ []
arg_position (SetArg u) (SetArg r) = OfSet u r ∷ []
arg_position _ _ = []

-- the positions of the arguments at equal places, in order
abbrev pub arg_positions : List Arg → List Arg → List Position
arg_positions (a ∷ xs) (b ∷ ys) = arg_position a b ++ arg_positions xs ys
arg_positions _ _ = []

-- the position where the two cardinalities meet, if both chunks have one
abbrev pub card_position : Option Var → Option Var → List Position
card_position (Some c) (Some d) = Plain (var_term c) (var_term d) ∷ []
card_position _ _ = []

-- the positions of a companion's chunk and the present chunk at this place: arguments before the cardinality, the address before the content
abbrev pub positions : Chunk → ℕ → Chunk → List Position
positions (Inst i) k (Inst j) = arg_positions i.args j.args ++ card_position i.card j.card
positions (Block b) k (Block c) = Plain b.at c.at ∷ []
positions (Cell b) k (Cell c) = Plain b.at c.at ∷ Content k b.content c.content ∷ []
positions _ k _ = []

-- what a walk over the positions has found: bindings, equalities, set equalities that wait until all is bound, and stores
pub record Walk : Type 0 where
  pub by : Subst
  pub need : List Lit
  pub late : List (SetTerm × SetTerm)
  pub mends : List Mend

-- the bindings and, behind them, this term for this integer variable
abbrev pub add_int : Subst → Var → Term → Subst
add_int by v t = record { ints = by.ints ++ record { var = v; to = t } ∷ []; sets = by.sets }

-- the bindings and, behind them, this set term for this set variable
abbrev pub add_set : Subst → Var → SetTerm → Subst
add_set by v u = record { ints = by.ints; sets = by.sets ++ record { var = v; to = u } ∷ [] }

-- the variable that this companion term would bind: its base, where that is no existential and is unbound
abbrev pub binds : List Var → Subst → Term → Option Var
binds exist by t = elim t.base [
  | None ↦ None
  | Some v ↦ cond (var_in v exist || is_some (int_image by.ints v)) None (Some v)
]

-- a set term that is one variable
abbrev pub lone_of_parts : List Var → List Term → Option Var
lone_of_parts (v ∷ []) [] = Some v
lone_of_parts _ _ = None

-- the variable that is the whole set term, if it is one
abbrev pub lone_var : SetTerm → Option Var
lone_var u = lone_of_parts u.vars u.elems

-- a set term with several parts or with an element waits
abbrev pub parts_wait : List Var → List Term → Bool
parts_wait [] [] = false
parts_wait (v ∷ []) [] = false
parts_wait _ _ = true

-- the set term is neither empty nor one variable: its equality waits until all is bound
abbrev pub waits : SetTerm → Bool
waits u = parts_wait u.vars u.elems

-- an equality of set terms, which waits, or is needed at once under the bindings so far
abbrev pub set_step : Walk → SetTerm → SetTerm → Bool → Walk
set_step w u r true = record w { late = w.late ++ (u, r) ∷ [] }
set_step w u r false = record w { need = w.need ++ Same (apply_set w.by u) r ∷ [] }

-- one position: it binds a variable, or it adds an equality or a store
abbrev pub walk_step : List Var → Walk → Position → Walk
walk_step exist w (Plain t r) = elim (binds exist w.by t) [
  | Some v ↦ record w { by = add_int w.by v (plus r (neg_ℤ t.offset)) }
  | None ↦ record w { need = w.need ++ Eq (apply_term w.by t) r ∷ [] }
]
walk_step exist w (Content k t r) = elim (binds exist w.by t) [
  | Some v ↦ record w { by = add_int w.by v (plus r (neg_ℤ t.offset)) }
  | None ↦ record w { mends = w.mends ++ record { cell = k; value = apply_term w.by t } ∷ [] }
]
walk_step exist w (OfSet u r) = elim (lone_var u) [
  | None ↦ set_step w u r (waits u)
  | Some v ↦ elim (var_in v exist || is_some (set_image w.by.sets v)) [
    | true ↦ set_step w u r false
    | false ↦ record w { by = add_set w.by v r }
  ]
]

-- what is found when the walk goes on over these positions in order
abbrev pub walk : List Var → Walk → List Position → Walk
walk exist w [] = w
walk exist w (p ∷ ps) = walk exist (walk_step exist w p) ps

-- what has been found before the first position: nothing
abbrev pub no_walk : Walk
no_walk = record { by = record { ints = []; sets = [] }; need = []; late = []; mends = [] }

-- the variable's image in the map joins the bindings, unless it is bound; none where there is no image
abbrev pub bound_by_map : Subst → Subst → Var → Option Subst
bound_by_map m by v = elim (is_set_var v) [
  | false ↦ elim (is_some (int_image by.ints v)) [ true ↦ Some by | false ↦ option_map (add_int by v) (int_image m.ints v) ]
  | true ↦ elim (is_some (set_image by.sets v)) [ true ↦ Some by | false ↦ option_map (add_set by v) (set_image m.sets v) ]
]

-- each of these variables is bound, where need be by the map; none where one has no image there either
abbrev pub all_bound : Subst → Subst → List Var → Option Subst
all_bound m by [] = Some by
all_bound m by (v ∷ vs) = option_and_then (λ (b : Subst). all_bound m b vs) (bound_by_map m by v)

-- the variables of the companion that a match binds: those of its goal outside its existentials, and those of its measure
abbrev pub to_bind : Link → List Var
to_bind l = without_repeats var_eq (filter (λ v. not (var_in v l.goal.exist)) (goal_vars l.goal) ++ flat_map term_vars l.own)

-- the pairing gives each companion chunk a different present chunk that is alike
abbrev pub pair_positions : List Chunk → List Chunk → List ℕ → Option (List Position)
pair_positions present [] [] = Some []
pair_positions present (c ∷ cs) (k ∷ ks) = elim (slice_get present k) [
  | None ↦ None
  | Some d ↦ elim (alike c d && not (list_any (λ j. j == k) ks)) [
    | false ↦ None
    | true ↦ option_map (λ (ps : List Position). positions c k d ++ ps) (pair_positions present cs ks)
  ]
]
pair_positions present _ _ = None

-- the match of a finished walk; none where a variable stays unbound or an offset passes 2 ^ 32
abbrev pub finish_match : Link → List ℕ → Walk → Option Match
finish_match l ks w = option_and_then (λ (by : Subst).
    let need : List Lit = w.need ++ map (λ (p : SetTerm × SetTerm). Same (apply_set by p.0) p.1) w.late in
    cond (wide_subst by || list_any wide_lit need || list_any (λ (m : Mend). wide_term m.value) w.mends)
    None
    (Some (record { pairs = ks; by = by; need = need; mends = w.mends })))
    (all_bound l.map w.by (to_bind l))

-- the match of this pairing, where there is one
abbrev pub match_at : Node → Link → List ℕ → Option Match
match_at n l ks =
    option_and_then (λ ps. finish_match l ks (walk l.goal.exist no_walk ps)) (pair_positions n.goal.pre.chunks l.goal.pre.chunks ks)

-- the pairings in lexicographic order, with places that aren't used yet
abbrev pub pairings : List (ℕ × Chunk) → List ℕ → List Chunk → List (List ℕ)
pairings present used [] = [] ∷ []
pairings present used (c ∷ cs) =
    flat_map (λ (p : ℕ × Chunk). elim (alike c p.1 && not (list_any (λ j. j == p.0) used)) [
      | false ↦ []
      | true ↦ map (λ (ks : List ℕ). p.0 ∷ ks) (pairings present (p.0 ∷ used) cs)
    ]) present

-- the first 64 matches in lexicographic order of their pairings
abbrev pub matches : Node → Link → List Match
matches n l = take 64 (filter_map (match_at n l) (pairings (with_places 0 n.goal.pre.chunks) [] l.goal.pre.chunks))
