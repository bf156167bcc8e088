-- What is asked of the predicates of a specification: their limits, their guards, and the variables and instances of clauses.
use Rattle.std.specs.Prelude.{Bool, IsTrue, [], List, false, filter, flat_map, is_none, length, map, nat_le, nat_lt, not, true, ◌&&◌, ◌++◌, ◌==◌, ℕ, ◌∷◌, ◌||◌}
use Rattle.std.specs.List.{list_all, list_any}
use Rattle.cyp_heap.specs.Chunks.{insts, is_inst}
use Rattle.cyp_heap.specs.Formed.{inst_fits}
use Rattle.cyp_heap.specs.Limits.{chunk_elements}
use Rattle.cyp_heap.specs.PredsValue.{PredsValue}
use Rattle.cyp_heap.specs.declared.chunk.Arg.{Arg}
use Rattle.cyp_heap.specs.declared.chunk.Arg.TheVariants.{Int as IntArg, Set as SetArg}
use Rattle.cyp_heap.specs.declared.chunk.Chunk.{Chunk}
use Rattle.cyp_heap.specs.declared.chunk.Chunk.TheVariants.{Block, Cell, Inst}
use Rattle.cyp_heap.specs.declared.chunk.InstOf.{InstOf}
use Rattle.cyp_heap.specs.declared.pred.Clause.{Clause}
use Rattle.cyp_heap.specs.declared.pred.Pred.{Pred}
use Rattle.cyp_term.specs.Entailment.{satisfiable}
use Rattle.cyp_term.specs.Integers.{is_int_lit}
use Rattle.cyp_term.specs.Regions.{lit_set_vars}
use Rattle.cyp_term.specs.Terms.{lit_elements, lit_vars, sort_eq, term_eq, term_vars, without_repeats}
use Rattle.cyp_term.specs.declared.lit.Lit.{Lit}
use Rattle.cyp_term.specs.declared.lit.Lit.TheVariants.{Eq, Le, Lt, Ne}
use Rattle.cyp_term.specs.declared.term.Sort.{Sort}
use Rattle.cyp_term.specs.declared.term.Sort.TheVariants.{Card, Int, Set}
use Rattle.cyp_term.specs.declared.term.Term.{Term}
use Rattle.cyp_term.specs.declared.term.Var.{Var}

-- ---- parameters and guards

-- how many of the parameters are of the sort
abbrev pub count_of : Sort → List Sort → ℕ
count_of s ss = length (filter (sort_eq s) ss)

-- the variable is of the sort, and its number is below the bound
abbrev pub is_below : Sort → ℕ → Var → Bool
is_below s bound v = sort_eq v.sort s && nat_lt v.number bound

-- a literal of integers over the predicate's parameters alone
abbrev pub is_guard : Pred → Lit → Bool
is_guard q l = is_int_lit l && list_all (is_below Int (count_of Int q.params)) (lit_vars l)

-- both guards can hold
abbrev pub overlap : Lit → Lit → Bool
overlap a b = satisfiable (a ∷ b ∷ [])

-- no two of the guards can both hold
abbrev pub none_overlap : List Lit → Bool
none_overlap [] = true
none_overlap (g ∷ gs) = not (list_any (overlap g) gs) && none_overlap gs

-- the guards of the predicate's clauses in order
abbrev pub clause_guards : Pred → List Lit
clause_guards q = map (λ (c : Clause). c.guard) q.clauses

-- ---- clauses

-- the integer terms of a literal: its sides, or its element terms where it speaks of sets
abbrev pub lit_terms : Lit → List Term
lit_terms (Eq a b) = a ∷ b ∷ []
lit_terms (Ne a b) = a ∷ b ∷ []
lit_terms (Le a b) = a ∷ b ∷ []
lit_terms (Lt a b) = a ∷ b ∷ []
lit_terms l = lit_elements l

-- the integer terms of an argument
abbrev pub arg_terms : Arg → List Term
arg_terms (IntArg t) = t ∷ []
arg_terms (SetArg u) = u.elems

-- the set variables of an argument
abbrev pub arg_set_vars : Arg → List Var
arg_set_vars (IntArg t) = []
arg_set_vars (SetArg u) = u.vars

-- the integer terms of a chunk
abbrev pub chunk_terms : Chunk → List Term
chunk_terms (Inst i) = flat_map arg_terms i.args
chunk_terms (Block k) = k.at ∷ []
chunk_terms (Cell k) = k.at ∷ k.content ∷ []

-- the set variables of a chunk
abbrev pub chunk_set_vars : Chunk → List Var
chunk_set_vars (Inst i) = flat_map arg_set_vars i.args
chunk_set_vars _ = []

-- the integer terms of the guard, the literals and the chunks
abbrev pub clause_terms : Clause → List Term
clause_terms c = lit_terms c.guard ++ flat_map lit_terms c.lits ++ flat_map chunk_terms c.heap.chunks

-- the set variables of the guard, the literals and the chunks
abbrev pub clause_set_vars : Clause → List Var
clause_set_vars c = lit_set_vars c.guard ++ flat_map lit_set_vars c.lits ++ flat_map chunk_set_vars c.heap.chunks

-- the element terms of the literals and the chunks, with repeats
abbrev pub clause_elements : Clause → List Term
clause_elements c = flat_map lit_elements c.lits ++ flat_map chunk_elements c.heap.chunks

-- the chunk is a points-to cell
abbrev pub is_cell : Chunk → Bool
is_cell (Cell k) = true
is_cell _ = false

-- a clause with an instance owns a cell, so that what it unfolds to gets smaller
abbrev pub is_productive : Clause → Bool
is_productive c = not (list_any is_inst c.heap.chunks) || list_any is_cell c.heap.chunks

-- the variables of terms are integers below the count of integers, those of unions sets below the count of sets
abbrev pub is_closed : Clause → Bool
is_closed c = list_all (is_below Int c.ints) (flat_map term_vars (clause_terms c)) && list_all (is_below Set c.sets) (clause_set_vars c)

-- the counts of variables have room for the parameters
abbrev pub counts_params : Pred → Clause → Bool
counts_params q c = nat_le (count_of Int q.params) c.ints && nat_le (count_of Set q.params) c.sets

-- each instance fits its predicate, and has no cardinality and the tag 0
abbrev pub insts_plain : PredsValue → Clause → Bool
insts_plain preds c = list_all (λ (i : InstOf). inst_fits preds i && is_none i.card && (i.tag == 0)) (insts c.heap.chunks)

-- no limit of a clause is passed
abbrev pub is_clause_within : Clause → Bool
is_clause_within c =
    nat_le (length c.heap.chunks) 8 && nat_le (length c.lits) 8
    && nat_le c.ints 64 && nat_le c.sets 32
    && nat_le (length (without_repeats term_eq (clause_elements c))) 32

-- ---- predicates

-- each clause of each predicate passes the test
abbrev pub all_clauses : (Pred → Clause → Bool) → PredsValue → Bool
all_clauses test preds = list_all (λ (q : Pred). list_all (test q) q.clauses) preds.list

-- what the predicates of each specification keep
pub record IsFormedPreds (preds : PredsValue) : Type 0 where
  -- at most 16 predicates
  pub few : IsTrue (nat_le (length preds.list) 16)
  -- from 1 to 8 clauses, and at most 8 parameters, each an integer or a set
  pub has_clauses : IsTrue (list_all (λ (q : Pred). nat_le 1 (length q.clauses)) preds.list)
  pub few_clauses : IsTrue (list_all (λ (q : Pred). nat_le (length q.clauses) 8) preds.list)
  pub few_params : IsTrue (list_all (λ (q : Pred). nat_le (length q.params) 8) preds.list)
  pub params_sorted : IsTrue (list_all (λ (q : Pred). list_all (λ s. not (sort_eq s Card)) q.params) preds.list)
  -- guards are literals of integers over parameters, and no two of one predicate can both hold
  pub guards_plain : IsTrue (all_clauses (λ q c. is_guard q c.guard) preds)
  pub guards_apart : IsTrue (list_all (λ q. none_overlap (clause_guards q)) preds.list)
  -- the variables of a clause are the parameters and its own
  pub params_counted : IsTrue (all_clauses counts_params preds)
  pub closed : IsTrue (all_clauses (λ q c. is_closed c) preds)
  -- the instances in clauses fit, and those clauses own a cell
  pub instances_plain : IsTrue (all_clauses (λ q c. insts_plain preds c) preds)
  pub productive : IsTrue (all_clauses (λ q c. is_productive c) preds)
  pub clauses_within : IsTrue (all_clauses (λ q c. is_clause_within c) preds)
