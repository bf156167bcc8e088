-- What an instance of a predicate unfolds to: one entry for each clause.
use Rattle.std.specs.Prelude.{[], ◌+◌, ◌++◌, ◌-◌, Bool, List, None, Option, Some, length, map, slice_get, suc, zero, ◌||◌, ℕ, ◌∷◌}
use Rattle.std.specs.List.{list_any}
use Rattle.cyp_heap.specs.Chunks.{apply_chunk, insts, wide_chunk}
use Rattle.cyp_heap.specs.declared.chunk.Arg.{Arg}
use Rattle.cyp_heap.specs.declared.chunk.Arg.TheVariants.{Int as IntArg, Set as SetArg}
use Rattle.cyp_heap.specs.declared.chunk.Chunk.{Chunk}
use Rattle.cyp_heap.specs.declared.chunk.Chunk.TheVariants.{Block, Cell, Inst}
use Rattle.cyp_heap.specs.declared.chunk.InstOf.{InstOf}
use Rattle.cyp_heap.specs.declared.pred.Clause.{Clause}
use Rattle.cyp_heap.specs.declared.pred.Pred.{Pred}
use Rattle.cyp_heap.specs.declared.pred.Preds.{Preds}
use Rattle.cyp_pred.specs.declared.unfolded.Next.{Next}
use Rattle.cyp_pred.specs.declared.unfolded.Unfolded.{Unfolded}
use Rattle.cyp_term.specs.Terms.{apply_lit, set_var, var_term, wide_lit}
use Rattle.cyp_term.specs.declared.lit.Lit.{Lit}
use Rattle.cyp_term.specs.declared.lit.Lit.TheVariants.{Lt}
use Rattle.cyp_term.specs.declared.lit.SetTerm.{SetTerm}
use Rattle.cyp_term.specs.declared.subst.IntBind.{IntBind}
use Rattle.cyp_term.specs.declared.subst.SetBind.{SetBind}
use Rattle.cyp_term.specs.declared.subst.Subst.{Subst}
use Rattle.cyp_term.specs.declared.term.Sort.TheVariants.{Card, Int, Set}
use Rattle.cyp_term.specs.declared.term.Term.{Term}
use Rattle.cyp_term.specs.declared.term.Var.{Var}

-- this many numbers from the first on
abbrev pub count_from : ℕ → ℕ → List ℕ
count_from a zero = []
count_from a (suc n) = a ∷ count_from (suc a) n

-- this many integer variables, numbered from the first number on
abbrev pub new_ints : ℕ → ℕ → List Var
new_ints a n = map (λ j. record { sort = Int; number = j }) (count_from a n)

-- this many set variables, numbered from the first number on
abbrev pub new_sets : ℕ → ℕ → List Var
new_sets a n = map (λ j. record { sort = Set; number = j }) (count_from a n)

-- the cardinality variable with this number
abbrev pub card_var : ℕ → Var
card_var n = record { sort = Card; number = n }

-- the arguments of each sort in order
abbrev pub int_args : List Arg → List Term
int_args [] = []
int_args (IntArg t ∷ xs) = t ∷ int_args xs
int_args (SetArg u ∷ xs) = int_args xs

-- the arguments that are set terms, in order
abbrev pub set_args : List Arg → List SetTerm
set_args [] = []
set_args (IntArg t ∷ xs) = set_args xs
set_args (SetArg u ∷ xs) = u ∷ set_args xs

-- the variables numbered from here on to these terms
abbrev pub bind_ints : ℕ → List Term → List IntBind
bind_ints a [] = []
bind_ints a (t ∷ ts) = record { var = record { sort = Int; number = a }; to = t } ∷ bind_ints (suc a) ts

-- the set variables numbered from here on to these set terms
abbrev pub bind_sets : ℕ → List SetTerm → List SetBind
bind_sets a [] = []
bind_sets a (u ∷ us) = record { var = record { sort = Set; number = a }; to = u } ∷ bind_sets (suc a) us

-- how many variables of the clause are its own
abbrev pub own_ints : List Arg → Clause → ℕ
own_ints args c = c.ints - length (int_args args)

-- how many set variables of the clause are its own: all but those that are parameters
abbrev pub own_sets : List Arg → Clause → ℕ
own_sets args c = c.sets - length (set_args args)

-- the parameters to the arguments, and the clause's own variables to new ones
abbrev pub clause_subst : List Arg → Clause → Next → Subst
clause_subst args c next = record {
  ints = bind_ints 0 (int_args args ++ map var_term (new_ints next.ints (own_ints args c)));
  sets = bind_sets 0 (set_args args ++ map set_var (new_sets next.sets (own_sets args c)));
}

-- a new cardinality, where the unfolded instance has one
abbrev pub new_card : Option Var → ℕ → Option Var
new_card None n = None
new_card (Some a) n = Some (card_var n)

-- the instances get this tag and new cardinalities in order
abbrev pub with_tags : Option Var → ℕ → ℕ → List Chunk → List Chunk
with_tags card tag n [] = []
with_tags card tag n (Inst i ∷ cs) = Inst (record { pred = i.pred; args = i.args; card = new_card card n; tag = tag }) ∷ with_tags card tag (suc n) cs
with_tags card tag n (Block b ∷ cs) = Block b ∷ with_tags card tag n cs
with_tags card tag n (Cell c ∷ cs) = Cell c ∷ with_tags card tag n cs

-- each new cardinality is below the unfolded instance's
abbrev pub below_card : Option Var → List ℕ → List Lit
below_card None ns = []
below_card (Some a) ns = map (λ n. Lt (var_term (card_var n)) (var_term a)) ns

-- how many new cardinalities are taken: one for each new instance, if the unfolded one has a cardinality
abbrev pub cards_used : Option Var → ℕ → ℕ
cards_used None n = 0
cards_used (Some a) n = n

-- the clause at the instance: arguments for parameters, new variables for its own, lesser cardinalities
abbrev pub unfold_clause : InstOf → Next → Clause → Unfolded
unfold_clause i next c =
    let by : Subst = clause_subst i.args c next in
    let chunks : List Chunk = map (apply_chunk by) c.heap.chunks in
    let subs : ℕ = length (insts chunks) in
    record {
      guard = apply_lit by c.guard;
      lits = map (apply_lit by) c.lits ++ below_card i.card (count_from next.cards subs);
      heap = record { chunks = with_tags i.card (suc i.tag) next.cards chunks };
      next = record { ints = next.ints + own_ints i.args c; cards = next.cards + cards_used i.card subs; sets = next.sets + own_sets i.args c };
    }

-- the clauses of the predicate, or none where there is no such predicate
abbrev pub clauses_of : Option Pred → List Clause
clauses_of None = []
clauses_of (Some q) = q.clauses

-- one entry per clause in order
abbrev pub unfold_inst : Preds → InstOf → Next → List Unfolded
unfold_inst preds i next = map (unfold_clause i next) (clauses_of (slice_get preds.list i.pred))

-- an offset of the entry passes 2 ^ 32
abbrev pub wide_unfolded : Unfolded → Bool
wide_unfolded u = wide_lit u.guard || list_any wide_lit u.lits || list_any wide_chunk u.heap.chunks
