-- The specification that a tree says: predicates, the procedure's name and its goal.
use Rattle.std.specs.Prelude.{[], List, Some, drop, false, filter, length, map, suc, ℕ, ◌++◌, ◌∷◌}
use Rattle.cyp_heap.specs.declared.chunk.Chunk.{Chunk}
use Rattle.cyp_heap.specs.declared.chunk.Chunk.TheVariants.{Block, Cell, Inst}
use Rattle.cyp_heap.specs.declared.goal.Goal.{Goal}
use Rattle.cyp_heap.specs.declared.pred.Clause.{Clause}
use Rattle.cyp_heap.specs.declared.pred.Pred.{Pred}
use Rattle.cyp_heap.specs.declared.pred.Preds.{Preds}
use Rattle.cyp_term.specs.Terms.{sort_eq, with_all_new, without_repeats}
use Rattle.cyp_term.specs.declared.term.Sort.{Sort}
use Rattle.cyp_term.specs.declared.term.Sort.TheVariants.{Card, Int, Set}
use Rattle.cyp_names.specs.Bodies.{kept_body, kept_lit}
use Rattle.cyp_names.specs.ReadTerms.{Scope, read_chunks, read_lit, read_lits, use_var}
use Rattle.cyp_names.specs.NameFaults.{clauses}
use Rattle.cyp_text.specs.declared.tree.ClauseTree.{ClauseTree}
use Rattle.cyp_text.specs.declared.tree.ParamTree.{ParamTree}
use Rattle.cyp_text.specs.declared.tree.PredTree.{PredTree}
use Rattle.cyp_text.specs.declared.tree.TextTree.{TextTree}
use Rattle.cyp_names.specs.Uses.{Use, param_sort, param_uses, same_name}

-- predicates, a procedure's name as its bytes, and its goal
pub record Specification : Type 0 where
  pub preds : Preds
  pub name : List ℕ
  pub goal : Goal

-- ---- predicates

-- the names of a clause: the parameters, then its own by first occurrence in the guard, the literals and the chunks as they are kept
abbrev pub clause_scope : List PredTree → List ParamTree → ClauseTree → Scope
clause_scope qs ps c = without_repeats same_name (param_uses ps ++ kept_lit false c.guard ++ kept_body qs c.body)

-- how many of the names are of a sort
abbrev pub count_sort : Sort → Scope → ℕ
count_sort s sc = length (filter (λ (u : Use). sort_eq u.sort s) sc)

-- a clause with its variables numbered; its counts are those of all its names
abbrev pub read_clause : List PredTree → List ParamTree → ClauseTree → Clause
read_clause qs ps c =
    let sc : Scope = clause_scope qs ps c in
    record {
      guard = read_lit sc c.guard;
      lits = read_lits sc c.body;
      heap = record { chunks = read_chunks qs sc c.body };
      ints = count_sort Int sc;
      sets = count_sort Set sc;
    }

-- a predicate with the sorts of its parameters and its clauses
abbrev pub read_pred : List PredTree → PredTree → Pred
read_pred qs q = record {
  name = q.name.text;
  params = map param_sort q.params;
  clauses = map (read_clause qs q.params) (clauses q);
}

-- the predicates in the order of the text
abbrev pub read_preds : List PredTree → Preds
read_preds qs = record { list = map (read_pred qs) qs }

-- ---- the goal

-- the names of the parameters and of the precondition as it is kept
abbrev pub universal_scope : TextTree → Scope
universal_scope t = without_repeats same_name (param_uses t.params ++ kept_body t.preds t.pre)

-- and then those that the postcondition alone has
abbrev pub goal_scope : TextTree → Scope
goal_scope t = with_all_new same_name (universal_scope t) (kept_body t.preds t.post)

-- the instances get cardinalities in order, numbered from this one on
abbrev pub with_cards : ℕ → List Chunk → List Chunk
with_cards k [] = []
with_cards k (Inst i ∷ cs) = Inst (record i { card = Some (record { sort = Card; number = k }) }) ∷ with_cards (suc k) cs
with_cards k (Block b ∷ cs) = Block b ∷ with_cards k cs
with_cards k (Cell c ∷ cs) = Cell c ∷ with_cards k cs

-- the parameters are the program variables, and what the postcondition alone has are the existentials
abbrev pub read_goal : TextTree → Goal
read_goal t =
    let sc : Scope = goal_scope t in
    record {
      program = map (use_var sc) (param_uses t.params);
      exist = map (use_var sc) (drop (length (universal_scope t)) sc);
      pure_pre = read_lits sc t.pre;
      pre = record { chunks = with_cards 0 (read_chunks t.preds sc t.pre) };
      pure_post = read_lits sc t.post;
      post = record { chunks = read_chunks t.preds sc t.post };
    }

-- the specification that the tree says
abbrev pub read_tree : TextTree → Specification
read_tree t = record { preds = read_preds t.preds; name = t.name.text; goal = read_goal t }
