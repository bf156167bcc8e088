-- Clauses and goals that are read with a given scope, where the sizes of blocks are brought into 1 to 8.
use Rattle.std.specs.Prelude.{List, drop, map, ℕ}
use Rattle.cyp_heap.specs.declared.goal.Goal.{Goal}
use Rattle.cyp_heap.specs.declared.pred.Clause.{Clause}
use Rattle.cyp_reading.specs.Mended.{mended_body}
use Rattle.cyp_term.specs.declared.term.Sort.TheVariants.{Int, Set}
use Rattle.cyp_names.specs.Bodies.{body_lits}
use Rattle.cyp_names.specs.ReadTerms.{Scope, read_chunks, read_lit, use_var}
use Rattle.cyp_names.specs.Specifications.{count_sort, with_cards}
use Rattle.cyp_names.specs.Uses.{param_uses}
use Rattle.cyp_text.specs.declared.tree.ClauseTree.{ClauseTree}
use Rattle.cyp_text.specs.declared.tree.PredTree.{PredTree}
use Rattle.cyp_text.specs.declared.tree.TextTree.{TextTree}

-- the clause in this scope
abbrev pub clause_in : List PredTree → Scope → ClauseTree → Clause
clause_in qs sc c = record {
  guard = read_lit sc c.guard;
  lits = map (read_lit sc) (body_lits c.body);
  heap = record { chunks = read_chunks qs sc (mended_body c.body) };
  ints = count_sort Int sc;
  sets = count_sort Set sc;
}

-- the goal in this scope, whose existentials begin at this place
abbrev pub goal_in : Scope → ℕ → TextTree → Goal
goal_in sc first t = record {
  program = map (use_var sc) (param_uses t.params);
  exist = map (use_var sc) (drop first sc);
  pure_pre = map (read_lit sc) (body_lits t.pre);
  pre = record { chunks = with_cards 0 (read_chunks t.preds sc (mended_body t.pre)) };
  pure_post = map (read_lit sc) (body_lits t.post);
  post = record { chunks = read_chunks t.preds sc (mended_body t.post) };
}
