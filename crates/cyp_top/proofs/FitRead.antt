-- A goal that is read is fit: the chunks of its precondition are in order, and no block has more than 8 cells.
use Rattle.std.proofs.Common.{List, Ok, [], cond, flat_map, map, refl, subst, true, ◌∙◌, ◌++◌, ◌≡◌, ℕ}
use Rattle.std.specs.Prelude.{Bool, nat_le}
use Rattle.std.specs.List.{list_all}
use Rattle.std.proofs.lemmas.Bool.{and_parts}
use Rattle.std.proofs.lemmas.List.Folds.{list_all-map}
use Rattle.cyp_formed.proofs.FormedInstances.{kinds_among}
use Rattle.cyp_formed.proofs.FormedPreds.{parts_none}
use Rattle.cyp_formed.proofs.ReadTrees.{ReadTree, tree_read}
use Rattle.cyp_formed.specs.LimitFaults.{limit_faults}
use Rattle.cyp_formed.specs.Reading.{IsReading}
use Rattle.cyp_heap.specs.declared.pred.Clause.{Clause}
use Rattle.cyp_heap.specs.declared.pred.Pred.{Pred}
use Rattle.cyp_lex.specs.declared.fault.Fault.{Fault}
use Rattle.cyp_lex.specs.declared.fault.FaultKind.TheVariants.{TooLarge}
use Rattle.cyp_names.proofs.NoFaults.{none_both, none_each, test_true}
use Rattle.cyp_names.specs.Bodies.{in_kinds}
use Rattle.cyp_names.specs.NameFaults.{clauses, fault_at, name_faults}
use Rattle.cyp_names.specs.PredFaults.{guard_of, is_pred_within, overlap_faults, pred_limit_faults, size_fault, size_faults, unproductive_fault}
use Rattle.cyp_names.specs.ReadTerms.{Scope, read_chunk, read_chunks}
use Rattle.cyp_names.specs.Specifications.{Specification, clause_scope, goal_scope, read_clause, read_goal, read_pred, read_preds}
use Rattle.cyp_reading.proofs.CardsGiven.{order_given}
use Rattle.cyp_reading.proofs.HeapsRead.{heap_in_order}
use Rattle.cyp_sound.specs.Kept.{are_small, is_small}
use Rattle.cyp_sound.specs.Laws.{IsFit}
use Rattle.cyp_term.proofs.Lists.{Among, each_from}
use Rattle.cyp_text.specs.declared.tree.BodyTree.{BodyTree}
use Rattle.cyp_text.specs.declared.tree.ChunkTree.{ChunkTree}
use Rattle.cyp_text.specs.declared.tree.ChunkTree.TheVariants.{BlockOf, InstanceOf, NamedCell, TermCell}
use Rattle.cyp_text.specs.declared.tree.ClauseTree.{ClauseTree}
use Rattle.cyp_text.specs.declared.tree.PredTree.{PredTree}
use Rattle.cyp_text.specs.declared.tree.TextTree.{TextTree}

-- a test that holds of what each element gives
each_mapped : {A B : Type 0} (f : A → B) (test : B → Bool) (xs : List A) → ((x : A) → Among x xs → test (f x) ≡ true) → list_all test (map f xs) ≡ true
each_mapped f test xs h = list_all-map test f xs ∙ each_from (λ x. test (f x)) xs h

-- ---- blocks

chunk_small : (qs : List PredTree) (sc : Scope) (c : ChunkTree) → size_fault c ≡ [] → is_small (read_chunk qs sc c) ≡ true
chunk_small qs sc (NamedCell i t) e = refl
chunk_small qs sc (TermCell a t) e = refl
chunk_small qs sc (BlockOf a p n) e = (and_parts (nat_le 1 n) (nat_le n 8) (test_true _ _ [] e)).1
chunk_small qs sc (InstanceOf i xs) e = refl

body_small : (qs : List PredTree) (sc : Scope) (b : BodyTree) → size_faults b ≡ [] → list_all is_small (read_chunks qs sc b) ≡ true
body_small qs sc b e =
    each_mapped (read_chunk qs sc) is_small (in_kinds b.chunks) (λ c m. chunk_small qs sc c (none_each size_fault b.chunks e c (kinds_among b.chunks c m)))

module _ (t : TextTree) (right : name_faults t ≡ []) (within : limit_faults t ≡ []) where
  module _ (q : PredTree) (m : Among q t.preds) where
    abbrev sizes_part : List Fault
    sizes_part = flat_map (λ (c : ClauseTree). size_faults c.body) (clauses q)

    abbrev limits_part : List Fault
    limits_part = cond (is_pred_within (read_pred t.preds q)) [] (fault_at TooLarge q.name.place)

    abbrev first_parts : List Fault
    first_parts = overlap_faults (guard_of t.preds q.params) [] (clauses q) ++ flat_map unproductive_fault (clauses q)

    pred_none : pred_limit_faults t.preds q ≡ []
    pred_none = none_each (pred_limit_faults t.preds) t.preds (parts_none t right within).0 q m

    sizes_none : sizes_part ≡ []
    sizes_none = (none_both first_parts sizes_part (none_both (first_parts ++ sizes_part) limits_part pred_none).0).1

    clause_small : (c : ClauseTree) → Among c (clauses q) → list_all is_small (read_clause t.preds q.params c).heap.chunks ≡ true
    clause_small c k = body_small t.preds (clause_scope t.preds q.params c) c.body (none_each (λ (d : ClauseTree). size_faults d.body) (clauses q) sizes_none c k)

  preds_small : are_small (read_preds t.preds) ≡ true
  preds_small =
      each_mapped (read_pred t.preds) (λ (q : Pred). list_all (λ (c : Clause). list_all is_small c.heap.chunks) q.clauses) t.preds
      (λ q m. each_mapped (read_clause t.preds q.params) (λ (c : Clause). list_all is_small c.heap.chunks) (clauses q) (clause_small q m))

  -- ---- the goal

  fit : IsFit (read_preds t.preds) (read_goal t)
  fit = record {
    order = order_given 0 (read_chunks t.preds (goal_scope t) t.pre) ∙ heap_in_order t.preds (goal_scope t) t.pre.chunks;
    post_small = body_small t.preds (goal_scope t) t.post (parts_none t right within).3;
    preds_small = preds_small;
  }

-- a goal that is read is fit over its predicates
pub read_is_fit : (bytes : List ℕ) (s : Specification) → IsReading bytes (Ok s) → IsFit s.preds s.goal
read_is_fit bytes s a =
    let r : ReadTree s = tree_read bytes s a in
    subst (λ (x : Specification). IsFit x.preds x.goal) r.says (fit r.tree r.names_right r.within)
