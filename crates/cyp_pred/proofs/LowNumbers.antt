-- There are numbers for new variables where the next free ones are at most 32.
use Rattle.std.proofs.Common.{◌≡◌, refl, arith, ℕ, ◌+◌, ◌-◌, ◌<◌, ◌≤◌, Bool, true, false, ◌&&◌, List, [], ◌∷◌, None, Option, Some, length, map}
use Rattle.std.proofs.lemmas.Bool.{and_from, and_parts, leb-true, lt-ltb}
use Rattle.std.proofs.lemmas.List.{length-map}
use Rattle.std.specs.List.{list_all, slice_get}
use Rattle.std.specs.Prelude.{IsTrue, nat_le, nat_lt}
use Rattle.cyp_heap.specs.Chunks.{apply_chunk, insts}
use Rattle.cyp_heap.specs.PredsFormed.{IsFormedPreds, clause_elements, is_clause_within}
use Rattle.cyp_heap.specs.declared.chunk.Chunk.{Chunk}
use Rattle.cyp_heap.specs.declared.chunk.InstOf.{InstOf}
use Rattle.cyp_heap.specs.declared.pred.Clause.{Clause}
use Rattle.cyp_heap.specs.declared.pred.Preds.{Preds}
use Rattle.cyp_pred.proofs.Ready.{clauses_pass, first_part}
use Rattle.cyp_pred.proofs.Tagged.{few_insts}
use Rattle.cyp_pred.specs.Unfold.{cards_used, clause_subst, clauses_of, int_args, set_args, unfold_clause, unfold_inst}
use Rattle.cyp_pred.specs.Unfoldable.{is_numbered}
use Rattle.cyp_pred.specs.declared.unfolded.Next.{Next}
use Rattle.cyp_pred.specs.declared.unfolded.Unfolded.{Unfolded}
use Rattle.cyp_term.specs.Terms.{term_eq, without_repeats}
use Rattle.cyp_term.specs.declared.subst.Subst.{Subst}
use Rattle.cyp_term.specs.declared.term.Var.{Var}

used_most : (card : Option Var) (n : ℕ) → cards_used card n ≤ n
used_most None n = omega arith
used_most (Some v) n = omega arith

part_3 : (a b c d e : Bool) → IsTrue (a && b && c && d && e) → IsTrue c
part_3 a b true d e h = refl
part_3 true true false d e h = h
part_3 true false false d e h = h
part_3 false b false d e h = h

part_4 : (a b c d e : Bool) → IsTrue (a && b && c && d && e) → IsTrue d
part_4 a b c true e h = refl
part_4 true true true false e h = h
part_4 true true false false e h = h
part_4 true false c false e h = h
part_4 false b c false e h = h

less : (a b c : ℕ) → a ≤ 32 → b ≤ 64 → a + (b - c) < 256
less a b c h k = omega arith

module _ (i : InstOf) (next : Next) (ints : next.ints ≤ 32) (cards : next.cards ≤ 32) (sets : next.sets ≤ 32) where
  low_clause : (c : Clause) → IsTrue (is_clause_within c) → IsTrue (is_numbered (unfold_clause i next c).next)
  low_clause c h =
      let by : Subst = clause_subst i.args c next in
      let cs : List Chunk = map (apply_chunk by) c.heap.chunks in
      let few_chunks : Bool = nat_le (length c.heap.chunks) 8 in
      let few_lits : Bool = nat_le (length c.lits) 8 in
      let few_ints : Bool = nat_le c.ints 64 in
      let few_sets : Bool = nat_le c.sets 32 in
      let few_elements : Bool = nat_le (length (without_repeats term_eq (clause_elements c))) 32 in
      let chunks : length c.heap.chunks ≤ 8 = leb-true (length c.heap.chunks) 8 (first_part few_chunks few_lits few_ints few_sets few_elements h) in
      let most_ints : c.ints ≤ 64 = leb-true c.ints 64 (part_3 few_chunks few_lits few_ints few_sets few_elements h) in
      let most_sets : c.sets ≤ 32 = leb-true c.sets 32 (part_4 few_chunks few_lits few_ints few_sets few_elements h) in
      let as_many : length cs ≡ length c.heap.chunks = length-map c.heap.chunks (apply_chunk by) in
      let few : length (insts cs) ≤ length cs = few_insts cs in
      let used : cards_used i.card (length (insts cs)) ≤ length (insts cs) = used_most i.card (length (insts cs)) in
      let n : Next = (unfold_clause i next c).next in
      and_from (nat_lt n.ints 256 && nat_lt n.cards 256) (nat_lt n.sets 256)
      (and_from (nat_lt n.ints 256) (nat_lt n.cards 256)
      (lt-ltb n.ints 256 (less next.ints c.ints (length (int_args i.args)) ints most_ints))
      (lt-ltb n.cards 256 (omega arith)))
      (lt-ltb n.sets 256 (less next.sets c.sets (length (set_args i.args)) sets (omega arith)))

  low_clauses : (cs : List Clause) → IsTrue (list_all (λ c. is_clause_within c) cs) → IsTrue (list_all (λ (u : Unfolded). is_numbered u.next) (map (unfold_clause i next) cs))
  low_clauses [] h = refl
  low_clauses (c ∷ cs) h =
      let p : IsTrue (is_clause_within c) × IsTrue (list_all (λ d. is_clause_within d) cs) = and_parts _ _ h in
      and_from (is_numbered (unfold_clause i next c).next) (list_all (λ (u : Unfolded). is_numbered u.next) (map (unfold_clause i next) cs)) (low_clause c p.0) (low_clauses cs p.1)

-- what callers need to know of numbers
pub low_numbers : (preds : Preds) (i : InstOf) (next : Next) → IsFormedPreds preds → next.ints ≤ 32 → next.cards ≤ 32 → next.sets ≤ 32
    → IsTrue (list_all (λ (u : Unfolded). is_numbered u.next) (unfold_inst preds i next))
low_numbers preds i next formed ints cards sets =
    low_clauses i next ints cards sets (clauses_of (slice_get preds.list i.pred)) (clauses_pass (λ c. is_clause_within c) preds.list i.pred formed.clauses_within)
