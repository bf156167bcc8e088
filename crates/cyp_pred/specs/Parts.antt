-- The parts of an unfolded clause, in the steps in which they are made.
use Rattle.std.specs.Prelude.{Bool, None, Option, Some, length, map, nat_le, suc, ℕ, ◌&&◌, ◌+◌, ◌++◌, ◌||◌}
use Rattle.std.specs.List.{list_any}
use Rattle.cyp_heap.specs.Chunks.{apply_heap, insts, wide_chunk}
use Rattle.cyp_heap.specs.declared.chunk.Chunk.{Chunk}
use Rattle.cyp_heap.specs.declared.chunk.Chunk.TheVariants.{Block, Cell, Inst}
use Rattle.cyp_heap.specs.declared.chunk.InstOf.{InstOf}
use Rattle.cyp_heap.specs.declared.pred.Clause.{Clause}
use Rattle.cyp_pred.specs.Unfold.{below_card, cards_used, count_from, new_card, own_ints, own_sets, unfold_clause, with_tags}
use Rattle.cyp_pred.specs.Unfoldable.{is_numbered}
use Rattle.cyp_pred.specs.declared.unfolded.Next.{Next}
use Rattle.cyp_pred.specs.declared.unfolded.Unfolded.{Unfolded}
use Rattle.cyp_term.specs.Terms.{apply_lit, wide_lit}
use Rattle.cyp_term.specs.declared.subst.Subst.{Subst}
use Rattle.cyp_term.specs.declared.term.Var.{Var}

-- the clause with every variable of its guard, literals and chunks replaced by its image
abbrev pub apply_clause : Subst → Clause → Clause
apply_clause by c = record { guard = apply_lit by c.guard; lits = map (apply_lit by) c.lits; heap = apply_heap by c.heap; ints = c.ints; sets = c.sets }

-- an offset of the clause passes 2 ^ 32
abbrev pub wide_clause : Clause → Bool
wide_clause c = wide_lit c.guard || list_any wide_lit c.lits || list_any wide_chunk c.heap.chunks

-- the chunk, with the tag and this number of a cardinality if it is an instance
abbrev pub with_tag : Option Var → ℕ → ℕ → Chunk → Chunk
with_tag card tag n (Inst i) = Inst (record { pred = i.pred; args = i.args; card = new_card card n; tag = tag })
with_tag card tag n (Block b) = Block b
with_tag card tag n (Cell c) = Cell c

-- the first number of the new cardinalities, and 0 where there are none
abbrev pub first_number : Option Var → ℕ → ℕ
first_number None n = 0
first_number (Some a) n = n

-- the clause has at most 8 chunks, and there is a number for each new variable
abbrev pub is_ready : InstOf → Next → Clause → Bool
is_ready i next c = nat_le (length c.heap.chunks) 8 && is_numbered (unfold_clause i next c).next

-- the next free numbers behind the clause's new variables and this many new instances
abbrev pub next_after : InstOf → Next → Clause → ℕ → Next
next_after i next c n = record { ints = next.ints + own_ints i.args c; cards = next.cards + cards_used i.card n; sets = next.sets + own_sets i.args c }

-- the entry, once the variables of the clause are replaced
abbrev pub entry : InstOf → Next → Clause → Unfolded
entry i next c =
    let subs : ℕ = length (insts c.heap.chunks) in
    record {
      guard = c.guard;
      lits = c.lits ++ below_card i.card (count_from next.cards subs);
      heap = record { chunks = with_tags i.card (suc i.tag) next.cards c.heap.chunks };
      next = next_after i next c subs;
    }
