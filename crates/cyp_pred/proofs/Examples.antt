-- Instances unfolded, computed.
use Rattle.std.proofs.Common.{◌≡◌, ℕ, [], ◌∷◌, map, true, false, Option, Some, None, refl}
use Rattle.cyp_heap.specs.declared.chunk.Arg.TheVariants.{Int as IntArg, Set as SetArg}
use Rattle.cyp_heap.specs.declared.chunk.Chunk.{Chunk}
use Rattle.cyp_heap.specs.declared.chunk.Chunk.TheVariants.{Inst}
use Rattle.cyp_heap.specs.declared.chunk.InstOf.{InstOf}
use Rattle.cyp_pred.specs.Unfold.{unfold_inst, wide_unfolded}
use Rattle.cyp_pred.specs.declared.unfolded.Next.{Next}
use Rattle.cyp_term.specs.declared.lit.Lit.TheVariants.{Eq, Lt, Ne, Same}
use Rattle.cyp_term.specs.declared.term.Term.{Term}
use Rattle.cyp_term.specs.declared.term.Var.{Var}
use Rattle.cyp_heap.proofs.Short.{K, S, X, X+, block, cell, k, lists, no_members, no_preds, num, with_elem}

-- the list at this address, unfolded twice already
abbrev list : Term → Option Var → InstOf
list a c = record { pred = 0; args = IntArg a ∷ SetArg (S 0) ∷ []; card = c; tag = 2 }

-- the rest of the list, with the next tag
abbrev rest : ℕ → ℕ → Option Var → Chunk
rest n m c = Inst (record { pred = 0; args = IntArg (X n) ∷ SetArg (S m) ∷ []; card = c; tag = 3 })

abbrev next : Next
next = record { ints = 5; cards = 1; sets = 4 }

-- the parameters are replaced, the clause's own variables are new, and the rest's cardinality is below the list's
with_card : unfold_inst lists (list (X 0) (Some (k 0))) next
    ≡ record { guard = Eq (X 0) (num 0); lits = Same (S 0) no_members ∷ []; heap = record { chunks = [] }; next = next }
    ∷ record {
      guard = Ne (X 0) (num 0);
      lits = Same (S 0) (with_elem (X 5) 4) ∷ Lt (K 1) (K 0) ∷ [];
      heap = record { chunks = rest 6 4 (Some (k 1)) ∷ block (X 0) 2 ∷ cell (X 0) (X 5) ∷ cell (X+ 0 1) (X 6) ∷ [] };
      next = record { ints = 7; cards = 2; sets = 5 };
    }
    ∷ []
with_card = refl

-- an instance without a cardinality leaves none
without_card : unfold_inst lists (list (X 0) None) next
    ≡ record { guard = Eq (X 0) (num 0); lits = Same (S 0) no_members ∷ []; heap = record { chunks = [] }; next = next }
    ∷ record {
      guard = Ne (X 0) (num 0);
      lits = Same (S 0) (with_elem (X 5) 4) ∷ [];
      heap = record { chunks = rest 6 4 None ∷ block (X 0) 2 ∷ cell (X 0) (X 5) ∷ cell (X+ 0 1) (X 6) ∷ [] };
      next = record { ints = 7; cards = 1; sets = 5 };
    }
    ∷ []
without_card = refl

-- the second clause has a cell behind the address
past_the_widest : map wide_unfolded (unfold_inst lists (list (X+ 0 4294967296) None) next) ≡ false ∷ true ∷ []
past_the_widest = refl

no_such_predicate : unfold_inst no_preds (list (X 0) None) next ≡ []
no_such_predicate = refl
