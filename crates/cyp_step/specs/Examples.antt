-- A goal for a test.
use Rattle.std.specs.Prelude.{[], Some, pos, ◌∷◌}
use Rattle.cyp_heap.specs.declared.chunk.Chunk.TheVariants.{Inst}
use Rattle.cyp_heap.specs.declared.goal.Goal.{Goal}
use Rattle.cyp_term.specs.Terms.{number_term, var_term}
use Rattle.cyp_term.specs.declared.lit.Lit.TheVariants.{Lt}
use Rattle.cyp_term.specs.declared.term.Sort.TheVariants.{Card, Int}

-- an instance in the precondition, and that the program variable is below 5 in the postcondition
abbrev pub with_instance : Goal
with_instance = record {
  program = record { sort = Int; number = 0 } ∷ [];
  exist = [];
  pure_pre = [];
  pre = record { chunks = Inst (record { pred = 0; args = []; card = Some (record { sort = Card; number = 0 }); tag = 0 }) ∷ [] };
  pure_post = Lt (var_term (record { sort = Int; number = 0 })) (number_term (pos 5)) ∷ [];
  post = record { chunks = [] };
}
