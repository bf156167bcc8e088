-- A node with one instance, opened: the laws' conditions are met, and each premise has one companion.
use Rattle.std.proofs.Common.{◌≡◌, ℕ, pos, [], ◌∷◌, None, Some, IsTrue, length, map, option_map, refl}
use Rattle.cyp_heap.proofs.PrefixTuples.{IsWellLinked-none}
use Rattle.cyp_heap.specs.declared.chunk.Arg.TheVariants.{Int as IntArg}
use Rattle.cyp_heap.specs.declared.chunk.Chunk.TheVariants.{Cell, Inst}
use Rattle.cyp_heap.specs.declared.goal.Goal.{Goal}
use Rattle.cyp_heap.specs.declared.goal.Link.{Link}
use Rattle.cyp_heap.specs.declared.goal.Node.{Node}
use Rattle.cyp_heap.specs.declared.pred.Clause.{Clause}
use Rattle.cyp_heap.specs.declared.pred.Preds.{Preds}
use Rattle.cyp_step.specs.Nodes.{IsNode, clauses_fit}
use Rattle.cyp_step.specs.Step.{premises}
use Rattle.cyp_step.specs.declared.rule.Rule.TheVariants.{ByOpen}
use Rattle.cyp_term.specs.Terms.{number_term, var_term}
use Rattle.cyp_term.specs.declared.lit.Lit.TheVariants.{Eq, Ne}
use Rattle.cyp_term.specs.declared.term.Sort.TheVariants.{Card, Int}
use Rattle.cyp_term.specs.declared.term.Term.{Term}

abbrev x : ℕ → Term
x n = var_term (record { sort = Int; number = n })

-- the empty chain at 0
abbrev ends : Clause
ends = record { guard = Eq (x 0) (number_term (pos 0)); lits = []; heap = record { chunks = [] }; ints = 1; sets = 0 }

-- a cell that holds where the rest of the chain is
abbrev goes_on : Clause
goes_on = record {
  guard = Ne (x 0) (number_term (pos 0));
  lits = [];
  heap = record {
    chunks = Cell (record { at = x 0; content = x 1 }) ∷ (Inst (record { pred = 0; args = IntArg (x 1) ∷ []; card = None; tag = 0 }) ∷ []);
  };
  ints = 2;
  sets = 0;
}

abbrev chains : Preds
chains = record { list = record { name = []; params = Int ∷ []; clauses = ends ∷ (goes_on ∷ []) } ∷ [] }

-- a chain at a program variable, that is to be left empty
abbrev chain_goal : Goal
chain_goal = record {
  program = record { sort = Int; number = 0 } ∷ [];
  exist = [];
  pure_pre = [];
  pre = record { chunks = Inst (record { pred = 0; args = IntArg (x 0) ∷ []; card = Some (record { sort = Card; number = 0 }); tag = 0 }) ∷ [] };
  pure_post = [];
  post = record { chunks = [] };
}

abbrev chain : Node
chain = record { preds = chains; goal = chain_goal; links = [] }

chains_fit : IsTrue (clauses_fit chains)
chains_fit = refl

chain_is_node : IsNode chain
chain_is_node = record { within = refl; raw = record { fits = refl; linked = IsWellLinked-none chains chain_goal } }

-- two premises, each with one companion whose measure is one cardinality
opened_chain : option_map (map (λ (m : Node). map (λ (k : Link). length k.tuple) m.links)) (premises chain (ByOpen 0)) ≡ Some ((1 ∷ []) ∷ ((1 ∷ []) ∷ []))
opened_chain = refl
