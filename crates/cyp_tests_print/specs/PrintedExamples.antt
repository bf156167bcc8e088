-- Nodes and derivations for tests.
use Rattle.std.specs.Prelude.{[], List, None, Some, negsuc, pos, ℤ, ◌∷◌}
use Rattle.cyp_heap.specs.declared.chunk.Chunk.{Chunk}
use Rattle.cyp_heap.specs.declared.chunk.Chunk.TheVariants.{Cell}
use Rattle.cyp_heap.specs.declared.goal.Node.{Node}
use Rattle.cyp_kernel.specs.Companions.{Proof}
use Rattle.cyp_step.specs.declared.rule.Rule.TheVariants.{ByEmp, ByFrame, ByInconsistent, ByWrite}
use Rattle.cyp_term.specs.declared.lit.Lit.TheVariants.{Lt}
use Rattle.cyp_term.specs.declared.term.Sort.TheVariants.{Int}
use Rattle.cyp_term.specs.declared.term.Term.{Term}
use Rattle.cyp_tree.specs.Derivations.{Derived, More, NoMore}

-- a variable with an offset
abbrev pub shifted : ℤ → Term
shifted z = record { base = Some (record { sort = Int; number = 0 }); offset = z }

-- another variable
abbrev pub unknown : Term
unknown = record { base = Some (record { sort = Int; number = 1 }); offset = pos 0 }

-- a number
abbrev pub plain : ℤ → Term
plain z = record { base = None; offset = z }

-- a cell behind the address that the parameter holds
abbrev pub cell_with : Term → Chunk
cell_with t = Cell (record { at = shifted (pos 1); content = t })

-- a goal of one parameter, with these chunks
abbrev pub one_parameter : List Chunk → List Chunk → Node
one_parameter pre post = record {
  preds = record { list = [] };
  goal = record {
    program = record { sort = Int; number = 0 } ∷ [];
    exist = [];
    pure_pre = Lt (plain (pos 0)) (shifted (pos 1)) ∷ [];
    pre = record { chunks = pre };
    pure_post = [];
    post = record { chunks = post };
  };
  links = [];
}

-- nothing is left to do
abbrev pub done : Node
done = one_parameter [] []

-- the cell holds what it is to hold
abbrev pub stored : Node
stored = one_parameter (cell_with (plain (negsuc 4)) ∷ []) (cell_with (plain (negsuc 4)) ∷ [])

-- the cell holds something else
abbrev pub before : Node
before = one_parameter (cell_with unknown ∷ []) (cell_with (plain (negsuc 4)) ∷ [])

-- two cells at one address
abbrev pub impossible : Node
impossible = one_parameter (cell_with (plain (pos 1)) ∷ cell_with (plain (pos 2)) ∷ []) []

-- the empty program meets it
abbrev pub end_proof : Proof
end_proof = Derived done ByEmp NoMore

-- the cell is framed
abbrev pub frame_proof : Proof
frame_proof = Derived stored (ByFrame 0) (More end_proof NoMore)

-- the content is stored
abbrev pub store_proof : Proof
store_proof = Derived before (ByWrite 0) (More frame_proof NoMore)

-- no heap meets it
abbrev pub error_proof : Proof
error_proof = Derived impossible ByInconsistent NoMore
