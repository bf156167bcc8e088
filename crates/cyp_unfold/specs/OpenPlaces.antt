-- Chunks that are opened.
use Rattle.std.specs.Prelude.{[], Bool, List, cond, false, nat_lt, ℕ, ◌∷◌}
use Rattle.cyp_heap.specs.declared.chunk.Chunk.{Chunk}
use Rattle.cyp_heap.specs.declared.chunk.Chunk.TheVariants.{Inst}
use Rattle.cyp_step.specs.declared.rule.Rule.{Rule}
use Rattle.cyp_step.specs.declared.rule.Rule.TheVariants.{ByOpen}

-- the chunk is an instance whose tag is below the limit
abbrev pub is_openable : ℕ → Chunk → Bool
is_openable limit (Inst i) = nat_lt i.tag limit
is_openable limit _ = false

-- the rule that opens the chunk at this place, where it is such an instance
abbrev pub opening_at : ℕ → ℕ → Chunk → List Rule
opening_at limit k c = cond (is_openable limit c) (ByOpen k ∷ []) []
