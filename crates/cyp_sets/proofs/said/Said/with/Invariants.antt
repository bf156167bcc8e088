use Rattle.std.proofs.Common.{List, ◌++◌, take}
use Rattle.cyp_term.specs.declared.lit.Lit.{Lit}
use Rattle.cyp_sets.specs.Saying.{Says}
use Rattle.cyp_sets.proofs.said.Said.with.Given as goal

abbrev pub invariant-loop-lit : goal.invariant-loop-lit
invariant-loop-lit l =
    (ls : List Lit) → Says l.names ls l.fn.self.rules.items l.fn.self.wants.items → Says l.names (ls ++ take l.lit-index l.lits) l.self.rules.items l.self.wants.items
