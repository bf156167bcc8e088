use Rattle.std.proofs.Common.{◌++◌, length}
use Rattle.cyp_print.specs.Lines.{main_lines}
use Rattle.cyp_tree.specs.Derivations.{plain_derivation}
use Rattle.cyp_print.proofs.Steps.{IsAt}
use Rattle.cyp_print.proofs.body.add_body.Given as goal

abbrev pub invariant-loop-part : goal.invariant-loop-part
invariant-loop-part l =
    IsAt (l.initial.text.items ++ main_lines (plain_derivation l.found)) (length l.initial.text.items) l.text.items l.scope.numbers.items l.scope.count (plain_derivation l.left)
