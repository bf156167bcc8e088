use Rattle.std.proofs.Common.{◌++◌, ◌≡◌, drop, flat_map}
use Rattle.cyp_heap.specs.Limits.{arg_elements}
use Rattle.cyp_spec.proofs.elements.add_args_elements.Given as goal

abbrev pub invariant-loop-arg : goal.invariant-loop-arg
invariant-loop-arg l = l.terms.items ++ flat_map arg_elements (drop l.arg-index l.args) ≡ l.initial.terms.items ++ flat_map arg_elements l.args
