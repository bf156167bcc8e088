use Rattle.std.proofs.Common.{◌≡◌, drop, flat_map}
use Rattle.cyp_term.specs.Terms.{term_eq, with_all_new}
use Rattle.cyp_names.specs.ReadTerms.{part_elems}
use Rattle.cyp_reading.proofs.unions.add_elems.Given as goal

abbrev pub invariant-loop-part : goal.invariant-loop-part
invariant-loop-part l = with_all_new term_eq l.elems.items (flat_map (part_elems l.scope) (drop l.part-index l.parts)) ≡ with_all_new term_eq l.initial.elems.items (flat_map (part_elems l.scope) l.parts)
