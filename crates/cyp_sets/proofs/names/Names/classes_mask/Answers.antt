use Rattle.std.proofs.Common.{ap, ◌∙◌}
use Rattle.cyp_sets.specs.Names.{class_bit}
use Rattle.cyp_sets.proofs.Unions.{more_bits}
use Rattle.cyp_sets.proofs.names.Names.classes_mask.Goals as goal

pub loop-term-preserved : goal.loop-term-preserved
loop-term-preserved c =
    more_bits (class_bit c.args.self.now) c.args.terms.now c.loop-term.term-index c.loop-term.mask c.class_bit-mask.result c.term-item.result c.loop-term.invariant c.loop-term-test.true
    (c.class_bit-mask.ensures ∙ ap (class_bit c.args.self.now) c.term-item.is)
