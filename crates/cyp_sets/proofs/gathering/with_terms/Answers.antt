use Rattle.std.proofs.Common.{ap, ◌∙◌}
use Rattle.cyp_term.specs.Terms.{term_eq, with_new}
use Rattle.cyp_sets.proofs.Gathered.{gathered_more}
use Rattle.cyp_sets.proofs.gathering.with_terms.Goals as goal

pub loop-term-preserved : goal.loop-term-preserved
loop-term-preserved c =
    gathered_more term_eq c.args.terms.items c.args.others.now c.loop-term.terms.items c.add_term.new.terms.items c.loop-term.term-index c.term-item.result c.loop-term.invariant c.loop-term-test.true
    (c.in_ok-add_term.ensures.ok ∙ ap (with_new term_eq c.loop-term.terms.items) c.term-item.is)
