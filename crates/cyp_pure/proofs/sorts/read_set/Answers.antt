use Rattle.std.proofs.Common.{◌∙◌, subst}
use Rattle.std.proofs.lemmas.List.{take_all}
use Rattle.std.specs.List.{All}
use Rattle.cyp_term.specs.SetTermValue.{AllSets}
use Rattle.cyp_pure.specs.Sorts.{IsNumberTerm}
use Rattle.cyp_pure.proofs.Parting.{all_more}
use Rattle.cyp_pure.proofs.sorts.read_set.Goals as goal

pub loop-term-preserved : goal.loop-term-preserved
loop-term-preserved c =
    all_more IsNumberTerm c.elems-term-items.result.now c.loop-term.term-index c.term-item.result c.loop-term.invariant c.loop-term-test.true c.term-item.is c.read_term.ensures

pub returns : goal.returns
returns c = record {
  vars = subst AllSets c.vars-vars.ensures.vars c.vars-vars.ensures.sorts;
  elems = subst (All IsNumberTerm) (take_all c.loop-term.term-index c.elems-term-items.result.now c.loop-term-test.false ∙ c.elems-term-items.ensures) c.loop-term.invariant;
}
