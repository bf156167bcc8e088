use Rattle.cyp_top.proofs.answer.report_of.Goals as goal

pub returns : goal.returns
returns c = rw (c.unfold.ensures.value, c.in_ok-root.ensures) at c.search.ensures
