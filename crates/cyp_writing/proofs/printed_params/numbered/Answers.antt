use Rattle.std.proofs.Common.{get_or, refl, ◌+◌}
use Rattle.std.proofs.lemmas.List.{get_or_default}
use Rattle.cyp_writing.specs.declared.printed_params.Param.{Param}
use Rattle.cyp_writing.proofs.PrintUnits.{numbered_step}
use Rattle.cyp_term.specs.declared.term.Sort.{Sort}
use Rattle.cyp_term.specs.declared.term.Sort.TheVariants.{Int}
use Rattle.cyp_writing.proofs.printed_params.numbered.Goals as goal

pub loop-i-preserved : goal.loop-i-preserved
loop-i-preserved c =
    let sorts = c.args.sorts.now in
    let i = c.loop-i.i in
    let first : Sort = Int in
    let s : Sort = get_or sorts i first in
    let q : Param = record { sort = s; number = c.count.result + 1 } in
    rw c.in_ok-push.ensures.items
    (numbered_step sorts i s c.loop-i.params.items q c.count.result c.loop-i-test.true (get_or_default sorts i first s c.loop-i-test.true) c.loop-i.invariant c.count.ensures.count refl)
