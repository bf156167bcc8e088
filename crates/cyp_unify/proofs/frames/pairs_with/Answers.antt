use Rattle.std.proofs.Common.{◌∙◌, ◌++◌, ◌+◌, ap, drop, sym}
use Rattle.cyp_unify.proofs.Framing.{pair_found, pair_passed, pairs_from}
use Rattle.cyp_unify.proofs.frames.pairs_with.Goals as goal
use Rattle.cyp_unify.proofs.frames.pairs_with.Goals.{then-are_alike+in_ok-lits+in_ok-push, else-are_alike}

pub loop-place-preserved : goal.loop-place-preserved
loop-place-preserved c =
    let f = c.args.focus.now in
    let cs = c.args.chunks.now in
    let k = c.loop-place.place in
    let made = c.loop-place.pairs.items in
    let whole = pairs_from f 0 cs in
    elim c.if-are_alike.branch [
      | then-are_alike+in_ok-lits+in_ok-push w ↦
          pair_found f cs k c.index-chunks-place.result made whole c.loop-place.invariant c.loop-place-test.true c.index-chunks-place.is w.in_ok-lits.lits c.if-are_alike.pairs.items
          (sym c.are_alike.ensures ∙ w.if-are_alike.true) w.in_ok-lits.ensures (ap (λ v. v.items) w.pairs-is ∙ w.in_ok-push.ensures.items)
      | else-are_alike w ↦
          ap (λ v. v.items ++ pairs_from f (k + 1) (drop (k + 1) cs)) w.pairs-is
          ∙ pair_passed f cs k c.index-chunks-place.result made whole c.loop-place.invariant c.loop-place-test.true c.index-chunks-place.is (sym c.are_alike.ensures ∙ w.if-are_alike.false)
    ]
