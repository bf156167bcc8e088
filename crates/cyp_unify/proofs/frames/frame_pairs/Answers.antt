use Rattle.std.proofs.Common.{◌≡◌, IfOk, List, subst}
use Rattle.cyp_unify.proofs.Framing.{focus_framed}
use Rattle.cyp_unify.specs.declared.found.Pair.{Pair}
use Rattle.cyp_unify.proofs.frames.frame_pairs.Goals as goal

pub returns-in-Some : goal.returns-in-Some
returns-in-Some c =
    let P : List Pair → Type 0 = λ qs. IfOk c.pairs_with.result (λ ps. ps ≡ qs) in
    subst P (focus_framed c.args.goal.now c.in-Some.focus.now c.chunks.result.now c.chunks-in-Some.result.now c.chunks.ensures.chunks c.in-Some.ensures.value c.chunks-in-Some.ensures.chunks) c.pairs_with.ensures
