use Rattle.std.proofs.Common.{◌∙◌, ◌++◌, ◌∷◌, [], ap, subst}
use Rattle.std.specs.List.{All}
use Rattle.std.specs.Vec.Iter.{into_iter_items}
use Rattle.std.proofs.lemmas.List.Elements.{All-head, All-rest}
use Rattle.cyp_moves.proofs.PricedRows.{goes_over}
use Rattle.cyp_moves.specs.BuiltRows.{HasFewPremises}
use Rattle.cyp_moves.specs.Moves.{priced}
use Rattle.cyp_moves.proofs.alts.priced_rows.Goals as goal

pub priced-requires : goal.priced-requires
priced-requires c =
    All-head HasFewPremises c.in-Some.row (into_iter_items c.next.new.self) (subst (All HasFewPremises) c.in-Some.ensures.steps.0 c.loop-row.invariant.1)

pub loop-row-preserved : goal.loop-row-preserved
loop-row-preserved c = (
  goes_over priced c.in-Some.row (into_iter_items c.next.new.self) _ c.loop-row.alts.items _ _ c.in-Some.ensures.steps.0 c.loop-row.invariant.0
      (c.in_ok-push.ensures.items ∙ ap (λ y. c.loop-row.alts.items ++ y ∷ []) c.priced.ensures),
  All-rest HasFewPremises c.in-Some.row (into_iter_items c.next.new.self) _ c.in-Some.ensures.steps.0 c.loop-row.invariant.1,
)
