use Rattle.std.proofs.Common.{ap, append_assoc, map, ◌∙◌, ◌++◌, ◌∷◌, []}
use Rattle.std.proofs.lemmas.List.Elements.{All-from_recursion, recursion_from_All}
use Rattle.std.specs.Vec.Iter.{into_iter_items}
use Rattle.cyp_step.specs.UnfoldParts.{HasFits}
use Rattle.cyp_step.specs.Unfolding.{open_premise}
use Rattle.cyp_step.proofs.opening.open_premises.Goals as goal

pub open_premise-requires-clause-fits : goal.open_premise-requires-clause-fits
open_premise-requires-clause-fits c =
    let f = open_premise c.args.node.now c.args.place c.args.link.now in
    let items = c.in-Some.ensures.steps.0 in
    let rest = into_iter_items c.next.new.self in
    let fits = rw items at c.loop-entry.invariant.fits in
    (recursion_from_All HasFits (f c.in-Some.entry ∷ map f rest) fits).0

pub loop-entry-preserved : goal.loop-entry-preserved
loop-entry-preserved c =
    let f = open_premise c.args.node.now c.args.place c.args.link.now in
    let items = c.in-Some.ensures.steps.0 in
    let rest = into_iter_items c.next.new.self in
    let fits = rw items at c.loop-entry.invariant.fits in
    let made = rw items at c.loop-entry.invariant.made in
    let old = c.loop-entry.premises.items in
    record {
      fits = All-from_recursion HasFits (map f rest) (recursion_from_All HasFits (f c.in-Some.entry ∷ map f rest) fits).1;
      made =
          ap (λ ms. ms ++ map f rest) c.in_ok-push.ensures.items ∙ append_assoc old (c.in_ok-open_premise.field-0 ∷ []) (map f rest)
          ∙ ap (λ m. old ++ m ∷ map f rest) c.in_ok-open_premise.ensures ∙ made;
    }
