use Rattle.std.proofs.Common.{◌∙◌, ◌∷◌, sym}
use Rattle.std.proofs.lemmas.List.Elements.{All-from_recursion, recursion_from_All}
use Rattle.std.specs.Vec.Iter.{into_iter_items}
use Rattle.cyp_heap.specs.Formed.{IsWellLinked}
use Rattle.cyp_step.proofs.FormsMade.{form_made}
use Rattle.cyp_step.specs.Step.{all_normal}
use Rattle.cyp_step.proofs.steps.normal_forms.Goals as goal

pub loop-raw-preserved : goal.loop-raw-preserved
loop-raw-preserved c =
    let items = c.in-Some.ensures.steps.0 in
    let rest = into_iter_items c.next.new.self in
    let linked = rw items at c.loop-raw.invariant.linked in
    let made = rw items at c.loop-raw.invariant.made in
    record {
      linked = All-from_recursion IsWellLinked rest (recursion_from_All IsWellLinked (c.in-Some.raw ∷ rest) linked).1;
      made =
          form_made c.in-Some.raw rest c.loop-raw.forms.items (all_normal c.args.raws) c.normal_form.ensures.narrow made c.in-Some-2.form c.push.new.self.items
          (sym c.in-Some-2.is ∙ c.in_ok-form.ensures.form) c.in_ok-push.ensures.items;
    }
