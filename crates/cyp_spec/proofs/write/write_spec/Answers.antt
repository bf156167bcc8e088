use Rattle.std.proofs.Common.{subst, ◌∙◌, ◌≡◌}
use Rattle.std.specs.Prelude.{IfOk}
use Rattle.cyp_names.specs.Specifications.{Specification}
use Rattle.cyp_writing.specs.Printing.{specification_text}
use Rattle.cyp_spec.proofs.write.write_spec.Goals as goal

pub returns : goal.returns
returns c =
    let same : record { preds = c.get.result.now; name = c.as_slice.result.now; goal = c.goal.result.now } ≡ c.args.spec.now =
    λ i. record { preds = (c.get.ensures ∙ c.preds.ensures.preds) i; name = (c.as_slice.ensures ∙ c.name.ensures) i; goal = c.goal.ensures.goal i } in
    subst (λ (s : Specification). IfOk c.spec_text.result (λ t. t ≡ specification_text s)) same c.spec_text.ensures
