use Rattle.std.proofs.Common.{subst, ◌∙◌, ◌≡◌}
use Rattle.std.specs.Prelude.{IfOk}
use Rattle.cyp_names.proofs.EachKind.{added_alone}
use Rattle.cyp_term.specs.Terms.{with_all_new}
use Rattle.cyp_names.specs.Bodies.{kept_body}
use Rattle.cyp_names.specs.ReadTerms.{Scope}
use Rattle.cyp_names.specs.Uses.{same_name}
use Rattle.cyp_names.proofs.scopes.goal_scope.Goals as goal

pub returns : goal.returns
returns c =
    let tree = c.args.tree.now in
    let qs = c.as_slice.result.now in
    let uses : c.add_body.new.uses.items ≡ kept_body tree.preds tree.post =
    added_alone c.new-uses.result.items c.add_body.new.uses.items (kept_body qs tree.post) c.new-uses.ensures.items c.in_ok-add_body.ensures
    ∙ (λ i. kept_body (c.as_slice.ensures i) tree.post) in
    subst (λ (whole : Scope). IfOk c.with_all.result (λ s. s ≡ whole)) (λ i. with_all_new same_name (c.in_ok-scope.ensures i) (uses i)) c.with_all.ensures
