use Rattle.std.proofs.Common.{◌∙◌, Option, subst, sym}
use Rattle.cyp_goal.proofs.ReadyNodes.{normal_pruned, ready_pruned}
use Rattle.cyp_goal.specs.Normal.{Renaming, solve}
use Rattle.cyp_term.specs.Answers.{GivesWhere}
use Rattle.cyp_goal.proofs.normal_form.normal.Goals as goal

pub numbered-requires : goal.numbered-requires
numbered-requires c =
    let parts = c.into_parts-preds.ensures.parts in
    ready_pruned c.args.raw c.in_ok-solved.solved c.in_ok-tidied.tidied c.in_ok-pruned.pruned
    (sym (λ i. solve (record { preds = (parts i).0; goal = (parts i).1; links = (parts i).2 })) ∙ c.in_ok-solved.ensures) c.in_ok-tidied.ensures c.in_ok-pruned.ensures c.requires
    c.into_parts-preds.ensures.fits

pub returns : goal.returns
returns c =
    let parts = c.into_parts-preds.ensures.parts in
    subst (λ (o : Option Renaming). GivesWhere o c.numbered.result)
    (sym (normal_pruned c.args.raw c.in_ok-solved.solved c.in_ok-tidied.tidied c.in_ok-pruned.pruned
    (sym (λ i. solve (record { preds = (parts i).0; goal = (parts i).1; links = (parts i).2 })) ∙ c.in_ok-solved.ensures) c.in_ok-tidied.ensures c.in_ok-pruned.ensures))
    c.numbered.ensures
