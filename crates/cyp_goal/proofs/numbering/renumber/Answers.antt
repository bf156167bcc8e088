use Rattle.std.proofs.Common.{◌∙◌, IsTrue, ap, subst, sym}
use Rattle.std.specs.List.{list_all}
use Rattle.cyp_goal.proofs.NumberedParts.{renumbered}
use Rattle.cyp_goal.specs.Numbering.{renumber}
use Rattle.cyp_heap.specs.Goals.{node_vars}
use Rattle.cyp_heap.specs.declared.goal.Node.{Node}
use Rattle.cyp_term.specs.Terms.{var_in}
use Rattle.cyp_goal.proofs.numbering.renumber.Goals as goal

pub returns-clause-renamed : goal.returns-clause-renamed
returns-clause-renamed c =
    let s = c.draft.inside in
    let vs = c.args.names.now in
    let n : Node = record { preds = s.preds; goal = s.goal; links = s.links } in
    (λ i. record { preds = s.preds; goal = c.in_ok-goal.ensures.renamed i; links = c.in_ok-links.ensures.renamed i })
    ∙ renumbered n vs (c.requires.names ∙ ap node_vars (sym c.draft.view_is)) (subst (λ (m : Node). IsTrue (list_all (λ v. var_in v vs) m.goal.exist)) (sym c.draft.view_is) c.requires.exist)
    ∙ ap renumber c.draft.view_is
