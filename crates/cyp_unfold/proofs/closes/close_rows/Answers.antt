use Rattle.std.proofs.Common.{IfOk, List, ap, map, subst, sym, ◌∙◌, ◌≡◌}
use Rattle.cyp_step.specs.Rows.{rows}
use Rattle.cyp_step.specs.declared.rule.Rule.TheVariants.{ByClose}
use Rattle.cyp_unfold.proofs.closes.close_rows.Goals as goal

pub returns : goal.returns
returns c =
    subst (λ ws. IfOk c.rows_of.result (λ rs. rs ≡ ws)) (ap (rows c.args.node.now) (c.in_ok-rules.ensures ∙ ap (map ByClose) c.closable_count.ensures)) c.rows_of.ensures
