use Rattle.std.proofs.Common.{◌∙◌, ap, flat_map, subst}
use Rattle.cyp_goal.proofs.KnownVars.{has_added}
use Rattle.cyp_goal.proofs.Occurring.{alone}
use Rattle.cyp_goal.specs.Turns.{HasVars}
use Rattle.cyp_heap.specs.declared.goal.Node.{Node}
use Rattle.cyp_term.specs.Terms.{var_eq, with_all_new}
use Rattle.cyp_goal.proofs.solving.add_exist.Goals as goal

pub returns : goal.returns
returns c =
    let g = c.draft.inside.goal in
    subst (λ (n : Node). HasVars c.add_all.new.table n.goal.exist) c.draft.view_is
    (has_added c.args.exist.now c.add_all.new.table g.exist c.requires (c.add_all.ensures ∙ ap (λ vs. with_all_new var_eq c.args.exist.now (flat_map alone vs)) c.as_slice.ensures))
