use Rattle.std.proofs.Common.{◌∙◌, ◌++◌, ap, flat_map, subst}
use Rattle.cyp_goal.proofs.KnownVars.{has_both}
use Rattle.cyp_goal.proofs.Occurring.{alone}
use Rattle.cyp_goal.specs.Turns.{HasVars}
use Rattle.cyp_heap.specs.declared.goal.Node.{Node}
use Rattle.cyp_term.specs.Terms.{var_eq, with_all_new}
use Rattle.cyp_goal.proofs.solving.add_known.Goals as goal

pub returns : goal.returns
returns c =
    let g = c.draft.inside.goal in
    subst (λ (n : Node). HasVars c.add_all-2.new.table (n.goal.program ++ n.goal.exist)) c.draft.view_is
    (has_both c.args.known.now c.add_all.new.table c.add_all-2.new.table g.program g.exist c.requires
    (c.add_all.ensures ∙ ap (λ vs. with_all_new var_eq c.args.known.now (flat_map alone vs)) c.as_slice.ensures)
    (c.add_all-2.ensures ∙ ap (λ vs. with_all_new var_eq c.add_all.new.table (flat_map alone vs)) c.as_slice-2.ensures))
