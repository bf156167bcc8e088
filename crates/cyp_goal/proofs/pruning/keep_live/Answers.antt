use Rattle.std.proofs.Common.{◌∙◌, ap, rules}
use Rattle.std.specs.List.{filter}
use Rattle.std.proofs.lemmas.Fn.{filter_same}
use Rattle.cyp_goal.specs.Pruning.{is_kept}
use Rattle.cyp_goal.proofs.pruning.keep_live.Goals as goal

pub returns : goal.returns
returns c =
    c.from_vec.ensures ∙ filter_same _ (is_kept c.args.live.now) _ (λ x b f h. search rules) _ _ c.retain.ensures.filtered ∙ ap (filter (is_kept c.args.live.now)) c.into_vec-lits.ensures
