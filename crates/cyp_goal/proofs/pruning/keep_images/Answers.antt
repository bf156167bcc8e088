use Rattle.std.proofs.Common.{◌∙◌, Bool, ap, rules}
use Rattle.std.specs.List.{filter, list_all}
use Rattle.std.proofs.lemmas.Fn.{filter_same}
use Rattle.cyp_goal.specs.Alive.{is_alive}
use Rattle.cyp_term.specs.Terms.{set_vars, term_vars}
use Rattle.cyp_term.specs.declared.subst.IntBind.{IntBind}
use Rattle.cyp_term.specs.declared.subst.SetBind.{SetBind}
use Rattle.cyp_goal.proofs.pruning.keep_images.Goals as goal

pub returns : goal.returns
returns c =
    let int : IntBind → Bool = λ b. list_all (is_alive c.args.live.now c.args.dropped.now) (term_vars b.to) in
    let set : SetBind → Bool = λ b. list_all (is_alive c.args.live.now c.args.dropped.now) (set_vars b.to) in
    let ints = c.from_vec.ensures ∙ filter_same _ int _ (λ x b f h. search rules) _ _ c.retain.ensures.filtered ∙ ap (filter int) c.into_vec-ints.ensures in
    let sets = c.from_vec-2.ensures ∙ filter_same _ set _ (λ x b f h. search rules) _ _ c.retain-2.ensures.filtered ∙ ap (filter set) c.into_vec-sets.ensures in
    λ i. record { ints = ints i; sets = sets i }
