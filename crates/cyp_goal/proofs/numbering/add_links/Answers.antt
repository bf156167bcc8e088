use Rattle.std.proofs.Common.{◌∙◌, ◌++◌, ap}
use Rattle.std.specs.List.{flat_map}
use Rattle.cyp_goal.proofs.Occurring.{added_item, added_two}
use Rattle.cyp_goal.specs.Named.{link_vars}
use Rattle.cyp_term.specs.Terms.{set_vars, term_vars, var_eq, with_all_new}
use Rattle.cyp_term.specs.declared.subst.IntBind.{IntBind}
use Rattle.cyp_term.specs.declared.subst.SetBind.{SetBind}
use Rattle.cyp_goal.proofs.numbering.add_links.Goals as goal

pub loop-link-preserved : goal.loop-link-preserved
loop-link-preserved c =
    let k = c.link-item.result in
    let old = c.loop-link.table in
    let terms = flat_map term_vars k.tuple in
    let ints = flat_map (λ (b : IntBind). term_vars b.to) k.map.ints in
    let sets = flat_map (λ (b : SetBind). set_vars b.to) k.map.sets in
    let images = added_two c.add_all.new.table c.add_all-in-loop-link.new.table c.add_all-in-loop-link-2.new.table ints sets
    (c.add_all-in-loop-link.ensures ∙ ap (λ bs. with_all_new var_eq c.add_all.new.table (flat_map (λ (b : IntBind). term_vars b.to) bs)) c.as_slice-in-loop-link.ensures)
    (c.add_all-in-loop-link-2.ensures ∙ ap (λ bs. with_all_new var_eq c.add_all-in-loop-link.new.table (flat_map (λ (b : SetBind). set_vars b.to) bs)) c.as_slice-in-loop-link-2.ensures) in
    let all = added_two old c.add_all.new.table c.add_all-in-loop-link-2.new.table terms (ints ++ sets)
    (c.add_all.ensures ∙ ap (λ ts. with_all_new var_eq old (flat_map term_vars ts)) c.as_slice.ensures) images in
    added_item link_vars c.args.links.now c.loop-link.link-index k old c.add_all-in-loop-link-2.new.table _ c.loop-link.invariant c.loop-link-test.true c.link-item.is all
