use Rattle.std.proofs.Common.{◌∙◌, [], ◌∷◌, ◌++◌, ap, sym}
use Rattle.std.specs.List.{flat_map}
use Rattle.cyp_goal.proofs.Occurring.{added_two}
use Rattle.cyp_heap.specs.Chunks.{arg_vars, card_vars, chunk_vars}
use Rattle.cyp_term.specs.Terms.{var_eq, with_all_new}
use Rattle.cyp_goal.proofs.occurs.ChunkOccurs.add_to.Goals as goal

pub returns-in-Some : goal.returns-in-Some
returns-in-Some c =
    let old = c.args.table.now in
    added_two old c.add_all.new.table c.add.new.self (flat_map arg_vars c.in-Inst.inst.args) (c.in-Some.card ∷ [])
    (c.add_all.ensures ∙ ap (λ xs. with_all_new var_eq old (flat_map arg_vars xs)) c.as_slice.ensures) c.add.ensures
    ∙ ap (λ o. with_all_new var_eq old (flat_map arg_vars c.in-Inst.inst.args ++ card_vars o)) (sym c.in-Some.is)
    ∙ ap (λ k. with_all_new var_eq old (chunk_vars k)) (sym c.in-Inst.is)
