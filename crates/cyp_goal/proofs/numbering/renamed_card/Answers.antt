use Rattle.std.proofs.Common.{◌∙◌, Some, ap, sym}
use Rattle.cyp_goal.proofs.NamedImages.{card_numbered, not_set, set_card_stays}
use Rattle.cyp_goal.specs.Numbering.{numbering}
use Rattle.cyp_heap.specs.Chunks.{apply_card}
use Rattle.cyp_term.specs.Terms.{is_set_var}
use Rattle.cyp_goal.proofs.numbering.renamed_card.Goals as goal

pub returns-in-Set : goal.returns-in-Set
returns-in-Set c =
    let v = c.in-Some.var in
    set_card_stays c.args.names.now v (ap (λ s. is_set_var (record { sort = s; number = v.number })) c.in-Set.is) ∙ ap (apply_card (numbering c.args.names.now)) (sym c.in-Some.is)

pub returns-in_default : goal.returns-in_default
returns-in_default c =
    ap Some c.new_var.ensures.named ∙ card_numbered c.args.names.now c.in-Some.var (not_set c.in-Some.var c.in_default.not-Set)
    ∙ ap (apply_card (numbering c.args.names.now)) (sym c.in-Some.is)
