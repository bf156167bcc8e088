-- Rows that are added to a table, one rule after the other.
use Rattle.std.proofs.Common.{◌≡◌, ◌∙◌, ◌++◌, ◌∷◌, [], List, ap, append_assoc, sym}
use Rattle.std.proofs.lemmas.List.Elements.{filter_map-append}
use Rattle.cyp_heap.specs.declared.goal.Node.{Node}
use Rattle.cyp_step.specs.Rows.{row, rows}
use Rattle.cyp_step.specs.declared.rule.Row.{Row}
use Rattle.cyp_step.specs.declared.rule.Rule.{Rule}

-- the table with the row of the first of the rules
pub first_added : (n : Node) (r : Rule) (rs left : List Rule) (all done more : List Row) → left ≡ r ∷ rs → done ++ rows n left ≡ all → more ≡ done ++ rows n (r ∷ []) → more ++ rows n rs ≡ all
first_added n r rs left all done more e h m =
    ap (λ ws. ws ++ rows n rs) m
    ∙ append_assoc done (rows n (r ∷ [])) (rows n rs)
    ∙ ap (λ ws. done ++ ws) (sym (filter_map-append (row n) (r ∷ []) rs))
    ∙ sym (ap (λ qs. done ++ rows n qs) e)
    ∙ h
