use Rattle.std.proofs.Common.{◌∷◌, [], ℤ, List, pos, refl, rules, get_or, ◌+◌}
use Rattle.cyp_lanes.proofs.Lanes.{eight_read}
use Rattle.cyp_lanes.proofs.rows.eight.Goals as goal

pub returns-clause-entries : goal.returns-clause-entries
returns-clause-entries c =
    let xs : List ℤ = c.args.row.now in
    let i = c.args.at in
    eight_read i xs (get_or xs i (pos 0) ∷ get_or xs (i + 1) (pos 0) ∷ get_or xs (i + 2) (pos 0) ∷ get_or xs (i + 3) (pos 0) ∷ get_or xs (i + 4) (pos 0) ∷ get_or xs (i + 5) (pos 0) ∷ get_or xs (i + 6) (pos 0) ∷ get_or xs (i + 7) (pos 0) ∷ [])
    (pos 0) c.requires (search rules) refl
