use Rattle.std.proofs.Common.{◌≡◌, to_z, of_z, w64, subst}
use Rattle.std.proofs.lemmas.Int.{to_z-of_z}
use Rattle.std.specs.Prelude.{◌↔◌}
use Rattle.cyp_diff.specs.Distances.{Meets, Within}
use Rattle.cyp_diff.proofs.system.at_most.Goals as goal

pub returns-in-Added-clause-means : goal.returns-in-Added-clause-means
returns-in-Added-clause-means c =
    let f : to_z w64 (of_z w64 c.args.c) ≡ c.args.c = to_z-of_z w64 c.args.c c.ranges.c in
    λ x. subst (λ z. Meets x c.add.new.self ↔ (Meets x c.args.bounds.now × Within x c.args.i c.args.j z)) f (c.in-Added.ensures.means.0 x)
