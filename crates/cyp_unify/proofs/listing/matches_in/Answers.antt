use Rattle.std.proofs.Common.{◌∙◌, ap}
use Rattle.cyp_heap.specs.declared.goal.Goal.{Goal}
use Rattle.cyp_unify.proofs.Pairings.{first_listed}
use Rattle.cyp_unify.proofs.listing.matches_in.Goals as goal

pub returns : goal.returns
returns c =
    first_listed c.args.present.now c.args.link.now c.new-listing.result c.extend.new.self c.chunks.result.now c.new-listing.ensures
    (c.chunks.ensures.chunks ∙ ap (λ (g : Goal). g.pre.chunks) c.get.ensures) c.in_ok-extend.ensures
