use Rattle.std.proofs.Common.{arith, sym}
use Rattle.cyp_unify.proofs.PairedPlaces.{none_where_lengths_differ}
use Rattle.cyp_unify.proofs.pairing.is_pairing.Goals as goal

pub returns-then-wanted-places : goal.returns-then-wanted-places
returns-then-wanted-places c = sym (none_where_lengths_differ c.args.present.now c.args.wanted.now c.args.places.now (λ e. omega arith))
