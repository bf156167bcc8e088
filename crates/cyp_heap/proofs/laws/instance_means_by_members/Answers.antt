use Rattle.cyp_heap.proofs.Listings.{listing_law}
use Rattle.cyp_heap.proofs.laws.instance_means_by_members.Goals as goal

pub returns : goal.returns
returns c = listing_law
