use Rattle.std.proofs.Common.{◌+◌, ◌-◌, ◌*◌, length}
use Rattle.cyp_sets.proofs.dealing.+deal.Given as goal

-- thirty for each want, and less than that for the classes that are left to try
abbrev pub decreases-deal : goal.decreases-deal
decreases-deal l = 30 * length l.wants.now

abbrev pub decreases-deal_with : goal.decreases-deal_with
decreases-deal_with l = 30 * length l.wants.now + 1

abbrev pub decreases-deal_past : goal.decreases-deal_past
decreases-deal_past l = 30 * length l.rest.now + 3 * (length l.lists.now - l.place) + 2

abbrev pub decreases-deal_from : goal.decreases-deal_from
decreases-deal_from l = 30 * length l.rest.now + 3 * (length l.lists.now - l.place) + 3
