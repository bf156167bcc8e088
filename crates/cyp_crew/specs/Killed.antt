-- The claims that a commit leaves without a live leaf, and their cancellation.
use Rattle.std.specs.Prelude.{Bool, not, ◌&&◌, List, map, filter}
use Rattle.cyp_crew.specs.declared.event.Event.{Event}
use Rattle.cyp_crew.specs.declared.event.Event.TheVariants.{Cancel}
use Rattle.cyp_crew.specs.Crews.{Task, Outstanding, Crew}
use Rattle.cyp_crew.specs.Claims.{is_live}

-- the leaf of the claim was live in the first state and isn't in the second
abbrev pub is_killed : {R N : Type 0} → Task R N → Crew N → Crew N → Outstanding N → Bool
is_killed t c d o = is_live t c o.leaf && not (is_live t d o.leaf)

-- the outstanding claims whose leaf was live in the first state and isn't in the second
abbrev pub killed : {R N : Type 0} → Task R N → Crew N → Crew N → List (Outstanding N)
killed t c d = filter (is_killed t c d) c.outstanding

-- the cancellation of each of these claims, in their order
abbrev pub cancellations : {N : Type 0} → List (Outstanding N) → List Event
cancellations os = map (λ o. Cancel o.serial) os
