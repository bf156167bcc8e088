-- The events that a crew may make, and what each leaves.
use Rattle.std.specs.Prelude.{ℕ, suc, ◌^◌, ◌==◌, Bool, true, false, not, ◌&&◌, [], ◌∷◌, ◌++◌, count_by, nat_le, nat_lt, Option, Some, None}
use Rattle.cyp_tree.specs.declared.mark.Mark.{Mark}
use Rattle.cyp_tree.specs.declared.mark.Mark.TheVariants.{Undecided, Solved, Failed}
use Rattle.cyp_tree.specs.Statuses.{status}
use Rattle.cyp_tree.specs.Sizes.{size}
use Rattle.cyp_tree.specs.Live.{Waiting}
use Rattle.cyp_search.specs.Stages.{stage}
use Rattle.cyp_crew.specs.declared.event.Event.{Event}
use Rattle.cyp_crew.specs.declared.event.Event.TheVariants.{Claim, Publish, Abandon, Cancel, Commit}
use Rattle.cyp_crew.specs.Crews.{Task, Outstanding, Crew}
use Rattle.cyp_crew.specs.Claims.{claim_of, claim_at, without_claim, with_cancelled, crew_tree, free_leaf, is_live, next_published}

-- the crew where the test holds, and nothing elsewhere
abbrev pub where_so : {N : Type 0} → Bool → Option (Crew N) → Option (Crew N)
where_so true c = c
where_so false c = None

-- neither solved nor failed
abbrev pub is_open : Mark → Bool
is_open Undecided = true
is_open Solved = false
is_open Failed = false

-- how many claims a worker has outstanding
abbrev pub claims_of : {N : Type 0} → Crew N → ℕ → ℕ
claims_of c w = count_by (λ (o : Outstanding _). o.worker == w) c.outstanding

-- the worker is one of 32 and has fewer than four claims outstanding, and the serial is the next one, at most 2^62
abbrev pub may_claim : {N : Type 0} → Crew N → ℕ → ℕ → Bool
may_claim c w s = nat_lt w 32 && (s == suc c.claims) && nat_le s (2 ^ 62) && nat_lt (claims_of c w) 4

-- a worker has claimed a leaf
abbrev pub with_claim : {N : Type 0} → Crew N → ℕ → ℕ → Option (Waiting N) → Option (Crew N)
with_claim c w s None = None
with_claim c w s (Some l) = Some (record c {
  outstanding = c.outstanding ++ record { worker = w; serial = s; leaf = l.number; node = l.node; cancelled = false } ∷ [];
  claims = suc c.claims;
})

-- the node of a claim is published, and the claim is gone
abbrev pub with_publish : {N : Type 0} → Crew N → Option (Outstanding N) → Option (Crew N)
with_publish c None = None
with_publish c (Some o) = Some (record c { published = c.published ++ o.node ∷ []; outstanding = without_claim o.worker o.serial c.outstanding })

-- a claim is gone
abbrev pub with_abandon : {N : Type 0} → Crew N → Option (Outstanding N) → Option (Crew N)
with_abandon c None = None
with_abandon c (Some o) = Some (record c { outstanding = without_claim o.worker o.serial c.outstanding })

module _ {R N : Type 0} (t : Task R N) where
  -- a claim that isn't cancelled yet is cancelled where its leaf isn't live
  abbrev pub with_cancel : Crew N → Option (Outstanding N) → Option (Crew N)
  with_cancel c None = None
  with_cancel c (Some o) = where_so (not o.cancelled && not (is_live t c o.leaf)) (Some (record c { outstanding = with_cancelled o.serial c.outstanding }))

  -- the next stage is within the limit of nodes
  abbrev pub next_fits : Crew N → Bool
  next_fits c = nat_le (size (stage t.space t.root (suc c.commits))) t.nodes

  -- the root is open, there is budget left, the node of the next leaf is published, and the next stage fits
  abbrev pub may_commit : Crew N → Bool
  may_commit c = is_open (status (crew_tree t c)) && nat_lt c.commits t.budget && next_published t c && next_fits c

  -- the crew after an event, or nothing where the event isn't allowed
  abbrev pub after : Crew N → Event → Option (Crew N)
  after c (Claim w s) = where_so (may_claim c w s) (with_claim c w s (free_leaf t c))
  after c (Publish w s) = with_publish c (claim_of c w s)
  after c (Abandon w s) = with_abandon c (claim_of c w s)
  after c (Cancel s) = with_cancel c (claim_at c s)
  after c Commit = where_so (may_commit c) (Some (record c { commits = suc c.commits }))
