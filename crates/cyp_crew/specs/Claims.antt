-- The tree of a crew, and which of its leaves are published, claimed or free to claim.
use Rattle.std.specs.Prelude.{ℕ, ◌==◌, Bool, true, false, cond, not, ◌&&◌, List, [], ◌∷◌, filter, map, Option, Some, None}
use Rattle.std.specs.List.{list_any}
use Rattle.cyp_tree.specs.Trees.{Tree}
use Rattle.cyp_tree.specs.Live.{Waiting, live_leaves, least_waiting, next_leaf}
use Rattle.cyp_search.specs.Stages.{stage}
use Rattle.cyp_crew.specs.Crews.{Task, Outstanding, Crew}

-- the claim of this worker and serial
abbrev pub is_claim_of : {N : Type 0} → ℕ → ℕ → Outstanding N → Bool
is_claim_of w s o = (o.worker == w) && (o.serial == s)

-- the first claim of a list that meets a test
abbrev pub first_claim : {N : Type 0} → (Outstanding N → Bool) → List (Outstanding N) → Option (Outstanding N)
first_claim is [] = None
first_claim is (o ∷ os) = cond (is o) (Some o) (first_claim is os)

-- the outstanding claim of a worker and a serial
abbrev pub claim_of : {N : Type 0} → Crew N → ℕ → ℕ → Option (Outstanding N)
claim_of c w s = first_claim (is_claim_of w s) c.outstanding

-- the outstanding claim of a serial
abbrev pub claim_at : {N : Type 0} → Crew N → ℕ → Option (Outstanding N)
claim_at c s = first_claim (λ o. o.serial == s) c.outstanding

-- the claims without that of a worker and a serial
abbrev pub without_claim : {N : Type 0} → ℕ → ℕ → List (Outstanding N) → List (Outstanding N)
without_claim w s os = filter (λ o. not (is_claim_of w s o)) os

-- a claim, cancelled where it has the serial
abbrev pub cancelled_at : {N : Type 0} → ℕ → Outstanding N → Outstanding N
cancelled_at s o = cond (o.serial == s) (record o { cancelled = true }) o

-- the claims with that of a serial cancelled
abbrev pub with_cancelled : {N : Type 0} → ℕ → List (Outstanding N) → List (Outstanding N)
with_cancelled s os = map (cancelled_at s) os

module _ {R N : Type 0} (t : Task R N) where
  -- the stage that the commits have come to
  abbrev pub crew_tree : Crew N → Tree R N
  crew_tree c = stage t.space t.root c.commits

  -- the live leaves of that stage
  abbrev pub crew_leaves : Crew N → List (Waiting N)
  crew_leaves c = live_leaves t.space.weight 0 (crew_tree c)

  -- the leaf that is next to expand
  abbrev pub crew_next : Crew N → Option (Waiting N)
  crew_next c = next_leaf t.space.weight (crew_tree c)

  -- a leaf is published where its node is
  abbrev pub is_published : Crew N → N → Bool
  is_published c n = list_any (t.same n) c.published

  -- some outstanding claim has the leaf of this number
  abbrev pub is_claimed : Crew N → ℕ → Bool
  is_claimed c k = list_any (λ (o : Outstanding N). o.leaf == k) c.outstanding

  -- neither published nor claimed
  abbrev pub is_free : Crew N → Waiting N → Bool
  is_free c w = not (is_published c w.node) && not (is_claimed c w.number)

  -- the least live leaf that is neither published nor claimed
  abbrev pub free_leaf : Crew N → Option (Waiting N)
  free_leaf c = least_waiting (filter (is_free c) (crew_leaves c))

  -- the number is that of a live leaf
  abbrev pub is_live : Crew N → ℕ → Bool
  is_live c k = list_any (λ (w : Waiting N). w.number == k) (crew_leaves c)

  -- there is a leaf with a published node
  abbrev pub leaf_published : Crew N → Option (Waiting N) → Bool
  leaf_published c None = false
  leaf_published c (Some w) = is_published c w.node

  -- the node of the next leaf is published
  abbrev pub next_published : Crew N → Bool
  next_published c = leaf_published c (crew_next c)
