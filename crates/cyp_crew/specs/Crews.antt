-- What a crew works on, and what it has done of it so far.
use Rattle.std.specs.Prelude.{◌≡◌, IsTrue, ℕ, Bool, List, []}
use Rattle.cyp_tree.specs.Trees.{Moving}

-- a search: its space, root, budget of expansions and limit of nodes, and the test by which nodes are the same
pub record Task (R N : Type 0) : Type 0 where
  pub space : Moving R N
  pub root : N
  pub budget : ℕ
  pub nodes : ℕ
  pub same : N → N → Bool

-- a test of equality: what it holds to be the same is the same
pub record TellsEqual {N : Type 0} (same : N → N → Bool) : Type 0 where
  pub equal : (a b : N) → IsTrue (same a b) → a ≡ b
  pub itself : (a : N) → IsTrue (same a a)

-- an outstanding claim: a leaf that a worker has taken under a serial and hasn't given back, and whether it was cancelled
pub record Outstanding (N : Type 0) : Type 0 where
  pub worker : ℕ
  pub serial : ℕ
  pub leaf : ℕ
  pub node : N
  pub cancelled : Bool

-- the number of commits, the published nodes, the outstanding claims and the number of claims that were made
pub record Crew (N : Type 0) : Type 0 where
  pub commits : ℕ
  pub published : List N
  pub outstanding : List (Outstanding N)
  pub claims : ℕ

-- a crew that has done nothing yet
abbrev pub fresh_crew : {N : Type 0} → Crew N
fresh_crew = record { commits = 0; published = []; outstanding = []; claims = 0 }
