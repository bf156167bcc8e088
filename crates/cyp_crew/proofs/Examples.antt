-- Journals over a small space: its root has two ways on, and the first, which costs less, is solved by its only move.
use Rattle.std.proofs.Common.{◌≡◌, refl, ℕ, zero, suc, ◌==◌, Bool, true, false, List, [], ◌∷◌, ◌++◌, Option, Some, None}
use Rattle.cyp_space.specs.Alts.{AltOf}
use Rattle.cyp_tree.specs.Trees.{Moving}
use Rattle.cyp_tree.specs.Derivations.{Derived, NoMore, More}
use Rattle.cyp_search.specs.Reports.{PlainReport, Found, Spent, report}
use Rattle.cyp_crew.specs.declared.event.Event.{Event}
use Rattle.cyp_crew.specs.declared.event.Event.TheVariants.{Claim, Publish, Abandon, Cancel, Commit}
use Rattle.cyp_crew.specs.Crews.{Task, Outstanding, Crew, fresh_crew}
use Rattle.cyp_crew.specs.Claims.{is_live}
use Rattle.cyp_crew.specs.Journals.{after_all, is_journal, is_decided, crew_report}
use Rattle.cyp_crew.specs.Killed.{killed, cancellations}
use Rattle.cyp_crew.specs.Board.{StandsFor, fresh_board}
use Rattle.cyp_crew.proofs.FreshBoard.{fresh_stands}

abbrev pub ways : ℕ → List (AltOf ℕ ℕ)
ways zero = record { rule = 10; cost = 1; premises = 1 ∷ [] } ∷ (record { rule = 20; cost = 2; premises = 2 ∷ [] } ∷ [])
ways (suc zero) = record { rule = 11; cost = 0; premises = [] } ∷ []
ways (suc (suc n)) = []

abbrev pub space : Moving ℕ ℕ
space = record { moves = ways; weight = λ n. 0 }

abbrev pub task : Task ℕ ℕ
task = record { space = space; root = 0; budget = 10; nodes = 100; same = λ a b. a == b }

-- whether a journal is decided, and its report
abbrev decided_in : Task ℕ ℕ → Option (Crew ℕ) → Bool
decided_in t None = false
decided_in t (Some c) = is_decided t c

abbrev reports_in : Task ℕ ℕ → Option (Crew ℕ) → List (PlainReport ℕ ℕ)
reports_in t None = []
reports_in t (Some c) = crew_report t c ∷ []

abbrev outstanding_in : Option (Crew ℕ) → List (Outstanding ℕ)
outstanding_in None = []
outstanding_in (Some c) = c.outstanding

abbrev live_in : Task ℕ ℕ → Option (Crew ℕ) → ℕ → Bool
live_in t None k = false
live_in t (Some c) k = is_live t c k

-- what a journal leads to
abbrev by : Task ℕ ℕ → List Event → Option (Crew ℕ)
by t vs = after_all t fresh_crew vs

abbrev first_way : PlainReport ℕ ℕ
first_way = record { verdict = Found (Derived 0 10 (More (Derived 1 11 NoMore) NoMore)); expansions = 2; nodes = 3; depth = 1 }

one_thread : report space 10 100 0 ≡ first_way
one_thread = refl

-- ---- the other worker's claim is cancelled and given back

-- up to the second commit
abbrev solving : List Event
solving = Claim 0 1 ∷ (Publish 0 1 ∷ (Commit ∷ (Claim 0 2 ∷ (Claim 1 3 ∷ (Publish 0 2 ∷ (Commit ∷ []))))))

abbrev cancelling : List Event
cancelling = solving ++ (Cancel 3 ∷ (Abandon 1 3 ∷ []))

cancelling_decided : decided_in task (by task cancelling) ≡ true
cancelling_decided = refl

cancelling_report : reports_in task (by task cancelling) ≡ first_way ∷ []
cancelling_report = refl

-- the first commit leaves no claim, the second one whose leaf was live before it and isn't after it
no_claim_left : outstanding_in (by task (Claim 0 1 ∷ (Publish 0 1 ∷ (Commit ∷ [])))) ≡ []
no_claim_left = refl

one_claim_left : outstanding_in (by task solving) ≡ record { worker = 1; serial = 3; leaf = 2; node = 2; cancelled = false } ∷ []
one_claim_left = refl

live_before : live_in task (by task (Claim 0 1 ∷ (Publish 0 1 ∷ (Commit ∷ (Claim 0 2 ∷ (Claim 1 3 ∷ (Publish 0 2 ∷ []))))))) 2 ≡ true
live_before = refl

dead_after : live_in task (by task solving) 2 ≡ false
dead_after = refl

-- the claims that the second commit leaves without a live leaf
abbrev killed_in : Option (Crew ℕ) → Option (Crew ℕ) → List (Outstanding ℕ)
killed_in (Some c) (Some d) = killed task c d
killed_in (Some c) None = []
killed_in None d = []

one_killed : cancellations (killed_in (by task (Claim 0 1 ∷ (Publish 0 1 ∷ (Commit ∷ (Claim 0 2 ∷ (Claim 1 3 ∷ (Publish 0 2 ∷ []))))))) (by task solving)) ≡ Cancel 3 ∷ []
one_killed = refl

-- ---- the same answer in another order

abbrev other_order : List Event
other_order = Claim 0 1 ∷ (Publish 0 1 ∷ (Commit ∷ (Claim 0 2 ∷ (Claim 1 3 ∷ (Publish 1 3 ∷ (Publish 0 2 ∷ (Commit ∷ [])))))))

other_decided : decided_in task (by task other_order) ≡ true
other_decided = refl

other_report : reports_in task (by task other_order) ≡ first_way ∷ []
other_report = refl

-- ---- a budget of one expansion

abbrev short : Task ℕ ℕ
short = record task { budget = 1 }

abbrev pub one_commit : List Event
one_commit = Claim 0 1 ∷ (Publish 0 1 ∷ (Commit ∷ []))

spent_decided : decided_in short (by short one_commit) ≡ true
spent_decided = refl

spent_report : reports_in short (by short one_commit) ≡ record { verdict = Spent; expansions = 1; nodes = 3; depth = 1 } ∷ []
spent_report = refl

-- a leaf can still be claimed and, since it is live, be given back
claim_after : outstanding_in (by short (one_commit ++ (Claim 0 2 ∷ []))) ≡ record { worker = 0; serial = 2; leaf = 1; node = 1; cancelled = false } ∷ []
claim_after = refl

live_still : live_in short (by short (one_commit ++ (Claim 0 2 ∷ []))) 1 ≡ true
live_still = refl

given_back : is_journal short (one_commit ++ (Claim 0 2 ∷ (Abandon 0 2 ∷ []))) ≡ true
given_back = refl

-- ---- events that aren't allowed

-- the next leaf isn't published
no_commit : is_journal task (Commit ∷ []) ≡ false
no_commit = refl

-- another leaf than the next one is published
no_commit_of_another : is_journal task (one_commit ++ (Claim 0 2 ∷ (Claim 1 3 ∷ (Publish 1 3 ∷ (Commit ∷ []))))) ≡ false
no_commit_of_another = refl

-- the claimed leaf is live
no_cancel : is_journal task (Claim 0 1 ∷ (Cancel 1 ∷ [])) ≡ false
no_cancel = refl

-- each live leaf is claimed
no_second_claim : is_journal task (Claim 0 1 ∷ (Claim 0 2 ∷ [])) ≡ false
no_second_claim = refl

-- the serial isn't the next one
no_other_serial : is_journal task (Claim 0 2 ∷ []) ≡ false
no_other_serial = refl

-- the claim is another worker's
no_publication : is_journal task (Claim 0 1 ∷ (Publish 1 1 ∷ [])) ≡ false
no_publication = refl

-- the budget is spent
no_more_commits : is_journal short (one_commit ++ (Claim 0 2 ∷ (Publish 0 2 ∷ (Commit ∷ [])))) ≡ false
no_more_commits = refl

-- ---- a board

fresh_board_stands : StandsFor task [] (fresh_board task)
fresh_board_stands = fresh_stands task
