-- Journals: what a crew has done, event by event, and when its answer is decided.
use Rattle.std.specs.Prelude.{◌≡◌, IsTrue, ℕ, suc, ◌==◌, Bool, not, ◌&&◌, ◌||◌, List, [], ◌∷◌, Option, Some, is_some}
use Rattle.std.specs.Option.{option_and_then}
use Rattle.cyp_tree.specs.Statuses.{status}
use Rattle.cyp_search.specs.Reports.{PlainReport, report_at}
use Rattle.cyp_crew.specs.declared.event.Event.{Event}
use Rattle.cyp_crew.specs.declared.event.Event.TheVariants.{Claim, Publish, Abandon, Cancel, Commit}
use Rattle.cyp_crew.specs.Crews.{Task, Crew, fresh_crew}
use Rattle.cyp_crew.specs.Claims.{crew_tree, next_published}
use Rattle.cyp_crew.specs.Machine.{is_open, next_fits, after}

-- the number of commits in a list of events, counted on from a number
abbrev pub counted : Event → ℕ → ℕ
counted (Claim w s) n = n
counted (Publish w s) n = n
counted (Abandon w s) n = n
counted (Cancel s) n = n
counted Commit n = suc n

-- how many of the events are commits
abbrev pub commits_in : List Event → ℕ
commits_in [] = 0
commits_in (v ∷ vs) = counted v (commits_in vs)

module _ {R N : Type 0} (t : Task R N) where
  -- the crew after these events, or nothing where one of them isn't allowed when it comes
  abbrev pub after_all : Crew N → List Event → Option (Crew N)
  after_all c [] = Some c
  after_all c (v ∷ vs) = option_and_then (λ d. after_all d vs) (after t c v)

  -- a journal: events of a fresh crew, each allowed in the state that the ones before it leave
  abbrev pub is_journal : List Event → Bool
  is_journal vs = is_some (after_all fresh_crew vs)

  -- the crew has come to this state by the journal
  abbrev pub LeadsTo : List Event → Crew N → Type 0
  LeadsTo vs c = after_all fresh_crew vs ≡ Some c

  -- the states that these events go through, one after each event
  abbrev pub Passes : Crew N → List Event → List (Crew N) → Type 0
  Passes c [] [] = Unit {0}
  Passes c [] (d ∷ ds) = ⊥
  Passes c (v ∷ vs) [] = ⊥
  Passes c (v ∷ vs) (d ∷ ds) = (after t c v ≡ Some d) × Passes d vs ds

  -- nothing is left to commit: the root is solved or failed, or the budget is spent, or the next leaf's moves are published and don't fit
  abbrev pub is_decided : Crew N → Bool
  is_decided c = not (is_open (status (crew_tree t c))) || (c.commits == t.budget) || (next_published t c && not (next_fits t c))

  -- the journal has led to a decided state
  abbrev pub DecidedBy : List Event → Crew N → Type 0
  DecidedBy vs c = LeadsTo vs c × IsTrue (is_decided c)

  -- the report of a decided state, by the status of its root
  abbrev pub crew_report : Crew N → PlainReport R N
  crew_report c = report_at c.commits (crew_tree t c)
