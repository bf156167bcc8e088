-- Laws of crews: whatever the order of their events, they give the answer of one thread.
use Rattle.std.specs.Prelude.{◌≡◌, IsTrue, suc, List, [], ◌∷◌, ◌++◌, Some}
use Rattle.std.specs.List.{Contains}
use Rattle.std.specs.Option.{option_and_then}
use Rattle.cyp_tree.specs.declared.mark.Mark.TheVariants.{Undecided}
use Rattle.cyp_tree.specs.Statuses.{status}
use Rattle.cyp_tree.specs.Growing.{expand_next}
use Rattle.cyp_search.specs.Reports.{IsReport, report}
use Rattle.cyp_crew.specs.declared.event.Event.{Event}
use Rattle.cyp_crew.specs.declared.event.Event.TheVariants.{Commit}
use Rattle.cyp_crew.specs.Crews.{Task, TellsEqual, Crew, fresh_crew}
use Rattle.cyp_crew.specs.Claims.{crew_tree, is_published}
use Rattle.cyp_crew.specs.Machine.{after}
use Rattle.cyp_crew.specs.Board.{StandsFor, fresh_board}
use Rattle.cyp_crew.specs.Journals.{commits_in, after_all, is_journal, LeadsTo, Passes, DecidedBy, crew_report}
use Rattle.cyp_crew.specs.Killed.{killed, cancellations}
use Rattle.cyp_crew.specs.Orderly.{InOrder, IsOrderly}

-- a journal goes through one list of states
pub record OnePath {R N : Type 0} (t : Task R N) (vs : List Event) : Type 0 where
  pub states : List (Crew N)
  pub passes : Passes t fresh_crew vs states
  pub only : (others : List (Crew N)) → Passes t fresh_crew vs others → others ≡ states

-- each journal goes through one list of states
abbrev pub OnePathLaw : (R N : Type 0) → Type 0
OnePathLaw R N = (t : Task R N) (vs : List Event) → IsTrue (is_journal t vs) → OnePath t vs

-- events after others go on from the state that those leave, so what a journal begins with is a journal
abbrev pub PrefixLaw : (R N : Type 0) → Type 0
PrefixLaw R N =
    (t : Task R N) (vs ws : List Event)
    → (after_all t fresh_crew (vs ++ ws) ≡ option_and_then (λ c. after_all t c ws) (after_all t fresh_crew vs))
    × (IsTrue (is_journal t (vs ++ ws)) → IsTrue (is_journal t vs))

-- a commit is the one step from a stage of the search to the next, and leaves publications and claims as they are
pub record Commits {R N : Type 0} (t : Task R N) (c d : Crew N) : Type 0 where
  pub was_open : status (crew_tree t c) ≡ Undecided
  pub tree : crew_tree t d ≡ expand_next t.space (crew_tree t c)
  pub commits : d.commits ≡ suc c.commits
  pub published : d.published ≡ c.published
  pub outstanding : d.outstanding ≡ c.outstanding
  pub claims : d.claims ≡ c.claims

-- each commit is such a step, whatever was published and when
abbrev pub CommitLaw : (R N : Type 0) → Type 0
CommitLaw R N = (t : Task R N) (c d : Crew N) → after t c Commit ≡ Some d → Commits t c d

-- no other event changes the stage
abbrev pub StayLaw : (R N : Type 0) → Type 0
StayLaw R N = (t : Task R N) (c d : Crew N) (v : Event) → (v ≡ Commit → ⊥) → after t c v ≡ Some d → d.commits ≡ c.commits

-- the stage after a journal has the number of its commits
abbrev pub StageLaw : (R N : Type 0) → Type 0
StageLaw R N = (t : Task R N) (vs : List Event) (c : Crew N) → LeadsTo t vs c → c.commits ≡ commits_in vs

-- where the test of nodes tells equal ones, a node is published exactly where it is in the list
abbrev pub PublishedLaw : (R N : Type 0) → Type 0
PublishedLaw R N =
    (t : Task R N) (c : Crew N) (n : N) → TellsEqual t.same → (IsTrue (is_published t c n) → Contains c.published n) × (Contains c.published n → IsTrue (is_published t c n))

-- the claims of a journal are in order
abbrev pub OrderlyLaw : (R N : Type 0) → Type 0
OrderlyLaw R N = (t : Task R N) (vs : List Event) (c : Crew N) → LeadsTo t vs c → IsOrderly c

-- after a commit the claims whose leaf was live and isn't any more, which are in rising serial, may all be cancelled, in order
abbrev pub KilledLaw : (R N : Type 0) → Type 0
KilledLaw R N =
    (t : Task R N) (vs : List Event) (c d : Crew N) → LeadsTo t vs c → after t c Commit ≡ Some d
    → InOrder 0 c.claims (killed t c d) × IsTrue (is_journal t (vs ++ (Commit ∷ cancellations (killed t c d))))

-- each decided journal has the report of the search by one thread
abbrev pub CrewLaw : (R N : Type 0) → Type 0
CrewLaw R N = (t : Task R N) (vs : List Event) (c : Crew N) → DecidedBy t vs c → crew_report t c ≡ report t.space t.budget t.nodes t.root

-- it is the report of the least stage that ends the search
abbrev pub CrewIsReport : (R N : Type 0) → Type 0
CrewIsReport R N = (t : Task R N) (vs : List Event) (c : Crew N) → DecidedBy t vs c → IsReport t.space t.budget t.nodes t.root (crew_report t c)

-- two decided journals have as many commits as each other, and one report
abbrev pub TwoJournalsLaw : (R N : Type 0) → Type 0
TwoJournalsLaw R N =
    (t : Task R N) (vs ws : List Event) (c d : Crew N) → DecidedBy t vs c → DecidedBy t ws d → (commits_in vs ≡ commits_in ws) × (crew_report t c ≡ crew_report t d)

-- a fresh board stands for its search and the empty journal
abbrev pub FreshBoardLaw : (R N : Type 0) → Type 0
FreshBoardLaw R N = (t : Task R N) → StandsFor t [] (fresh_board t)
