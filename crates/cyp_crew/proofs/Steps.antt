-- What one event does to the stage of a crew.
use Rattle.std.proofs.Common.{◌≡◌, refl, sym, ap, ℕ, suc, Bool, true, false, not, ◌&&◌, Option, Some, None, nat_lt}
use Rattle.std.proofs.lemmas.Bool.{and_parts}
use Rattle.std.proofs.lemmas.Option.{same_Some}
use Rattle.cyp_tree.specs.declared.mark.Mark.{Mark}
use Rattle.cyp_tree.specs.declared.mark.Mark.TheVariants.{Undecided, Solved, Failed}
use Rattle.cyp_tree.specs.Statuses.{status}
use Rattle.cyp_tree.specs.Live.{Waiting}
use Rattle.cyp_crew.specs.declared.event.Event.{Event}
use Rattle.cyp_crew.specs.declared.event.Event.TheVariants.{Claim, Publish, Abandon, Cancel, Commit}
use Rattle.cyp_crew.specs.Crews.{Task, Outstanding, Crew}
use Rattle.cyp_crew.specs.Claims.{claim_of, claim_at, with_cancelled, crew_tree, free_leaf, is_live, next_published}
use Rattle.cyp_crew.specs.Machine.{where_so, is_open, may_claim, with_claim, with_publish, with_abandon, with_cancel, next_fits, may_commit, after}
use Rattle.cyp_crew.specs.Laws.{Commits}

-- a step under a test that led somewhere: the test held
pub so_tested : {N : Type 0} (b : Bool) (o : Option (Crew N)) (d : Crew N) → where_so b o ≡ Some d → b ≡ true
so_tested true o d e = refl
so_tested false o d e = cc

pub so_led : {N : Type 0} (b : Bool) (o : Option (Crew N)) (d : Crew N) → where_so b o ≡ Some d → o ≡ Some d
so_led true o d e = e
so_led false o d e = cc

pub open_from : (s : Mark) → is_open s ≡ true → s ≡ Undecided
open_from Undecided e = refl
open_from Solved e = cc
open_from Failed e = cc

module _ {R N : Type 0} (t : Task R N) where
  -- what a commit asks for
  pub record May (c : Crew N) : Type 0 where
    pub opened : is_open (status (crew_tree t c)) ≡ true
    pub left : nat_lt c.commits t.budget ≡ true
    pub published : next_published t c ≡ true
    pub fits : next_fits t c ≡ true

  pub may_parts : (c : Crew N) → may_commit t c ≡ true → May c
  may_parts c e =
      let opened : Bool = is_open (status (crew_tree t c)) in
      let left : Bool = nat_lt c.commits t.budget in
      let published : Bool = next_published t c in
      let three : ((opened && left && published) ≡ true) × (next_fits t c ≡ true) = and_parts (opened && left && published) (next_fits t c) e in
      let two : ((opened && left) ≡ true) × (published ≡ true) = and_parts (opened && left) published three.0 in
      let one : (opened ≡ true) × (left ≡ true) = and_parts opened left two.0 in
      record { opened = one.0; left = one.1; published = two.1; fits = three.1 }

  pub may_commit_of : (c d : Crew N) → after t c Commit ≡ Some d → May c
  may_commit_of c d e = may_parts c (so_tested (may_commit t c) (Some (record c { commits = suc c.commits })) d e)

  committed : (c d : Crew N) → after t c Commit ≡ Some d → record c { commits = suc c.commits } ≡ d
  committed c d e = same_Some (record c { commits = suc c.commits }) d (so_led (may_commit t c) (Some (record c { commits = suc c.commits })) d e)

  pub commit_law : (c d : Crew N) → after t c Commit ≡ Some d → Commits t c d
  commit_law c d e =
      let same : record c { commits = suc c.commits } ≡ d = committed c d e in
      let may : May c = may_commit_of c d e in
      record {
        was_open = open_from (status (crew_tree t c)) may.opened;
        tree = λ i. crew_tree t (sym same i);
        commits = λ i. (sym same i).commits;
        published = λ i. (sym same i).published;
        outstanding = λ i. (sym same i).outstanding;
        claims = λ i. (sym same i).claims;
      }

  abbrev SameStage : Crew N → Option (Crew N) → Type 0
  SameStage c o = (d : Crew N) → o ≡ Some d → d.commits ≡ c.commits

  stay_claim : (c : Crew N) (w s : ℕ) (l : Option (Waiting N)) → SameStage c (with_claim c w s l)
  stay_claim c w s None d e = cc
  stay_claim c w s (Some l) d e = ap (λ (x : Crew N). x.commits) (sym (same_Some _ d e))

  stay_publish : (c : Crew N) (o : Option (Outstanding N)) → SameStage c (with_publish c o)
  stay_publish c None d e = cc
  stay_publish c (Some o) d e = ap (λ (x : Crew N). x.commits) (sym (same_Some _ d e))

  stay_abandon : (c : Crew N) (o : Option (Outstanding N)) → SameStage c (with_abandon c o)
  stay_abandon c None d e = cc
  stay_abandon c (Some o) d e = ap (λ (x : Crew N). x.commits) (sym (same_Some _ d e))

  stay_cancel : (c : Crew N) (o : Option (Outstanding N)) → SameStage c (with_cancel t c o)
  stay_cancel c None d e = cc
  stay_cancel c (Some o) d e =
      ap (λ (x : Crew N). x.commits)
      (sym (same_Some (record c { outstanding = with_cancelled o.serial c.outstanding }) d
      (so_led (not o.cancelled && not (is_live t c o.leaf)) (Some (record c { outstanding = with_cancelled o.serial c.outstanding })) d e)))

  pub stay_law : (c d : Crew N) (v : Event) → (v ≡ Commit → ⊥) → after t c v ≡ Some d → d.commits ≡ c.commits
  stay_law c d (Claim w s) other e = stay_claim c w s (free_leaf t c) d (so_led (may_claim c w s) (with_claim c w s (free_leaf t c)) d e)
  stay_law c d (Publish w s) other e = stay_publish c (claim_of c w s) d e
  stay_law c d (Abandon w s) other e = stay_abandon c (claim_of c w s) d e
  stay_law c d (Cancel s) other e = stay_cancel c (claim_at c s) d e
  stay_law c d Commit other e = absurd (other refl)
