-- Each decided journal gives the report of the search by one thread.
use Rattle.std.proofs.Common.{◌≡◌, refl, sym, ◌∙◌, ap, ℕ, suc, ◌<◌, ◌==◌, Bool, true, false, not, ◌&&◌, ◌||◌, inl, inr, List, [], ◌∷◌, Option, Some, None, arith, subst}
use Rattle.std.specs.Option.{option_and_then}
use Rattle.std.proofs.lemmas.Bool.{cases_lt, ltb-true, ne_eqb}
use Rattle.cyp_tree.specs.declared.mark.Mark.{Mark}
use Rattle.cyp_tree.specs.declared.mark.Mark.TheVariants.{Undecided, Solved, Failed}
use Rattle.cyp_tree.specs.Statuses.{status}
use Rattle.cyp_tree.specs.Derivations.{Derivation, chosen_derivation}
use Rattle.cyp_search.specs.Reports.{PlainVerdict, PlainReport, verdict_at, ending_by, ending, report, IsReport}
use Rattle.cyp_search.proofs.ReportProof.{report_law}
use Rattle.cyp_search.proofs.OneReport.{one_report}
use Rattle.cyp_crew.specs.declared.event.Event.{Event}
use Rattle.cyp_crew.specs.declared.event.Event.TheVariants.{Claim, Publish, Abandon, Cancel, Commit}
use Rattle.cyp_crew.specs.Crews.{Task, Crew, fresh_crew}
use Rattle.cyp_crew.specs.Claims.{crew_tree, next_published}
use Rattle.cyp_crew.specs.Machine.{is_open, next_fits, after}
use Rattle.cyp_crew.specs.Journals.{commits_in, after_all, DecidedBy, crew_report}
use Rattle.cyp_crew.proofs.Steps.{May, may_commit_of, commit_law, stay_law, open_from}
use Rattle.cyp_crew.proofs.Paths.{stage_law}

-- an open root with budget left and room for the next stage doesn't end a search
goes_on : {R N : Type 0} (s : Mark) (spent fits : Bool) (d : Option (Derivation R N)) → s ≡ Undecided → spent ≡ false → fits ≡ true → ending_by s spent fits d ≡ None
goes_on s spent fits d e f g = λ i. ending_by (e i) (f i) (g i) d

-- a decided root, a spent budget or no room ends it, with the verdict of its status
ends_with : {R N : Type 0} (s : Mark) (spent published fits : Bool) (d : Option (Derivation R N)) → (not (is_open s) || spent || (published && not fits)) ≡ true
    → ending_by s spent fits d ≡ Some (verdict_at s d)
ends_with Solved spent published fits d e = refl
ends_with Failed spent published fits d e = refl
ends_with Undecided true published fits d e = refl
ends_with Undecided false published false d e = refl
ends_with Undecided false true true d e = cc
ends_with Undecided false false true d e = cc

module _ {R N : Type 0} (t : Task R N) where
  abbrev end_at : ℕ → Option (PlainVerdict R N)
  end_at k = ending t.space t.budget t.nodes t.root k

  -- no stage before this one ends the search
  abbrev NoneBelow : ℕ → Type 0
  NoneBelow k = (j : ℕ) → j < k → end_at j ≡ None

  one_more : (k : ℕ) → NoneBelow k → end_at k ≡ None → NoneBelow (suc k)
  one_more k below e j h = elim (cases_lt j k) [ inl l ↦ below j l | inr l ↦ subst (λ (n : ℕ). end_at n ≡ None) (let same : k ≡ j = omega arith in same) e ]

  commit_keeps : (c d : Crew N) → after t c Commit ≡ Some d → NoneBelow c.commits → NoneBelow d.commits
  commit_keeps c d e below =
      let may : May t c = may_commit_of t c d e in
      let room : c.commits < t.budget = ltb-true c.commits t.budget may.left in
      subst NoneBelow (sym (commit_law t c d e).commits)
      (one_more c.commits below
      (goes_on (status (crew_tree t c)) (c.commits == t.budget) (next_fits t c) (chosen_derivation (crew_tree t c)) (open_from (status (crew_tree t c)) may.opened)
      (ne_eqb c.commits t.budget (λ same. omega arith)) may.fits))

  stay_keeps : (c d : Crew N) → d.commits ≡ c.commits → NoneBelow c.commits → NoneBelow d.commits
  stay_keeps c d e below = subst NoneBelow (sym e) below

  step_keeps : (v : Event) (c d : Crew N) → after t c v ≡ Some d → NoneBelow c.commits → NoneBelow d.commits
  step_keeps Commit c d e = commit_keeps c d e
  step_keeps (Claim w s) c d e = stay_keeps c d (stay_law t c d (Claim w s) (λ q. cc) e)
  step_keeps (Publish w s) c d e = stay_keeps c d (stay_law t c d (Publish w s) (λ q. cc) e)
  step_keeps (Abandon w s) c d e = stay_keeps c d (stay_law t c d (Abandon w s) (λ q. cc) e)
  step_keeps (Cancel s) c d e = stay_keeps c d (stay_law t c d (Cancel s) (λ q. cc) e)

  -- so it is of the state, where there is one
  abbrev KeptIn : Option (Crew N) → Type 0
  KeptIn None = Unit {0}
  KeptIn (Some c) = NoneBelow c.commits

  then_keep : (vs : List Event) (c d : Crew N) (v : Event) (o : Option (Crew N)) → after t c v ≡ o → option_and_then (λ x. after_all t x vs) o ≡ Some d
      → ((x : Crew N) → after_all t x vs ≡ Some d → NoneBelow x.commits → NoneBelow d.commits) → NoneBelow c.commits → NoneBelow d.commits
  then_keep vs c d v None q e later below = cc
  then_keep vs c d v (Some x) q e later below = later x e (step_keeps v c x q below)

  all_keep : (vs : List Event) (c d : Crew N) → after_all t c vs ≡ Some d → NoneBelow c.commits → NoneBelow d.commits
  all_keep [] c d e below = subst KeptIn e below
  all_keep (v ∷ vs) c d e below = then_keep vs c d v (after t c v) refl e (λ x. all_keep vs x d) below

  pub crew_is_report : (vs : List Event) (c : Crew N) → DecidedBy t vs c → IsReport t.space t.budget t.nodes t.root (crew_report t c)
  crew_is_report vs c (e, d) = (
    c.commits,
    verdict_at (status (crew_tree t c)) (chosen_derivation (crew_tree t c)),
    ends_with (status (crew_tree t c)) (c.commits == t.budget) (next_published t c) (next_fits t c) (chosen_derivation (crew_tree t c)) d,
    all_keep vs fresh_crew c e (λ j h. absurd (omega arith)),
    refl,
  )

  pub crew_law : (vs : List Event) (c : Crew N) → DecidedBy t vs c → crew_report t c ≡ report t.space t.budget t.nodes t.root
  crew_law vs c by =
      one_report t.space t.budget t.nodes t.root (crew_report t c) (report t.space t.budget t.nodes t.root) (crew_is_report vs c by)
      (report_law t.space t.budget t.nodes t.root)

  pub two_journals : (vs ws : List Event) (c d : Crew N) → DecidedBy t vs c → DecidedBy t ws d → (commits_in vs ≡ commits_in ws) × (crew_report t c ≡ crew_report t d)
  two_journals vs ws c d (e, f) (g, h) =
      let same : crew_report t c ≡ crew_report t d = crew_law vs c (e, f) ∙ sym (crew_law ws d (g, h)) in
      (sym (stage_law t vs c e) ∙ ap (λ (r : PlainReport R N). r.expansions) same ∙ stage_law t ws d g, same)
