-- Journals event by event: the states they go through, what they begin with, and their commits.
use Rattle.std.proofs.Common.{◌≡◌, refl, sym, ◌∙◌, ap, subst, IsTrue, ℕ, suc, ◌+◌, List, [], ◌∷◌, ◌++◌, Option, Some, None, is_some, arith}
use Rattle.std.specs.Option.{option_and_then}
use Rattle.std.proofs.lemmas.Option.{same_Some}
use Rattle.cyp_crew.specs.declared.event.Event.{Event}
use Rattle.cyp_crew.specs.declared.event.Event.TheVariants.{Claim, Publish, Abandon, Cancel, Commit}
use Rattle.cyp_crew.specs.Crews.{Task, Crew, fresh_crew}
use Rattle.cyp_crew.specs.Machine.{after}
use Rattle.cyp_crew.specs.Journals.{counted, commits_in, after_all, is_journal, LeadsTo, Passes}
use Rattle.cyp_crew.specs.Laws.{OnePath}
use Rattle.cyp_crew.proofs.Steps.{commit_law, stay_law}

module _ {R N : Type 0} (t : Task R N) where
  abbrev PathFrom : Crew N → List Event → Type 0
  PathFrom c vs = (ds : List (Crew N)) × Passes t c vs ds × ((es : List (Crew N)) → Passes t c vs es → es ≡ ds)

  no_event : (c : Crew N) (es : List (Crew N)) → Passes t c [] es → es ≡ []
  no_event c [] p = refl
  no_event c (e ∷ es) p = absurd p

  path_then : (v : Event) (vs : List Event) (c : Crew N) (o : Option (Crew N)) → after t c v ≡ o → IsTrue (is_some (option_and_then (λ d. after_all t d vs) o))
      → ((d : Crew N) → IsTrue (is_some (after_all t d vs)) → PathFrom d vs) → PathFrom c (v ∷ vs)
  path_then v vs c None e h later = cc
  path_then v vs c (Some d) e h later = let rest : PathFrom d vs = later d h in (d ∷ rest.0, (e, rest.1), only rest)
    where
      only : (rest : PathFrom d vs) (es : List (Crew N)) → Passes t c (v ∷ vs) es → es ≡ d ∷ rest.0
      only rest [] p = absurd p
      only rest (x ∷ es) p =
          let one : x ≡ d = same_Some x d (sym p.0 ∙ e) in
          let more : es ≡ rest.0 = rest.2 es (subst (λ (y : Crew N). Passes t y vs es) one p.1) in
          cc

  path_from : (vs : List Event) (c : Crew N) → IsTrue (is_some (after_all t c vs)) → PathFrom c vs
  path_from [] c h = ([], tt, no_event c)
  path_from (v ∷ vs) c h = path_then v vs c (after t c v) refl h (path_from vs)

  pub one_path : (vs : List Event) → IsTrue (is_journal t vs) → OnePath t vs
  one_path vs h = let found : PathFrom fresh_crew vs = path_from vs fresh_crew h in record { states = found.0; passes = found.1; only = found.2 }

  and_then_twice : (o : Option (Crew N)) (vs ws : List Event) → ((c : Crew N) → after_all t c (vs ++ ws) ≡ option_and_then (λ d. after_all t d ws) (after_all t c vs))
      → option_and_then (λ c. after_all t c (vs ++ ws)) o ≡ option_and_then (λ d. after_all t d ws) (option_and_then (λ c. after_all t c vs) o)
  and_then_twice None vs ws h = refl
  and_then_twice (Some c) vs ws h = h c

  pub after_all-append : (vs ws : List Event) (c : Crew N) → after_all t c (vs ++ ws) ≡ option_and_then (λ d. after_all t d ws) (after_all t c vs)
  after_all-append [] ws c = refl
  after_all-append (v ∷ vs) ws c = and_then_twice (after t c v) vs ws (λ d. after_all-append vs ws d)

  first_there : (f : Crew N → Option (Crew N)) (o : Option (Crew N)) → IsTrue (is_some (option_and_then f o)) → IsTrue (is_some o)
  first_there f None h = h
  first_there f (Some c) h = refl

  pub prefix_law : (vs ws : List Event)
      → (after_all t fresh_crew (vs ++ ws) ≡ option_and_then (λ c. after_all t c ws) (after_all t fresh_crew vs)) × (IsTrue (is_journal t (vs ++ ws)) → IsTrue (is_journal t vs))
  prefix_law vs ws =
      (after_all-append vs ws fresh_crew, λ h. first_there (λ c. after_all t c ws) (after_all t fresh_crew vs) (subst (λ (o : Option (Crew N)). IsTrue (is_some o)) (after_all-append vs ws fresh_crew) h))

  -- one event counts as one commit or none, as the stage moves
  moved : (c d : Crew N) (v : Event) (n : ℕ) → after t c v ≡ Some d → d.commits + n ≡ c.commits + counted v n
  moved c d Commit n e = let one : d.commits ≡ suc c.commits = (commit_law t c d e).commits in omega arith
  moved c d (Claim w s) n e = let same : d.commits ≡ c.commits = stay_law t c d (Claim w s) (λ q. cc) e in omega arith
  moved c d (Publish w s) n e = let same : d.commits ≡ c.commits = stay_law t c d (Publish w s) (λ q. cc) e in omega arith
  moved c d (Abandon w s) n e = let same : d.commits ≡ c.commits = stay_law t c d (Abandon w s) (λ q. cc) e in omega arith
  moved c d (Cancel s) n e = let same : d.commits ≡ c.commits = stay_law t c d (Cancel s) (λ q. cc) e in omega arith

  counted_then : (v : Event) (vs : List Event) (c d : Crew N) (o : Option (Crew N)) → after t c v ≡ o → option_and_then (λ x. after_all t x vs) o ≡ Some d
      → ((x : Crew N) → after_all t x vs ≡ Some d → d.commits ≡ x.commits + commits_in vs) → d.commits ≡ c.commits + counted v (commits_in vs)
  counted_then v vs c d None q e later = cc
  counted_then v vs c d (Some x) q e later = omega (arith, later x e, moved c x v (commits_in vs) q)

  counted_all : (vs : List Event) (c d : Crew N) → after_all t c vs ≡ Some d → d.commits ≡ c.commits + commits_in vs
  counted_all [] c d e = let same : c ≡ d = same_Some c d e in omega (arith, ap (λ (x : Crew N). x.commits) same)
  counted_all (v ∷ vs) c d e = counted_then v vs c d (after t c v) refl e (λ x. counted_all vs x d)

  pub stage_law : (vs : List Event) (c : Crew N) → LeadsTo t vs c → c.commits ≡ commits_in vs
  stage_law vs c e = omega (arith, counted_all vs fresh_crew c e)
