-- The leaf of each claim is in the tree, and that of a cancelled claim is never live again.
use Rattle.std.proofs.Common.{◌≡◌, refl, sym, ◌∙◌, ap, subst, ℕ, zero, suc, ◌<◌, ◌≤◌, ◌==◌, inl, inr, Bool, true, false, cond, not, ◌&&◌, ◌||◌, List, [], ◌∷◌, filter, slice_index_or, Option, Some, None, IfSome, arith}
use Rattle.std.specs.Option.{option_and_then}
use Rattle.std.specs.List.{All, Contains, list_any}
use Rattle.std.proofs.lemmas.Bool.{and_parts, not-true, eqb-true, ne_eqb, cases_lt}
use Rattle.std.proofs.lemmas.List.Elements.{All-nil, All-push, All-weaker, All-filter, All-map, All-contains_itself}
use Rattle.std.proofs.lemmas.List.Folds.{list_any_none}
use Rattle.cyp_tree.specs.Trees.{Tree, Moving}
use Rattle.cyp_tree.specs.Live.{Waiting, live_leaves, next_leaf}
use Rattle.cyp_tree.specs.Sizes.{size}
use Rattle.cyp_tree.specs.Growing.{new_alts, expand_at}
use Rattle.cyp_tree.specs.Numbers.{occurrences, IsNumbered}
use Rattle.cyp_tree.proofs.Counting.{size-graft, leaves-le}
use Rattle.cyp_tree.proofs.Leaves.{least_among, live_is_one_leaf}
use Rattle.cyp_tree.proofs.LaterLeaves.{live_after}
use Rattle.cyp_search.proofs.NumberedStages.{stages_numbered}
use Rattle.cyp_crew.specs.declared.event.Event.{Event}
use Rattle.cyp_crew.specs.declared.event.Event.TheVariants.{Claim, Publish, Abandon, Cancel, Commit}
use Rattle.cyp_crew.specs.Crews.{Task, Outstanding, Crew, fresh_crew}
use Rattle.cyp_crew.specs.Claims.{is_claim_of, claim_of, claim_at, cancelled_at, with_cancelled, crew_tree, crew_leaves, is_free, free_leaf, is_live}
use Rattle.cyp_crew.specs.Machine.{where_so, may_claim, with_claim, with_publish, with_abandon, with_cancel, after}
use Rattle.cyp_crew.specs.Journals.{after_all, LeadsTo}
use Rattle.cyp_crew.specs.Orderly.{IsOrderly}
use Rattle.cyp_crew.proofs.Steps.{commit_law}
use Rattle.cyp_crew.proofs.ClaimLists.{only_with, found_serial}
use Rattle.cyp_crew.proofs.OrderlyClaims.{OrderlyIn, after_orderly}

-- ---- trees that grow

none_any : {A : Type 0} (p : A → Bool) (xs : List A) (x : A) → list_any p xs ≡ false → Contains xs x → p x ≡ false
none_any p [] x e (j, h, q) = let past : ⊥ = omega arith in absurd past
none_any {A} p (y ∷ xs) x e c = by_test (p y) refl e c (none_any p xs x)
  where
    by_test : (b : Bool) → p y ≡ b → (b || list_any p xs) ≡ false → Contains (y ∷ xs) x → (list_any p xs ≡ false → Contains xs x → p x ≡ false) → p x ≡ false
    by_test true t f k later = cc
    by_test false t f (zero, h, q) later = sym (ap p q) ∙ t
    by_test false t f (suc j, h, q) later = later f (j, omega arith, q)

module _ {R N : Type 0} (space : Moving R N) (tr : Tree R N) where
  -- the number isn't that of a live leaf
  abbrev IsDead : Tree R N → ℕ → Type 0
  IsDead u k = list_any (λ (w : Waiting N). w.number == k) (live_leaves space.weight 0 u) ≡ false

  pub grown_size : (w : Option (Waiting N)) → size tr ≤ size (expand_at space tr w)
  grown_size None = omega arith
  grown_size (Some w) = omega (arith, size-graft w.number (new_alts (size tr) (space.moves w.node)) tr)

  pub dead_stays : (k : ℕ) (w : Option (Waiting N)) → k < size tr → IsDead tr k → IsDead (expand_at space tr w) k
  dead_stays k None h e = e
  dead_stays k (Some w) h e =
      list_any_none (λ (x : Waiting N). x.number == k) (live_leaves space.weight 0 (expand_at space tr (Some w)))
      (All-weaker (Contains (live_leaves space.weight 0 (expand_at space tr (Some w)))) (λ (x : Waiting N). (x.number == k) ≡ false) not_it
      (live_leaves space.weight 0 (expand_at space tr (Some w))) (All-contains_itself (live_leaves space.weight 0 (expand_at space tr (Some w)))))
    where
      not_it : (x : Waiting N) → Contains (live_leaves space.weight 0 (expand_at space tr (Some w))) x → (x.number == k) ≡ false
      not_it x c = elim (live_after space.weight tr w.number (space.moves w.node) x c) [
        | inl p ↦ none_any (λ (y : Waiting N). y.number == k) (live_leaves space.weight 0 tr) x e p.0
        | inr g ↦ ne_eqb x.number k (λ q. omega arith)
      ]

module _ {R N : Type 0} (t : Task R N) where
  -- its leaf is in the tree, and isn't live where it is cancelled
  abbrev pub IsSettled : Crew N → Outstanding N → Type 0
  IsSettled c o = (o.leaf < size (crew_tree t c)) × (o.cancelled ≡ true → is_live t c o.leaf ≡ false)

  abbrev pub AllSettled : Crew N → Type 0
  AllSettled c = All (IsSettled c) c.outstanding

  -- so it is of the state, where there is one
  abbrev SettledIn : Option (Crew N) → Type 0
  SettledIn None = Unit {0}
  SettledIn (Some c) = AllSettled c

  settled_if : (b : Bool) (o : Option (Crew N)) → (b ≡ true → SettledIn o) → SettledIn (where_so b o)
  settled_if true o h = h refl
  settled_if false o h = tt

  live_below : (c : Crew N) (w : Waiting N) → Contains (crew_leaves t c) w → w.number < size (crew_tree t c)
  live_below c w h = elim (cases_lt w.number (size (crew_tree t c))) [
    | inl l ↦ l
    | inr g ↦
        let is : IsNumbered (crew_tree t c) = (stages_numbered t.space t.root c.commits).0 in
        let none : occurrences w.number (crew_tree t c) ≡ 0 = is.below w.number g in
        omega (arith, leaves-le w.number (crew_tree t c), live_is_one_leaf t.space.weight (crew_tree t c) w is h)
  ]

  free_below : (c : Crew N) → IfSome (free_leaf t c) (λ w. w.number < size (crew_tree t c))
  free_below c =
      least_among (λ (w : Waiting N). w.number < size (crew_tree t c)) (filter (is_free t c) (crew_leaves t c))
      (All-filter (is_free t c) (λ (w : Waiting N). w.number < size (crew_tree t c)) (crew_leaves t c)
      (All-weaker (Contains (crew_leaves t c)) (λ (w : Waiting N). w.number < size (crew_tree t c)) (live_below c) (crew_leaves t c) (All-contains_itself (crew_leaves t c))))

  claim_settled : (c : Crew N) (w s : ℕ) (l : Option (Waiting N)) → IfSome l (λ x. x.number < size (crew_tree t c)) → AllSettled c → SettledIn (with_claim c w s l)
  claim_settled c w s None h is = tt
  claim_settled c w s (Some l) h is =
      All-push (IsSettled c) c.outstanding (record { worker = w; serial = s; leaf = l.number; node = l.node; cancelled = false }) is (h, λ e. cc)

  publish_settled : (c : Crew N) (o : Option (Outstanding N)) → AllSettled c → SettledIn (with_publish c o)
  publish_settled c None is = tt
  publish_settled c (Some o) is = All-filter (λ x. not (is_claim_of o.worker o.serial x)) (IsSettled c) c.outstanding is

  abandon_settled : (c : Crew N) (o : Option (Outstanding N)) → AllSettled c → SettledIn (with_abandon c o)
  abandon_settled c None is = tt
  abandon_settled c (Some o) is = All-filter (λ x. not (is_claim_of o.worker o.serial x)) (IsSettled c) c.outstanding is

  -- a claim whose leaf isn't live may be cancelled
  cancelled_settled : (c : Crew N) (s : ℕ) (b : Bool) (o : Outstanding N) → (o.serial == s) ≡ b → (o.serial ≡ s → is_live t c o.leaf ≡ false) → IsSettled c o
      → IsSettled c (cond b (record o { cancelled = true }) o)
  cancelled_settled c s true o e dead is = (is.0, λ q. dead (eqb-true o.serial s e))
  cancelled_settled c s false o e dead is = is

  cancel_settled : (c : Crew N) (s : ℕ) (o : Option (Outstanding N)) → claim_at c s ≡ o → IsOrderly c → AllSettled c → SettledIn (with_cancel t c o)
  cancel_settled c s None e order is = tt
  cancel_settled c s (Some o) e order is =
      settled_if (not o.cancelled && not (is_live t c o.leaf)) (Some (record c { outstanding = with_cancelled o.serial c.outstanding }))
      (λ f. let dead : is_live t c o.leaf ≡ false = not-true (is_live t c o.leaf) (and_parts (not o.cancelled) (not (is_live t c o.leaf)) f).1 in
      All-map (IsSettled c) (cancelled_at o.serial) c.outstanding
      (λ k d h. cancelled_settled c o.serial ((slice_index_or c.outstanding k d).serial == o.serial) (slice_index_or c.outstanding k d) refl
      (λ q. ap (λ (x : Outstanding N). is_live t c x.leaf) (only k d h (q ∙ serial_found)) ∙ dead) (is k d h)))
    where
      serial_found : o.serial ≡ s
      serial_found = found_serial s c.outstanding o e

      only : All (λ (x : Outstanding N). x.serial ≡ s → x ≡ o) c.outstanding
      only = only_with s 0 c.claims c.outstanding o order.in_order e

  commit_settled : (c d : Crew N) → after t c Commit ≡ Some d → AllSettled c → AllSettled d
  commit_settled c d e is =
      subst (All (IsSettled d)) (sym (commit_law t c d e).outstanding)
      (All-weaker (IsSettled c) (IsSettled d) grown c.outstanding is)
    where
      grows : crew_tree t d ≡ expand_at t.space (crew_tree t c) (next_leaf t.space.weight (crew_tree t c))
      grows = (commit_law t c d e).tree

      grown : (o : Outstanding N) → IsSettled c o → IsSettled d o
      grown o (h, dead) = (
        subst (λ (u : Tree R N). o.leaf < size u) (sym grows) (omega (arith, grown_size t.space (crew_tree t c) (next_leaf t.space.weight (crew_tree t c)))),
        λ q. subst (λ (u : Tree R N). list_any (λ (w : Waiting N). w.number == o.leaf) (live_leaves t.space.weight 0 u) ≡ false) (sym grows)
            (dead_stays t.space (crew_tree t c) o.leaf (next_leaf t.space.weight (crew_tree t c)) h (dead q)),
      )

  commit_settled_in : (c : Crew N) (o : Option (Crew N)) → after t c Commit ≡ o → AllSettled c → SettledIn o
  commit_settled_in c None e is = tt
  commit_settled_in c (Some d) e is = commit_settled c d e is

  after_settled : (c : Crew N) (v : Event) → IsOrderly c → AllSettled c → SettledIn (after t c v)
  after_settled c (Claim w s) order is = settled_if (may_claim c w s) (with_claim c w s (free_leaf t c)) (λ e. claim_settled c w s (free_leaf t c) (free_below c) is)
  after_settled c (Publish w s) order is = publish_settled c (claim_of c w s) is
  after_settled c (Abandon w s) order is = abandon_settled c (claim_of c w s) is
  after_settled c (Cancel s) order is = cancel_settled c s (claim_at c s) refl order is
  after_settled c Commit order is = commit_settled_in c (after t c Commit) refl is

  then_settled : (o : Option (Crew N)) (f : Crew N → Option (Crew N)) → OrderlyIn o → SettledIn o → ((c : Crew N) → IsOrderly c → AllSettled c → SettledIn (f c)) → SettledIn (option_and_then f o)
  then_settled None f h is g = tt
  then_settled (Some c) f h is g = g c h is

  all_settled : (vs : List Event) (c : Crew N) → IsOrderly c → AllSettled c → SettledIn (after_all t c vs)
  all_settled [] c order is = is
  all_settled (v ∷ vs) c order is = then_settled (after t c v) (λ d. after_all t d vs) (after_orderly t c v order) (after_settled c v order is) (λ d. all_settled vs d)

  pub settled_law : (vs : List Event) (c : Crew N) → LeadsTo t vs c → AllSettled c
  settled_law vs c e =
      subst SettledIn e (all_settled vs fresh_crew (record { in_order = tt; few = λ w. omega arith; most = omega arith }) (All-nil (IsSettled fresh_crew)))
