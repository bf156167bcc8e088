-- After a commit each claim whose leaf is no longer live may be cancelled, one after the other.
use Rattle.std.proofs.Common.{◌≡◌, refl, sym, ◌∙◌, ap, subst, IsTrue, ℕ, ◌<◌, Bool, true, false, not, ◌&&◌, List, [], ◌∷◌, ◌++◌, slice_index_or, Option, Some, is_some, arith}
use Rattle.std.specs.Option.{option_and_then}
use Rattle.std.specs.List.{All, Contains}
use Rattle.std.proofs.lemmas.Bool.{and_parts, not-true}
use Rattle.std.proofs.lemmas.List.Elements.{All-head, All-tail, All-contains_itself}
use Rattle.cyp_crew.specs.declared.event.Event.{Event}
use Rattle.cyp_crew.specs.declared.event.Event.TheVariants.{Cancel, Commit}
use Rattle.cyp_crew.specs.Crews.{Task, Outstanding, Crew, fresh_crew}
use Rattle.cyp_crew.specs.Claims.{with_cancelled, is_live}
use Rattle.cyp_crew.specs.Machine.{where_so, with_cancel, after}
use Rattle.cyp_crew.specs.Journals.{after_all, is_journal, LeadsTo}
use Rattle.cyp_crew.specs.Orderly.{InOrder}
use Rattle.cyp_crew.specs.Killed.{is_killed, killed, cancellations}
use Rattle.cyp_crew.proofs.Steps.{commit_law}
use Rattle.cyp_crew.proofs.Paths.{after_all-append}
use Rattle.cyp_crew.proofs.ClaimLists.{filter_passed, above, found_at, others_stay}
use Rattle.cyp_crew.proofs.OrderlyClaims.{filtered, cancelled_in_order, orderly_law}
use Rattle.cyp_crew.proofs.SettledClaims.{IsSettled, settled_law}

module _ {R N : Type 0} (t : Task R N) where
  -- the claim is outstanding and not cancelled, and its leaf isn't live
  record IsReady (c : Crew N) (o : Outstanding N) : Type 0 where
    outstanding : Contains c.outstanding o
    fresh : o.cancelled ≡ false
    dead : is_live t c o.leaf ≡ false

  abbrev cancelled_now : Crew N → Outstanding N → Crew N
  cancelled_now c o = record c { outstanding = with_cancelled o.serial c.outstanding }

  cancelled_by : (c : Crew N) (o : Outstanding N) → o.cancelled ≡ false → is_live t c o.leaf ≡ false → with_cancel t c (Some o) ≡ Some (cancelled_now c o)
  cancelled_by c o e f = λ i. where_so (not (e i) && not (f i)) (Some (cancelled_now c o))

  one_cancel : (c : Crew N) (o : Outstanding N) (high : ℕ) → InOrder 0 high c.outstanding → IsReady c o → after t c (Cancel o.serial) ≡ Some (cancelled_now c o)
  one_cancel c o high order ready = ap (with_cancel t c) (found_at 0 high c.outstanding o order ready.outstanding) ∙ cancelled_by c o ready.fresh ready.dead

  -- the claims behind stay ready
  stays_ready : (c : Crew N) (o k : Outstanding N) → o.serial < k.serial → IsReady c k → IsReady (cancelled_now c o) k
  stays_ready c o k h ready = record { outstanding = others_stay o.serial c.outstanding k (λ q. omega arith) ready.outstanding; fresh = ready.fresh; dead = ready.dead }

  there : (o : Option (Crew N)) (d : Crew N) (f : Crew N → Option (Crew N)) → o ≡ Some d → IsTrue (is_some (f d)) → IsTrue (is_some (option_and_then f o))
  there o d f e h = subst (λ (x : Option (Crew N)). IsTrue (is_some (option_and_then f x))) (sym e) h

  all_cancelled : (os : List (Outstanding N)) (low high top : ℕ) (c : Crew N) → InOrder low high os → InOrder 0 top c.outstanding → All (IsReady c) os
      → IsTrue (is_some (after_all t c (cancellations os)))
  all_cancelled [] low high top c is order ready = refl
  all_cancelled (o ∷ os) low high top c is order ready =
      there (after t c (Cancel o.serial)) (cancelled_now c o) (λ d. after_all t d (cancellations os)) (one_cancel c o top order (All-head (IsReady c) o os ready))
      (all_cancelled os o.serial high top (cancelled_now c o) is.3 (cancelled_in_order o.serial 0 top c.outstanding order)
      (λ j d h. stays_ready c o (slice_index_or os j d) (above o.serial high os is.3 j d h) (All-tail (IsReady c) o os ready j d h)))

  not_cancelled : (b : Bool) (live : Bool) → (b ≡ true → live ≡ false) → live ≡ true → b ≡ false
  not_cancelled false live h e = refl
  not_cancelled true live h e = let dead : live ≡ false = h refl in cc

  abbrev Both : Crew N → Outstanding N → Type 0
  Both c o = IsSettled t c o × Contains c.outstanding o

  killed_ready : (c d : Crew N) → d.outstanding ≡ c.outstanding → All (IsSettled t c) c.outstanding → All (IsReady d) (killed t c d)
  killed_ready c d same settled = filter_passed (is_killed t c d) (Both c) (IsReady d) ready c.outstanding (λ j x h. (settled j x h, All-contains_itself c.outstanding j x h))
    where
      ready : (o : Outstanding N) → Both c o → is_killed t c d o ≡ true → IsReady d o
      ready o both e =
          let parts : (is_live t c o.leaf ≡ true) × (not (is_live t d o.leaf) ≡ true) = and_parts (is_live t c o.leaf) (not (is_live t d o.leaf)) e in
          record {
            outstanding = subst (λ (l : List (Outstanding N)). Contains l o) (sym same) both.1;
            fresh = not_cancelled o.cancelled (is_live t c o.leaf) both.0.1 parts.0;
            dead = not-true (is_live t d o.leaf) parts.1;
          }

  pub killed_in_order : (vs : List Event) (c d : Crew N) → LeadsTo t vs c → InOrder 0 c.claims (killed t c d)
  killed_in_order vs c d e = filtered (is_killed t c d) 0 c.claims c.outstanding (orderly_law t vs c e).in_order

  pub killed_law : (vs : List Event) (c d : Crew N) → LeadsTo t vs c → after t c Commit ≡ Some d → IsTrue (is_journal t (vs ++ (Commit ∷ cancellations (killed t c d))))
  killed_law vs c d e f =
      subst (λ (o : Option (Crew N)). IsTrue (is_some o)) (sym (after_all-append t vs (Commit ∷ cancellations (killed t c d)) fresh_crew))
      (there (after_all t fresh_crew vs) c (λ x. after_all t x (Commit ∷ cancellations (killed t c d))) e
      (there (after t c Commit) d (λ x. after_all t x (cancellations (killed t c d))) f
      (all_cancelled (killed t c d) 0 c.claims c.claims d (killed_in_order vs c d e)
      (subst (InOrder 0 c.claims) (sym (commit_law t c d f).outstanding) (orderly_law t vs c e).in_order)
      (killed_ready c d (commit_law t c d f).outstanding (settled_law t vs c e)))))
