-- The outstanding claims of each journal are in order.
use Rattle.std.proofs.Common.{◌≡◌, refl, sym, ◌∙◌, ap, subst, ℕ, suc, ◌+◌, ◌^◌, ◌<◌, ◌≤◌, ◌==◌, Bool, true, false, cond, not, ◌&&◌, nat_lt, nat_le, List, [], ◌∷◌, ◌++◌, filter, Option, Some, None, arith}
use Rattle.std.specs.Option.{option_and_then}
use Rattle.std.specs.List.{count_by}
use Rattle.std.proofs.lemmas.Bool.{and_parts, ltb-true, leb-true, eqb-true}
use Rattle.std.proofs.lemmas.List.Sums.{sum_by-cons}
use Rattle.cyp_tree.specs.Live.{Waiting}
use Rattle.cyp_crew.specs.declared.event.Event.{Event}
use Rattle.cyp_crew.specs.declared.event.Event.TheVariants.{Claim, Publish, Abandon, Cancel, Commit}
use Rattle.cyp_crew.specs.Crews.{Task, Outstanding, Crew, fresh_crew}
use Rattle.cyp_crew.specs.Claims.{is_claim_of, claim_of, claim_at, without_claim, with_cancelled, free_leaf, is_live}
use Rattle.cyp_crew.specs.Machine.{where_so, claims_of, may_claim, with_claim, with_publish, with_abandon, with_cancel, may_commit, after}
use Rattle.cyp_crew.specs.Journals.{after_all, LeadsTo}
use Rattle.cyp_crew.specs.Orderly.{InOrder, IsOrderly}

module _ {N : Type 0} where
  abbrev has_worker : ℕ → Outstanding N → Bool
  has_worker w o = o.worker == w

  -- ---- lists of claims

  pub lower : (i j high : ℕ) (os : List (Outstanding N)) → i ≤ j → InOrder j high os → InOrder i high os
  lower i j high [] h is = tt
  lower i j high (o ∷ os) h is = (omega (arith, is.0), is.1, is.2, is.3)

  kept_if : (b : Bool) (low high : ℕ) (o : Outstanding N) (os : List (Outstanding N)) → (low < o.serial) × (o.serial ≤ high) × (o.worker < 32) × InOrder o.serial high os → InOrder low high (cond b (o ∷ os) os)
  kept_if true low high o os is = is
  kept_if false low high o os is = lower low o.serial high os (omega (arith, is.0)) is.3

  pub filtered : (p : Outstanding N → Bool) (low high : ℕ) (os : List (Outstanding N)) → InOrder low high os → InOrder low high (filter p os)
  filtered p low high [] is = tt
  filtered p low high (o ∷ os) is = kept_if (p o) low high o (filter p os) (is.0, is.1, is.2, filtered p o.serial high os is.3)

  cancelled_first : (b : Bool) (low high : ℕ) (o : Outstanding N) (os : List (Outstanding N)) → (low < o.serial) × (o.serial ≤ high) × (o.worker < 32) × InOrder o.serial high os
      → InOrder low high (cond b (record o { cancelled = true }) o ∷ os)
  cancelled_first true low high o os is = is
  cancelled_first false low high o os is = is

  pub cancelled_in_order : (s low high : ℕ) (os : List (Outstanding N)) → InOrder low high os → InOrder low high (with_cancelled s os)
  cancelled_in_order s low high [] is = tt
  cancelled_in_order s low high (o ∷ os) is = cancelled_first (o.serial == s) low high o (with_cancelled s os) (is.0, is.1, is.2, cancelled_in_order s o.serial high os is.3)

  pushed : (low high : ℕ) (os : List (Outstanding N)) (n : Outstanding N) → low ≤ high → n.serial ≡ suc high → n.worker < 32 → InOrder low high os → InOrder low (suc high) (os ++ n ∷ [])
  pushed low high [] n h e w is = (omega arith, omega arith, w, tt)
  pushed low high (o ∷ os) n h e w is = (is.0, omega (arith, is.1), is.2, pushed o.serial high os n is.1 e w is.3)

  count-cons : (p : Outstanding N → Bool) (o : Outstanding N) (os : List (Outstanding N)) → count_by p (o ∷ os) ≡ cond (p o) 1 0 + count_by p os
  count-cons p o os = sum_by-cons (λ (x : Outstanding N). cond (p x) 1 0) o os

  count_if : (p : Outstanding N → Bool) (b : Bool) (o : Outstanding N) (os : List (Outstanding N)) → count_by p (cond b (o ∷ os) os) ≤ cond (p o) 1 0 + count_by p os
  count_if p true o os = omega (arith, count-cons p o os)
  count_if p false o os = omega arith

  count_filtered : (p q : Outstanding N → Bool) (os : List (Outstanding N)) → count_by p (filter q os) ≤ count_by p os
  count_filtered p q [] = omega arith
  count_filtered p q (o ∷ os) = omega (arith, count_if p (q o) o (filter q os), count_filtered p q os, count-cons p o os)

  count_first : (w : ℕ) (b : Bool) (o : Outstanding N) (os : List (Outstanding N)) → count_by (has_worker w) (cond b (record o { cancelled = true }) o ∷ os) ≡ count_by (has_worker w) (o ∷ os)
  count_first w true o os = refl
  count_first w false o os = refl

  count_cancelled : (w s : ℕ) (os : List (Outstanding N)) → count_by (has_worker w) (with_cancelled s os) ≡ count_by (has_worker w) os
  count_cancelled w s [] = refl
  count_cancelled w s (o ∷ os) =
      count_first w (o.serial == s) o (with_cancelled s os) ∙ count-cons (has_worker w) o (with_cancelled s os) ∙ ap (λ (n : ℕ). cond (has_worker w o) 1 0 + n) (count_cancelled w s os) ∙ sym (count-cons (has_worker w) o os)

  count_pushed : (p : Outstanding N → Bool) (os : List (Outstanding N)) (n : Outstanding N) → count_by p (os ++ n ∷ []) ≡ count_by p os + cond (p n) 1 0
  count_pushed p [] n = omega (arith, count-cons p n [])
  count_pushed p (o ∷ os) n = omega (arith, count_pushed p os n, count-cons p o os, count-cons p o (os ++ n ∷ []))

  -- ---- events

  without_orderly : (w s : ℕ) (c : Crew N) (ns : List N) → IsOrderly c → IsOrderly (record c { published = ns; outstanding = without_claim w s c.outstanding })
  without_orderly w s c ns is = record {
    in_order = filtered (λ o. not (is_claim_of w s o)) 0 c.claims c.outstanding is.in_order;
    few = λ v. omega (arith, count_filtered (has_worker v) (λ o. not (is_claim_of w s o)) c.outstanding, is.few v);
    most = is.most;
  }

  -- so it is of the state, where there is one
  abbrev pub OrderlyIn : Option (Crew N) → Type 0
  OrderlyIn None = Unit {0}
  OrderlyIn (Some c) = IsOrderly c

  orderly_if : (b : Bool) (o : Option (Crew N)) → (b ≡ true → OrderlyIn o) → OrderlyIn (where_so b o)
  orderly_if true o h = h refl
  orderly_if false o h = tt

  publish_orderly : (c : Crew N) (o : Option (Outstanding N)) → IsOrderly c → OrderlyIn (with_publish c o)
  publish_orderly c None is = tt
  publish_orderly c (Some o) is = without_orderly o.worker o.serial c (c.published ++ o.node ∷ []) is

  abandon_orderly : (c : Crew N) (o : Option (Outstanding N)) → IsOrderly c → OrderlyIn (with_abandon c o)
  abandon_orderly c None is = tt
  abandon_orderly c (Some o) is = without_orderly o.worker o.serial c c.published is

  -- what a claim asks for
  record May (c : Crew N) (w s : ℕ) : Type 0 where
    worker : w < 32
    serial : s ≡ suc c.claims
    most : s ≤ 2 ^ 62
    few : claims_of c w < 4

  may_parts : (c : Crew N) (w s : ℕ) → may_claim c w s ≡ true → May c w s
  may_parts c w s e =
      let first : Bool = nat_lt w 32 in
      let next : Bool = s == suc c.claims in
      let bound : Bool = nat_le s (2 ^ 62) in
      let three : ((first && next && bound) ≡ true) × (nat_lt (claims_of c w) 4 ≡ true) = and_parts (first && next && bound) (nat_lt (claims_of c w) 4) e in
      let two : ((first && next) ≡ true) × (bound ≡ true) = and_parts (first && next) bound three.0 in
      let one : (first ≡ true) × (next ≡ true) = and_parts first next two.0 in
      record { worker = ltb-true w 32 one.0; serial = eqb-true s (suc c.claims) one.1; most = leb-true s (2 ^ 62) two.1; few = ltb-true (claims_of c w) 4 three.1 }

  claim_few : (c : Crew N) (w v : ℕ) (b : Bool) → (w == v) ≡ b → claims_of c w < 4 → claims_of c v ≤ 4 → claims_of c v + cond b 1 0 ≤ 4
  claim_few c w v true e h k = let same : w ≡ v = eqb-true w v e in let less : claims_of c v < 4 = subst (λ (n : ℕ). claims_of c n < 4) same h in omega arith
  claim_few c w v false e h k = omega (arith, k)

  claim_orderly : (c : Crew N) (w s : ℕ) (l : Option (Waiting N)) → May c w s → IsOrderly c → OrderlyIn (with_claim c w s l)
  claim_orderly c w s None may is = tt
  claim_orderly c w s (Some l) may is = record {
    in_order = pushed 0 c.claims c.outstanding (record { worker = w; serial = s; leaf = l.number; node = l.node; cancelled = false }) (omega arith) may.serial may.worker is.in_order;
    few = λ v. omega (arith, count_pushed (has_worker v) c.outstanding (record { worker = w; serial = s; leaf = l.number; node = l.node; cancelled = false }), claim_few c w v (w == v) refl may.few (is.few v));
    most = omega (arith, may.serial, may.most);
  }

module _ {R N : Type 0} (t : Task R N) where
  cancel_orderly : (c : Crew N) (o : Option (Outstanding N)) → IsOrderly c → OrderlyIn (with_cancel t c o)
  cancel_orderly c None is = tt
  cancel_orderly c (Some o) is =
      orderly_if (not o.cancelled && not (is_live t c o.leaf)) (Some (record c { outstanding = with_cancelled o.serial c.outstanding }))
      (λ e. record { in_order = cancelled_in_order o.serial 0 c.claims c.outstanding is.in_order; few = λ v. omega (arith, count_cancelled v o.serial c.outstanding, is.few v); most = is.most })

  pub after_orderly : (c : Crew N) (v : Event) → IsOrderly c → OrderlyIn (after t c v)
  after_orderly c (Claim w s) is = orderly_if (may_claim c w s) (with_claim c w s (free_leaf t c)) (λ e. claim_orderly c w s (free_leaf t c) (may_parts c w s e) is)
  after_orderly c (Publish w s) is = publish_orderly c (claim_of c w s) is
  after_orderly c (Abandon w s) is = abandon_orderly c (claim_of c w s) is
  after_orderly c (Cancel s) is = cancel_orderly c (claim_at c s) is
  after_orderly c Commit is = orderly_if (may_commit t c) (Some (record c { commits = suc c.commits })) (λ e. record { in_order = is.in_order; few = is.few; most = is.most })

  then_orderly : (o : Option (Crew N)) (f : Crew N → Option (Crew N)) → OrderlyIn o → ((c : Crew N) → IsOrderly c → OrderlyIn (f c)) → OrderlyIn (option_and_then f o)
  then_orderly None f h g = tt
  then_orderly (Some c) f h g = g c h

  all_orderly : (vs : List Event) (c : Crew N) → IsOrderly c → OrderlyIn (after_all t c vs)
  all_orderly [] c is = is
  all_orderly (v ∷ vs) c is = then_orderly (after t c v) (λ d. after_all t d vs) (after_orderly c v is) (λ d. all_orderly vs d)

  pub orderly_law : (vs : List Event) (c : Crew N) → LeadsTo t vs c → IsOrderly c
  orderly_law vs c e = subst OrderlyIn e (all_orderly vs fresh_crew (record { in_order = tt; few = λ w. omega arith; most = omega arith }))
