-- Sets that make the literals true pass the test over regions.
use Rattle.std.proofs.Common.{◌≡◌, ◌≢◌, ◌↔◌, ℕ, ℤ, pos, List, [], ◌∷◌, map, filter, Option, Some, None, Bool, true, false, not, cond, ◌&&◌, ◌==◌, Decides, refl, sym, ap, subst, ◌∙◌, inl, inr}
use Rattle.std.specs.Bool.{beq}
use Rattle.std.specs.List.{list_all}
use Rattle.std.proofs.lemmas.Bool.{false≢true, both_ways}
use Rattle.std.proofs.lemmas.Bool.Decides.{Decides-eqb, Decides-like}
use Rattle.cyp_term.specs.declared.term.Var.{Var}
use Rattle.cyp_term.specs.declared.term.Term.{Term}
use Rattle.cyp_term.specs.declared.lit.Lit.{Lit}
use Rattle.cyp_term.specs.declared.lit.Lit.TheVariants.{Same, NotSame, Member, NotMember, Sub, NotSub}
use Rattle.cyp_term.specs.Terms.{var_eq, var_in}
use Rattle.cyp_term.specs.Meaning.{int_in}
use Rattle.cyp_term.specs.Regions.{parts, all_terms, all_set_vars, Spot, in_spot, allows, is_shown, allowed, with_region, choices, spots, classes_of, regions_fit}
use Rattle.cyp_term.proofs.Equality.{Decides-var_eq}
use Rattle.cyp_term.proofs.Lists.{SomeOf, Among, Decides-some, SomeOf-left, SomeOf-right, SomeOf-map, some_holds, Among-left, Among-right, Among-map, map_from, each_from, some_from, filter_in, filter_out}
use Rattle.cyp_term.proofs.Repeats.{without_repeats_in, without_repeats_out}
use Rattle.cyp_term.proofs.Sets.{HaveSame, IsWithin, Decides-int_in, missing, within_or_missing}
use Rattle.cyp_term.proofs.Literals.{SetTruth}
use Rattle.cyp_term.proofs.Arranged.{Arranged, value_or_not}
use Rattle.cyp_term.proofs.Spots.{IsSpotOf, AllowsAt, IsLitOf, Decides-allows, Decides-shows_same, Decides-shows_sub, IsLitOf-among}

module _ {X : Type 0} (test : X → Bool) where
  -- what a test keeps of a list is one of the list's parts
  filter_part : (x : X) (xs : List X) (t : Bool) → Among (filter test xs) (parts xs) → Among (cond t (x ∷ filter test xs) (filter test xs)) (parts (x ∷ xs))
  filter_part x xs true h = Among-left _ (map (λ r. x ∷ r) (parts xs)) (parts xs) (Among-map (λ r. x ∷ r) _ (parts xs) h)
  filter_part x xs false h = Among-right _ (map (λ r. x ∷ r) (parts xs)) (parts xs) h

  filter-parts : (xs : List X) → Among (filter test xs) (parts xs)
  filter-parts [] = inl refl
  filter-parts (x ∷ xs) = filter_part x xs (test x) (filter-parts xs)

-- ---- choices
with_region_in : (P Q : (ℕ → List Var) → Type 0) (k : ℕ) (r : List Var) → ((f : ℕ → List Var) → P f → Q (λ j. cond (j == k) r (f j))) → (rs : List (List Var)) (fs : List (ℕ → List Var)) → Among r rs → SomeOf P fs → SomeOf Q (with_region k rs fs)
with_region_in P Q k r h [] fs i m = absurd i
with_region_in P Q k r h (q ∷ rs) fs (inl e) m =
    SomeOf-left Q (map (λ f j. cond (j == k) q (f j)) fs) (with_region k rs fs)
    (SomeOf-map P Q (λ f j. cond (j == k) q (f j)) (λ f p. subst (λ w. Q (λ j. cond (j == k) w (f j))) e (h f p)) fs m)
with_region_in P Q k r h (q ∷ rs) fs (inr i) m =
    SomeOf-right Q (map (λ f j. cond (j == k) q (f j)) fs) (with_region k rs fs) (with_region_in P Q k r h rs fs i m)

-- the choice is the target at each of the classes
abbrev IsTarget : (ℕ → List Var) → List ℕ → (ℕ → List Var) → Type 0
IsTarget target ks f = (k : ℕ) → Among k ks → f k ≡ target k

target_test : (target f : ℕ → List Var) (k j : ℕ) (ks : List ℕ) (t : Bool) → (j == k) ≡ t → IsTarget target ks f → Among j (k ∷ ks) → cond t (target k) (f j) ≡ target j
target_test target f k j ks true e h i = ap target (sym ((Decides-eqb j k).0 e))
target_test target f k j ks false e h (inl p) = absurd (both_ways _ e ((Decides-eqb j k).1 p))
target_test target f k j ks false e h (inr i) = h j i

choice_in : (class : Term → ℕ) (ls : List Lit) (target : ℕ → List Var) (ks : List ℕ) → ((k : ℕ) → Among k ks → Among (target k) (allowed class ls (Some k))) → SomeOf (IsTarget target ks) (choices class ls ks)
choice_in class ls target [] h = inl (λ k i. absurd i)
choice_in class ls target (k ∷ ks) h =
    with_region_in (IsTarget target ks) (IsTarget target (k ∷ ks)) k (target k) (λ f p j i. target_test target f k j ks (j == k) refl p i)
    (allowed class ls (Some k)) (choices class ls ks) (h k (inl refl)) (choice_in class ls target ks (λ j i. h j (inr i)))

-- a member of one set that another lacks, where they are not the same
difference : (xs ys : List ℤ) → ¬ HaveSame xs ys → (z : ℤ) × ¬ (Among z xs ↔ Among z ys)
difference xs ys h =
    elim (within_or_missing xs ys) [
      | inr k ↦ (missing xs ys, λ e. k.1 (e.0 k.0))
      | inl m ↦ elim (within_or_missing ys xs)
          [ inr k ↦ (missing ys xs, λ e. k.1 (e.1 k.0)) | inl k ↦ absurd (h (λ z. (m z, k z))) ]
    ]

sub_difference : (xs ys : List ℤ) → ¬ IsWithin xs ys → (z : ℤ) × (Among z xs × ¬ Among z ys)
sub_difference xs ys h = elim (within_or_missing xs ys) [ inr k ↦ (missing xs ys, k) | inl k ↦ absurd (h k) ]

allows_at : (val : Term → ℤ) (sets : Var → List ℤ) (z : ℤ) (l : Lit) → SetTruth val sets l → AllowsAt val sets z l
allows_at val sets z (Same s t) h = h z
allows_at val sets z (Member e s) h = λ p. rw p h
allows_at val sets z (NotMember e s) h = λ p. rw p h
allows_at val sets z (Sub s t) h = h z
allows_at val sets z _ h = tt

-- the value of the first term of a class
unfoldable pick : (Term → ℕ) → (Term → ℤ) → List Term → ℕ → ℤ
pick class val [] k = pos 0
pick class val (e ∷ es) k = cond (class e == k) (val e) (pick class val es k)

module _ (class : Term → ℕ) (ls : List Lit) (val : Term → ℤ) (sets : Var → List ℤ) where
  abbrev terms : List Term
  terms = all_terms ls

  abbrev vars : List Var
  vars = all_set_vars ls

  abbrev region_of : ℤ → List Var
  region_of z = filter (λ v. int_in z (sets v)) vars

  region_at : (z : ℤ) (v : Var) → Among v vars → Decides (var_in v (region_of z)) (Among z (sets v))
  region_at z v h =
      Decides-like _ (λ k. (Decides-int_in z (sets v)).0 (filter_out (λ w. int_in z (sets w)) v vars k).1)
      (λ k. filter_in (λ w. int_in z (sets w)) v vars h ((Decides-int_in z (sets v)).1 k))
      (Decides-some (λ w. v ≡ w) (var_eq v) (Decides-var_eq v) (region_of z))

  other_spot : (z : ℤ) → ((e : Term) → Among e terms → z ≢ val e) → IsSpotOf class val sets terms vars (record { class = None; region = region_of z }) z
  other_spot z h = record { region = region_at z; classes = λ e i. (λ p. absurd (false≢true p), λ p. absurd (h e i p)) }

module _ (class : Term → ℕ) (ls : List Lit) (val : Term → ℤ) (sets : Var → List ℤ) (arranged : Arranged class (all_terms ls) val) where
  term_spot : (e : Term) → Among e (all_terms ls) → IsSpotOf class val sets (all_terms ls) (all_set_vars ls) (record { class = Some (class e); region = region_of class ls val sets (val e) }) (val e)
  term_spot e h = record {
    region = region_at class ls val sets (val e);
    classes = λ w i. Decides-like _ (λ p. (arranged e w h i).1 p) (λ p. (arranged e w h i).0 p) (Decides-eqb (class e) (class w));
  }

  pick_test : (e w : Term) (es : List Term) (t : Bool) → (class w == class e) ≡ t → Among e (all_terms ls) → Among w (all_terms ls) → (Among e es → pick class val es (class e) ≡ val e) → Among e (w ∷ es) → cond t (val w) (pick class val es (class e)) ≡ val e
  pick_test e w es true p h k ih i = (arranged w e k h).1 ((Decides-eqb (class w) (class e)).0 p)
  pick_test e w es false p h k ih (inl q) = absurd (both_ways _ p ((Decides-eqb (class w) (class e)).1 (ap class (sym q))))
  pick_test e w es false p h k ih (inr i) = ih i

  pick-at : (e : Term) (es : List Term) → Among e (all_terms ls) → ((w : Term) → Among w es → Among w (all_terms ls)) → Among e es → pick class val es (class e) ≡ val e
  unfolding pick
  pick-at e [] h k i = absurd i
  pick-at e (w ∷ es) h k i =
      pick_test e w es (class w == class e) refl h (k w (inl refl)) (λ j. pick-at e es h (λ x m. k x (inr m)) j) i

  abbrev target : ℕ → List Var
  target k = region_of class ls val sets (pick class val (all_terms ls) k)

  target-at : (e : Term) → Among e (all_terms ls) → target (class e) ≡ region_of class ls val sets (val e)
  target-at e h = ap (region_of class ls val sets) (pick-at e (all_terms ls) h (λ w i. i) h)

module _ (class : Term → ℕ) (ls : List Lit) (val : Term → ℤ) (sets : Var → List ℤ) (arranged : Arranged class (all_terms ls) val) (holds : (l : Lit) → Among l ls → SetTruth val sets l) where
  is_allowed : (k : Option ℕ) (z : ℤ) → IsSpotOf class val sets (all_terms ls) (all_set_vars ls) (record { class = k; region = region_of class ls val sets z }) z → Among (region_of class ls val sets z) (allowed class ls k)
  is_allowed k z is =
      filter_in (λ r. list_all (allows class (record { class = k; region = r })) ls) (region_of class ls val sets z) (parts (all_set_vars ls))
      (filter-parts (λ v. int_in z (sets v)) (all_set_vars ls))
      (each_from (allows class (record { class = k; region = region_of class ls val sets z })) ls
      (λ l i. (Decides-allows class val sets (all_terms ls) (all_set_vars ls) _ z is l (IsLitOf-among l ls i)).1 (allows_at val sets z l (holds l i))))

  target_allowed : (k : ℕ) → Among k (classes_of class ls) → Among (target class ls val sets arranged k) (allowed class ls (Some k))
  target_allowed k h =
      let r = map_from class k (all_terms ls) (without_repeats_out ◌==◌ Decides-eqb k (map class (all_terms ls)) h) in
      subst (λ j. Among (target class ls val sets arranged j) (allowed class ls (Some j))) (sym r.2)
      (subst (λ q. Among q (allowed class ls (Some (class r.0)))) (sym (target-at class ls val sets arranged r.0 r.1))
      (is_allowed (Some (class r.0)) (val r.0) (term_spot class ls val sets arranged r.0 r.1)))

  -- a spot of list_all integer stands among the spots of the choice
  abbrev SpotFor : (ℕ → List Var) → ℤ → Type 0
  SpotFor f z = (x : Spot) × Among x (spots class ls f) × IsSpotOf class val sets (all_terms ls) (all_set_vars ls) x z

  spot_for : (f : ℕ → List Var) → IsTarget (target class ls val sets arranged) (classes_of class ls) f → (z : ℤ) → SpotFor f z
  spot_for f h z =
      elim (value_or_not val (all_terms ls) z) [
        | inl k ↦ (let e = k.0 in
            let q : f (class e) ≡ region_of class ls val sets (val e) = h (class e) (without_repeats_in ◌==◌ Decides-eqb (class e) (map class (all_terms ls)) (Among-map class e (all_terms ls) k.1)) ∙ target-at class ls val sets arranged e k.1 in (
              record { class = Some (class e); region = f (class e) },
              Among-left _ (map (λ w. record { class = Some (class w); region = f (class w) }) (all_terms ls)) _
                  (Among-map (λ w. record { class = Some (class w); region = f (class w) }) e (all_terms ls) k.1),
              subst (λ y. IsSpotOf class val sets (all_terms ls) (all_set_vars ls) (record { class = Some (class e); region = f (class e) }) y) (sym k.2)
                  (subst (λ y. IsSpotOf class val sets (all_terms ls) (all_set_vars ls) (record { class = Some (class e); region = y }) (val e)) (sym q)
                  (term_spot class ls val sets arranged e k.1)),
            ))
        | inr k ↦ (let is = other_spot class ls val sets z k in (
          record { class = None; region = region_of class ls val sets z },
          Among-right _ (map (λ w. record { class = Some (class w); region = f (class w) }) (all_terms ls)) _
              (Among-map (λ r. record { class = None; region = r }) _ (allowed class ls None) (is_allowed None z is)),
          is,
        ))
      ]

  shown : (f : ℕ → List Var) → ((z : ℤ) → SpotFor f z) → (l : Lit) → IsLitOf (all_terms ls) (all_set_vars ls) l → SetTruth val sets l → is_shown class (spots class ls f) l ≡ true
  shown f g (NotSame s t) w h =
      let d = difference _ _ h in
      let x = g d.0 in
      some_from (λ y. not (beq (in_spot class y s) (in_spot class y t))) x.0 (spots class ls f) x.1
      ((Decides-shows_same class val sets (all_terms ls) (all_set_vars ls) x.0 d.0 x.2 s t w.0 w.1).1 d.1)
  shown f g (NotSub s t) w h =
      let d = sub_difference _ _ h in
      let x = g d.0 in
      some_from (λ y. in_spot class y s && not (in_spot class y t)) x.0 (spots class ls f) x.1
      ((Decides-shows_sub class val sets (all_terms ls) (all_set_vars ls) x.0 d.0 x.2 s t w.0 w.1).1 d.1)
  shown f g _ w h = refl

  pub regions_fit_from : regions_fit class ls ≡ true
  unfolding regions_fit
  regions_fit_from =
      let tgt : ℕ → List Var = target class ls val sets arranged in
      let c : SomeOf (IsTarget tgt (classes_of class ls)) (choices class ls (classes_of class ls)) = choice_in class ls tgt (classes_of class ls) target_allowed in
      some_holds (λ f. list_all (is_shown class (spots class ls f)) ls) (choices class ls (classes_of class ls))
      (λ f p. each_from (is_shown class (spots class ls f)) ls (λ l i. shown f (spot_for f p) l (IsLitOf-among l ls i) (holds l i))) c
