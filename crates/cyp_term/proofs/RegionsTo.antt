-- Where the test over regions passes, sets make the literals true: each class has the members that the choice gives it, and
-- each region that is allowed outside all classes has one further integer.
use Rattle.std.proofs.Common.{◌≡◌, ◌⊎◌, ℕ, ℤ, pos, ◌+ℤ◌, ◌≤ℤ◌, ◌<ℤ◌, List, [], ◌∷◌, ◌++◌, map, Option, Some, None, Bool, true, false, not, cond, ◌&&◌, ◌==◌, refl, sym, ap, subst, ◌∙◌, inl, inr}
use Rattle.std.specs.Bool.{beq}
use Rattle.std.specs.List.{flat_map, list_all}
use Rattle.std.proofs.lemmas.Bool.{false≢true, both_ways}
use Rattle.std.proofs.lemmas.Bool.Decides.{Decides-eqb, Decides-like}
use Rattle.cyp_term.specs.declared.term.Var.{Var}
use Rattle.cyp_term.specs.declared.term.Term.{Term}
use Rattle.cyp_term.specs.declared.lit.SetTerm.{SetTerm}
use Rattle.cyp_term.specs.declared.lit.Lit.{Lit}
use Rattle.cyp_term.specs.declared.lit.Lit.TheVariants.{Same, NotSame, Member, NotMember, Sub, NotSub}
use Rattle.cyp_term.specs.Terms.{var_in}
use Rattle.cyp_term.specs.Regions.{parts, all_terms, all_set_vars, Spot, in_spot, allows, is_shown, allowed, with_region, choices, spots, classes_of, regions_fit}
use Rattle.cyp_term.proofs.Numbers.{≤ℤ_trans, ≤ℤ-self, not_le_from_lt, lt_or_le, lt_of_lt_of_le, lt-next, le-next}
use Rattle.cyp_term.proofs.Lists.{SomeOf, Among, Decides-some, SomeOf-cases, Among-cases, Among-map, map_from, each_at, some_out, filter_out, Among-left, Among-right}
use Rattle.cyp_term.proofs.Repeats.{without_repeats_in}
use Rattle.cyp_term.proofs.Literals.{SetTruth, members_at}
use Rattle.cyp_term.proofs.Arranged.{Arranged}
use Rattle.cyp_term.proofs.Spots.{IsSpotOf, IsOf, AllowsAt, IsLitOf, Decides-allows, Decides-shows_same, Decides-shows_sub, IsLitOf-among}

abbrev spot : Option ℕ → List Var → Spot
spot k r = record { class = k; region = r }

-- ---- choices
SomeOf-unmap : {X Y : Type 0} (P : Y → Type 0) (g : X → Y) (xs : List X) → SomeOf P (map g xs) → SomeOf (λ x. P (g x)) xs
SomeOf-unmap P g [] k = absurd k
SomeOf-unmap P g (x ∷ xs) (inl k) = inl k
SomeOf-unmap P g (x ∷ xs) (inr k) = inr (SomeOf-unmap P g xs k)

with_region_out : (P : (ℕ → List Var) → Type 0) (k : ℕ) (rs : List (List Var)) (fs : List (ℕ → List Var)) → SomeOf P (with_region k rs fs) → (r : List Var) × Among r rs × SomeOf (λ f. P (λ j. cond (j == k) r (f j))) fs
with_region_out P k [] fs h = absurd h
with_region_out P k (r ∷ rs) fs h =
    elim (SomeOf-cases P (map (λ f j. cond (j == k) r (f j)) fs) (with_region k rs fs) h) [
      | inl i ↦ (r, inl refl, SomeOf-unmap P (λ f j. cond (j == k) r (f j)) fs i)
      | inr i ↦ (let q = with_region_out P k rs fs i in (q.0, inr q.1, q.2))
    ]

abbrev AllAllowed : (Term → ℕ) → List Lit → List ℕ → (ℕ → List Var) → Type 0
AllAllowed class ls ks f = (k : ℕ) → Among k ks → Among (f k) (allowed class ls (Some k))

allowed_test : (class : Term → ℕ) (ls : List Lit) (f : ℕ → List Var) (r : List Var) (k j : ℕ) (ks : List ℕ) (t : Bool) → (j == k) ≡ t → Among r (allowed class ls (Some k)) → AllAllowed class ls ks f → Among j (k ∷ ks) → Among (cond t r (f j)) (allowed class ls (Some j))
allowed_test class ls f r k j ks true e h g i = subst (λ w. Among r (allowed class ls (Some w))) (sym ((Decides-eqb j k).0 e)) h
allowed_test class ls f r k j ks false e h g (inl p) = absurd (both_ways _ e ((Decides-eqb j k).1 p))
allowed_test class ls f r k j ks false e h g (inr i) = g j i

choice_out : (class : Term → ℕ) (ls : List Lit) (ks : List ℕ) (P : (ℕ → List Var) → Type 0) → SomeOf P (choices class ls ks) → (f : ℕ → List Var) × P f × AllAllowed class ls ks f
choice_out class ls [] P h = elim h [ inl p ↦ ((λ k. []), p, λ k i. absurd i) | inr p ↦ absurd p ]
choice_out class ls (k ∷ ks) P h =
    let r = with_region_out P k (allowed class ls (Some k)) (choices class ls ks) h in
    let q = choice_out class ls ks (λ f. P (λ j. cond (j == k) r.0 (f j))) r.2 in
    ((λ j. cond (j == k) r.0 (q.0 j)), q.1, λ j i. allowed_test class ls q.0 r.0 k j ks (j == k) refl r.1 q.2 i)

-- ---- members of the classes
unfoldable chosen : (Term → ℕ) → (Term → ℤ) → (ℕ → List Var) → Var → List Term → List ℤ
chosen class val f v [] = []
chosen class val f v (e ∷ es) = cond (var_in v (f (class e))) (val e ∷ chosen class val f v es) (chosen class val f v es)

cons_test_in : (z x : ℤ) (zs : List ℤ) (t : Bool) → ((t ≡ true) × (z ≡ x)) ⊎ Among z zs → Among z (cond t (x ∷ zs) zs)
cons_test_in z x zs true (inl h) = inl h.1
cons_test_in z x zs true (inr h) = inr h
cons_test_in z x zs false (inl h) = absurd (false≢true h.0)
cons_test_in z x zs false (inr h) = h

cons_test_out : (z x : ℤ) (zs : List ℤ) (t : Bool) → Among z (cond t (x ∷ zs) zs) → ((t ≡ true) × (z ≡ x)) ⊎ Among z zs
cons_test_out z x zs true (inl h) = inl (refl, h)
cons_test_out z x zs true (inr h) = inr h
cons_test_out z x zs false h = inr h

chosen_in : (class : Term → ℕ) (val : Term → ℤ) (f : ℕ → List Var) (v : Var) (e : Term) (es : List Term) → Among e es → var_in v (f (class e)) ≡ true → Among (val e) (chosen class val f v es)
unfolding chosen
chosen_in class val f v e [] h k = absurd h
chosen_in class val f v e (w ∷ es) (inl p) k =
    cons_test_in (val e) (val w) (chosen class val f v es) (var_in v (f (class w)))
    (inl (subst (λ x. var_in v (f (class x)) ≡ true) p k, ap val p))
chosen_in class val f v e (w ∷ es) (inr i) k =
    cons_test_in (val e) (val w) (chosen class val f v es) (var_in v (f (class w))) (inr (chosen_in class val f v e es i k))

abbrev ChosenBy : (Term → ℕ) → (Term → ℤ) → (ℕ → List Var) → Var → List Term → ℤ → Type 0
ChosenBy class val f v es z = (e : Term) × Among e es × (z ≡ val e) × (var_in v (f (class e)) ≡ true)

chosen_out : (class : Term → ℕ) (val : Term → ℤ) (f : ℕ → List Var) (v : Var) (z : ℤ) (es : List Term) → Among z (chosen class val f v es) → ChosenBy class val f v es z
unfolding chosen
chosen_out class val f v z [] h = absurd h
chosen_out class val f v z (w ∷ es) h =
    elim (cons_test_out z (val w) (chosen class val f v es) (var_in v (f (class w))) h)
    [ inl i ↦ (w, inl refl, i.1, i.0) | inr i ↦ (let r = chosen_out class val f v z es i in (r.0, inr r.1, r.2, r.3)) ]

-- ---- members outside all classes, from a number on
unfoldable fresh : Var → ℤ → List (List Var) → List ℤ
fresh v m [] = []
fresh v m (r ∷ rs) = cond (var_in v r) (m ∷ fresh v (m +ℤ pos 1) rs) (fresh v (m +ℤ pos 1) rs)

-- z is the member with the region r
abbrev FreshAt : ℤ → List (List Var) → ℤ → List Var → Type 0
FreshAt m [] z r = ⊥
FreshAt m (q ∷ rs) z r = ((z ≡ m) × (r ≡ q)) ⊎ FreshAt (m +ℤ pos 1) rs z r

fresh_low : (m : ℤ) (rs : List (List Var)) (z : ℤ) (r : List Var) → FreshAt m rs z r → m ≤ℤ z
fresh_low m [] z r h = absurd h
fresh_low m (q ∷ rs) z r (inl h) = subst (λ x. m ≤ℤ x) (sym h.0) (≤ℤ-self m)
fresh_low m (q ∷ rs) z r (inr h) = ≤ℤ_trans m (m +ℤ pos 1) z (le-next m) (fresh_low (m +ℤ pos 1) rs z r h)

fresh_same : (m : ℤ) (rs : List (List Var)) (z : ℤ) (r q : List Var) → FreshAt m rs z r → FreshAt m rs z q → r ≡ q
fresh_same m [] z r q h k = absurd h
fresh_same m (w ∷ rs) z r q (inl h) (inl k) = h.1 ∙ sym k.1
fresh_same m (w ∷ rs) z r q (inl h) (inr k) = absurd (not_le_from_lt m (m +ℤ pos 1) (lt-next m) (subst (λ x. (m +ℤ pos 1) ≤ℤ x) h.0 (fresh_low (m +ℤ pos 1) rs z q k)))
fresh_same m (w ∷ rs) z r q (inr h) (inl k) = absurd (not_le_from_lt m (m +ℤ pos 1) (lt-next m) (subst (λ x. (m +ℤ pos 1) ≤ℤ x) k.0 (fresh_low (m +ℤ pos 1) rs z r h)))
fresh_same m (w ∷ rs) z r q (inr h) (inr k) = fresh_same (m +ℤ pos 1) rs z r q h k

fresh_among : (m : ℤ) (rs : List (List Var)) (z : ℤ) (r : List Var) → FreshAt m rs z r → Among r rs
fresh_among m [] z r h = absurd h
fresh_among m (q ∷ rs) z r (inl h) = inl h.1
fresh_among m (q ∷ rs) z r (inr h) = inr (fresh_among (m +ℤ pos 1) rs z r h)

fresh_for : (m : ℤ) (rs : List (List Var)) (r : List Var) → Among r rs → (z : ℤ) × FreshAt m rs z r
fresh_for m [] r h = absurd h
fresh_for m (q ∷ rs) r (inl e) = (m, inl (refl, e))
fresh_for m (q ∷ rs) r (inr h) = let k = fresh_for (m +ℤ pos 1) rs r h in (k.0, inr k.1)

fresh_in : (v : Var) (m : ℤ) (rs : List (List Var)) (z : ℤ) (r : List Var) → FreshAt m rs z r → var_in v r ≡ true → Among z (fresh v m rs)
unfolding fresh
fresh_in v m [] z r h k = absurd h
fresh_in v m (q ∷ rs) z r (inl h) k =
    cons_test_in z m (fresh v (m +ℤ pos 1) rs) (var_in v q) (inl (subst (λ x. var_in v x ≡ true) h.1 k, h.0))
fresh_in v m (q ∷ rs) z r (inr h) k =
    cons_test_in z m (fresh v (m +ℤ pos 1) rs) (var_in v q) (inr (fresh_in v (m +ℤ pos 1) rs z r h k))

fresh_out : (v : Var) (m : ℤ) (rs : List (List Var)) (z : ℤ) → Among z (fresh v m rs) → (r : List Var) × FreshAt m rs z r × (var_in v r ≡ true)
unfolding fresh
fresh_out v m [] z h = absurd h
fresh_out v m (q ∷ rs) z h =
    elim (cons_test_out z m (fresh v (m +ℤ pos 1) rs) (var_in v q) h)
    [ inl i ↦ (q, inl (i.1, refl), i.0) | inr i ↦ (let r = fresh_out v (m +ℤ pos 1) rs z i in (r.0, inr r.1, r.2)) ]

-- a number above the values of the terms
above_all : (val : Term → ℤ) (es : List Term) → (m : ℤ) × ((e : Term) → Among e es → val e <ℤ m)
above_all val [] = (pos 0, λ e i. absurd i)
above_all val (w ∷ es) =
    let r = above_all val es in
    elim (lt_or_le (val w) r.0) [
      | inl h ↦ (r.0, λ e i. elim i [ inl p ↦ subst (λ x. val x <ℤ r.0) (sym p) h | inr j ↦ r.1 e j ])
      | inr h ↦ (val w +ℤ pos 1, λ e i. elim i [ inl p ↦ subst (λ x. val x <ℤ (val w +ℤ pos 1)) (sym p) (lt-next (val w)) | inr j ↦ lt_of_lt_of_le _ _ _ (r.1 e j) (≤ℤ_trans r.0 (val w) _ h (le-next (val w))) ])
    ]

-- ---- the sets
module _ (class : Term → ℕ) (ls : List Lit) (val : Term → ℤ) (arranged : Arranged class (all_terms ls) val) (f : ℕ → List Var) (m : ℤ) (high : (e : Term) → Among e (all_terms ls) → val e <ℤ m) where
  abbrev sets : Var → List ℤ
  sets v = chosen class val f v (all_terms ls) ++ fresh v m (allowed class ls None)

  abbrev Is : Spot → ℤ → Type 0
  Is x z = IsSpotOf class val sets (all_terms ls) (all_set_vars ls) x z

  chosen_low : (v : Var) (z : ℤ) → Among z (chosen class val f v (all_terms ls)) → m ≤ℤ z → ⊥
  chosen_low v z h k =
      let r = chosen_out class val f v z (all_terms ls) h in
      not_le_from_lt (val r.0) m (high r.0 r.1) (subst (λ x. m ≤ℤ x) r.2 k)

  term_region : (e : Term) → Among e (all_terms ls) → (v : Var) → Among (val e) (sets v) → var_in v (f (class e)) ≡ true
  term_region e h v i =
      elim (Among-cases (val e) (chosen class val f v (all_terms ls)) (fresh v m (allowed class ls None)) i) [
        | inl j ↦ (let r = chosen_out class val f v (val e) (all_terms ls) j in
            subst (λ k. var_in v (f k) ≡ true) (sym ((arranged e r.0 h r.1).0 r.2)) r.3)
        | inr j ↦ (let r = fresh_out v m (allowed class ls None) (val e) j in
            absurd (not_le_from_lt (val e) m (high e h) (fresh_low m (allowed class ls None) (val e) r.0 r.1)))
      ]

  term_is : (e : Term) → Among e (all_terms ls) → Is (record { class = Some (class e); region = f (class e) }) (val e)
  term_is e h = record {
    region = λ v i. (λ p. Among-left _ _ _ (chosen_in class val f v e (all_terms ls) h p), term_region e h v);
    classes = λ w i. Decides-like _ (λ p. (arranged e w h i).1 p) (λ p. (arranged e w h i).0 p) (Decides-eqb (class e) (class w));
  }

  fresh_region : (z : ℤ) (r : List Var) → FreshAt m (allowed class ls None) z r → (v : Var) → Among z (sets v) → var_in v r ≡ true
  fresh_region z r h v i =
      elim (Among-cases z (chosen class val f v (all_terms ls)) (fresh v m (allowed class ls None)) i) [
        | inl j ↦ absurd (chosen_low v z j (fresh_low m (allowed class ls None) z r h))
        | inr j ↦ (let q = fresh_out v m (allowed class ls None) z j in
            subst (λ w. var_in v w ≡ true) (fresh_same m (allowed class ls None) z q.0 r q.1 h) q.2)
      ]

  fresh_is : (z : ℤ) (r : List Var) → FreshAt m (allowed class ls None) z r → Is (record { class = None; region = r }) z
  fresh_is z r h = record {
    region = λ v i. (λ p. Among-right _ _ _ (fresh_in v m (allowed class ls None) z r h p), fresh_region z r h v);
    classes = λ w i. (
      λ p. absurd (false≢true p),
      λ p. absurd (not_le_from_lt (val w) m (high w i) (subst (λ x. m ≤ℤ x) p (fresh_low m (allowed class ls None) z r h))),
    );
  }

module _ (class : Term → ℕ) (ls : List Lit) (val : Term → ℤ) (arranged : Arranged class (all_terms ls) val) (f : ℕ → List Var) (m : ℤ) (high : (e : Term) → Among e (all_terms ls) → val e <ℤ m) (good : AllAllowed class ls (classes_of class ls) f) where
  abbrev own_sets : Var → List ℤ
  own_sets = sets class ls val arranged f m high

  abbrev OwnSpot : Spot → ℤ → Type 0
  OwnSpot x z = Is class ls val arranged f m high x z

  -- a spot of the integer that all literals allow
  abbrev HasSpot : ℤ → Type 0
  HasSpot z = (x : Spot) × OwnSpot x z × (list_all (allows class x) ls ≡ true)

  term_has : (e : Term) → Among e (all_terms ls) → HasSpot (val e)
  term_has e h = (
    record { class = Some (class e); region = f (class e) },
    term_is class ls val arranged f m high e h,
    (filter_out (λ r. list_all (allows class (record { class = Some (class e); region = r })) ls) (f (class e)) (parts (all_set_vars ls))
        (good (class e) (without_repeats_in ◌==◌ Decides-eqb (class e) (map class (all_terms ls)) (Among-map class e (all_terms ls) h)))).1,
  )

  fresh_has : (z : ℤ) (r : List Var) → FreshAt m (allowed class ls None) z r → HasSpot z
  fresh_has z r h = (
    record { class = None; region = r },
    fresh_is class ls val arranged f m high z r h,
    (filter_out (λ q. list_all (allows class (record { class = None; region = q })) ls) r (parts (all_set_vars ls))
        (fresh_among m (allowed class ls None) z r h)).1,
  )

  value_has : (z : ℤ) (e : Term) → Among e (all_terms ls) → z ≡ val e → HasSpot z
  value_has z e h p = subst HasSpot (sym p) (term_has e h)

  set_has : (z : ℤ) (v : Var) → Among z (own_sets v) → HasSpot z
  set_has z v i =
      elim (Among-cases z (chosen class val f v (all_terms ls)) (fresh v m (allowed class ls None)) i) [
        | inl j ↦ (let r = chosen_out class val f v z (all_terms ls) j in value_has z r.0 r.1 r.2)
        | inr j ↦ (let r = fresh_out v m (allowed class ls None) z j in fresh_has z r.0 r.1)
      ]

  vars_have : (z : ℤ) (vs : List Var) → Among z (flat_map own_sets vs) → HasSpot z
  vars_have z [] i = absurd i
  vars_have z (v ∷ vs) i = elim (Among-cases z (own_sets v) (flat_map own_sets vs) i) [ inl j ↦ set_has z v j | inr j ↦ vars_have z vs j ]

  elems_have : (z : ℤ) (es : List Term) → ((e : Term) → Among e es → Among e (all_terms ls)) → Among z (map val es) → HasSpot z
  elems_have z [] h i = absurd i
  elems_have z (e ∷ es) h (inl p) = value_has z e (h e (inl refl)) p
  elems_have z (e ∷ es) h (inr i) = elems_have z es (λ w j. h w (inr j)) i

  member_has : (z : ℤ) (s : SetTerm) → IsOf (all_terms ls) (all_set_vars ls) s → Among z (members_at val own_sets s) → HasSpot z
  member_has z s h i =
      elim (Among-cases z (flat_map own_sets s.vars) (map val s.elems) i) [ inl j ↦ vars_have z s.vars j | inr j ↦ elems_have z s.elems h.1 j ]

  allows_of : (z : ℤ) (l : Lit) → Among l ls → HasSpot z → AllowsAt val own_sets z l
  allows_of z l i x =
      (Decides-allows class val own_sets (all_terms ls) (all_set_vars ls) x.0 z x.1 l (IsLitOf-among l ls i)).0 (each_at (allows class x.0) l ls x.2 i)

  -- the spots of the choice are spots of integers
  spot_has : (x : Spot) → Among x (spots class ls f) → (z : ℤ) × OwnSpot x z
  spot_has x i =
      elim (Among-cases x (map (λ e. record { class = Some (class e); region = f (class e) }) (all_terms ls)) (map (λ r. record { class = None; region = r }) (allowed class ls None)) i) [
        | inl j ↦ (let r = map_from (λ (e : Term). spot (Some (class e)) (f (class e))) x (all_terms ls) j in
            (val r.0, subst (λ y. OwnSpot y (val r.0)) (sym r.2) (term_is class ls val arranged f m high r.0 r.1)))
        | inr j ↦ (let r = map_from (λ (r : List Var). spot None r) x (allowed class ls None) j in
            let z = fresh_for m (allowed class ls None) r.0 r.1 in
            (z.0, subst (λ y. OwnSpot y z.0) (sym r.2) (fresh_is class ls val arranged f m high z.0 r.0 z.1)))
      ]

  holds : (l : Lit) → Among l ls → IsLitOf (all_terms ls) (all_set_vars ls) l → is_shown class (spots class ls f) l ≡ true → SetTruth val own_sets l
  holds (Same s t) i w h = λ z.
      (λ j. (allows_of z (Same s t) i (member_has z s w.0 j)).0 j, λ j. (allows_of z (Same s t) i (member_has z t w.1 j)).1 j)
  holds (NotSame s t) i w h = λ k.
      let x = some_out (λ y. not (beq (in_spot class y s) (in_spot class y t))) (spots class ls f) h in
      let z = spot_has x.0 x.1 in
      (Decides-shows_same class val own_sets (all_terms ls) (all_set_vars ls) x.0 z.0 z.1 s t w.0 w.1).0 x.2 (k z.0)
  holds (Member e s) i w h = allows_of (val e) (Member e s) i (term_has e w.0) refl
  holds (NotMember e s) i w h = allows_of (val e) (NotMember e s) i (term_has e w.0) refl
  holds (Sub s t) i w h = λ z j. allows_of z (Sub s t) i (member_has z s w.0 j) j
  holds (NotSub s t) i w h = λ k.
      let x = some_out (λ y. in_spot class y s && not (in_spot class y t)) (spots class ls f) h in
      let z = spot_has x.0 x.1 in
      let d = (Decides-shows_sub class val own_sets (all_terms ls) (all_set_vars ls) x.0 z.0 z.1 s t w.0 w.1).0 x.2 in
      d.1 (k z.0 d.0)
  holds _ i w h = tt

pub regions_fit_to : (class : Term → ℕ) (ls : List Lit) (val : Term → ℤ) → Arranged class (all_terms ls) val → regions_fit class ls ≡ true → (sets : Var → List ℤ) × ((l : Lit) → Among l ls → SetTruth val sets l)
unfolding regions_fit
regions_fit_to class ls val arranged h =
    let test : (ℕ → List Var) → Bool = λ f. list_all (is_shown class (spots class ls f)) ls in
    let ks = classes_of class ls in
    let c = choice_out class ls ks (λ f. test f ≡ true) ((Decides-some (λ f. test f ≡ true) test (λ f. (λ e. e, λ e. e)) (choices class ls ks)).0 h) in
    let m = above_all val (all_terms ls) in (
      own_sets class ls val arranged c.0 m.0 m.1 c.2,
      λ l i. holds class ls val arranged c.0 m.0 m.1 c.2 l i (IsLitOf-among l ls i) (each_at (is_shown class (spots class ls c.0)) l ls c.1 i),
    )
