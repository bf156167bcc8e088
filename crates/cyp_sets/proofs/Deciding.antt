-- Regions of classes fit what literals say exactly where the test over regions passes.
use Rattle.std.proofs.Common.{◌≡◌, ℕ, ◌^◌, ◌<◌, ◌==◌, Bool, true, List, length, get_or, map, Some, None, Decides, sym, subst, ◌∙◌, inl, inr}
use Rattle.std.specs.List.{Contains, list_all, range_with_len}
use Rattle.cyp_term.specs.declared.lit.Lit.{Lit}
use Rattle.cyp_term.specs.declared.term.Term.{Term}
use Rattle.cyp_term.specs.declared.term.Var.{Var}
use Rattle.cyp_term.specs.Regions.{Spot, all_set_vars, all_terms, allowed, choices, classes_of, is_shown, regions_fit, spots}
use Rattle.cyp_term.proofs.Lists.{Among, SomeOf, Among-cases, Among-left, Among-map, Among-right, Decides-some, map_from, some_holds}
use Rattle.cyp_sets.specs.declared.masks.Mask.{Mask}
use Rattle.cyp_sets.specs.declared.masks.Rule.{Rule}
use Rattle.cyp_sets.specs.declared.masks.Want.{Want}
use Rattle.cyp_sets.specs.Dealing.{Fits, allowed_regions, integer, integers}
use Rattle.cyp_sets.specs.Names.{IsMaskOf}
use Rattle.cyp_sets.specs.Saying.{AreMasksOf, Says}
use Rattle.cyp_sets.proofs.Agreeing.{Agrees, agrees-number_of, agrees-region_of, allowed_number, allowed_region, class, class_kind, classes_are, kind_at, kind_class, kinds, mask_in_class, mask_outside, names, number_of, number_of-lt, place_at, region_of, region_of-part}
use Rattle.cyp_sets.proofs.Choices.{AllAllowed, HasRegions, choice_in, choice_out}
use Rattle.cyp_sets.proofs.Containing.{Among-from_contains, Among-range, Contains-from_among, range_lt}
use Rattle.cyp_sets.proofs.Once.{among_get}
use Rattle.cyp_sets.specs.Names.{place}

abbrev spot_in : (ℕ → List Var) → ℕ → Spot
spot_in f k = record { class = Some k; region = f k }

abbrev spot_out : List Var → Spot
spot_out r = record { class = None; region = r }

module _ (ls : List Lit) (cs : List ℕ) (same : length cs ≡ length (all_terms ls)) (rules : List Rule) (wants : List Want) (says : Says (names ls cs same) ls rules wants) where
  abbrev vars : List Var
  vars = all_set_vars ls

  abbrev pub count : ℕ
  count = 2 ^ length vars

  abbrev ks : List ℕ
  ks = kinds ls cs same

  abbrev cl : Term → ℕ
  cl = class ls cs same

  abbrev place_of : ℕ → ℕ
  place_of k = place ◌==◌ ks k

  -- ---- the integers of a choice

  module _ (f : ℕ → List Var) (region : ℕ → ℕ) (tied : (k : ℕ) → Among k ks → Agrees vars (f k) (region (place_of k))) where
    abbrev xs : List Spot
    xs = spots cl ls f

    abbrev ms : List Mask
    ms = integers rules count (length ks) region

    abbrev classed : ℕ → Mask
    classed i = integer (2 ^ i) (region i)

    abbrev in_terms : List Spot
    in_terms = map (λ e. spot_in f (cl e)) (all_terms ls)

    abbrev others : List Spot
    others = map (λ r. spot_out r) (allowed cl ls None)

    HasMask : Spot → Type 0
    HasMask x = (m : Mask) × Contains ms m × IsMaskOf (names ls cs same) x m

    HasSpot : Mask → Type 0
    HasSpot m = (x : Spot) × Contains xs x × IsMaskOf (names ls cs same) x m

    class_mask : (k : ℕ) → Among k ks → HasMask (spot_in f k)
    unfolding HasMask
    class_mask k i = (
      classed (place_of k),
      Contains-from_among (classed (place_of k)) ms
          (Among-left (classed (place_of k)) (map classed (range_with_len 0 (length ks))) (map (integer 0) (allowed_regions rules count 0))
          (Among-map classed (place_of k) (range_with_len 0 (length ks)) (Among-range (length ks) (place_of k) (kind_at ls cs same k i).0))),
      mask_in_class ls cs same k (f k) (region (place_of k)) i (tied k i),
    )

    other_mask : (r : List Var) → Among r (allowed cl ls None) → HasMask (spot_out r)
    unfolding HasMask
    other_mask r i =
        let is = mask_outside ls cs same r (number_of vars r) (agrees-number_of vars r) in (
          integer 0 (number_of vars r),
          Contains-from_among (integer 0 (number_of vars r)) ms
              (Among-right (integer 0 (number_of vars r)) (map classed (range_with_len 0 (length ks))) (map (integer 0) (allowed_regions rules count 0))
              (Among-map (integer 0) (number_of vars r) (allowed_regions rules count 0) (allowed_number ls cs same rules wants says (spot_out r) 0 (number_of vars r) is (number_of-lt vars r) i))),
          is,
        )

    each : (x : Spot) → Contains xs x → HasMask x
    each x h =
        elim (Among-cases x in_terms others (Among-from_contains x xs h)) [
          | inl i ↦ (let e = map_from (λ (e : Term). spot_in f (cl e)) x (all_terms ls) i in
              subst HasMask (sym e.2) (class_mask (cl e.0) (class_kind ls cs same e.0 e.1)))
          | inr i ↦ (let r = map_from (λ (r : List Var). spot_out r) x (allowed cl ls None) i in subst HasMask (sym r.2) (other_mask r.0 r.1))
        ]

    class_spot : (i : ℕ) → i < length ks → HasSpot (classed i)
    unfolding HasSpot
    class_spot i lt =
        let k = get_or ks i 0 in
        let among : Among k ks = among_get ks i 0 lt in
        let e = kind_class ls cs same k among in
        let at : place_of k ≡ i = place_at ls cs same i lt in
        let x : Spot = spot_in f (cl e.0) in (
          x,
          Contains-from_among x xs (Among-left x in_terms others (Among-map (λ (e : Term). spot_in f (cl e)) e.0 (all_terms ls) e.1)),
          subst (λ j. IsMaskOf (names ls cs same) (spot_in f j) (classed i)) e.2
              (subst (λ j. IsMaskOf (names ls cs same) (spot_in f k) (classed j)) at (mask_in_class ls cs same k (f k) (region (place_of k)) among (tied k among))),
        )

    other_spot : (m : ℕ) → Among m (allowed_regions rules count 0) → HasSpot (integer 0 m)
    unfolding HasSpot
    other_spot m i =
        let r = region_of vars m in
        let is = mask_outside ls cs same r m (agrees-region_of vars m) in (
          spot_out r,
          Contains-from_among (spot_out r) xs
              (Among-right (spot_out r) in_terms others (Among-map (λ (q : List Var). spot_out q) r (allowed cl ls None) (allowed_region ls cs same rules wants says (spot_out r) 0 m is (region_of-part vars m) i))),
          is,
        )

    only : (m : Mask) → Contains ms m → HasSpot m
    only m h =
        elim (Among-cases m (map classed (range_with_len 0 (length ks))) (map (integer 0) (allowed_regions rules count 0)) (Among-from_contains m ms h)) [
          | inl i ↦ (let p = map_from classed m (range_with_len 0 (length ks)) i in subst HasSpot (sym p.2) (class_spot p.0 (range_lt (length ks) p.0 p.1)))
          | inr i ↦ (let r = map_from (integer 0) m (allowed_regions rules count 0) i in subst HasSpot (sym r.2) (other_spot r.0 r.1))
        ]

    pub masks_of : AreMasksOf (names ls cs same) (spots cl ls f) (integers rules count (length ks) region)
    unfolding HasMask HasSpot
    masks_of = record { each = each; only = only }

  -- ---- from regions that fit to a choice

  module _ (fits : Fits rules wants count (length ks)) where
    abbrev target : ℕ → List Var
    target k = region_of vars (fits.region (place_of k))

    target_allowed : (k : ℕ) → Among k ks → Among (target k) (allowed cl ls (Some k))
    target_allowed k i =
        let m = fits.region (place_of k) in
        allowed_region ls cs same rules wants says (spot_in target k) (2 ^ place_of k) m (mask_in_class ls cs same k (target k) m i (agrees-region_of vars m)) (region_of-part vars m)
        (Among-from_contains m (allowed_regions rules count (2 ^ place_of k)) (fits.allowed (place_of k) (kind_at ls cs same k i).0))

    choice_shows : (f : ℕ → List Var) → HasRegions target ks f → list_all (is_shown cl (spots cl ls f)) ls ≡ true
    choice_shows f h =
        let tied : (k : ℕ) → Among k ks → Agrees vars (f k) (fits.region (place_of k)) = λ k i. subst (λ r. Agrees vars r (fits.region (place_of k))) (sym (h k i)) (agrees-region_of vars (fits.region (place_of k))) in
        says.wanted (spots cl ls f) (integers rules count (length ks) fits.region) (masks_of f fits.region tied) ∙ fits.shown

    pub passes : regions_fit cl ls ≡ true
    unfolding regions_fit
    passes =
        some_holds (λ f. list_all (is_shown cl (spots cl ls f)) ls) (choices cl ls (classes_of cl ls)) choice_shows
        (subst (λ js. SomeOf (HasRegions target ks) (choices cl ls js)) (sym (classes_are ls cs same)) (choice_in cl ls target ks target_allowed))

  -- ---- from a choice to regions that fit

  module _ (f : ℕ → List Var) (good : AllAllowed cl ls ks f) (shown : list_all (is_shown cl (spots cl ls f)) ls ≡ true) where
    abbrev region : ℕ → ℕ
    region i = number_of vars (f (get_or ks i 0))

    region_tied : (k : ℕ) → Among k ks → Agrees vars (f k) (region (place_of k))
    region_tied k i = subst (λ j. Agrees vars (f j) (region (place_of k))) (kind_at ls cs same k i).1 (agrees-number_of vars (f (get_or ks (place_of k) 0)))

    region_allowed : (i : ℕ) → i < length ks → Contains (allowed_regions rules count (2 ^ i)) (region i)
    region_allowed i lt =
        let k = get_or ks i 0 in
        let among : Among k ks = among_get ks i 0 lt in
        let at : place_of k ≡ i = place_at ls cs same i lt in
        subst (λ j. Contains (allowed_regions rules count (2 ^ j)) (region i)) at
        (Contains-from_among (region i) (allowed_regions rules count (2 ^ place_of k))
        (allowed_number ls cs same rules wants says (spot_in f k) (2 ^ place_of k) (region i) (mask_in_class ls cs same k (f k) (region i) among (agrees-number_of vars (f k))) (number_of-lt vars (f k)) (good k among)))

    choice_fits : Fits rules wants count (length ks)
    choice_fits = record {
      region = region;
      allowed = region_allowed;
      shown = sym (says.wanted (spots cl ls f) (integers rules count (length ks) region) (masks_of f region region_tied)) ∙ shown;
    }

  pub found : regions_fit cl ls ≡ true → Fits rules wants count (length ks)
  unfolding regions_fit
  found h =
      let test : (ℕ → List Var) → Bool = λ f. list_all (is_shown cl (spots cl ls f)) ls in
      let some = (Decides-some (λ f. test f ≡ true) test (λ f. (λ e. e, λ e. e)) (choices cl ls (classes_of cl ls))).0 h in
      let c = choice_out cl ls ks (λ f. test f ≡ true) (subst (λ js. SomeOf (λ f. test f ≡ true) (choices cl ls js)) (classes_are ls cs same) some) in
      choice_fits c.0 c.2 c.1

  pub Decides-fits : Decides (regions_fit cl ls) (Fits rules wants count (length ks))
  Decides-fits = (found, passes)
