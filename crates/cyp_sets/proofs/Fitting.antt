-- What is left to deal where the integers outside all classes show some of what is wanted.
use Rattle.std.proofs.Common.{◌≡◌, ℕ, ◌^◌, ◌<◌, Bool, true, false, not, ◌||◌, List, [], length, map, filter, refl, sym, ap, subst, ◌∙◌, inl, inr, arith}
use Rattle.std.proofs.lemmas.Bool.{both_ways, not-true, not_from_false, or_cases, or_left, or_right}
use Rattle.std.proofs.lemmas.List.Folds.{list_any-append}
use Rattle.std.specs.List.{Contains, range_with_len}
use Rattle.cyp_term.proofs.Lists.{Among, Among-map, each_at, each_from, filter_in, filter_out, map_from, some_from, some_out}
use Rattle.cyp_sets.specs.declared.masks.Mask.{Mask}
use Rattle.cyp_sets.specs.declared.masks.Rule.{Rule}
use Rattle.cyp_sets.specs.declared.masks.Want.{Want}
use Rattle.cyp_sets.specs.Masks.{shown_by, shows}
use Rattle.cyp_sets.specs.Dealing.{AreRegions, Deals, Fits, ShownAt, allowed_regions, integer, integers, shown_in}
use Rattle.cyp_sets.proofs.Containing.{All-from_among, All-among, Among-range, range_lt}

-- ---- who shows a want

module _ (rules : List Rule) (count n : ℕ) (region : ℕ → ℕ) (w : Want) where
  abbrev classed : ℕ → Mask
  classed i = integer (2 ^ i) (region i)

  abbrev outside : List ℕ
  outside = allowed_regions rules count 0

  split : shown_by (integers rules count n region) w ≡ (shown_by (map classed (range_with_len 0 n)) w || shown_by (map (integer 0) outside) w)
  split = list_any-append (λ m. shows m w) (map classed (range_with_len 0 n)) (map (integer 0) outside)

  pub by_class : (i : ℕ) → i < n → shows (classed i) w ≡ true → shown_by (integers rules count n region) w ≡ true
  by_class i lt e =
      split ∙ or_left (shown_by (map classed (range_with_len 0 n)) w) (shown_by (map (integer 0) outside) w)
      (some_from (λ m. shows m w) (classed i) (map classed (range_with_len 0 n)) (Among-map classed i (range_with_len 0 n) (Among-range n i lt)) e)

  pub by_outside : shown_in outside 0 w ≡ true → shown_by (integers rules count n region) w ≡ true
  by_outside e =
      let r = some_out (λ r. shows (integer 0 r) w) outside e in
      split ∙ or_right (shown_by (map classed (range_with_len 0 n)) w) (shown_by (map (integer 0) outside) w)
      (some_from (λ m. shows m w) (integer 0 r.0) (map (integer 0) outside) (Among-map (integer 0) r.0 outside r.1) r.2)

  pub by_whom : shown_by (integers rules count n region) w ≡ true → shown_in outside 0 w ≡ false → (i : ℕ) × (i < n) × (shows (classed i) w ≡ true)
  by_whom e none =
      elim (or_cases (shown_by (map classed (range_with_len 0 n)) w) (shown_by (map (integer 0) outside) w) (sym split ∙ e)) [
        | inl h ↦ (let m = some_out (λ m. shows m w) (map classed (range_with_len 0 n)) h in
            let i = map_from classed m.0 (range_with_len 0 n) m.1 in
            (i.0, range_lt n i.0 i.1, ap (λ k. shows k w) (sym i.2) ∙ m.2))
        | inr h ↦ (let m = some_out (λ m. shows m w) (map (integer 0) outside) h in
            let r = map_from (integer 0) m.0 outside m.1 in
            absurd (both_ways (shown_in outside 0 w) none (some_from (λ q. shows (integer 0 q) w) r.0 outside r.1 (ap (λ k. shows k w) (sym r.2) ∙ m.2))))
      ]

-- ---- all that is wanted

abbrev pub left_over : List Rule → ℕ → List Want → List Want
left_over rules count wants = filter (λ w. not (shown_in (allowed_regions rules count 0) 0 w)) wants

module _ (rules : List Rule) (wants : List Want) (count n : ℕ) (lists : List (List ℕ)) (are : AreRegions rules count n lists) where
  shown_or_left : (d : Deals (left_over rules count wants) lists) (w : Want) → Among w wants → (t : Bool) → shown_in (allowed_regions rules count 0) 0 w ≡ t → shown_by (integers rules count n d.region) w ≡ true
  shown_or_left d w h true e = by_outside rules count n d.region w e
  shown_or_left d w h false e =
      let s = All-among (ShownAt lists d.region) (left_over rules count wants) w d.shown (filter_in (λ v. not (shown_in (allowed_regions rules count 0) 0 v)) w wants h (not_from_false _ e)) in
      by_class rules count n d.region w s.0 (omega (arith, s.1, are.long)) s.2

  pub fits_from : Deals (left_over rules count wants) lists → Fits rules wants count n
  fits_from d = record {
    region = d.region;
    allowed = λ i lt. subst (λ rs. Contains rs (d.region i)) (are.each i lt) (d.listed i (omega (arith, lt, are.long)));
    shown = each_from (shown_by (integers rules count n d.region)) wants (λ w h. shown_or_left d w h (shown_in (allowed_regions rules count 0) 0 w) refl);
  }

  left_shown : (f : Fits rules wants count n) (w : Want) → Among w (left_over rules count wants) → ShownAt lists f.region w
  left_shown f w h =
      let k = filter_out (λ v. not (shown_in (allowed_regions rules count 0) 0 v)) w wants h in
      let s = by_whom rules count n f.region w (each_at (shown_by (integers rules count n f.region)) w wants f.shown k.0) (not-true _ k.1) in
      (s.0, omega (arith, s.1, are.long), s.2)

  pub fits_to : Fits rules wants count n → Deals (left_over rules count wants) lists
  fits_to f = record {
    region = f.region;
    listed = λ i lt. (let l : i < n = omega (arith, lt, are.long) in subst (λ rs. Contains rs (f.region i)) (sym (are.each i l)) (f.allowed i l));
    shown = All-from_among (ShownAt lists f.region) (left_over rules count wants) (left_shown f);
  }

pub fits_nowhere : (rules : List Rule) (wants : List Want) (count n i : ℕ) → i < n → allowed_regions rules count (2 ^ i) ≡ [] → Fits rules wants count n → ⊥
fits_nowhere rules wants count n i lt e f = let at = f.allowed i lt in omega (arith, at.1, ap length e)
