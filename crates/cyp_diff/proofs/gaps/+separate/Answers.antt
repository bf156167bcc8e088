use Rattle.std.proofs.Common.{◌≡◌, ◌+◌, ◌*◌, ◌<◌, ◌-ℤ◌, pos, length, refl, sym, ap, subst, subst₂, arith, to_z, of_z, w64}
use Rattle.std.proofs.lemmas.Int.{to_z-of_z}
use Rattle.std.proofs.lemmas.List.Edits.{length-remove}
use Rattle.std.proofs.lemmas.Option.{slice_get_within}
use Rattle.std.specs.Prelude.{IfOk}
use Rattle.std.specs.List.{All, remove}
use Rattle.cyp_diff.specs.Distances.{Within}
use Rattle.cyp_diff.specs.Gaps.{IsGap, SideMeans}
use Rattle.cyp_diff.proofs.Separating.{All-item, All-rest, below_small, below_is, above_small, above_fits, below, above, side_added, found_below, then_above, none_below}
use Rattle.cyp_diff.proofs.gaps.+separate.Goals as goal

pub side-returns-in-Added : goal.side-returns-in-Added
side-returns-in-Added t c =
    let f : to_z w64 (of_z w64 c.args.c) ≡ c.args.c = to_z-of_z w64 c.args.c c.ranges.c in
    side_added c.args.bounds c.add.new.self c.args.i c.args.j c.args.c (to_z w64 (of_z w64 c.args.c)) c.args.gaps c.separate.result f c.in-Added.ensures.places
    c.in-Added.ensures.means.0 c.separate.ensures

pub side-returns-in-Contradiction : goal.side-returns-in-Contradiction
side-returns-in-Contradiction t c =
    let f : to_z w64 (of_z w64 c.args.c) ≡ c.args.c = to_z-of_z w64 c.args.c c.ranges.c in
    λ x m w a. c.in-Contradiction.ensures.means.1 x m (subst (λ z. Within x c.args.i c.args.j z) (sym f) w)

pub first_side-returns-then-refuses : goal.first_side-returns-then-refuses
first_side-returns-then-refuses t c =
    none_below (length c.args.bounds.now) c.args.bounds.now c.args.gaps.now c.args.gap c.args.gap.i c.args.gap.j c.requires.gap c.requires.gap.first c.requires.gap.second (c.if-refuses.ensures.0 refl)

pub first_side-side-requires : goal.first_side-side-requires
first_side-side-requires t c =
    let gap : IsGap (length c.args.bounds.now) c.args.gap = c.requires.gap in
    let copied : c.in_ok-copy.field-0 ≡ c.args.bounds.now = c.in_ok-copy.ensures in
    let rest : c.in_ok-rest.rest ≡ c.args.gaps.now = c.in_ok-rest.ensures in
    let falls : 4 * length c.in_ok-rest.rest + 2 < t = omega (arith, ap length rest, c.decreases) in (
      falls,
      (
        omega (arith, ap length copied, gap.first),
        (
          omega (arith, ap length copied, gap.second),
          (below_small (length c.args.bounds.now) c.args.gap gap, subst₂ (λ rows gs. All (IsGap (length rows)) gs) (sym copied) (sym rest) c.requires.gaps),
        ),
      ),
    )

pub first_side-returns : goal.first_side-returns
first_side-returns t c =
    let copied : c.in_ok-copy.field-0 ≡ c.args.bounds.now = c.in_ok-copy.ensures in
    let rest : c.in_ok-rest.rest ≡ c.args.gaps.now = c.in_ok-rest.ensures in
    subst (λ z. IfOk c.side.result (SideMeans c.args.bounds.now c.args.gap.i c.args.gap.j z c.args.gaps.now)) (below_is (length c.args.bounds.now) c.args.gap c.requires.gap)
    (subst₂ (λ rows gs. IfOk c.side.result (SideMeans rows c.args.gap.i c.args.gap.j (below c.args.gap) gs)) copied rest c.side.ensures)

pub split-first_side-requires : goal.split-first_side-requires
split-first_side-requires t c =
    let gap : IsGap (length c.args.bounds) c.remove-gap.result = All-item (IsGap (length c.args.bounds)) c.args.gaps c.args.k c.remove-gap.result c.remove-gap.ensures.item c.requires.gaps in
    let fewer : length (remove c.args.gaps c.args.k) + 1 ≡ length c.args.gaps = length-remove c.args.gaps c.args.k (slice_get_within c.args.gaps c.args.k c.remove-gap.result c.remove-gap.ensures.item) in
    let falls : 4 * length c.remove-gap.new.self + 3 < t = omega (arith, ap length c.remove-gap.ensures.rest, fewer, c.decreases) in
    (falls, (gap, subst (λ gs. All (IsGap (length c.args.bounds)) gs) (sym c.remove-gap.ensures.rest) (All-rest (IsGap (length c.args.bounds)) c.args.gaps c.args.k c.requires.gaps)))

pub split-overflow_sub-gap : goal.split-overflow_sub-gap
split-overflow_sub-gap t c =
    let gap : IsGap (length c.args.bounds) c.remove-gap.result = All-item (IsGap (length c.args.bounds)) c.args.gaps c.args.k c.remove-gap.result c.remove-gap.ensures.item c.requires.gaps in
    above_fits (length c.args.bounds) c.remove-gap.result gap

pub split-side-requires : goal.split-side-requires
split-side-requires t c =
    let gap : IsGap (length c.args.bounds) c.remove-gap.result = All-item (IsGap (length c.args.bounds)) c.args.gaps c.args.k c.remove-gap.result c.remove-gap.ensures.item c.requires.gaps in
    let fewer : length (remove c.args.gaps c.args.k) + 1 ≡ length c.args.gaps = length-remove c.args.gaps c.args.k (slice_get_within c.args.gaps c.args.k c.remove-gap.result c.remove-gap.ensures.item) in
    let falls : 4 * length c.remove-gap.new.self + 2 < t = omega (arith, ap length c.remove-gap.ensures.rest, fewer, c.decreases) in (
      falls,
      (
        gap.second,
        (
          gap.first,
          (
            above_small (length c.args.bounds) c.remove-gap.result gap,
            subst (λ gs. All (IsGap (length c.args.bounds)) gs) (sym c.remove-gap.ensures.rest) (All-rest (IsGap (length c.args.bounds)) c.args.gaps c.args.k c.requires.gaps),
          ),
        ),
      ),
    )

pub split-returns-in-Some : goal.split-returns-in-Some
split-returns-in-Some t c =
    found_below c.args.bounds c.args.gaps c.args.k c.remove-gap.result c.in_ok-xs.field-0 c.in-Some.xs c.remove-gap.ensures.item
    (subst (λ gs. SideMeans c.args.bounds c.remove-gap.result.i c.remove-gap.result.j (c.remove-gap.result.c -ℤ pos 1) gs c.in_ok-xs.field-0) c.remove-gap.ensures.rest c.in_ok-xs.ensures) c.in-Some.is

pub split-returns-in-None : goal.split-returns-in-None
split-returns-in-None t c =
    let gap : IsGap (length c.args.bounds) c.remove-gap.result = All-item (IsGap (length c.args.bounds)) c.args.gaps c.args.k c.remove-gap.result c.remove-gap.ensures.item c.requires.gaps in
    then_above c.args.bounds c.args.gaps c.args.k c.remove-gap.result c.in_ok-xs.field-0 c.side.result gap c.remove-gap.ensures.item
    (subst (λ gs. SideMeans c.args.bounds c.remove-gap.result.i c.remove-gap.result.j (c.remove-gap.result.c -ℤ pos 1) gs c.in_ok-xs.field-0) c.remove-gap.ensures.rest c.in_ok-xs.ensures) c.in-None.is
    (subst (λ gs. IfOk c.side.result (SideMeans c.args.bounds c.remove-gap.result.j c.remove-gap.result.i (above c.remove-gap.result) gs)) c.remove-gap.ensures.rest c.side.ensures)

pub separate-split-requires : goal.separate-split-requires
separate-split-requires t c =
    let falls : 4 * length c.args.gaps < t = omega (arith, c.decreases) in
    (falls, (c.requires.gaps, omega (arith, ap length c.as_slice-in-Some-4.ensures, c.narrowest-k.ensures)))
