use Rattle.std.proofs.Common.{◌≡◌, ◌∙◌, ◌+◌, ◌∷◌, sym, ap, drop, get_or, add-one}
use Rattle.std.proofs.Math.Seq.{drop-cons}
use Rattle.cyp_print.specs.ShortNumbers.{is_short_from}
use Rattle.cyp_print.proofs.ShortNumbers.{digit_refused, digit_short, digit_taken}
use Rattle.cyp_print.proofs.main_name.is_short_number.Goals as goal

pub returns-in-None : goal.returns-in-None
returns-in-None c =
    let ds = c.args.digits.now in
    let i = c.loop-digit.digit-index in
    let left : drop i ds ≡ get_or ds i 0 ∷ drop (i + 1) ds = rw add-one (drop-cons ds i 0 c.loop-digit-test.true) in
    sym (digit_refused c.loop-digit.number (get_or ds i 0) (drop (i + 1) ds) (sym c.with_digit.ensures ∙ c.in-None.is))
    ∙ ap (is_short_from c.loop-digit.number) (sym left)
    ∙ c.loop-digit.invariant.1

pub loop-digit-preserved : goal.loop-digit-preserved
loop-digit-preserved c =
    let ds = c.args.digits.now in
    let i = c.loop-digit.digit-index in
    let left : drop i ds ≡ get_or ds i 0 ∷ drop (i + 1) ds = rw add-one (drop-cons ds i 0 c.loop-digit-test.true) in
    let taken = sym c.with_digit.ensures ∙ c.in-Some.is in (
      digit_short c.loop-digit.number (get_or ds i 0) c.in-Some.longer taken,
      sym (digit_taken c.loop-digit.number (get_or ds i 0) c.in-Some.longer (drop (i + 1) ds) taken)
          ∙ ap (is_short_from c.loop-digit.number) (sym left)
          ∙ c.loop-digit.invariant.1,
    )
