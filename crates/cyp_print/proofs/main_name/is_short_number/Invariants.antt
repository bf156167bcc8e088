use Rattle.std.proofs.Common.{◌≡◌, ◌≤◌, drop}
use Rattle.cyp_print.specs.ShortNumbers.{is_short_from}
use Rattle.cyp_print.proofs.main_name.is_short_number.Given as goal

abbrev pub invariant-loop-digit : goal.invariant-loop-digit
invariant-loop-digit l = (l.number ≤ 65535) × (is_short_from l.number (drop l.digit-index l.digits) ≡ is_short_from 0 l.digits)
