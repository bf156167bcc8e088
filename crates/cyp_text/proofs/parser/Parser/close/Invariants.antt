use Rattle.std.proofs.Common.{◌≡◌, ◌-◌}
use Rattle.cyp_text.specs.LitReaders.{closes}
use Rattle.cyp_text.proofs.parser.Parser.close.Given as goal

abbrev pub invariant-loop-i : goal.invariant-loop-i
invariant-loop-i l = closes l.count l.fn.self ≡ closes (l.count - l.i) l.self
