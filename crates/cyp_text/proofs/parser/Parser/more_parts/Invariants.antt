use Rattle.std.proofs.Common.{length, ℕ, ◌≤◌}
use Rattle.cyp_text.specs.ListReaders.{more_parts_in}
use Rattle.cyp_text.proofs.PartsRead.{GoesOn}
use Rattle.cyp_text.proofs.parser.Parser.more_parts.Given as goal

abbrev pub invariant-parts : goal.invariant-parts
invariant-parts g l = (n : ℕ) → length l.fn.self ≤ n → GoesOn l.separator g.T.Part.reader l.found l.self (more_parts_in n l.fn.found l.separator g.T.Part.reader l.fn.self)

abbrev pub decreases-parts : goal.decreases-parts
decreases-parts g l = length l.self
