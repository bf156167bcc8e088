use Rattle.std.proofs.Common.{Ok, sym, ◌<◌, ◌≡◌, length}
use Rattle.cyp_text.specs.TextReaders.{text_at}
use Rattle.cyp_text.proofs.StopFaults.{whole_reads_on}
use Rattle.cyp_text.proofs.whole_text.whole.Goals as goal

pub returns-then-left-gt0 : goal.returns-then-left-gt0
returns-then-left-gt0 c =
    let more : 0 < length c.text.new.self = rw (sym c.count-left-2.ensures) c.if-left-gt0.true in
    let read : text_at c.new-parser.result ≡ Ok (c.in-Ok.tree, c.text.new.self) = c.in-Ok.ensures in
    rw (c.count-left-2.ensures, sym c.new-parser.ensures) (whole_reads_on c.new-parser.result c.text.new.self c.in-Ok.tree read more)
