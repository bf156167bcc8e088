use Rattle.std.proofs.Common.{arith}
use Rattle.cyp_io.proofs.Slices.{front_of_rest}
use Rattle.cyp_io.proofs.mem.MemSourceSource.read.Goals as goal

pub returns-clause-bytes : goal.returns-clause-bytes
returns-clause-bytes c =
    rw (← c.self.view_is)
    (omega arith, omega arith, front_of_rest _ _ _ c.self.inside.at c.min-count.result c.as_slice-2.ensures c.fill.ensures.front)
