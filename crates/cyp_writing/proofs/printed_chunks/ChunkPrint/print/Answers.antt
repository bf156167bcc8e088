use Rattle.cyp_writing.proofs.printed_chunks.ChunkPrint.print.Goals as goal

pub returns-in-Block : goal.returns-in-Block
returns-in-Block c = rw c.in-Block.is (c.block.ensures c.args.preds.now)

pub returns-in-Cell : goal.returns-in-Cell
returns-in-Cell c = rw c.in-Cell.is (c.cell.ensures c.args.preds.now)
