use Rattle.std.proofs.Common.{arith}
use Rattle.std.proofs.lemmas.Grind.{common_steps}
use Rattle.std.proofs.lemmas.Result.{MatchResult-from_err}
use Rattle.cyp_io.proofs.Read.{front_of_read, front_of_more, read_and_kept}
use Rattle.cyp_io.proofs.all.read_all.Goals as goal

pub returns-in-Failed-clause-bytes : goal.returns-in-Failed-clause-bytes
returns-in-Failed-clause-bytes g c =
    front_of_read _ _ c.loop-buf.bytes.items c.args.limit (omega arith)
    (read_and_kept _ _ _ _ c.loop-buf.invariant.bytes c.in-Failed.ensures.bytes)

pub returns-in_err-extend_from_slice-in-Bytes-clause-lost : goal.returns-in_err-extend_from_slice-in-Bytes-clause-lost
returns-in_err-extend_from_slice-in-Bytes-clause-lost g c =
    MatchResult-from_err c.from_residual.result _ _ c.from_residual.ensures.0
    (λ _. front_of_more _ _ _ _ c.read.new.buf c.in-Bytes.count _ c.in-Bytes.ensures.bytes.1 (grind (arith, common_steps, c.in-Bytes.ensures.bytes.1, c.read.auto.buf)) c.loop-buf.invariant.bytes c.in-Bytes.ensures.bytes.2)
