use Rattle.std.proofs.Common.{sym, ◌∙◌}
use Rattle.cyp_text.specs.LitReaders.{int_base, plain_base, set_base_at}
use Rattle.cyp_text.proofs.BasesRead.{int_base_is, set_base_is}
use Rattle.cyp_text.proofs.PartsRead.{gives_same}
use Rattle.cyp_text.proofs.parser.Parser.base.Goals as goal

pub returns-then-is_at_int_base : goal.returns-then-is_at_int_base
returns-then-is_at_int_base c =
    gives_same plain_base int_base c.args.self.now c.args.self.now (int_base_is c.args.self.now (sym c.is_at_int_base.ensures ∙ c.if-is_at_int_base.true)) c.int_base.result c.int_base.new.self c.int_base.ensures

pub returns-else-is_at_int_base : goal.returns-else-is_at_int_base
returns-else-is_at_int_base c =
    gives_same plain_base set_base_at c.args.self.now c.args.self.now (set_base_is c.args.self.now (sym c.is_at_int_base.ensures ∙ c.if-is_at_int_base.false)) c.set_base.result c.set_base.new.self c.set_base.ensures
