use Rattle.std.proofs.Common.{refl, ◌∙◌}
use Rattle.cyp_text.proofs.PartsRead.{first_and_others}
use Rattle.cyp_text.proofs.parser.Parser.parts.Goals as goal

pub returns : goal.returns
returns g c =
    first_and_others c.args.separator g.T.Part.reader c.args.self.now c.in_ok-first.first c.read.new.from c.push.new.self
    c.in_ok-first.ensures.value c.in_ok-first.ensures.shorter (c.in_ok-push.ensures.ok ∙ rw c.in_ok-found.ensures refl) c.more_parts.result c.more_parts.new.self c.more_parts.ensures
