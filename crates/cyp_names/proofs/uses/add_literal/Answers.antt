use Rattle.std.proofs.Common.{List, ap, ◌++◌, ◌∙◌}
use Rattle.std.proofs.lemmas.Result.{on_ok_weaker}
use Rattle.cyp_names.proofs.Negations.{lit_of_base}
use Rattle.cyp_names.specs.Uses.{Use}
use Rattle.cyp_names.proofs.uses.add_literal.Goals as goal

pub returns : goal.returns
returns c =
    on_ok_weaker c.add_base.result
    (λ is. is ∙ ap (λ (zs : List Use). c.args.uses.now.items ++ zs)
    (lit_of_base c.args.order c.args.literal.now c.nots.result.now c.len.result c.base.result.now c.nots.ensures c.len.ensures c.base.ensures))
    c.add_base.ensures
