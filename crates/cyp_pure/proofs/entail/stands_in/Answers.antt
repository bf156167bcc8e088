use Rattle.std.proofs.Common.{◌≡◌, ◌∙◌, get_or, sym, ap}
use Rattle.cyp_term.specs.ExactLits.{exact_lit}
use Rattle.cyp_pure.proofs.entail.stands_in.Goals as goal

pub returns-then-eq : goal.returns-then-eq
returns-then-eq c =
    let same : c.other-item.result ≡ c.args.lit.now = exact_lit c.other-item.result c.args.lit.now (sym c.if-eq.ensures) in
    λ e. (c.loop-other.other-index, c.loop-other-test.true, ap (get_or c.args.lits.now c.loop-other.other-index) (sym same) ∙ sym c.other-item.is ∙ same)
