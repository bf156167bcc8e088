use Rattle.std.proofs.Common.{◌∙◌, Some, sym, w64, FitsSigned, arith}
use Rattle.std.proofs.lemmas.Int.{to_z-of_z, ints}
use Rattle.cyp_goal.proofs.NamedImages.{number_fits, term_numbered}
use Rattle.cyp_goal.proofs.numbering.renamed_term.Goals as goal

pub returns-in-Some-clause-renamed : goal.returns-in-Some-clause-renamed
returns-in-Some-clause-renamed c =
    let fit : FitsSigned w64 c.offset.result = omega (arith, ints, c.offset.ensures.range.least, c.offset.ensures.range.most) in
    let same = to_z-of_z w64 c.offset.result fit ∙ c.offset.ensures.offset in
    c.new.ensures ∙ (λ i. record { base = Some (c.new_var.ensures.named i); offset = same i })
    ∙ term_numbered c.args.names.now c.args.term c.in-Some.var (sym c.in-Some.ensures.base) (number_fits c.in-Some.var c.in-Some.ensures.sort)
