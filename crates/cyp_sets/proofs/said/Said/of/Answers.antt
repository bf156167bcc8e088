use Rattle.std.proofs.Common.{◌≡◌, false, []}
use Rattle.std.proofs.lemmas.Result.{IfOk-weaker}
use Rattle.cyp_sets.specs.Saying.{LitHasPlaces}
use Rattle.cyp_term.specs.Integers.{is_int_lit}
use Rattle.cyp_sets.proofs.Sayings.{All-right, says_nothing}
use Rattle.cyp_sets.proofs.said.Said.of.Goals as goal

pub with-requires-2-clause-sets : goal.with-requires-2-clause-sets
with-requires-2-clause-sets c = All-right (λ l. is_int_lit l ≡ false) c.args.lits.now c.args.more.now c.requires.sets

pub with-requires-2-clause-named : goal.with-requires-2-clause-named
with-requires-2-clause-named c = All-right (LitHasPlaces c.args.names.now) c.args.lits.now c.args.more.now c.requires.named

pub returns : goal.returns
returns c =
    IfOk-weaker c.with-2.result _ _
    (λ s h. h c.args.lits.now (c.in_ok-with.ensures [] (says_nothing c.args.names.now c.new.result.items c.new-2.result.items c.new.ensures.items c.new-2.ensures.items)))
    c.with-2.ensures
