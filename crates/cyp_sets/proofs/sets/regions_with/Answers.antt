use Rattle.std.proofs.Common.{◌++◌}
use Rattle.std.proofs.lemmas.Result.{IfOk-weaker}
use Rattle.cyp_sets.proofs.Answered.{all_placed, answered, exactly}
use Rattle.cyp_sets.proofs.sets.regions_with.Goals as goal

pub of-requires-2-clause-named : goal.of-requires-2-clause-named
of-requires-2-clause-named c = all_placed (c.args.lits.now ++ c.args.more.now) c.args.classes.now c.in_ok-names.names c.in_ok-names.ensures

pub returns-clause-test : goal.returns-clause-test
returns-clause-test c =
    IfOk-weaker c.fits.result _ _
    (λ b h. answered (c.args.lits.now ++ c.args.more.now) c.args.classes.now c.in_ok-names.names c.in_ok-said.said.rules.items c.in_ok-said.said.wants.items c.region_count.result c.kind_count.result b c.requires.classes c.in_ok-names.ensures c.in_ok-said.ensures c.region_count.ensures c.kind_count.ensures.count h)
    c.fits.ensures

pub returns-clause-exact : goal.returns-clause-exact
returns-clause-exact c =
    IfOk-weaker c.fits.result _ _ (λ b e. exactly (c.args.lits.now ++ c.args.more.now) c.args.classes.now b e) (returns-clause-test c)
