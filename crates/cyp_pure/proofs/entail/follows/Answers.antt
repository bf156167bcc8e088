use Rattle.std.proofs.Common.{refl}
use Rattle.cyp_pure.proofs.Entailing.{follows_is, one_stands}
use Rattle.cyp_pure.proofs.entail.follows.Goals as goal

pub returns-then-stands_in : goal.returns-then-stands_in
returns-then-stands_in c = (λ e. one_stands c.args.a.now c.args.lit.now (c.if-stands_in.ensures refl), λ h. refl)

pub returns : goal.returns
returns c =
    follows_is c.args.a.now c.args.parted.now.ints c.args.parted.now.sets c.args.lit.now c.in_ok-can_be_false.field-0 c.requires.parted.ints c.requires.parted.sets c.in_ok-can_be_false.ensures
