use Rattle.cyp_sound.proofs.Keeping.{sound_from}
use Rattle.cyp_tree.specs.Derivations.{plain_derivation}
use Rattle.cyp_sound.proofs.soundness.sound.Goals as goal

pub returns : goal.returns
returns c =
    sound_from c.args.preds.now c.args.goal.now (plain_derivation c.args.given.now) c.keep_preds.ensures.formed c.keep_preds.ensures.small c.requires c.keep_goal.ensures
