-- The instances of a copied goal fit.
use Rattle.std.proofs.Common.{◌≡◌, ◌∙◌, IsTrue}
use Rattle.std.proofs.lemmas.Bool.{and_from}
use Rattle.cyp_heap.specs.Formed.{IsFormed, insts_fit}
use Rattle.cyp_heap.specs.declared.goal.Goal.{Goal}
use Rattle.cyp_heap.specs.declared.pred.Preds.{Preds}

-- those of a copy of a goal that is formed, over a copy of its predicates
pub fits_copy : (ps : Preds) (f : Goal) → IsFormed ps f → (preds : Preds) (g : Goal) → preds ≡ ps → g ≡ f → IsTrue (insts_fit preds g)
fits_copy ps f formed preds g p e = (λ i. insts_fit (p i) (e i)) ∙ and_from _ _ (and_from _ _ formed.instances_fit formed.pre_cards) formed.post_cards
