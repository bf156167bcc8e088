-- From what the types of a goal and of its predicates keep to what soundness asks of them.
use Rattle.cyp_goal.proofs.NormalKeeps.{HasSorts}
use Rattle.cyp_goal.proofs.NumberedKeeps.{sorts_from}
use Rattle.cyp_goal.specs.Named.{parts_fit}
use Rattle.cyp_goal.specs.Raw.{is_sorted}
use Rattle.cyp_heap.specs.Formed.{IsFormed, insts_fit}
use Rattle.cyp_heap.specs.PredsFormed.{IsFormedPreds}
use Rattle.cyp_heap.specs.declared.chunk.Chunk.{Chunk}
use Rattle.cyp_heap.specs.declared.goal.Goal.{Goal}
use Rattle.cyp_heap.specs.declared.pred.Preds.{Preds}
use Rattle.cyp_kernel.specs.Companions.{Proof}
use Rattle.cyp_kernel.specs.Correct.{unlinked}
use Rattle.cyp_sound.proofs.Time.Correct.{accepted_is_correct}
use Rattle.cyp_sound.specs.Kept.{IsKept, is_kept, are_small, is_small}
use Rattle.cyp_sound.specs.Sound.{IsSound}
use Rattle.std.proofs.Common.{List, [], refl, true, ◌∷◌, ◌≡◌}
use Rattle.std.proofs.lemmas.Bool.{and_from, and_parts}
use Rattle.std.specs.List.{list_all}
use Rattle.std.specs.Prelude.{IsTrue}

-- ---- chunks

pub all_fit : (cs : List Chunk) → IsTrue (list_all is_kept cs) → list_all parts_fit cs ≡ true
all_fit [] h = refl
all_fit (c ∷ cs) h =
    let both = and_parts (is_kept c) (list_all is_kept cs) h in
    and_from (parts_fit c) (list_all parts_fit cs) (and_parts (parts_fit c) (is_small c) both.0).0 (all_fit cs both.1)

pub all_small : (cs : List Chunk) → IsTrue (list_all is_kept cs) → IsTrue (list_all is_small cs)
all_small [] h = refl
all_small (c ∷ cs) h =
    let both = and_parts (is_kept c) (list_all is_kept cs) h in
    and_from (is_small c) (list_all is_small cs) (and_parts (parts_fit c) (is_small c) both.0).1 (all_small cs both.1)

-- ---- the law

sorted_from : (preds : Preds) (g : Goal) → IsFormed preds g → IsKept g → IsTrue (is_sorted (unlinked preds g))
sorted_from preds g fine kept =
    let insts : IsTrue (insts_fit preds g) = and_from _ _ (and_from _ _ fine.instances_fit fine.pre_cards) fine.post_cards in
    let s : HasSorts _ _ (unlinked preds g) = sorts_from (unlinked preds g) insts (record { goal = kept.fits; links = refl }) in
    and_from _ _ (and_from _ _ (and_from _ _ (and_from _ _ s.pure_pre s.pre) s.pure_post) s.post) refl

pub sound_from : (preds : Preds) (g : Goal) (d : Proof) → IsFormedPreds preds → IsTrue (are_small preds) → IsFormed preds g → IsKept g → IsSound preds g d
sound_from preds g d formed small fine kept name r e accepted =
    accepted_is_correct name preds g r d formed fine (record { order = kept.order; post_small = kept.post_small; preds_small = small }) (sorted_from preds g fine kept) e accepted
