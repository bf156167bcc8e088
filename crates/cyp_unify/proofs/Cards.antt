-- The instances of a node and of its companions have cardinalities.
use Rattle.std.proofs.Common.{◌≡◌, ◌<◌, ◌&&◌, ◌++◌, ℕ, zero, suc, Bool, IsTrue, List, [], ◌∷◌, is_none, length, get_or, refl, ap, ◌∙◌, arith}
use Rattle.std.proofs.lemmas.Bool.{and_from, and_parts}
use Rattle.std.specs.List.{list_all}
use Rattle.cyp_heap.specs.Chunks.{insts}
use Rattle.cyp_heap.specs.Formed.{inst_fits, insts_fit, is_card_var}
use Rattle.cyp_heap.specs.PredsValue.{PredsValue}
use Rattle.cyp_heap.specs.declared.chunk.Chunk.{Chunk}
use Rattle.cyp_heap.specs.declared.chunk.Chunk.TheVariants.{Block, Cell, Inst}
use Rattle.cyp_heap.specs.declared.chunk.InstOf.{InstOf}
use Rattle.cyp_heap.specs.declared.goal.Goal.{Goal}
use Rattle.cyp_unify.specs.Meeting.{has_card}

cards_of : (cs : List Chunk) → IsTrue (list_all (λ (i : InstOf). is_card_var i.card) (insts cs)) → IsTrue (list_all has_card cs)
cards_of [] h = refl
cards_of (Inst i ∷ cs) h =
    let both : IsTrue (is_card_var i.card) × IsTrue (list_all (λ (j : InstOf). is_card_var j.card) (insts cs)) = and_parts (is_card_var i.card) (list_all (λ (j : InstOf). is_card_var j.card) (insts cs)) h in
    and_from (is_card_var i.card) (list_all has_card cs) both.0 (cards_of cs both.1)
cards_of (Block b ∷ cs) h = cards_of cs h
cards_of (Cell b ∷ cs) h = cards_of cs h

-- each instance of the precondition of a goal that fits has a cardinality
pub fitting_cards : (preds : PredsValue) (g : Goal) → IsTrue (insts_fit preds g) → IsTrue (list_all has_card g.pre.chunks)
fitting_cards preds g h =
    let all : Bool = list_all (inst_fits preds) (insts g.pre.chunks ++ insts g.post.chunks) in
    let pre : Bool = list_all (λ (i : InstOf). is_card_var i.card) (insts g.pre.chunks) in
    let post : Bool = list_all (λ (i : InstOf). is_none i.card) (insts g.post.chunks) in
    cards_of g.pre.chunks (and_parts all pre (and_parts (all && pre) post h).0).1

-- a test that all pass is passed by the one at a place
pub all_at : {X : Type 0} (test : X → Bool) (xs : List X) (k : ℕ) (x : X) → IsTrue (list_all test xs) → k < length xs → x ≡ get_or xs k x → IsTrue (test x)
all_at test [] k x h lt is = absurd (omega arith)
all_at test (y ∷ ys) zero x h lt is = ap test is ∙ (and_parts (test y) (list_all test ys) h).0
all_at test (y ∷ ys) (suc k) x h lt is = all_at test ys k x (and_parts (test y) (list_all test ys) h).1 (omega arith) is
