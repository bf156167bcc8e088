-- The calls of one companion more.
use Rattle.std.proofs.Common.{◌≡◌, ◌∙◌, ◌+◌, ◌++◌, ◌∷◌, ℕ, zero, suc, [], List, Some, add-one, ap, append_assoc, drop, option_map, slice_get, sym}
use Rattle.cyp_call.specs.CallRows.{call_rules_at}
use Rattle.cyp_call.specs.CallsOf.{calls_of}
use Rattle.cyp_heap.specs.declared.goal.Link.{Link}
use Rattle.cyp_heap.specs.declared.goal.Node.{Node}
use Rattle.cyp_step.specs.declared.rule.Rule.{Rule}

some_same : {A : Type 0} {a b : A} → Some a ≡ Some b → a ≡ b
some_same e = cc

-- the first of what is left is at the place
module _ (n : Node) (done : List Rule) where
  added : (ls : List Link) (i k : ℕ) (new : List Rule) → option_map (λ (l : Link). done ++ calls_of n k l) (slice_get ls i) ≡ Some new
      → done ++ call_rules_at n k (drop i ls) ≡ new ++ call_rules_at n (suc k) (drop (suc i) ls)
  added [] i k new e = cc
  added (l ∷ ls) zero k new e = sym (append_assoc done (calls_of n k l) (call_rules_at n (suc k) ls)) ∙ ap (λ rs. rs ++ call_rules_at n (suc k) ls) (some_same e)
  added (l ∷ ls) (suc i) k new e = added ls i k new e

pub link_turn : (n : Node) (i : ℕ) (done new all : List Rule) → done ++ call_rules_at n i (drop i n.links) ≡ all
    → option_map (λ (l : Link). done ++ calls_of n i l) (slice_get n.links i) ≡ Some new → new ++ call_rules_at n (i + 1) (drop (i + 1) n.links) ≡ all
link_turn n i done new all h e = ap (λ j. new ++ call_rules_at n j (drop j n.links)) (add-one i) ∙ sym (added n done n.links i i new e) ∙ h
