-- Nodes are those of renamings, one by one.
use Rattle.std.proofs.Common.{◌≡◌, ◌∙◌, ◌+◌, ◌<◌, ℕ, List, get_or, length, sym, take, ap, arith}
use Rattle.std.proofs.lemmas.List.{get_or-map, length-map, take_more_same}
use Rattle.cyp_goal.specs.Normal.{Renaming}
use Rattle.cyp_heap.specs.declared.goal.Node.{Node}
use Rattle.cyp_step.specs.Step.{nodes_of}

module _ (rs : List Renaming) (ns : List Node) (k : ℕ) (r : Renaming) (n : Node) (lt : k < length rs) (is_r : r ≡ get_or rs k r) (is_n : n ≡ get_or ns k n) where
  at_place : get_or (nodes_of rs) k n ≡ r.node
  at_place = get_or-map (λ (s : Renaming). s.node) rs k r n lt ∙ ap (λ (s : Renaming). s.node) (sym is_r)

  pub same_more : length rs ≡ length ns → take k (nodes_of rs) ≡ take k ns → r.node ≡ n → take (k + 1) (nodes_of rs) ≡ take (k + 1) ns
  same_more long h e =
      let made : length (nodes_of rs) ≡ length rs = length-map rs (λ (s : Renaming). s.node) in
      take_more_same (nodes_of rs) ns k n (omega arith) (omega arith) h (at_place ∙ e ∙ is_n)
