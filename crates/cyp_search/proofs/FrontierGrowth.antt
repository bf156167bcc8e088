-- The entries of a tree of one leaf, after a leaf was popped, and with the entry of one more node.
use Rattle.std.proofs.Common.{◌≡◌, sym, ◌∙◌, ap, subst, ℕ, ◌+◌, ◌<◌, inl, inr, List, [], Some, arith}
use Rattle.std.specs.List.{Contains}
use Rattle.std.proofs.lemmas.Bool.{cases_lt}
use Rattle.cyp_space.specs.Alts.{AltOf}
use Rattle.cyp_tree.specs.Trees.{Tree, Leaf}
use Rattle.cyp_tree.specs.Sizes.{size}
use Rattle.cyp_tree.specs.Live.{Waiting, live_leaves}
use Rattle.cyp_tree.specs.Growing.{graft, new_alts}
use Rattle.cyp_tree.specs.Places.{HasPlace, IsLive}
use Rattle.cyp_tree.proofs.LaterLeaves.{live_after}
use Rattle.cyp_tree.proofs.NewNumbers.{leaf_numbered, grafted_numbered}
use Rattle.cyp_tree.proofs.OnePlace.{one_place, live_stands}
use Rattle.cyp_tree.proofs.Singles.{nothing_in}
use Rattle.cyp_queue.specs.declared.entry.Entry.{Entry}
use Rattle.cyp_queue.specs.Entries.{put_entry, PopsAlive}
use Rattle.cyp_search.proofs.EntryOrder.{put_in_order}
use Rattle.cyp_search.specs.Frontiers.{entry_of, IsFrontier, IsReady}
use Rattle.cyp_search.proofs.EntryLists.{put_there, put_keeps, put_only, Popped, popped}
use Rattle.cyp_search.proofs.NextPopped.{live_number}

-- no entries, before those of the nodes from 0 on
pub frontier_none : (R : Type 0) {N : Type 0} (weight : N → ℕ) (root : N) → IsFrontier {R = R} weight (Leaf 0 root) 0 []
frontier_none R weight root = record {
  numbered = leaf_numbered R root;
  ordered = tt;
  below = λ e c. absurd (nothing_in e c);
  all = λ w c l. absurd (omega arith);
  right = λ w e c d s. absurd (nothing_in e d);
}

module _ {R N : Type 0} (weight : N → ℕ) (t : Tree R N) where
  -- what is left once the next leaf is popped
  pub ready_popped : (es after : List Entry) (e : Entry) → IsFrontier weight t (size t) es → PopsAlive (IsLive t) es (Some e) after → IsReady weight t e.leaf after
  ready_popped es after e is h = λ moves. record {
    numbered = grafted_numbered t e.leaf moves is.numbered;
    ordered = p.ordered;
    below = λ x c. is.below x (p.rest x c);
    all = λ w c l. elim (live_after weight t e.leaf moves w c) [
      | inl q ↦ elim (p.kept (entry_of w) (is.all w q.0 l) (live_number weight t w q.0)) [
        | inl s ↦ absurd (q.1 (sym (ap (λ (x : Entry). x.leaf) s)))
        | inr d ↦ d
      ]
      | inr new ↦ absurd (omega arith)
    ];
    right = λ w x c d s. elim (live_after weight t e.leaf moves w c) [
      | inl q ↦ is.right w x q.0 (p.rest x d) s
      | inr new ↦ absurd (let low : x.leaf < size t = is.below x (p.rest x d) in omega arith)
    ];
  }
    where
      p : Popped (IsLive t) es e after
      p = popped (IsLive t) es e after is.ordered h

  module _ (k : ℕ) (es : List Entry) (c : ℕ) (n : N) (is : IsFrontier weight t k es) (place : HasPlace t k c n) where
    abbrev entry : Entry
    entry = record { priority = c + weight n; leaf = k }

    its : (w : Waiting N) → Contains (live_leaves weight 0 t) w → k ≡ w.number → entry ≡ entry_of w
    its w d e =
        let a : (b : ℕ) × HasPlace t w.number b w.node × (w.priority ≡ b + weight w.node) = live_stands weight 0 t w d in
        let there : HasPlace t w.number c n = subst (λ (j : ℕ). HasPlace t j c n) e place in
        let one : (c ≡ a.0) × (n ≡ w.node) = one_place t w.number c a.0 n w.node is.numbered there a.1 in
        let first : c + weight n ≡ w.priority = (λ i. one.0 i + weight (one.1 i)) ∙ sym a.2 in
        (λ i. record { priority = first i; leaf = e i })

    -- with the entry of the node of this number
    pub frontier_put : IsFrontier weight t (k + 1) (put_entry entry es)
    frontier_put = record {
      numbered = is.numbered;
      ordered = put_in_order entry es is.ordered;
      below = λ x d. elim (put_only entry x es d) [
        | inl s ↦ (let same : k ≡ x.leaf = ap (λ (y : Entry). y.leaf) s in omega arith)
        | inr m ↦ (let low : x.leaf < k = is.below x m in omega arith)
      ];
      all = λ w d l. elim (cases_lt w.number k) [
        | inl low ↦ put_keeps entry (entry_of w) es (is.all w d low)
        | inr high ↦ subst (λ (x : Entry). Contains (put_entry entry es) x) (its w d (omega arith)) (put_there entry es)
      ];
      right = λ w x d m s. elim (put_only entry x es m) [
        | inl q ↦ sym (ap (λ (y : Entry). y.priority) q) ∙ ap (λ (y : Entry). y.priority) (its w d (ap (λ (y : Entry). y.leaf) q ∙ s))
        | inr old ↦ is.right w x d old s
      ];
    }

module _ {R N : Type 0} (weight : N → ℕ) (t new : Tree R N) (leaf first : ℕ) (moves : List (AltOf R N)) (es : List Entry) where
  -- what is left once a leaf is popped is right for the tree with moves there, but for its new nodes
  pub frontier_grafted : IsReady weight t leaf es → first ≡ size t → new ≡ graft leaf (new_alts (size t) moves) t → IsFrontier weight new first es
  frontier_grafted h f e =
      subst (λ (k : ℕ). IsFrontier weight new k es) (sym f) (subst (λ (u : Tree R N). IsFrontier weight u (size t) es) (sym e) (h moves))
