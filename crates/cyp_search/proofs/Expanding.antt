-- An expansion: the popped entry is of the next leaf, whose moves are put there.
use Rattle.std.proofs.Common.{◌≡◌, refl, sym, ◌∙◌, ap, subst, ℕ, ◌+◌, ◌<◌, Bool, true, false, List, Option, Some, None}
use Rattle.cyp_tree.specs.declared.mark.Mark.TheVariants.{Undecided}
use Rattle.cyp_tree.specs.Trees.{Tree, Moving}
use Rattle.cyp_tree.specs.Statuses.{status}
use Rattle.cyp_tree.specs.Sizes.{size}
use Rattle.cyp_tree.specs.Live.{Waiting, next_leaf}
use Rattle.cyp_tree.specs.Growing.{graft, new_alts, expand_at, expand_next}
use Rattle.cyp_tree.specs.Places.{HasPlace, IsLive}
use Rattle.cyp_tree.proofs.OnePlace.{one_place, live_stands}
use Rattle.cyp_queue.specs.declared.entry.Entry.{Entry}
use Rattle.cyp_queue.specs.Entries.{PopsAlive}
use Rattle.cyp_search.specs.Frontiers.{IsFrontier}
use Rattle.cyp_search.specs.Expansions.{Puts, Expands}
use Rattle.cyp_search.proofs.NextPopped.{open_with, IsNext, next_popped, none_open}

-- nothing was taken out
pub none_taken : (o : Option Entry) → ((e : Entry) → o ≡ Some e → ⊥) → o ≡ None
none_taken None h = refl
none_taken (Some e) h = absurd (h e refl)

module _ {R N : Type 0} (space : Moving R N) (t : Tree R N) where
  -- the number and the node are those of the next leaf
  pub record IsNextAt (leaf : ℕ) (node : N) : Type 0 where
    pub waiting : Waiting N
    pub next : next_leaf space.weight t ≡ Some waiting
    pub number : waiting.number ≡ leaf
    pub named : waiting.node ≡ node
    pub undecided : status t ≡ Undecided

  pub next_at : (es after : List Entry) (e : Entry) (c : ℕ) (n : N) → IsFrontier space.weight t (size t) es → PopsAlive (IsLive t) es (Some e) after → HasPlace t e.leaf c n → IsNextAt e.leaf n
  next_at es after e c n is h place =
      let w : IsNext space.weight t e = next_popped space.weight t es after is e h in
      let number : w.leaf.number ≡ e.leaf = ap (λ (x : Entry). x.leaf) w.entry in
      let a : (b : ℕ) × HasPlace t w.leaf.number b w.leaf.node × (w.leaf.priority ≡ b + space.weight w.leaf.node) = live_stands space.weight 0 t w.leaf w.live in
      let there : HasPlace t e.leaf a.0 w.leaf.node = subst (λ (k : ℕ). HasPlace t k a.0 w.leaf.node) number a.1 in
      let one : (a.0 ≡ c) × (w.leaf.node ≡ n) = one_place t e.leaf a.0 c w.leaf.node n is.numbered there place in
      record { waiting = w.leaf; next = w.next; number = number; named = one.1; undecided = open_with space.weight t w.leaf w.live }

  pub stays : (limit : ℕ) (es after rest : List Entry) → IsFrontier space.weight t (size t) es → PopsAlive (IsLive t) es None after → Expands space limit t t rest false
  stays limit es after rest is h = (refl, λ o. absurd (none_open space.weight t es after is h o))

  module _ (leaf : ℕ) (node : N) (is : IsNextAt leaf node) where
    -- its moves put there are the expansion
    same_grown : graft leaf (new_alts (size t) (space.moves node)) t ≡ expand_next space t
    same_grown = (λ i. graft (sym is.number i) (new_alts (size t) (space.moves (sym is.named i))) t) ∙ sym (ap (expand_at space t) is.next)

    pub expands_put : (limit : ℕ) (new : Tree R N) (es : List Entry) (b : Bool) → Puts space.weight limit leaf (space.moves node) t new es b → Expands space limit t new es b
    expands_put limit new es true (e, few, f) = (is.undecided, e ∙ same_grown, few, f)
    expands_put limit new es false (e, many) = (e, λ o. subst (λ (u : Tree R N). limit < size u) same_grown many)
