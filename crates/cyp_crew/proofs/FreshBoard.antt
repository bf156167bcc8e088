-- A fresh board stands for its search and the empty journal.
use Rattle.std.proofs.Common.{◌≡◌, refl, sym, ◌∙◌, ap, ℕ, zero, suc, ◌+◌, [], ◌∷◌, Some, slice_get, arith}
use Rattle.std.specs.List.{Contains}
use Rattle.cyp_tree.specs.Live.{Waiting}
use Rattle.cyp_tree.proofs.Singles.{nothing_in, only_one}
use Rattle.cyp_crew.specs.Crews.{Task, fresh_crew}
use Rattle.cyp_crew.specs.Board.{MarkedNode, Place, Entry, entry_of, IsRight, StandsFor, root_mark, fresh_board}

contains_one : {X : Type 0} (x : X) → Contains (x ∷ []) x
contains_one x = (0, omega arith, refl)

module _ {R N : Type 0} (t : Task R N) where
  abbrev the_entry : Entry
  the_entry = record { priority = 0 + t.space.weight t.root; leaf = 0 }

  abbrev the_leaf : Waiting N
  the_leaf = record { priority = 0 + t.space.weight t.root; number = 0; node = t.root }

  root_right : (e : Entry) → Contains (the_entry ∷ []) e → IsRight t [] (fresh_board t) e
  root_right e h = let same : the_entry ≡ e = only_one the_entry e h in (root_mark t, contains_one (root_mark t), ap (λ (x : Entry). x.leaf) same, ap (λ (x : Entry). x.priority) same)

  root_entry : (w : Waiting N) → Contains (the_leaf ∷ []) w → Contains (the_entry ∷ []) (entry_of w)
  root_entry w h = (0, omega arith, ap entry_of (only_one the_leaf w h))

  root_marked : (m : MarkedNode N) → Contains (root_mark t ∷ []) m → slice_get (root_mark t ∷ []) m.number ≡ Some m
  root_marked m h = let same : root_mark t ≡ m = only_one (root_mark t) m h in (λ i. slice_get (root_mark t ∷ []) (sym same i).number) ∙ ap Some same

  no_place : (i : ℕ) (p : Place R N) → slice_get [] i ≡ Some p → ⊥
  no_place zero p e = cc
  no_place (suc i) p e = cc

  pub fresh_stands : StandsFor t [] (fresh_board t)
  fresh_stands = record {
    state = fresh_crew;
    journal = record { stored = refl; allowed = refl; claims = refl };
    tree = record { tree = refl; counted = refl; marked = root_marked };
    memo = record {
      one_place = λ i j p q e f g. absurd (no_place i p e);
      published = λ n h. absurd (nothing_in n h);
      known = λ n m h. absurd (nothing_in (record { node = n; moves = Some m }) h);
    };
    orders = record { live = root_entry; free = λ w h f. root_entry w h; commits_right = root_right; claims_right = root_right };
    room = record { placed = λ o h. absurd (nothing_in o h); entries = omega arith; events = omega arith };
  }
