-- The arena of one leaf.
use Rattle.std.proofs.Common.{◌≡◌, refl, sym, ◌∙◌, ap, subst, ℕ, zero, suc, ◌≤◌, ◌<◌, inl, inr, Bool, true, false, List, [], ◌∷◌, length, Some, None, arith}
use Rattle.std.specs.Prelude.{slice_index_or}
use Rattle.std.specs.List.{slice_get}
use Rattle.std.proofs.lemmas.Bool.{cases_eq}
use Rattle.cyp_tree.specs.declared.mark.Mark.{Mark}
use Rattle.cyp_tree.specs.declared.mark.Mark.TheVariants.{Undecided}
use Rattle.cyp_tree.specs.declared.places.Run.{Run}
use Rattle.cyp_tree.specs.declared.places.Place.{Place}
use Rattle.cyp_tree.specs.declared.places.Way.{Way}
use Rattle.cyp_tree.specs.declared.marks.Marks.{Marks}
use Rattle.cyp_tree.specs.Trees.{Leaf}
use Rattle.cyp_tree.specs.Numbers.{one_where}
use Rattle.cyp_tree.specs.Standing.{standing, IsLinked}
use Rattle.cyp_tree.specs.Told.{node_sum, unfailed_of}
use Rattle.cyp_tree.specs.Marked.{status_at, unfailed_at}
use Rattle.cyp_tree.specs.Arenas.{IsArena, IsRootArena}
use Rattle.cyp_tree.specs.Wholes.{IsWhole}
use Rattle.cyp_tree.proofs.Retiring.{one_same, one_other, both_ways}

one_le : (j k : ℕ) → one_where j k ≤ 1
one_le j k = elim (cases_eq j k) [
  | inl same ↦ subst (λ (i : ℕ). one_where j i ≤ 1) same (omega (arith, one_same j))
  | inr other ↦ omega (arith, one_other j k other)
]

only : {X : Type 0} (x y : X) (k : ℕ) → slice_get (x ∷ []) k ≡ Some y → (k ≡ 0) × (x ≡ y)
only x y zero e = (refl, cc)
only x y (suc k) e = absurd (let bad : None ≡ Some y = e in cc)

all_open : (k : ℕ) → slice_index_or (Undecided ∷ []) k Undecided ≡ Undecided
all_open zero = refl
all_open (suc k) = refl

only_zero : (k : ℕ) → slice_index_or (true ∷ []) k false ≡ true → k ≡ 0
only_zero zero e = refl
only_zero (suc k) e = absurd (both_ways false e refl)

module _ (R : Type 0) {N : Type 0} (node : N) where
  abbrev p0 : Place N
  p0 = record { node = node; above = 0; cost = 0; level = 0; ways = None }

  abbrev ps : List (Place N)
  ps = p0 ∷ []

  abbrev ws : List (Way R)
  ws = []

  no_run : (k : ℕ) (p : Place N) (r : Run) → slice_get ps k ≡ Some p → p.ways ≡ Some r → ⊥
  no_run k p r e f = let bad : None ≡ Some r = ap (λ (q : Place N). q.ways) (only p0 p k e).1 ∙ f in cc

  no_way : (w : ℕ) (y : Way R) → slice_get ws w ≡ Some y → ⊥
  no_way w y e = cc

  later : (j : ℕ) (p : Place N) → slice_get ps j ≡ Some p → 0 < j → ⊥
  later j p e l = omega (arith, (only p0 p j e).0)

  linked : IsLinked ps ws
  linked = record {
    some = omega arith;
    runs = λ k p r e f. absurd (no_run k p r e f);
    run_above = λ k p r w y e f h g. absurd (no_way w y g);
    in_run = λ w y e. absurd (no_way w y e);
    rising = λ w y e. absurd (no_way w y e);
    parts = λ w y e. absurd (no_way w y e);
    part_above = λ w y j p e h f. absurd (no_way w y e);
    in_way = λ j p e l. absurd (later j p e l);
  }

  module _ (m : Marks) (statuses : m.statuses.items ≡ Undecided ∷ []) (reached : m.reached.items ≡ true ∷ []) (unfailed : m.unfailed.items ≡ 0 ∷ []) (unsolved : m.unsolved.items ≡ []) where
    told_open : (k : ℕ) → status_at m k ≡ Undecided
    told_open k = ap (λ (xs : List Mark). slice_index_or xs k Undecided) statuses ∙ all_open k

    root_arena : IsArena ps ws m
    root_arena = record {
      linked = linked;
      paths = record {
        root = λ p e. (sym (ap (λ (q : Place N). q.cost) (only p0 p 0 e).1), sym (ap (λ (q : Place N). q.level) (only p0 p 0 e).1));
        step = λ j p y q e l w f. absurd (no_way p.above y w);
        small = λ j p e.
            let cost : p.cost ≡ 0 = sym (ap (λ (q : Place N). q.cost) (only p0 p j e).1) in
            let level : p.level ≡ 0 = sym (ap (λ (q : Place N). q.level) (only p0 p j e).1) in
            (omega arith, omega arith);
      };
      sized = record { statuses = ap length statuses; reached = ap length reached; unfailed = ap length unfailed; unsolved = ap length unsolved };
      told = λ k p e. told_open k ∙ node_open p (only p0 p k e).1;
      counted = record {
        ways = λ w y e. absurd (no_way w y e);
        places = λ k p e.
            ap (unfailed_at m) (only p0 p k e).0 ∙ ap (λ (xs : List ℕ). slice_index_or xs 0 0) unfailed ∙ none_unfailed p (only p0 p k e).1;
      };
      reached = record {
        root = λ o. ap (λ (xs : List Bool). slice_index_or xs 0 false) reached;
        undecided = λ j t. told_open j;
        down = λ j p y e l w o good t. absurd (no_way p.above y w);
        unfailed = λ j p y e l w t bad. no_way p.above y w;
        above = λ j p y e l w t. absurd (no_way p.above y w);
      };
      few = omega arith;
      few_ways = omega arith;
    }
      where
        node_open : (p : Place N) → p0 ≡ p → Undecided ≡ node_sum (status_at m) ws p.ways
        node_open p e = ap (λ (q : Place N). node_sum (status_at m) ws q.ways) e

        none_unfailed : (p : Place N) → p0 ≡ p → ◌≡◌ {A = ℕ} 0 (unfailed_of (status_at m) ws p.ways)
        none_unfailed p e = ap (λ (q : Place N). unfailed_of (status_at m) ws q.ways) e

    root_whole : IsWhole node ps ws m
    root_whole = record {
      arena = root_arena;
      numbered = record { distinct = λ k. one_le 0 k; below = λ k l. one_other 0 k (λ e. omega arith) };
      counted = refl;
    }

pub is_whole : {R N : Type 0} (node root : N) (ps' : List (Place N)) (ws' : List (Way R)) (m : Marks) → IsRootArena node root ps' ws' m → IsWhole root ps' ws' m
is_whole {R} node root ps' ws' m a =
    subst (λ (x : _). IsWhole x ps' ws' m) (sym a.root_is)
    (subst (λ (x : List (Place _)). IsWhole node x ws' m) (sym a.places)
    (subst (λ (x : List (Way _)). IsWhole node (record { node = node; above = 0; cost = 0; level = 0; ways = None } ∷ []) x m) (sym a.ways)
    (root_whole R node m a.statuses a.reached a.unfailed a.unsolved)))

pub is_leaf : {R N : Type 0} (node root : N) (ps' : List (Place N)) (ws' : List (Way R)) (m : Marks) → IsRootArena node root ps' ws' m → standing root ps' ws' ≡ Leaf 0 node
is_leaf node root ps' ws' m a = (λ i. standing (a.root_is i) (a.places i) (a.ways i))
