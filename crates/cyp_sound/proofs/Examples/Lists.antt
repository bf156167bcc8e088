-- Lists with their sets of contents: the predicate is formed, and a heap of three nodes is one of it.
use Rattle.cyp_heap.proofs.Short.{S, X, X+, cons, k, list_at, lists, nil, s, sll, x}
use Rattle.cyp_heap.proofs.Unions.{beside_nothing, empty_beside, one_beside, union_insert}
use Rattle.cyp_heap.specs.Assertions.{SideHolds}
use Rattle.cyp_heap.specs.Instances.{InstanceHolds, Members, Number, arg_value, height_above}
use Rattle.cyp_heap.specs.PredsFormed.{IsFormedPreds, clause_guards, none_overlap}
use Rattle.cyp_heap.specs.Stores.{IsUnion, Store, cell_count, no_store}
use Rattle.cyp_heap.specs.declared.chunk.Arg.TheVariants.{Int as IntArg, Set as SetArg}
use Rattle.cyp_kernel.proofs.HeapParts.{map_union_sym}
use Rattle.cyp_sound.specs.Kept.{are_small}
use Rattle.cyp_term.specs.Entailment.{arrangement_fits, arrangements, class_literals, satisfiable}
use Rattle.cyp_term.specs.Integers.{all_cases, all_zero, both, eliminate, eliminate_all, feasible, ints_fit, joined}
use Rattle.cyp_term.specs.Meaning.{AllTrue, Assignment, Truth, value}
use Rattle.cyp_term.specs.Regions.{all_set_vars, all_terms, regions_fit}
use Rattle.cyp_term.specs.Terms.{sort_eq}
use Rattle.cyp_term.specs.declared.term.Sort.TheVariants.{Card}
use Rattle.std.proofs.Common.{[], ap, arith, cond, false, refl, suc, true, zero, Bool, List, None, Option, Some, map, pos, ◌&&◌, ◌++◌, ◌+◌, ◌<ℤ◌, ◌∙◌, ◌∷◌, ◌≡◌, ℕ, ℤ}
use Rattle.std.proofs.lemmas.Int.{ints}
use Rattle.std.specs.Cmp.{int_cmp_total}
use Rattle.std.specs.FinMap.{FinMap, empty, get, get-empty, get-insert, insert, len, len-empty, len-insert}
use Rattle.std.specs.Ordering.{eq_by_cmp, int_cmp}
use Rattle.std.specs.Prelude.{IsTrue, is_some}

-- ---- the predicate

guards_are_apart : none_overlap (clause_guards sll) ≡ true
unfolding joined eliminate eliminate_all feasible both all_cases ints_fit arrangements class_literals arrangement_fits satisfiable regions_fit all_terms all_set_vars
guards_are_apart = refl

pub lists_formed : IsFormedPreds lists
lists_formed = record {
  few = refl;
  has_clauses = refl;
  few_clauses = refl;
  few_params = refl;
  params_sorted = refl;
  guards_plain = refl;
  guards_apart = ap (λ (b : Bool). b && true) guards_are_apart;
  params_counted = refl;
  closed = refl;
  instances_plain = refl;
  productive = refl;
  clauses_within = refl;
}

pub lists_small : IsTrue (are_small lists)
lists_small = refl

-- ---- one node before the heap of a list

empty_list : InstanceHolds lists 0 (Number (pos 0) ∷ Members [] ∷ []) no_store 0
empty_list = (sll, refl, (0, nil, all_zero, [], refl, (refl, ((λ z. refl), tt)), refl, ((λ z. refl), tt), (refl, refl), refl))

-- no entry at z where two were put in elsewhere
still_none : {A : Type 0} (m : FinMap int_cmp A) (a b z : ℤ) (v w : A) → eq_by_cmp int_cmp z a ≡ false → eq_by_cmp int_cmp z b ≡ false → get m z ≡ None → get (insert (insert m b w) a v) z ≡ None
still_none m a b z v w p q h =
    get-insert int_cmp_total (insert m b w) a v z ∙ ap (λ (t : Bool). cond t (Some v) (get (insert m b w) z)) p
    ∙ get-insert int_cmp_total m b w z ∙ ap (λ (t : Bool). cond t (Some w) (get m z)) q ∙ h

-- the node whose address, content and next address are the values of the clause's first three integers
module _ (u : Assignment) (h : Store) where
  abbrev at : ℤ
  at = value u (X 0)

  abbrev behind : ℤ
  behind = value u (X+ 0 1)

  abbrev second_cell : FinMap int_cmp ℤ
  second_cell = insert empty behind (value u (X 2))

  abbrev own : Store
  own = record { cells = insert second_cell at (value u (X 1)); blocks = insert empty at 2 }

  abbrev pub with_node : Store
  with_node = record { cells = insert (insert h.cells behind (value u (X 2))) at (value u (X 1)); blocks = insert h.blocks at 2 }

  -- what is asked of the place of a new node
  pub record IsFreeNode : Type 0 where
    pub apart : eq_by_cmp int_cmp at behind ≡ false
    pub positive : pos 0 <ℤ at
    pub positive_behind : pos 0 <ℤ behind
    pub free : get h.cells at ≡ None
    pub free_behind : get h.cells behind ≡ None
    pub no_block : get h.blocks at ≡ None

  parts : IsFreeNode → IsUnion with_node h own
  parts f = (
    map_union_sym with_node.cells own.cells h.cells
        (union_insert (insert h.cells behind (value u (X 2))) second_cell h.cells (union_insert h.cells empty h.cells (empty_beside h.cells) behind (value u (X 2)) f.free_behind) at (value u (X 1)) f.free),
    map_union_sym with_node.blocks own.blocks h.blocks (one_beside h.blocks at 2 f.no_block),
  )

  only_second : IsFreeNode → get second_cell at ≡ None
  only_second f = get-insert int_cmp_total empty behind (value u (X 2)) at ∙ ap (λ (t : Bool). cond t (Some (value u (X 2))) (get {R = int_cmp} empty at)) f.apart ∙ get-empty int_cmp at

  pub longer : (n : ℕ) → IsFreeNode → Truth u cons.guard → AllTrue u cons.lits → suc n ≡ height_above (n ∷ [])
      → InstanceHolds lists 0 (map (arg_value u) (IntArg (X 2) ∷ SetArg (S 1) ∷ [])) h n
      → InstanceHolds lists 0 (Number (u.number (x 0)) ∷ Members (u.members (s 0)) ∷ []) with_node (suc n)
  longer n f guard lits height rest = (
    sll,
    refl,
    (
      1,
      cons,
      u,
      n ∷ [],
      refl,
      (refl, ((λ z. refl), tt)),
      guard,
      lits,
      (
        h,
        own,
        n,
        [],
        refl,
        parts f,
        rest,
        (
          record { cells = empty; blocks = own.blocks },
          record { cells = own.cells; blocks = empty },
          (empty_beside own.cells, one_beside empty at 2 (get-empty int_cmp at)),
          (f.positive, refl, refl),
          (
            record { cells = insert empty at (value u (X 1)); blocks = empty },
            record { cells = second_cell; blocks = empty },
            (one_beside second_cell at (value u (X 1)) (only_second f), empty_beside empty),
            (f.positive, refl, refl),
            (record { cells = second_cell; blocks = empty }, no_store, beside_nothing (record { cells = second_cell; blocks = empty }), (f.positive_behind, refl, refl), (refl, refl)),
          ),
        ),
      ),
      height,
    ),
  )

-- ---- three nodes, at 10, 30 and 50

abbrev pub numbers : ℕ → ℕ → ℕ → ℕ → ℤ
numbers address content next zero = pos address
numbers address content next (suc zero) = pos content
numbers address content next _ = pos next

abbrev pub members : List ℤ → ℕ → ℕ → List ℤ
members rest content zero = rest ++ pos content ∷ []
members rest content _ = rest

-- the values of the clause's variables at a node, where the rest of the list has these members
abbrev pub node_values : ℕ → ℕ → ℕ → List ℤ → Assignment
node_values address content next rest = record { number = λ v. numbers address content next v.number; members = λ v. members rest content v.number }

abbrev pub third : Assignment
third = node_values 50 7 0 []

abbrev pub second : Assignment
second = node_values 30 6 50 (pos 7 ∷ [])

abbrev pub first : Assignment
first = node_values 10 5 30 (pos 7 ∷ pos 6 ∷ [])

abbrev pub one_node : Store
one_node = with_node third no_store

abbrev pub two_nodes : Store
two_nodes = with_node second one_node

abbrev pub three_nodes : Store
three_nodes = with_node first two_nodes

-- no cell and no block of the nodes so far has the number
none_at_one : (z : ℤ) → eq_by_cmp int_cmp z (pos 50) ≡ false → eq_by_cmp int_cmp z (pos 51) ≡ false → get one_node.cells z ≡ None
none_at_one z p q = still_none empty (pos 50) (pos 51) z (pos 7) (pos 0) p q (get-empty int_cmp z)

none_at_two : (z : ℤ) → eq_by_cmp int_cmp z (pos 30) ≡ false → eq_by_cmp int_cmp z (pos 31) ≡ false → eq_by_cmp int_cmp z (pos 50) ≡ false → eq_by_cmp int_cmp z (pos 51) ≡ false
    → get two_nodes.cells z ≡ None
none_at_two z p q r t = still_none one_node.cells (pos 30) (pos 31) z (pos 6) (pos 50) p q (none_at_one z r t)

positive : (n : ℕ) → pos 0 <ℤ pos (suc n)
positive n = omega (arith, ints)

not_zero : (n : ℕ) → ¬ (pos (suc n) ≡ pos 0)
not_zero n e = omega (arith, ints)

third_is_free : IsFreeNode third no_store
third_is_free = record { apart = refl; positive = positive 49; positive_behind = positive 50; free = get-empty int_cmp (pos 50); free_behind = get-empty int_cmp (pos 51); no_block = get-empty int_cmp (pos 50) }

second_is_free : IsFreeNode second one_node
second_is_free = record {
  apart = refl;
  positive = positive 29;
  positive_behind = positive 30;
  free = none_at_one (pos 30) refl refl;
  free_behind = none_at_one (pos 31) refl refl;
  no_block = get-insert int_cmp_total empty (pos 50) 2 (pos 30) ∙ get-empty int_cmp (pos 30);
}

first_is_free : IsFreeNode first two_nodes
first_is_free = record {
  apart = refl;
  positive = positive 9;
  positive_behind = positive 10;
  free = none_at_two (pos 10) refl refl refl refl;
  free_behind = none_at_two (pos 11) refl refl refl refl;
  no_block = get-insert int_cmp_total one_node.blocks (pos 30) 2 (pos 10) ∙ get-insert int_cmp_total empty (pos 50) 2 (pos 10) ∙ get-empty int_cmp (pos 10);
}

list_of_three : InstanceHolds lists 0 (Number (pos 10) ∷ Members (pos 7 ∷ pos 6 ∷ pos 5 ∷ []) ∷ []) three_nodes 3
list_of_three =
    longer first two_nodes 2 first_is_free (not_zero 9) ((λ z. refl), tt) refl
    (longer second one_node 1 second_is_free (not_zero 29) ((λ z. refl), tt) refl
    (longer third no_store 0 third_is_free (not_zero 49) ((λ z. refl), tt) refl empty_list))

-- the list's address, and its cardinality
abbrev pub begin_number : Bool → ℤ
begin_number true = pos 3
begin_number false = pos 10

abbrev pub begin : Assignment
begin = record { number = λ v. begin_number (sort_eq v.sort Card); members = λ v. pos 7 ∷ pos 6 ∷ pos 5 ∷ [] }

-- the heap of three nodes is one of the precondition `sll(x, s)`, at height 3
pub three_hold : SideHolds lists begin [] (list_at (X 0) (S 0) (Some (k 0)) ∷ []) three_nodes (3 ∷ [])
three_hold = (tt, (three_nodes, no_store, 3, [], refl, beside_nothing three_nodes, list_of_three, (refl, refl)), (refl, tt))

-- ---- its cells

-- a node has two cells
node_cells : (u : Assignment) (h : Store) (n : ℕ) → IsFreeNode u h → cell_count h ≡ n → cell_count (with_node u h) ≡ n + 1 + 1
node_cells u h n f e =
    let next : ℤ = value u (X 2) in
    let more : FinMap int_cmp ℤ = insert h.cells (behind u h) next in
    let free : get more (at u h) ≡ None = get-insert int_cmp_total h.cells (behind u h) next (at u h) ∙ ap (λ (t : Bool). cond t (Some next) (get h.cells (at u h))) f.apart ∙ f.free in
    len-insert int_cmp_total more (at u h) (value u (X 1))
    ∙ ap (λ (o : Option ℤ). cond (is_some o) (len more) (len more + 1)) free
    ∙ ap (λ (c : ℕ). c + 1)
    (len-insert int_cmp_total h.cells (behind u h) next ∙ ap (λ (o : Option ℤ). cond (is_some o) (len h.cells) (len h.cells + 1)) f.free_behind ∙ ap (λ (c : ℕ). c + 1) e)

pub three_count : cell_count three_nodes ≡ 6
three_count = node_cells first two_nodes 4 first_is_free (node_cells second one_node 2 second_is_free (node_cells third no_store 0 third_is_free (len-empty int_cmp ℤ)))
