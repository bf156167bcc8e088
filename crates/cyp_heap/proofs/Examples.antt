-- The predicate of lists with their sets of contents: it is formed, and holds of the empty list and of a list of one. Then units of nodes, and the order of chunks.
use Rattle.std.proofs.Common.{◌≡◌, refl, ap, ◌∙◌, ℕ, zero, suc, Bool, true, false, ◌&&◌, List, [], ◌∷◌, ℤ, pos, ◌<ℤ◌, None, arith}
use Rattle.std.specs.Ordering.{int_cmp}
use Rattle.std.specs.Cmp.{int_cmp_total}
use Rattle.std.specs.FinMap.{empty, get, insert, get-empty, get-insert}
use Rattle.std.proofs.lemmas.Int.{ints}
use Rattle.cyp_heap.specs.Chunks.{put_all}
use Rattle.cyp_heap.specs.Instances.{InstanceHolds, Members, Number}
use Rattle.cyp_heap.specs.Limits.{node_units}
use Rattle.cyp_heap.specs.PredsFormed.{IsFormedPreds, clause_guards, is_productive, none_overlap}
use Rattle.cyp_heap.specs.Stores.{Store, no_store}
use Rattle.cyp_heap.specs.declared.chunk.Chunk.TheVariants.{Inst}
use Rattle.cyp_term.specs.Entailment.{arrangement_fits, arrangements, class_literals, satisfiable}
use Rattle.cyp_term.specs.Integers.{all_cases, all_zero, both, eliminate, eliminate_all, feasible, ints_fit, joined}
use Rattle.cyp_term.specs.Meaning.{Assignment}
use Rattle.cyp_term.specs.Regions.{all_set_vars, all_terms, regions_fit}
use Rattle.cyp_term.specs.declared.lit.Lit.TheVariants.{Eq, Ne}
use Rattle.cyp_heap.proofs.Short.{S, X, block, cell, cons, dispose, list_at, lists, nil, sll, write_five}
use Rattle.cyp_heap.proofs.Unions.{beside_nothing, empty_beside, nothing_beside, one_beside}

apart : none_overlap (clause_guards sll) ≡ true
unfolding joined eliminate eliminate_all feasible both all_cases ints_fit arrangements class_literals arrangement_fits satisfiable regions_fit all_terms all_set_vars
apart = refl

lists_formed : IsFormedPreds lists
lists_formed = record {
  few = refl;
  has_clauses = refl;
  few_clauses = refl;
  few_params = refl;
  params_sorted = refl;
  guards_plain = refl;
  guards_apart = ap (λ (b : Bool). b && true) apart;
  params_counted = refl;
  closed = refl;
  instances_plain = refl;
  productive = refl;
  clauses_within = refl;
}

-- the empty list is at 0, in the empty heap, without members and with height 0
empty_list : InstanceHolds lists 0 (Number (pos 0) ∷ Members [] ∷ []) no_store 0
empty_list = (sll, refl, (0, nil, all_zero, [], refl, (refl, ((λ z. refl), tt)), refl, ((λ z. refl), tt), (refl, refl), refl))

-- ---- a list of one, at the address 1 with the content 5

abbrev numbers : ℕ → ℤ
numbers zero = pos 1
numbers (suc zero) = pos 5
numbers _ = pos 0

abbrev sets : ℕ → List ℤ
sets zero = pos 5 ∷ []
sets _ = []

abbrev one : Assignment
one = record { number = λ v. numbers v.number; members = λ v. sets v.number }

abbrev next_cell : Store
next_cell = record { cells = insert empty (pos 2) (pos 0); blocks = empty }

abbrev two_cells : Store
two_cells = record { cells = insert next_cell.cells (pos 1) (pos 5); blocks = empty }

abbrev with_block : Store
with_block = record { cells = two_cells.cells; blocks = insert empty (pos 1) 2 }

one_not_zero : ¬ (pos 1 ≡ pos 0)
one_not_zero e = omega (arith, ints)

one_positive : pos 0 <ℤ pos 1
one_positive = omega (arith, ints)

two_positive : pos 0 <ℤ pos 2
two_positive = omega (arith, ints)

first_is_free : get next_cell.cells (pos 1) ≡ None
first_is_free = get-insert int_cmp_total empty (pos 2) (pos 0) (pos 1) ∙ get-empty int_cmp (pos 1)

list_of_one : InstanceHolds lists 0 (Number (pos 1) ∷ Members (pos 5 ∷ []) ∷ []) with_block 1
list_of_one = (
  sll,
  refl,
  (
    1,
    cons,
    one,
    0 ∷ [],
    refl,
    (refl, ((λ z. refl), tt)),
    one_not_zero,
    ((λ z. refl), tt),
    (
      no_store,
      with_block,
      0,
      [],
      refl,
      nothing_beside with_block,
      empty_list,
      (
        record { cells = empty; blocks = insert empty (pos 1) 2 },
        two_cells,
        (empty_beside two_cells.cells, one_beside empty (pos 1) 2 (get-empty int_cmp (pos 1))),
        (one_positive, refl, refl),
        (
          record { cells = insert empty (pos 1) (pos 5); blocks = empty },
          next_cell,
          (one_beside next_cell.cells (pos 1) (pos 5) first_is_free, empty_beside empty),
          (one_positive, refl, refl),
          (next_cell, no_store, beside_nothing next_cell, (two_positive, refl, refl), (refl, refl)),
        ),
      ),
    ),
    refl,
  ),
)

-- ---- what isn't formed

-- two guards that can both hold
not_apart : none_overlap (Eq (X 0) (X 0) ∷ Ne (X 0) (X 1) ∷ []) ≡ false
unfolding joined eliminate eliminate_all feasible both all_cases ints_fit arrangements class_literals arrangement_fits satisfiable regions_fit all_terms all_set_vars
not_apart = refl

-- an instance beside a block, without a cell
unproductive : is_productive (record cons { heap = record { chunks = Inst (record { pred = 0; args = []; card = None; tag = 0 }) ∷ block (X 0) 2 ∷ [] } }) ≡ false
unproductive = refl

-- ---- nodes

-- a program variable, two cells with an address and a content each
write_units : node_units write_five ≡ 7
write_units = refl

-- a program variable, an instance of an address and a set variable
dispose_units : node_units dispose ≡ 4
dispose_units = refl

-- instances stand before blocks and blocks before cells, each kind in the order in which they come
put_in_order : put_all (cell (X 0) (X 1) ∷ []) (cell (X 2) (X 3) ∷ block (X 2) 1 ∷ list_at (X 4) (S 0) None ∷ block (X 0) 1 ∷ [])
    ≡ list_at (X 4) (S 0) None ∷ block (X 2) 1 ∷ block (X 0) 1 ∷ cell (X 0) (X 1) ∷ cell (X 2) (X 3) ∷ []
put_in_order = refl
