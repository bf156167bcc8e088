-- Normal form: literals that say nothing, and literals that addresses are positive.
use Rattle.std.specs.Prelude.{[], ◌&&◌, ◌++◌, Bool, List, None, Some, cond, false, filter, flat_map, int_le, int_lt, map, not, pos, ℤ, ◌∷◌}
use Rattle.std.specs.Ordering.{int_eq}
use Rattle.cyp_heap.specs.declared.chunk.Chunk.{Chunk}
use Rattle.cyp_heap.specs.declared.chunk.Chunk.TheVariants.{Block, Cell, Inst}
use Rattle.cyp_heap.specs.declared.goal.Goal.{Goal}
use Rattle.cyp_term.specs.Terms.{base_eq, lit_eq, number_term, set_eq, term_vars, var_eq, with_all_new, without_repeats}
use Rattle.cyp_term.specs.declared.lit.Lit.{Lit}
use Rattle.cyp_term.specs.declared.lit.Lit.TheVariants.{Eq, Le, Lt, Ne, Same}
use Rattle.cyp_term.specs.declared.term.Term.{Term}
use Rattle.cyp_term.specs.declared.term.Var.{Var}

-- the sides of an integer literal have the same base or none, and it is true
abbrev pub is_plainly_true : Lit → Bool
is_plainly_true (Eq a b) = base_eq a.base b.base && int_eq a.offset b.offset
is_plainly_true (Ne a b) = base_eq a.base b.base && not (int_eq a.offset b.offset)
is_plainly_true (Le a b) = base_eq a.base b.base && int_le a.offset b.offset
is_plainly_true (Lt a b) = base_eq a.base b.base && int_lt a.offset b.offset
is_plainly_true (Same a b) = set_eq a b
is_plainly_true _ = false

-- without literals that are plainly true and without repeats
abbrev pub tidy_lits : List Lit → List Lit
tidy_lits ls = without_repeats lit_eq (filter (λ l. not (is_plainly_true l)) ls)

-- ---- addresses are positive

-- the address of a cell or the base of a block; an instance gives none
abbrev pub address : Chunk → List Term
address (Inst i) = []
address (Block k) = k.at ∷ []
address (Cell k) = k.at ∷ []

-- the least of these and the first
abbrev pub least : ℤ → List ℤ → ℤ
least z [] = z
least z (y ∷ ys) = least (cond (int_lt y z) y z) ys

-- the least of these, or 0 where there are none
abbrev pub least_of : List ℤ → ℤ
least_of [] = pos 0
least_of (z ∷ zs) = least z zs

-- the offsets of the addresses with this base
abbrev pub offsets_at : Var → List Term → List ℤ
offsets_at v ts = map (λ (t : Term). t.offset) (filter (λ (t : Term). base_eq (Some v) t.base) ts)

-- that the term is greater than 0
abbrev pub above_zero : Term → Lit
above_zero t = Lt (number_term (pos 0)) t

-- for each base the least address, and each plain number that isn't positive
abbrev pub address_lits : List Term → List Lit
address_lits ts =
    map (λ v. above_zero (record { base = Some v; offset = least_of (offsets_at v ts) })) (without_repeats var_eq (flat_map term_vars ts))
    ++ map above_zero (filter (λ (t : Term). base_eq t.base None && int_le t.offset (pos 0)) ts)

-- the pure precondition also says that the addresses of its heap are positive
abbrev pub with_addresses : Goal → Goal
with_addresses g = record g { pure_pre = with_all_new lit_eq g.pure_pre (address_lits (flat_map address g.pre.chunks)) }
