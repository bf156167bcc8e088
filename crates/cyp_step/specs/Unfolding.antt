-- The rules Open and Close, which unfold an instance.
use Rattle.std.specs.Prelude.{[], ◌&&◌, ◌++◌, ◌-◌, Bool, List, None, Option, Some, false, filter, flat_map, length, map, nat_lt, not, option_map, slice_get, ℕ, ◌∷◌}
use Rattle.std.specs.List.{list_all}
use Rattle.cyp_heap.specs.Chunks.{insts, put_all, without}
use Rattle.cyp_heap.specs.Goals.{node_vars}
use Rattle.cyp_heap.specs.declared.chunk.Chunk.{Chunk}
use Rattle.cyp_heap.specs.declared.chunk.Chunk.TheVariants.{Inst}
use Rattle.cyp_heap.specs.declared.chunk.InstOf.{InstOf}
use Rattle.cyp_heap.specs.declared.goal.Goal.{Goal}
use Rattle.cyp_heap.specs.declared.goal.Link.{Link}
use Rattle.cyp_heap.specs.declared.goal.Node.{Node}
use Rattle.cyp_pred.specs.Unfold.{new_ints, new_sets, unfold_inst}
use Rattle.cyp_pred.specs.declared.unfolded.Next.{Next}
use Rattle.cyp_pred.specs.declared.unfolded.Unfolded.{Unfolded}
use Rattle.cyp_step.specs.Changes.{Raws, add_post, add_pre, next_of, post_of, pre_of, where_true}
use Rattle.cyp_step.specs.Shown.{is_program_expr}
use Rattle.cyp_term.specs.Terms.{is_set_var, set_var, var_in, var_term}
use Rattle.cyp_term.specs.declared.lit.Lit.{Lit}
use Rattle.cyp_term.specs.declared.lit.Lit.TheVariants.{Eq, Le, Lt, Ne}
use Rattle.cyp_term.specs.declared.subst.Subst.{Subst}
use Rattle.cyp_term.specs.declared.term.Term.{Term}
use Rattle.cyp_term.specs.declared.term.Var.{Var}

-- both sides of an integer literal are program expressions
abbrev pub is_testable : Goal → Lit → Bool
is_testable g (Eq a b) = is_program_expr g a && is_program_expr g b
is_testable g (Ne a b) = is_program_expr g a && is_program_expr g b
is_testable g (Le a b) = is_program_expr g a && is_program_expr g b
is_testable g (Lt a b) = is_program_expr g a && is_program_expr g b
is_testable g _ = false

-- the cardinality as a term in a list, which is empty where there is none
abbrev pub card_terms : Option Var → List Term
card_terms None = []
card_terms (Some c) = var_term c ∷ []

-- the cardinalities of the instances among the chunks, in order
abbrev pub cards_of : List Chunk → List Term
cards_of cs = flat_map (λ (j : InstOf). card_terms j.card) (insts cs)

-- the tuple of the last link, or nothing
abbrev pub last_tuple : List Link → List Term
last_tuple [] = []
last_tuple (l ∷ []) = l.tuple
last_tuple (l ∷ m ∷ ls) = last_tuple (m ∷ ls)

-- each variable outside the existentials to itself
abbrev pub identity_map : Node → Subst
identity_map n =
    let vs : List Var = filter (λ v. not (var_in v n.goal.exist)) (node_vars n) in
    record {
      ints = map (λ v. record { var = v; to = var_term v }) (filter (λ v. not (is_set_var v)) vs);
      sets = map (λ v. record { var = v; to = set_var v }) (filter is_set_var vs);
    }

-- this goal becomes a companion, measured by the last tuple, the opened instance and the other instances
abbrev pub open_link : Node → ℕ → InstOf → Link
open_link n i j =
    let measure : List Term = last_tuple n.links ++ card_terms j.card ++ cards_of (without (pre_of n) i) in
    record { goal = n.goal; own = measure; map = identity_map n; tuple = measure }

-- a clause's premise: its literals and heap replace the opened instance, and the companion is added
abbrev pub open_premise : Node → ℕ → Link → Unfolded → Node
open_premise n i l u =
    let m : Node = add_pre n (u.guard ∷ u.lits) (put_all (without (pre_of n) i) u.heap.chunks) in
    record m { links = n.links ++ l ∷ [] }

-- the instance is unfolded, one premise per clause
abbrev pub raw_open : Node → ℕ → Option Chunk → Raws
raw_open n i (Some (Inst j)) =
    let entries : List Unfolded = unfold_inst n.preds j (next_of n) in
    where_true (nat_lt (length n.links) 4 && nat_lt j.tag 255 && list_all (λ (u : Unfolded). is_testable n.goal u.guard) entries)
    (Some (map (open_premise n i (open_link n i j)) entries))
raw_open n i _ = None

-- the focus is folded by one clause, whose own variables become existentials
abbrev pub raw_close : Node → ℕ → Option Chunk → Raws
raw_close n c (Some (Inst j)) =
    let next : Next = next_of n in
    where_true (nat_lt j.tag 255) (option_map (λ (u : Unfolded).
    let m : Node = add_post n (u.guard ∷ u.lits) (put_all (without (post_of n) 0) u.heap.chunks) in
    let own : List Var = new_ints next.ints (u.next.ints - next.ints) ++ new_sets next.sets (u.next.sets - next.sets) in
    record m { goal = record m.goal { exist = n.goal.exist ++ own } } ∷ [])
    (slice_get (unfold_inst n.preds j next) c))
raw_close n c _ = None
