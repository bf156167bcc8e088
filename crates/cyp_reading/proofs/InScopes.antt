-- What is read in a scope is what the tree says, where the scope is that of the tree.
use Rattle.std.proofs.Common.{Bool, List, [], ap, arith, cond, false, filter, length, length-append, sym, true, ◌≤◌, ◌∷◌, ◌≡◌}
use Rattle.cyp_reading.specs.InScope.{clause_in, goal_in}
use Rattle.cyp_reading.specs.Mended.{mended_text}
use Rattle.cyp_reading.proofs.MendedSame.{body_same, goal_names, universal_names}
use Rattle.cyp_term.specs.Terms.{sort_eq}
use Rattle.cyp_term.specs.declared.term.Sort.{Sort}
use Rattle.cyp_term.specs.declared.term.Sort.TheVariants.{Int, Set}
use Rattle.cyp_names.specs.PredFaults.{size_faults}
use Rattle.cyp_names.specs.ReadTerms.{Scope, read_chunks, read_lit, read_lits}
use Rattle.cyp_names.specs.Specifications.{clause_scope, count_sort, goal_scope, read_clause, read_goal, universal_scope}
use Rattle.cyp_names.specs.Uses.{Use}
use Rattle.cyp_text.specs.declared.tree.ClauseTree.{ClauseTree}
use Rattle.cyp_text.specs.declared.tree.ParamTree.{ParamTree}
use Rattle.cyp_text.specs.declared.tree.PredTree.{PredTree}
use Rattle.cyp_text.specs.declared.tree.TextTree.{TextTree}
use Rattle.cyp_names.proofs.GoalScopes.{goal_grows}

-- a clause without wrong sizes
pub clause_said : (qs : List PredTree) (ps : List ParamTree) (c : ClauseTree) → size_faults c.body ≡ [] → clause_in qs (clause_scope qs ps c) c ≡ read_clause qs ps c
clause_said qs ps c e =
    let sc : Scope = clause_scope qs ps c in
    λ i. record { guard = read_lit sc c.guard; lits = read_lits sc c.body; heap = record { chunks = read_chunks qs sc (body_same c.body e i) }; ints = count_sort Int sc; sets = count_sort Set sc }

-- a goal
pub goal_said : (t : TextTree) → goal_in (goal_scope t) (length (universal_scope t)) t ≡ read_goal (mended_text t)
goal_said t = λ i. goal_in (sym (goal_names t) i) (length (sym (universal_names t) i)) t

-- the universal names begin the scope
pub first_within : (t : TextTree) → length (universal_scope t) ≤ length (goal_scope t)
first_within t = omega (arith, ap length (goal_grows t).parts, length-append (universal_scope t) (goal_grows t).more)

-- no more names of a sort than names
pub count_within : (s : Sort) (sc : Scope) → count_sort s sc ≤ length sc
count_within s [] = omega arith
count_within s (u ∷ us) = by_test (sort_eq u.sort s) (count_within s us)
  where
    by_test : (b : Bool) → length (filter (λ (w : Use). sort_eq w.sort s) us) ≤ length us → length (cond b (u ∷ filter (λ (w : Use). sort_eq w.sort s) us) (filter (λ (w : Use). sort_eq w.sort s) us)) ≤ length (u ∷ us)
    by_test true h = omega (arith, h)
    by_test false h = omega (arith, h)
