-- The numbers of a node's variables are below the numbers of new variables.
use Rattle.std.proofs.Common.{◌≡◌, refl, sym, ℕ, suc, ◌<◌, max, inl, inr, Bool, true, false, cond, List, [], ◌∷◌, ◌++◌, arith, subst}
use Rattle.std.proofs.lemmas.Bool.{false≢true}
use Rattle.cyp_goal.proofs.EachVar.{Each}
use Rattle.cyp_heap.specs.Goals.{node_vars}
use Rattle.cyp_heap.specs.declared.goal.Node.{Node}
use Rattle.cyp_pred.specs.declared.unfolded.Next.{Next}
use Rattle.cyp_step.specs.Changes.{above, next_of}
use Rattle.cyp_term.proofs.Lists.{Among, Among-left, Among-right}
use Rattle.cyp_term.specs.Terms.{sort_eq}
use Rattle.cyp_term.specs.declared.term.Sort.{Sort}
use Rattle.cyp_term.specs.declared.term.Sort.TheVariants.{Card, Int, Set}
use Rattle.cyp_term.specs.declared.term.Var.{Var}

-- the first number of new variables of the sort
abbrev pub next_at : Next → Sort → ℕ
next_at x Int = x.ints
next_at x Card = x.cards
next_at x Set = x.sets

-- the variable is not among the new ones
abbrev pub IsOld : Next → Var → Type 0
IsOld x v = v.number < next_at x v.sort

above_here : (b : Bool) (m k : ℕ) → b ≡ true → m < cond b (max (suc m) k) k
above_here true m k e = omega arith
above_here false m k e = absurd (false≢true e)

above_later : (b : Bool) (m k n : ℕ) → n < k → n < cond b (max (suc m) k) k
above_later true m k n h = omega arith
above_later false m k n h = h

number_below : (k : Sort) (v : Var) (vs : List Var) → sort_eq v.sort k ≡ true → Among v vs → v.number < above k vs
number_below k v [] s h = absurd h
number_below k v (w ∷ vs) s (inl e) =
    subst (λ (u : Var). u.number < above k (w ∷ vs)) (sym e) (above_here (sort_eq w.sort k) w.number (above k vs) (subst (λ (u : Var). sort_eq u.sort k ≡ true) e s))
number_below k v (w ∷ vs) s (inr h) = above_later (sort_eq w.sort k) w.number (above k vs) v.number (number_below k v vs s h)

-- the variables that new ones are to differ from
abbrev all_vars : Node → List Var
all_vars n = node_vars n ++ n.goal.exist

below_next : (n : Node) (k : Sort) (v : Var) → v.sort ≡ k → Among v (all_vars n) → v.number < next_at (next_of n) k
below_next n Int v e h = number_below Int v (all_vars n) (subst (λ (s : Sort). sort_eq s Int ≡ true) (sym e) refl) h
below_next n Card v e h = number_below Card v (all_vars n) (subst (λ (s : Sort). sort_eq s Card ≡ true) (sym e) refl) h
below_next n Set v e h = number_below Set v (all_vars n) (subst (λ (s : Sort). sort_eq s Set ≡ true) (sym e) refl) h

pub old_vars : (n : Node) → Each (IsOld (next_of n)) (node_vars n)
old_vars n v h = below_next n v.sort v refl (Among-left v (node_vars n) n.goal.exist h)

-- also the existentials that stand nowhere
pub old_exist : (n : Node) → Each (IsOld (next_of n)) n.goal.exist
old_exist n v h = below_next n v.sort v refl (Among-right v (node_vars n) n.goal.exist h)
