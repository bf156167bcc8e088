-- What the program variables of a normal form were called: they are some of those that were there.
use Rattle.std.proofs.Common.{◌≡◌, ◌∙◌, ℕ, zero, suc, List, Bool, true, false, cond, Option, Some, None, length, refl, sym, ap, subst}
use Rattle.std.specs.Option.{option_and_then}
use Rattle.std.proofs.lemmas.List.{length-map}
use Rattle.std.proofs.lemmas.Option.{cond_some, none-some, option_and_then_some, same_Some}
use Rattle.cyp_goal.specs.Normal.{Renaming, keep_limits, normal, solve, tidy_node}
use Rattle.cyp_goal.specs.Numbering.{new_name, renumber}
use Rattle.cyp_goal.specs.Pruning.{prune}
use Rattle.cyp_goal.specs.Solving.{first_solved, is_logical, solve_post, solve_pre, solved_any, solved_eq, substitute, with_post, with_pre}
use Rattle.cyp_heap.specs.Goals.{apply_node, node_vars}
use Rattle.cyp_heap.specs.Limits.{is_within_limits}
use Rattle.cyp_heap.specs.declared.goal.Node.{Node}
use Rattle.cyp_term.proofs.Lists.{Among, filter_out}
use Rattle.cyp_term.specs.Terms.{var_in}
use Rattle.cyp_term.specs.declared.lit.Lit.{Lit}
use Rattle.cyp_term.specs.declared.subst.Subst.{Subst}
use Rattle.cyp_term.specs.declared.term.Var.{Var}

-- ---- solving keeps the program variables

abbrev SameProgram : Node → Node → Type 0
SameProgram n m = m.goal.program ≡ n.goal.program

itself : (n m : Node) → ◌≡◌ {A = Option Node} (Some n) (Some m) → SameProgram n m
itself n m e = ap (λ (x : Node). x.goal.program) (sym (same_Some n m e))

put_in : (b : Bool) (n m : Node) → cond b None (Some n) ≡ Some m → SameProgram n m
put_in true n m e = absurd (none-some m e)
put_in false n m e = itself n m e

-- one turn, and the others
module _ (put : Node → List Lit → Node) (same : (n : Node) (ls : List Lit) → SameProgram n (put n ls)) (go : Node → Option Node) (kept : (n m : Node) → go n ≡ Some m → SameProgram n m) where
  turned : (n : Node) (o : Option (Subst × List Lit)) (m : Node) → elim o [
    | None ↦ Some n
    | Some p ↦ option_and_then go (substitute p.0 (put n p.1))
  ] ≡ Some m → SameProgram n m
  turned n None m e = itself n m e
  turned n (Some p) m e =
      option_and_then_some go (substitute p.0 (put n p.1)) m e (λ x done rest.
      kept x m rest ∙ put_in _ (apply_node p.0 (put n p.1)) x done ∙ same n p.1)

pre_kept : (k : ℕ) (n m : Node) → solve_pre k n ≡ Some m → SameProgram n m
pre_kept zero n m e = itself n m e
pre_kept (suc k) n m e = turned with_pre (λ x ls. refl) (solve_pre k) (pre_kept k) n (first_solved (solved_eq (is_logical n.goal)) n.goal.pure_pre) m e

post_kept : (k : ℕ) (n m : Node) → solve_post k n ≡ Some m → SameProgram n m
post_kept zero n m e = itself n m e
post_kept (suc k) n m e =
    turned with_post (λ x ls. refl) (solve_post k) (post_kept k) n (first_solved (solved_any (λ v. var_in v n.goal.exist)) n.goal.pure_post) m e

solve_kept : (n m : Node) → solve n ≡ Some m → SameProgram n m
solve_kept n m e =
    option_and_then_some (λ (x : Node). solve_post (length x.goal.pure_post) x) (solve_pre (length n.goal.pure_pre) n) m e
    (λ x first then. post_kept (length x.goal.pure_post) x m then ∙ pre_kept (length n.goal.pure_pre) n x first)

-- ---- the normal form

-- the node behind a normal form
record Behind (n : Node) (x : Renaming) : Type 0 where
  solved : Node
  program : SameProgram n solved
  is : ◌≡◌ {A = Renaming} (record { node = renumber (prune (tidy_node solved)); old = (prune (tidy_node solved)).goal.program }) x

behind : (n : Node) (x : Renaming) → normal n ≡ Some x → Behind n x
behind n x e =
    option_and_then_some (λ (m : Node). keep_limits (prune (tidy_node m))) (solve n) x e (λ m done kept.
    let y : Node = prune (tidy_node m) in
    record {
      solved = m;
      program = solve_kept n m done;
      is = (cond_some (is_within_limits (renumber y)) (record { node = renumber y; old = y.goal.program }) x kept).1;
    })

pub old_among : (n : Node) (x : Renaming) → normal n ≡ Some x → (v : Var) → Among v x.old → Among v n.goal.program
old_among n x e v k =
    let b : Behind n x = behind n x e in
    let left : Among v (prune (tidy_node b.solved)).goal.program = subst (λ (y : Renaming). Among v y.old) (sym b.is) k in
    subst (Among v) b.program (filter_out _ v b.solved.goal.program left).0

-- each program variable had one name
pub old_length : (n : Node) (x : Renaming) → normal n ≡ Some x → length x.old ≡ length x.node.goal.program
old_length n x e =
    let b : Behind n x = behind n x e in
    let y : Node = prune (tidy_node b.solved) in
    subst (λ (z : Renaming). length z.old ≡ length z.node.goal.program) b.is (sym (length-map y.goal.program (new_name (node_vars y))))
