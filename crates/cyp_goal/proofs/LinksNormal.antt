-- What the normal form keeps: of a node's companions, that they are well linked; of its instances, that they fit.
use Rattle.std.proofs.Common.{◌≡◌, ◌||◌, [], ap, ℕ, zero, suc, List, Option, Some, None, IfSome, length, map, map-id, refl, subst, sym, IsTrue}
use Rattle.std.specs.List.{AllByRecursion}
use Rattle.std.specs.Option.{option_and_then}
use Rattle.std.proofs.lemmas.Bool.{cond_both}
use Rattle.std.proofs.lemmas.Option.{IfSome_then}
use Rattle.cyp_goal.specs.Normal.{Renaming, keep_limits, normal, solve, tidy_node}
use Rattle.cyp_goal.specs.Numbering.{numbering, renumber}
use Rattle.cyp_goal.specs.Pruning.{only_vars, prune}
use Rattle.cyp_goal.specs.Solving.{first_solved, is_logical, solve_post, solve_pre, solved_any, solved_eq, substitute, with_post, with_pre}
use Rattle.cyp_term.specs.Terms.{var_in, wide_subst}
use Rattle.cyp_heap.specs.Formed.{IsWellLinked}
use Rattle.cyp_heap.specs.Goals.{apply_link, apply_node, node_vars, wide_node}
use Rattle.cyp_heap.specs.Limits.{is_within_limits}
use Rattle.cyp_heap.specs.declared.chunk.Heap.{Heap}
use Rattle.cyp_heap.specs.declared.goal.Goal.{Goal}
use Rattle.cyp_heap.specs.declared.goal.Link.{Link}
use Rattle.cyp_heap.specs.declared.goal.Node.{Node}
use Rattle.cyp_heap.specs.declared.pred.Preds.{Preds}
use Rattle.cyp_heap.proofs.PrefixTuples.{IsWellLinked-goal, IsWellLinked-map, KeepsLink, apply_link_keeps}
use Rattle.cyp_goal.proofs.LinksCards.{KeepsCards, PairKeeps, first_any_keeps, first_eq_keeps, numbering_keeps}
use Rattle.cyp_goal.proofs.LinksFit.{FitsPost, FitsPre, SidesFit, applied_sides}
use Rattle.cyp_term.specs.declared.lit.Lit.{Lit}
use Rattle.cyp_term.specs.declared.subst.Subst.{Subst}
use Rattle.cyp_term.specs.declared.term.Term.{Term}
use Rattle.cyp_term.specs.declared.term.Var.{Var}

-- the fact of nodes is kept by substitutions that keep cardinalities, by changes of a goal beside its chunks,
-- and by leaving entries out of the companions' maps
pub record IsKept (P : Node → Type 0) : Type 0 where
  pub applied : (by : Subst) → KeepsCards by → (n : Node) → P n → P (apply_node by n)
  pub beside : (n : Node) (g : Goal) → g.pre ≡ n.goal.pre → g.post ≡ n.goal.post → P n → P (record n { goal = g })
  pub maps : (n : Node) (vs : List Var) → P n → P (record n { links = map (λ (k : Link). record k { map = only_vars vs k.map }) n.links })

-- what comes of a node has the fact, and is within the limits
pub record IsKeptWithin (P : Node → Type 0) (r : Renaming) : Type 0 where
  pub fact : P r.node
  pub within : IsTrue (is_within_limits r.node)

pub IfSome-and_then : {A B : Type 0} (Q : A → Type 0) (R : B → Type 0) (f : A → Option B) → ((x : A) → Q x → IfSome (f x) R) → (o : Option A) → IfSome o Q → IfSome (option_and_then f o) R
IfSome-and_then Q R f h None k = tt
IfSome-and_then Q R f h (Some x) k = h x k

module _ (P : Node → Type 0) (kept : IsKept P) where
  substitute_kept : (by : Subst) → KeepsCards by → (n : Node) → P n → IfSome (substitute by n) P
  substitute_kept by k n p =
      cond_both (wide_subst by || wide_node (apply_node by n)) None (Some (apply_node by n)) (λ o. IfSome o P) (λ e. tt) (λ e. kept.applied by k n p)

  -- one turn of solving, by what is found
  turn_kept : (n : Node) (with_lits : List Lit → Node) (next : Node → Option Node) → P n → ((ls : List Lit) → P (with_lits ls)) → ((m : Node) → P m → IfSome (next m) P)
      → (o : Option (Subst × List Lit)) → PairKeeps o
      → IfSome {T = Node} (elim o [ None ↦ Some n | Some p ↦ option_and_then next (substitute p.0 (with_lits p.1)) ]) P
  turn_kept n with_lits next p q r None k = p
  turn_kept n with_lits next p q r (Some f) k =
      IfSome-and_then P P next r (substitute f.0 (with_lits f.1)) (substitute_kept f.0 k (with_lits f.1) (q f.1))

  solve_pre_kept : (k : ℕ) (n : Node) → P n → IfSome (solve_pre k n) P
  solve_pre_kept zero n p = p
  solve_pre_kept (suc k) n p =
      turn_kept n (with_pre n) (solve_pre k) p (λ ls. kept.beside n (record n.goal { pure_pre = ls }) refl refl p) (solve_pre_kept k)
      (first_solved (solved_eq (is_logical n.goal)) n.goal.pure_pre)
      (first_eq_keeps (is_logical n.goal) n.goal.pure_pre)

  solve_post_kept : (k : ℕ) (n : Node) → P n → IfSome (solve_post k n) P
  solve_post_kept zero n p = p
  solve_post_kept (suc k) n p =
      turn_kept n (with_post n) (solve_post k) p (λ ls. kept.beside n (record n.goal { pure_post = ls }) refl refl p) (solve_post_kept k)
      (first_solved (solved_any (λ v. var_in v n.goal.exist)) n.goal.pure_post)
      (first_any_keeps (λ v. var_in v n.goal.exist) n.goal.pure_post)

  solve_kept : (n : Node) → P n → IfSome (solve n) P
  solve_kept n p =
      IfSome-and_then P P (λ (m : Node). solve_post (length m.goal.pure_post) m) (λ m q. solve_post_kept (length m.goal.pure_post) m q)
      (solve_pre (length n.goal.pure_pre) n) (solve_pre_kept (length n.goal.pure_pre) n p)

  tidy_kept : (n : Node) → P n → P (tidy_node n)
  tidy_kept n p = kept.beside n (tidy_node n).goal refl refl p

  prune_kept : (n : Node) → P n → P (prune n)
  prune_kept n p = kept.maps (record n { goal = (prune n).goal }) _ (kept.beside n (prune n).goal refl refl p)

  -- the node before it is numbered
  pub pruned_kept : (n : Node) → P n → IfSome (solve n) (λ m. P (prune (tidy_node m)))
  pruned_kept n p = IfSome_then (solve n) (solve_kept n p) (λ m q. prune_kept (tidy_node m) (tidy_kept m q))

  pub renumber_kept : (n : Node) → P n → P (renumber n)
  renumber_kept n p =
      let m : Node = apply_node (numbering (node_vars n)) n in
      kept.beside m (renumber n).goal refl refl (kept.applied (numbering (node_vars n)) (numbering_keeps (node_vars n)) n p)

  limits_kept : (n : Node) → P n → IfSome (keep_limits n) (IsKeptWithin P)
  limits_kept n p =
      cond_both (is_within_limits (renumber n)) (Some (record { node = renumber n; old = n.goal.program })) None (λ o. IfSome o (IsKeptWithin P))
      (λ e. record { fact = renumber_kept n p; within = e })
      (λ e. tt)

  pub normal_kept : (n : Node) → P n → IfSome (normal n) (IsKeptWithin P)
  normal_kept n p =
      IfSome-and_then P (IsKeptWithin P) (λ m. keep_limits (prune (tidy_node m))) (λ m q. limits_kept (prune (tidy_node m)) (prune_kept (tidy_node m) (tidy_kept m q)))
      (solve n) (solve_kept n p)

-- ---- the facts

-- another map in each companion
other_map : (to : Link → Subst) → KeepsLink (λ (k : Link). record k { map = to k })
other_map to = record { goal = λ k. refl; own = λ k. refl; term = λ (t : Term). t; tuple = λ k. sym (map-id k.tuple) }

same_sides : (preds : Preds) (g h : Goal) → h.pre ≡ g.pre → h.post ≡ g.post → SidesFit preds g → SidesFit preds h
same_sides preds g h e d s = record {
  pre = subst (λ (x : Heap). AllByRecursion (FitsPre preds) x.chunks) (sym e) s.pre;
  post = subst (λ (x : Heap). AllByRecursion (FitsPost preds) x.chunks) (sym d) s.post;
}

pub linked_kept : IsKept IsWellLinked
linked_kept = record {
  applied = λ by k n w. IsWellLinked-map (apply_link by) (apply_link_keeps by) n (apply_node by n).goal w;
  beside = λ n g e f w. IsWellLinked-goal n g w;
  maps = λ n vs w. IsWellLinked-map (λ (k : Link). record k { map = only_vars vs k.map }) (other_map (λ k. only_vars vs k.map)) n n.goal w;
}

-- a normal form of a well linked node is well linked
pub normal_linked : (n : Node) → IsWellLinked n → IfSome (normal n) (IsKeptWithin IsWellLinked)
normal_linked = normal_kept IsWellLinked linked_kept

-- the node has these predicates, and each of its instances fits
pub record FitsOver (preds : Preds) (n : Node) : Type 0 where
  pub same : n.preds ≡ preds
  pub sides : SidesFit preds n.goal

pub fits_kept : (preds : Preds) → IsKept (FitsOver preds)
fits_kept preds = record {
  applied = λ by k n f. record { same = f.same; sides = applied_sides by preds k n.goal f.sides };
  beside = λ n g e d f. record { same = f.same; sides = same_sides preds n.goal g e d f.sides };
  maps = λ n vs f. record { same = f.same; sides = f.sides };
}

-- a normal form has instances that fit where the node has
pub normal_fits : (preds : Preds) (n : Node) → FitsOver preds n → IfSome (normal n) (IsKeptWithin (FitsOver preds))
normal_fits preds = normal_kept (FitsOver preds) (fits_kept preds)

bare_kept : IsKept (λ n. n.links ≡ [])
bare_kept = record {
  applied = λ by k n e. ap (map (apply_link by)) e;
  beside = λ n g e d h. h;
  maps = λ n vs e. ap (map (λ (k : Link). record k { map = only_vars vs k.map })) e;
}

-- a normal form of a node without companions has none
pub normal_bare : (n : Node) → n.links ≡ [] → IfSome (normal n) (IsKeptWithin (λ m. m.links ≡ []))
normal_bare = normal_kept (λ n. n.links ≡ []) bare_kept
