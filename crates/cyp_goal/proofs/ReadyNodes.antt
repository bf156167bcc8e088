-- A node is ready to be numbered after the other steps; within limits it then keeps what each node keeps.
use Rattle.std.proofs.Common.{◌≡◌, ◌∙◌, ◌++◌, ap, option_and_then, IfSome, IsTrue, List, None, Option, Some, refl, subst, sym, ⊎_elim}
use Rattle.std.specs.List.{list_all}
use Rattle.cyp_goal.proofs.LinksFit.{insts_fit_from, sides_fit}
use Rattle.cyp_goal.proofs.LinksNormal.{FitsOver, fits_kept, linked_kept, pruned_kept, renumber_kept}
use Rattle.cyp_goal.proofs.Live.{among_in, in_among}
use Rattle.cyp_goal.proofs.NumberedKeeps.{numbers_low, sorts_from}
use Rattle.cyp_goal.proofs.Renumber.{of_post, of_pure_post}
use Rattle.cyp_goal.specs.Named.{PartsFit}
use Rattle.cyp_goal.specs.Normal.{keep_limits, normal, solve, tidy_node}
use Rattle.cyp_goal.specs.Numbering.{renumber}
use Rattle.cyp_goal.specs.Pruning.{prune}
use Rattle.cyp_goal.specs.Ready.{IsReady}
use Rattle.cyp_heap.specs.Chunks.{chunks_vars}
use Rattle.cyp_heap.specs.Formed.{IsWellLinked, insts_fit}
use Rattle.cyp_heap.specs.Goals.{node_vars}
use Rattle.cyp_heap.specs.Keeps.{KeepsNode}
use Rattle.cyp_heap.specs.Limits.{is_within_limits}
use Rattle.cyp_heap.specs.declared.goal.Node.{Node}
use Rattle.cyp_heap.specs.declared.pred.Preds.{Preds}
use Rattle.cyp_term.proofs.Lists.{Among-cases, each_from, filter_out}
use Rattle.cyp_term.specs.Terms.{lits_vars, var_in}
use Rattle.cyp_term.specs.declared.term.Var.{Var}

-- each existential that is left stands in the post
exist_used : (t : Node) → IsTrue (list_all (λ v. var_in v (node_vars (prune t))) (prune t).goal.exist)
exist_used t =
    let late : List Var = chunks_vars t.goal.post.chunks ++ lits_vars t.goal.pure_post in
    each_from (λ v. var_in v (node_vars (prune t))) (prune t).goal.exist (λ v k.
    among_in v (node_vars (prune t))
    (⊎_elim (of_post (prune t) v) (of_pure_post (prune t) v)
    (Among-cases v (chunks_vars t.goal.post.chunks) (lits_vars t.goal.pure_post) (in_among v late (filter_out (λ w. var_in w late) v t.goal.exist k).1))))

-- a node that is solved is ready after the steps behind
pub ready_from : (n : Node) → IsWellLinked n → IsTrue (insts_fit n.preds n.goal) → IfSome (solve n) (λ m. IsReady (prune (tidy_node m)))
ready_from n linked fits =
    both (solve n) (pruned_kept IsWellLinked linked_kept n linked)
    (pruned_kept (FitsOver n.preds) (fits_kept n.preds) n (record { same = refl; sides = sides_fit n.preds n.goal fits }))
  where
    both : (o : Option Node) → IfSome o (λ m. IsWellLinked (prune (tidy_node m))) → IfSome o (λ m. FitsOver n.preds (prune (tidy_node m))) → IfSome o (λ m. IsReady (prune (tidy_node m)))
    both None h k = tt
    both (Some m) h k = record {
      linked = h;
      fits = subst (λ (p : Preds). IsTrue (insts_fit p (prune (tidy_node m)).goal)) (sym k.same) (insts_fit_from n.preds (prune (tidy_node m)).goal k.sides);
      used = exist_used (tidy_node m);
    }

-- the steps taken one by one
module _ (n s t p : Node) (solved : solve n ≡ Some s) (tidied : t ≡ tidy_node s) (pruned : p ≡ prune t) where
  pub ready_pruned : IsWellLinked n → IsTrue (insts_fit n.preds n.goal) → IsReady p
  ready_pruned linked fits =
      subst IsReady (sym (pruned ∙ ap prune tidied)) (subst (λ (o : Option Node). IfSome o (λ m. IsReady (prune (tidy_node m)))) solved (ready_from n linked fits))

  pub normal_pruned : normal n ≡ keep_limits p
  normal_pruned = ap (option_and_then (λ (m : Node). keep_limits (prune (tidy_node m)))) solved ∙ ap keep_limits (sym (pruned ∙ ap prune tidied))

pub keeps_numbered : (n : Node) → IsReady n → PartsFit n → IsTrue (is_within_limits (renumber n)) → KeepsNode (renumber n)
keeps_numbered n is parts within = record {
  within = within;
  fits = insts_fit_from n.preds (renumber n).goal (renumber_kept (FitsOver n.preds) (fits_kept n.preds) n (record { same = refl; sides = sides_fit n.preds n.goal is.fits })).sides;
  linked = renumber_kept IsWellLinked linked_kept n is.linked;
  low = numbers_low n (sorts_from n is.fits parts) is.used within;
}
