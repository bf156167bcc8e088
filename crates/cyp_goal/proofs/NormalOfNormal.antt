-- The normal form of a normal form is that normal form.
use Rattle.std.proofs.Common.{◌≡◌, ◌∙◌, ◌++◌, Some, None, true, cond, ◌&&◌, not, length, ℕ, zero, suc, option_and_then, refl, ap, ap₂, sym, subst, ⊎_elim}
use Rattle.std.specs.List.{list_all}
use Rattle.std.specs.Option.{is_none}
use Rattle.std.proofs.lemmas.Bool.{and_parts, both_ways, cond-true, false_from_ne_true, not-true, not_from_false}
use Rattle.std.proofs.lemmas.Option.{cond_some, option_and_then_some}
use Rattle.cyp_goal.proofs.FirstSolved.{none_found}
use Rattle.cyp_goal.proofs.Fits.{FitNode, lit_fits-other, node_parts}
use Rattle.cyp_goal.proofs.Live.{among_in, in_among}
use Rattle.cyp_goal.proofs.Maps.{list_all-map}
use Rattle.cyp_goal.proofs.PruneLeaves.{prune_again, prune_leaves}
use Rattle.cyp_goal.proofs.Ranks.{IsRenaming-name_in, name_in, name_in-new, named_stays}
use Rattle.cyp_goal.proofs.Rename.{IsRenaming, rename_lit, rename_node}
use Rattle.cyp_goal.proofs.RenameFits.{fit_renamed}
use Rattle.cyp_goal.proofs.RenamePrune.{prune-rename}
use Rattle.cyp_goal.proofs.RenameSelf.{node_self, self}
use Rattle.cyp_goal.proofs.RenameTidy.{tidy_node-rename}
use Rattle.cyp_goal.proofs.RenameVars.{node_vars-rename, var_in-rename}
use Rattle.cyp_goal.proofs.Renumber.{no_set, of_post, of_pure_post, renumber-renames}
use Rattle.cyp_goal.proofs.Shrink.{node_vars-shrink, prune-shrink, shrink_again, shrink_node, tidy-shrink}
use Rattle.cyp_goal.proofs.SolveLeaves.{apart, post_at, pre_at, solve_leaves}
use Rattle.cyp_goal.proofs.SolvedLits.{solved_any-rename, solved_eq-less, solved_eq-rename}
use Rattle.cyp_goal.proofs.TidyLeaves.{IsTidy, tidy_leaves, tidy_same}
use Rattle.cyp_goal.specs.Laws.{NormalOfNormal}
use Rattle.cyp_goal.specs.Normal.{Renaming, keep_limits, normal, solve, tidy_node}
use Rattle.cyp_goal.specs.Numbering.{new_name, renumber}
use Rattle.cyp_goal.specs.Pruning.{prune}
use Rattle.cyp_goal.specs.Solving.{first_solved, is_logical, solve_post, solve_pre, solved_any, solved_eq}
use Rattle.cyp_goal.specs.Raw.{IsRegular, lit_fits}
use Rattle.cyp_heap.specs.Chunks.{chunks_vars}
use Rattle.cyp_heap.specs.Goals.{node_vars}
use Rattle.cyp_heap.specs.Limits.{is_within_limits}
use Rattle.cyp_heap.specs.declared.goal.Goal.{Goal}
use Rattle.cyp_heap.specs.declared.goal.Node.{Node}
use Rattle.cyp_term.proofs.Lists.{Among, Among-cases, Among-map, each_at, each_from, filter_out, flat_in, map_from}
use Rattle.cyp_term.specs.Terms.{is_set_var, lit_vars, lits_vars, sort_eq, var_in}
use Rattle.cyp_term.specs.declared.term.Sort.TheVariants.{Set}
use Rattle.cyp_term.specs.declared.term.Var.{Var}

-- ---- the middle: nothing left for any step but numbers, which are given in order

-- nothing is left to solve, to drop or to add, and variables have the sorts of their places
pub record IsReduced (n : Node) : Type 0 where
  pub tidy : IsTidy no_set is_set_var n
  pub pruned : prune n ≡ n
  pub exist_used : (v : Var) → Among v n.goal.exist → Among v (node_vars n)

-- a goal's precondition without an existential
avoids_exist : (g : Goal) → list_all (lit_fits no_set is_set_var) g.pure_pre ≡ true → list_all (λ v. not (var_in v (lits_vars g.pure_pre))) g.exist ≡ true
    → list_all (lit_fits (apart g.exist) (apart g.exist)) g.pure_pre ≡ true
avoids_exist g f h =
    each_from (lit_fits (apart g.exist) (apart g.exist)) g.pure_pre (λ l k.
    lit_fits-other no_set is_set_var (apart g.exist) l (each_at (lit_fits no_set is_set_var) l g.pure_pre f k) (λ v i.
    not_from_false (var_in v g.exist) (false_from_ne_true (var_in v g.exist) (λ e.
    both_ways (var_in v (lits_vars g.pure_pre)) (not-true (var_in v (lits_vars g.pure_pre)) (each_at (λ w. not (var_in w (lits_vars g.pure_pre))) v g.exist h (in_among v g.exist e)))
    (among_in v (lits_vars g.pure_pre) (flat_in lit_vars v l g.pure_pre k i))))))

-- the steps before the last leave a reduced node
reduced : (n s : Node) → IsRegular n → solve n ≡ Some s → IsReduced (prune (tidy_node s))
reduced n s regular e =
    let fits : FitNode no_set is_set_var n = node_parts no_set is_set_var n regular.sorted regular.pre_once regular.post_once in
    let t : Node = tidy_node s in
    let tidy : IsTidy no_set is_set_var t = tidy_leaves no_set is_set_var s (solve_leaves no_set is_set_var n s fits (avoids_exist n.goal fits.pure_pre regular.exist_apart) e) in
    record {
      tidy = prune_leaves no_set is_set_var t tidy;
      pruned = prune_again t;
      exist_used = λ v k.
          ⊎_elim (of_post (prune t) v) (of_pure_post (prune t) v)
          (Among-cases v (chunks_vars t.goal.post.chunks) (lits_vars t.goal.pure_post)
          (in_among v (chunks_vars t.goal.post.chunks ++ lits_vars t.goal.pure_post)
          (filter_out (λ w. var_in w (chunks_vars t.goal.post.chunks ++ lits_vars t.goal.pure_post)) v t.goal.exist k).1));
    }

-- ---- solving does nothing where nothing can be solved

pre_solved : (k : ℕ) (n : Node) → first_solved (solved_eq (is_logical n.goal)) n.goal.pure_pre ≡ None → solve_pre k n ≡ Some n
pre_solved zero n e = refl
pre_solved (suc k) n e = ap (pre_at k n) e

post_solved : (k : ℕ) (n : Node) → first_solved (solved_any (λ v. var_in v n.goal.exist)) n.goal.pure_post ≡ None → solve_post k n ≡ Some n
post_solved zero n e = refl
post_solved (suc k) n e = ap (post_at k n) e

abbrev itself : Node → Renaming
itself x = record { node = x; old = x.goal.program }

-- a reduced node whose set terms can't shrink
module _ (n : Node) (is : IsReduced n) (small : (r : Var → Var) → IsRenaming r → shrink_node (rename_node r n) ≡ rename_node r n) where
  abbrev r : Var → Var
  r = name_in (node_vars n)

  renames : IsRenaming r
  renames = IsRenaming-name_in (node_vars n)

  abbrev m : Node
  m = rename_node r n

  solve_numbered : solve m ≡ Some m
  solve_numbered =
      let g : Goal = n.goal in
      let none_pre : list_all (λ l. is_none (solved_eq (is_logical m.goal) l)) m.goal.pure_pre ≡ true =
      list_all-map (rename_lit r) (λ l. is_none (solved_eq (is_logical g) l)) (λ l. is_none (solved_eq (is_logical m.goal) l))
      (solved_eq-rename r renames (is_logical g) (is_logical m.goal) (λ v. ap₂ (λ a b. not a && not b) (var_in-rename r renames v g.program) (var_in-rename r renames v g.exist))) g.pure_pre
      ∙ each_from (λ l. is_none (solved_eq (is_logical g) l)) g.pure_pre (λ l k.
      solved_eq-less (apart g.program) (is_logical g) l (λ v _ e. (and_parts (not (var_in v g.program)) (not (var_in v g.exist)) e).0)
      (each_at (λ x. is_none (solved_eq (apart g.program) x)) l g.pure_pre is.tidy.solved.none_pre k)) in
      let none_post : list_all (λ l. is_none (solved_any (λ v. var_in v m.goal.exist) l)) m.goal.pure_post ≡ true =
      list_all-map (rename_lit r) (λ l. is_none (solved_any (λ v. var_in v g.exist) l)) (λ l. is_none (solved_any (λ v. var_in v m.goal.exist) l))
      (solved_any-rename r renames (λ v. var_in v g.exist) (λ v. var_in v m.goal.exist) (λ v. var_in-rename r renames v g.exist)) g.pure_post
      ∙ is.tidy.solved.none_post in
      ap (option_and_then (λ (x : Node). solve_post (length x.goal.pure_post) x))
      (pre_solved (length m.goal.pure_pre) m (none_found (solved_eq (is_logical m.goal)) m.goal.pure_pre none_pre))
      ∙ post_solved (length m.goal.pure_post) m (none_found (solved_any (λ v. var_in v m.goal.exist)) m.goal.pure_post none_post)

  tidy_numbered : tidy_node m ≡ m
  tidy_numbered = tidy_node-rename r renames n ∙ ap (rename_node r) (tidy_same no_set is_set_var n is.tidy)

  prune_numbered : prune m ≡ m
  prune_numbered = prune-rename r renames n ∙ ap (rename_node r) is.pruned

  -- the variables of the numbered node are the new names of those of the node
  renamed_from : (v : Var) → Among v (node_vars m) → (w : Var) × Among w (node_vars n) × (v ≡ r w)
  renamed_from v k = map_from r v (node_vars n) (subst (Among v) (node_vars-rename r renames n) k)

  keeps_name : (v : Var) → Among v (node_vars m) → new_name (node_vars m) v ≡ self v
  keeps_name v k =
      let w = renamed_from v k in
      ap₂ new_name (node_vars-rename r renames n) w.2 ∙ named_stays (node_vars n) w.0 w.1 ∙ sym w.2

  renamed_exist : (v : Var) → Among v m.goal.exist → Among v (node_vars m)
  renamed_exist v k =
      let w = map_from r v n.goal.exist k in
      subst (Among v) (sym (node_vars-rename r renames n)) (rw w.2 (Among-map r w.0 (node_vars n) (is.exist_used w.0 w.1)))

  renumber_numbered : renumber m ≡ m
  renumber_numbered =
      renumber-renames m self (record { apart = λ v w. refl; sort = λ v. refl }) keeps_name
      (fit_renamed r renames no_set is_set_var (λ v. ap (λ s. not (sort_eq s Set)) (renames.sort v)) (λ v. ap (λ s. sort_eq s Set) (renames.sort v)) n is.tidy.solved.fits) renamed_exist
      ∙ node_self (shrink_node m)
      ∙ small r renames

  -- a numbered node within limits is its own normal form
  normal_numbered : is_within_limits m ≡ true → normal m ≡ Some (itself m)
  normal_numbered within =
      ap (option_and_then (λ (x : Node). keep_limits (prune (tidy_node x)))) solve_numbered
      ∙ ap keep_limits (ap prune tidy_numbered ∙ prune_numbered)
      ∙ ap (λ (x : Node). cond (is_within_limits x) (Some (record { node = x; old = m.goal.program })) None) renumber_numbered
      ∙ cond-true (is_within_limits m) (Some (itself m)) None within

-- ---- the whole

shrunk : (n : Node) → IsReduced n → IsReduced (shrink_node n)
shrunk n is = record {
  tidy = tidy-shrink no_set is_set_var n is.tidy;
  pruned = prune-shrink n ∙ ap shrink_node is.pruned;
  exist_used = λ v k. subst (Among v) (sym (node_vars-shrink n)) (is.exist_used v k);
}

-- numbering anew also shrinks set terms
numbered_is : (n : Node) → IsReduced n → renumber n ≡ rename_node (name_in (node_vars (shrink_node n))) (shrink_node n)
numbered_is n is =
    renumber-renames n (name_in (node_vars n)) (IsRenaming-name_in (node_vars n)) (name_in-new (node_vars n)) is.tidy.solved.fits is.exist_used
    ∙ ap (λ vs. rename_node (name_in vs) (shrink_node n)) (sym (node_vars-shrink n))

normal_renumbered : (n : Node) → IsReduced n → (x : Renaming) → keep_limits n ≡ Some x → normal x.node ≡ Some (itself x.node)
normal_renumbered n is x e =
    let found = cond_some (is_within_limits (renumber n)) (record { node = renumber n; old = n.goal.program }) x e in
    let numbered = numbered_is n is in
    subst (λ (y : Node). normal y ≡ Some (itself y)) (sym numbered ∙ ap (λ (y : Renaming). y.node) found.1)
    (normal_numbered (shrink_node n) (shrunk n is) (λ r renames. shrink_again r renames n) (ap is_within_limits (sym numbered) ∙ found.0))

pub normal_of_normal : NormalOfNormal
normal_of_normal n x regular e =
    option_and_then_some (λ (s : Node). keep_limits (prune (tidy_node s))) (solve n) x e (λ s solved kept.
    normal_renumbered (prune (tidy_node s)) (reduced n s regular solved) x kept)
