-- The normal form of a node under new names.
use Rattle.std.proofs.Common.{◌≡◌, ◌∙◌, List, Option, Some, None, cond, map, option_and_then, option_map, refl, ap, sym, subst}
use Rattle.std.proofs.lemmas.Option.{cond_some, option_and_then_some}
use Rattle.cyp_goal.proofs.Live.{among_in}
use Rattle.cyp_goal.proofs.Maps.{at_cond}
use Rattle.cyp_goal.proofs.NormalKeeps.{HasSorts, Kept, has_sorts, prune_keeps, solve_keeps, tidy_keeps}
use Rattle.cyp_goal.proofs.Rename.{IsRenaming, rename_node}
use Rattle.cyp_goal.proofs.RenameNumbers.{renumber-rename}
use Rattle.cyp_goal.proofs.RenamePrune.{prune-rename}
use Rattle.cyp_goal.proofs.RenameSolve.{solve-rename}
use Rattle.cyp_goal.proofs.RenameTidy.{tidy_node-rename}
use Rattle.cyp_goal.proofs.RenameSelf.{map_self, node_self, self}
use Rattle.cyp_goal.proofs.RenameTwice.{node_twice}
use Rattle.cyp_goal.proofs.Extended.{extended, extended_renames, extended_same}
use Rattle.cyp_goal.proofs.Renumber.{map_where, no_set, of_program}
use Rattle.cyp_goal.specs.Normal.{Renaming, keep_limits, normal, solve, tidy_node}
use Rattle.cyp_goal.specs.Numbering.{renumber}
use Rattle.cyp_goal.specs.Pruning.{prune}
use Rattle.cyp_goal.specs.RenamingLaw.{LogicalRenamingLaw, RenamingLaw, known_vars, rename_old}
use Rattle.cyp_heap.specs.Goals.{node_vars}
use Rattle.cyp_heap.specs.Limits.{is_within_limits}
use Rattle.cyp_heap.specs.declared.goal.Node.{Node}
use Rattle.cyp_term.proofs.Lists.{Among, Among-left, Among-right, filter_out}
use Rattle.cyp_term.specs.Terms.{is_set_var}
use Rattle.cyp_term.specs.declared.term.Var.{Var}

-- the steps behind solving
abbrev finish : Node → Option Renaming
finish m = keep_limits (prune (tidy_node m))

module _ (r : Var → Var) (is : IsRenaming r) where
  -- ---- the steps behind solving

  limits-rename : (n m : Node) → renumber m ≡ renumber n → m.goal.program ≡ map r n.goal.program → keep_limits m ≡ option_map (rename_old r) (keep_limits n)
  limits-rename n m e h =
      (λ i. cond (is_within_limits (e i)) (Some (record { node = e i; old = h i })) None)
      ∙ at_cond (option_map (rename_old r)) (is_within_limits (renumber n)) (Some (record { node = renumber n; old = n.goal.program })) None

  finish-rename : (m : Node) → HasSorts no_set is_set_var m → finish (rename_node r m) ≡ option_map (rename_old r) (finish m)
  finish-rename m fits =
      let t : Node = tidy_node m in
      ap keep_limits (ap prune (tidy_node-rename r is m) ∙ prune-rename r is t)
      ∙ limits-rename (prune t) (rename_node r (prune t))
      (renumber-rename r is (prune t) (prune_keeps no_set is_set_var t (tidy_keeps no_set is_set_var m fits))) refl

  -- ---- all steps

  finish_all : (o : Option Node) → ((m : Node) → o ≡ Some m → HasSorts no_set is_set_var m)
      → option_and_then finish (option_map (rename_node r) o) ≡ option_map (rename_old r) (option_and_then finish o)
  finish_all None h = refl
  finish_all (Some m) h = finish-rename m (h m refl)

  normal-rename : (n : Node) → HasSorts no_set is_set_var n → normal (rename_node r n) ≡ option_map (rename_old r) (normal n)
  normal-rename n fits =
      ap (option_and_then finish) (solve-rename r is n) ∙ finish_all (solve n) (λ m e. let k : Kept no_set is_set_var n m = solve_keeps no_set is_set_var n m fits e in k.fits)

-- ---- the names before

-- the program variables that are left are some of those that were there
old_among : (n : Node) (x : Renaming) → HasSorts no_set is_set_var n → normal n ≡ Some x → (v : Var) → Among v x.old → Among v n.goal.program
old_among n x fits e v k =
    option_and_then_some finish (solve n) x e (λ m solved kept.
    let y : Node = prune (tidy_node m) in
    let s : Kept no_set is_set_var n m = solve_keeps no_set is_set_var n m fits solved in
    let found = cond_some (is_within_limits (renumber y)) (record { node = renumber y; old = y.goal.program }) x kept in
    let left : Among v y.goal.program = subst (λ (z : Renaming). Among v z.old) (sym found.1) k in
    subst (Among v) s.program (filter_out _ v m.goal.program left).0)

old_by : (f g : Renaming → Renaming) (o : Option Renaming) → ((x : Renaming) → o ≡ Some x → f x ≡ g x) → option_map f o ≡ option_map g o
old_by f g None h = refl
old_by f g (Some x) h = ap Some (h x refl)

old_stays : (f : Renaming → Renaming) (o : Option Renaming) → ((x : Renaming) → o ≡ Some x → f x ≡ x) → option_map f o ≡ o
old_stays f None h = refl
old_stays f (Some x) h = ap Some (h x refl)

-- ---- the laws

pub renaming_law : RenamingLaw
renaming_law r n is sorted =
    let vs : List Var = known_vars n in
    let e : Var → Var = extended r vs is in
    let fits : HasSorts no_set is_set_var n = has_sorts no_set is_set_var n sorted in
    let same : (v : Var) → Among v vs → e v ≡ r v = extended_same r vs is in
    let node = ap (rename_node e) (sym (node_self n))
    ∙ node_twice self e r n (λ v k. same v (Among-left v (node_vars n) n.goal.exist k)) (λ v k. same v (Among-right v (node_vars n) n.goal.exist k)) in
    ap normal (sym node) ∙ normal-rename e (extended_renames r vs is) n fits
    ∙ old_by (rename_old e) (rename_old r) (normal n) (λ x found.
    let old = map_where e r x.old (λ v k. same v (Among-left v (node_vars n) n.goal.exist (of_program n v (old_among n x fits found v k)))) in
    λ i. record { node = x.node; old = old i })

pub logical_renaming_law : LogicalRenamingLaw
logical_renaming_law r n is sorted stay =
    renaming_law r n is sorted
    ∙ old_stays (rename_old r) (normal n) (λ x found.
    let old = map_where r self x.old (λ v k. stay v (among_in v n.goal.program (old_among n x (has_sorts no_set is_set_var n sorted) found v k)))
    ∙ map_self self (λ v. refl) x.old in
    λ i. record { node = x.node; old = old i })
