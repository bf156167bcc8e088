-- The normal form keeps the meaning of a node.
use Rattle.std.proofs.Common.{◌≡◌, refl, ap, Bool, true, not, List, ◌++◌, Option, Some, None, is_none, subst, ⊎_elim}
use Rattle.std.specs.List.{list_all}
use Rattle.std.proofs.lemmas.Bool.{and_from, both_ways, cases_Bool, false≢true, not-true}
use Rattle.std.proofs.lemmas.Option.{cond_some, option_and_then_some}
use Rattle.cyp_goal.proofs.EachVar.{EachPart, each_part}
use Rattle.cyp_goal.proofs.Fits.{lit_fits-other}
use Rattle.cyp_goal.proofs.Live.{among_in, in_among}
use Rattle.cyp_goal.proofs.NormalKeeps.{HasSorts, Kept, has_sorts, prune_keeps, solve_keeps, tidy_keeps}
use Rattle.cyp_goal.proofs.Renumber.{no_set}
use Rattle.cyp_goal.proofs.SolveLeaves.{apart}
use Rattle.cyp_goal.specs.Normal.{Renaming, keep_limits, normal, solve, tidy_node}
use Rattle.cyp_goal.specs.Numbering.{renumber}
use Rattle.cyp_goal.specs.Pruning.{prune}
use Rattle.cyp_goal.specs.Raw.{chunk_fits, lit_fits}
use Rattle.cyp_heap.specs.Chunks.{card_vars, chunk_vars, chunks_vars}
use Rattle.cyp_heap.specs.Formed.{is_card_var}
use Rattle.cyp_heap.specs.Goals.{node_vars}
use Rattle.cyp_heap.specs.Limits.{is_within_limits}
use Rattle.cyp_heap.specs.declared.goal.Node.{Node}
use Rattle.cyp_kernel.proofs.NumberMeaning.{number_meaning}
use Rattle.cyp_kernel.proofs.PassedVars.{chunk_passes}
use Rattle.cyp_kernel.proofs.PlainCards.{of_card, plain_cards}
use Rattle.cyp_kernel.proofs.SolveMeaning.{IsApart, keeps_then, solve_meaning}
use Rattle.cyp_kernel.proofs.TidyMeaning.{pruning_keeps, tidying_keeps}
use Rattle.cyp_kernel.specs.Meaning.{FormedIsReady, IsReady, KeepsMeaning, KeepsRenamed, NormalKeeps, SolvingKeeps}
use Rattle.cyp_term.proofs.Lists.{Among, Among-cases, Among-left, Among-right, each_at, each_from, filter_out, flat_in}
use Rattle.cyp_term.specs.Terms.{is_set_var, lits_vars, lit_vars, var_in}
use Rattle.cyp_term.specs.declared.term.Var.{Var}

-- ---- what is asked

-- a variable of a list that has none of the others
pub apart_from : (exist vs : List Var) → list_all (λ v. not (var_in v vs)) exist ≡ true → (v : Var) → Among v vs → apart exist v ≡ true
apart_from exist vs h v k =
    ⊎_elim
    (λ e. absurd (both_ways (var_in v vs) (not-true (var_in v vs) (each_at (λ w. not (var_in w vs)) v exist h (in_among v exist e))) (among_in v vs k)))
    (λ e. ap not e)
    (cases_Bool (var_in v exist))

one_card : (o : Option Var) → is_card_var o ≡ true → list_all of_card (card_vars o) ≡ true
one_card None h = absurd (false≢true h)
one_card (Some c) h = and_from (of_card c) true h refl

no_card : (o : Option Var) → is_none o ≡ true → list_all of_card (card_vars o) ≡ true
no_card None h = refl
no_card (Some c) h = absurd (false≢true h)

pub ready_sorts : (n : Node) → IsReady n → HasSorts no_set is_set_var n
ready_sorts n r = has_sorts no_set is_set_var n r.sorted

pub ready_apart : (n : Node) → IsReady n → IsApart n
ready_apart n r =
    let a : Var → Bool = apart n.goal.exist in
    let lits : List Var = lits_vars n.goal.pure_pre in
    let chunks : List Var = chunks_vars n.goal.pre.chunks in
    let out = apart_from n.goal.exist (lits ++ chunks) r.exist_apart in
    record {
      lits = each_from (lit_fits a a) n.goal.pure_pre (λ l k.
          lit_fits-other no_set is_set_var a l (each_at (lit_fits no_set is_set_var) l n.goal.pure_pre (ready_sorts n r).pure_pre k)
          (λ v m. out v (Among-left v lits chunks (flat_in lit_vars v l n.goal.pure_pre k m))));
      chunks = each_from (chunk_fits a a) n.goal.pre.chunks (λ c k.
          chunk_passes a c (λ v m. out v (Among-right v lits chunks (flat_in chunk_vars v c n.goal.pre.chunks k m))));
      pre_cards = plain_cards is_card_var one_card n.goal.pre.chunks r.pre_cards;
      post_cards = plain_cards is_none no_card n.goal.post.chunks r.post_cards;
    }

pub solving_keeps : SolvingKeeps
solving_keeps n m r e = (solve_meaning n m (ready_apart n r) (ready_sorts n r).pure_pre e).keeps

-- ---- the whole

-- each existential that pruning leaves stands in the node
pub used_left : (n : Node) (v : Var) → Among v (prune n).goal.exist → Among v (node_vars (prune n))
used_left n v k =
    let m : Node = prune n in
    let parts : EachPart (λ w. Among w (node_vars m)) m = each_part (λ w. Among w (node_vars m)) m (λ w i. i) in
    let later : List Var = chunks_vars n.goal.post.chunks ++ lits_vars n.goal.pure_post in
    ⊎_elim (parts.post v) (parts.pure_post v)
    (Among-cases v (chunks_vars n.goal.post.chunks) (lits_vars n.goal.pure_post) (in_among v later (filter_out (λ w. var_in w later) v n.goal.exist k).1))

renamed_after : (a b : Node) (r : Renaming) → KeepsMeaning a b → KeepsRenamed b r → KeepsRenamed a r
renamed_after a b r f g s h ns k =
    let one = f s h ns k in
    let two = g s h ns one.0 in
    (two.0, two.1, two.2, λ x p. one.1 x (two.3 x p))

-- what the normal form is made of
pub record Made (n : Node) (r : Renaming) : Type 0 where
  pub solved : Node
  pub done : solve n ≡ Some solved
  pub is : record { node = renumber (prune (tidy_node solved)); old = (prune (tidy_node solved)).goal.program } ≡ r

pub made : (n : Node) (r : Renaming) → normal n ≡ Some r → Made n r
made n r e =
    option_and_then_some (λ m. keep_limits (prune (tidy_node m))) (solve n) r e (λ m done h.
    let x : Node = prune (tidy_node m) in
    let one : Renaming = record { node = renumber x; old = x.goal.program } in
    record { solved = m; done = done; is = (cond_some (is_within_limits (renumber x)) one r h).1 })

pub normal_keeps : NormalKeeps
normal_keeps n r ready e =
    let d : Made n r = made n r e in
    let m : Node = d.solved in
    let x : Node = prune (tidy_node m) in
    let kept : Kept no_set is_set_var n m = solve_keeps no_set is_set_var n m (ready_sorts n ready) d.done in
    let sorts : HasSorts no_set is_set_var x = prune_keeps no_set is_set_var (tidy_node m) (tidy_keeps no_set is_set_var m kept.fits) in
    let before : KeepsMeaning n x = keeps_then n m x (solving_keeps n m ready d.done) (keeps_then m (tidy_node m) x (tidying_keeps m) (pruning_keeps (tidy_node m))) in
    subst (KeepsRenamed n) d.is (renamed_after n x (record { node = renumber x; old = x.goal.program }) before (number_meaning x sorts (used_left (tidy_node m))))

-- ---- formed goals

-- a variable apart from three lists is apart from two
pub apart_two : (exist a b c : List Var) → list_all (λ v. not (var_in v (a ++ b ++ c))) exist ≡ true → list_all (λ v. not (var_in v (b ++ c))) exist ≡ true
apart_two exist a b c h =
    each_from (λ v. not (var_in v (b ++ c))) exist (λ v k.
    ⊎_elim
    (λ e. absurd (both_ways (var_in v (a ++ b ++ c)) (not-true (var_in v (a ++ b ++ c)) (each_at (λ w. not (var_in w (a ++ b ++ c))) v exist h k))
    (among_in v (a ++ b ++ c) (behind v (in_among v (b ++ c) e)))))
    (λ e. ap not e)
    (cases_Bool (var_in v (b ++ c))))
  where
    behind : (v : Var) → Among v (b ++ c) → Among v (a ++ b ++ c)
    behind v k = ⊎_elim (λ m. Among-left v (a ++ b) c (Among-right v a b m)) (λ m. Among-right v (a ++ b) c m) (Among-cases v b c k)

pub formed_is_ready : FormedIsReady
formed_is_ready preds g f sorted = record {
  sorted = sorted;
  exist_apart = apart_two g.exist g.program (lits_vars g.pure_pre) (chunks_vars g.pre.chunks) f.exist_apart;
  pre_cards = f.pre_cards;
  post_cards = f.post_cards;
}
