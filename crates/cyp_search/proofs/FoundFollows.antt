-- A derivation that a search finds is one of the root, and follows the moves of the space.
use Rattle.std.proofs.Common.{◌≡◌, ap, sym, ◌∙◌, subst, ℕ, zero, suc, ◌==◌, Bool, true, false, Option, Some, None, IfSome, nat_le}
use Rattle.cyp_tree.specs.declared.mark.Mark.{Mark}
use Rattle.cyp_tree.specs.declared.mark.Mark.TheVariants.{Undecided, Solved, Failed}
use Rattle.cyp_tree.specs.Trees.{Tree, Moving}
use Rattle.cyp_tree.specs.Statuses.{status}
use Rattle.cyp_tree.specs.Sizes.{size}
use Rattle.cyp_tree.specs.Derivations.{Derivation, chosen_derivation}
use Rattle.cyp_tree.specs.Follows.{Follows, root}
use Rattle.cyp_tree.proofs.FollowingTrees.{Derives, tree_root, chosen_follows}
use Rattle.cyp_tree.proofs.FollowingGrafts.{IsGrown, leaf_grown, expanded_grown}
use Rattle.cyp_search.specs.Stages.{stage}
use Rattle.cyp_search.specs.Reports.{PlainVerdict, Found, PlainReport, ending_by, IsReport, report}
use Rattle.cyp_search.proofs.ReportProof.{report_law}

-- what is found at a stage is the chosen derivation of its tree
found_by : {R N : Type 0} (s : Mark) (spent fits : Bool) (o : Option (Derivation R N)) (d : Derivation R N) → ending_by s spent fits o ≡ Some (Found d) → o ≡ Some d
found_by Solved spent fits None d e = cc
found_by Solved spent fits (Some c) d e = cc
found_by Failed spent fits o d e = cc
found_by Undecided true fits o d e = cc
found_by Undecided false true o d e = cc
found_by Undecided false false o d e = cc

module _ {R N : Type 0} (space : Moving R N) (budget limit : ℕ) (top : N) where
  stage_grown : (k : ℕ) → IsGrown space.moves top (stage space top k)
  stage_grown zero = leaf_grown space.moves top
  stage_grown (suc k) = expanded_grown space top (stage space top k) (stage_grown k)

  -- the chosen derivation of a stage
  chosen_at : (k : ℕ) (d : Derivation R N) → chosen_derivation (stage space top k) ≡ Some d → Follows space.moves d × (root d ≡ top)
  chosen_at k d e =
      let t : Tree R N = stage space top k in
      let h : Derives space.moves (tree_root t) d =
      subst (λ (o : Option (Derivation R N)). IfSome o (Derives space.moves (tree_root t))) e (chosen_follows space.moves t (stage_grown k).follows)
      in
      (h.0, h.1 ∙ (stage_grown k).rooted)

  found_in : (r : PlainReport R N) → IsReport space budget limit top r → (d : Derivation R N) → r.verdict ≡ Found d → Follows space.moves d × (root d ≡ top)
  found_in r is d e =
      let k : ℕ = is.0 in
      let t : Tree R N = stage space top k in
      let found : is.1 ≡ Found d = sym (ap (λ (q : PlainReport R N). q.verdict) is.4) ∙ e in
      chosen_at k d
      (found_by (status t) (k == budget) (nat_le (size (stage space top (suc k))) limit) (chosen_derivation t) d
      (is.2 ∙ ap (λ (v : PlainVerdict R N). Some v) found))

-- a found derivation follows the moves and is one of the node that the search began with
pub found_follows : {R N : Type 0} (space : Moving R N) (budget limit : ℕ) (top : N) (d : Derivation R N) → (report space budget limit top).verdict ≡ Found d
    → Follows space.moves d × (root d ≡ top)
found_follows space budget limit top d e = found_in space budget limit top (report space budget limit top) (report_law space budget limit top) d e
