-- What a search from the root of a specification finds follows the moves, and what is said of its report is the output.
use Rattle.std.proofs.Common.{Ok, ap, refl, sym, ℕ, ◌∙◌, ◌≡◌}
use Rattle.cyp_heap.specs.declared.goal.Node.{Node}
use Rattle.cyp_moves.specs.Moves.{is_built}
use Rattle.cyp_names.specs.Specifications.{Specification}
use Rattle.cyp_search.proofs.FoundFollows.{found_follows}
use Rattle.cyp_search.specs.Reports.{Found, NoneFound, PlainReport, PlainVerdict, Spent, report}
use Rattle.cyp_step.specs.declared.rule.Rule.{Rule}
use Rattle.cyp_top.specs.Given.{IsFoundVerdict}
use Rattle.cyp_top.specs.Lines.{Output}
use Rattle.cyp_top.specs.Roots.{root_of}
use Rattle.cyp_top.specs.Synthesis.{goal_space, report_output, result_output}
use Rattle.cyp_words.specs.Words.{Search}

module _ (limit budget nodes : ℕ) (n : Node) where
  verdict_at : (v : PlainVerdict Rule Node) → (report (goal_space is_built limit) budget nodes n).verdict ≡ v → IsFoundVerdict v
  verdict_at (Found d) e = (limit, (found_follows (goal_space is_built limit) budget nodes n d e).0)
  verdict_at NoneFound e = tt
  verdict_at Spent e = tt

  -- what the report says is found follows the moves
  pub is_found : (v : PlainVerdict Rule Node) (r : PlainReport Rule Node) → r ≡ report (goal_space is_built limit) budget nodes n → v ≡ r.verdict → IsFoundVerdict v
  is_found v r e h = verdict_at v (sym (h ∙ ap (λ (q : PlainReport Rule Node). q.verdict) e))

-- what is said by the report from the root is the output
pub is_output : (o : Search) (s : Specification) (n : Node) (nodes : ℕ) (r : PlainReport Rule Node) (said : Output) → n ≡ root_of s → nodes ≡ 500000
    → r ≡ report (goal_space is_built o.unfoldings) o.budget nodes n → said ≡ report_output o s.name r → said ≡ result_output is_built o (Ok s)
is_output o s n nodes r said root limit e is =
    is ∙ ap (report_output o s.name) (e ∙ λ i. report (goal_space is_built o.unfoldings) o.budget (limit i) (root i))
