-- The names of a procedure's goal: those of the parameters and the precondition, and then those that the postcondition alone has.
use Rattle.std.proofs.Common.{List, [], ap, length, refl, subst, sym, ℕ, ◌++◌, ◌∙◌, ◌≡◌}
use Rattle.std.specs.Prelude.{drop}
use Rattle.std.proofs.Math.Seq.{drop-append_seam}
use Rattle.cyp_term.proofs.Lists.{Among, Among-right}
use Rattle.cyp_names.specs.Bodies.{kept_body}
use Rattle.cyp_names.specs.ReadTerms.{Scope}
use Rattle.cyp_names.specs.Specifications.{goal_scope, universal_scope}
use Rattle.cyp_text.specs.declared.tree.TextTree.{TextTree}
use Rattle.cyp_names.specs.Uses.{Use, param_uses}
use Rattle.cyp_names.proofs.ScopeNames.{Grows, Has, grow, has_grown}

module _ (t : TextTree) where
  -- the names of the parameters and the precondition, each as often as it stands there
  abbrev pub first_uses : List Use
  first_uses = param_uses t.params ++ kept_body t.preds t.pre

  pub universal_grows : Grows [] first_uses (universal_scope t)
  universal_grows = grow [] first_uses

  pub goal_grows : Grows (universal_scope t) (kept_body t.preds t.post) (goal_scope t)
  goal_grows = grow (universal_scope t) (kept_body t.preds t.post)

  -- what the postcondition alone has
  pub last_names : drop (length (universal_scope t)) (goal_scope t) ≡ goal_grows.more
  last_names = ap (λ (us : Scope). drop (length (universal_scope t)) us) goal_grows.parts ∙ drop-append_seam (universal_scope t) goal_grows.more

  pub has_goal : (a : List ℕ) → Has (universal_scope t) a → Has (goal_scope t) a
  has_goal a h = has_grown (universal_scope t) [] (goal_scope t) goal_grows.more goal_grows.parts a h

  pub has_first : (u : Use) → Among u first_uses → Has (universal_scope t) u.name.text
  has_first u m = universal_grows.new_there u m

  pub has_last : (u : Use) → Among u goal_grows.more → Has (goal_scope t) u.name.text
  has_last u m = subst (λ (us : Scope). Has us u.name.text) (sym goal_grows.parts) (u, Among-right u (universal_scope t) goal_grows.more m, refl)
