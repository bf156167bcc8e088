-- The last step of the normal form, by a table of the variables.
use Rattle.std.proofs.Common.{◌≡◌, ◌∙◌, List, None, Some, filter, length, subst, sym, ap, true, false}
use Rattle.std.proofs.lemmas.Bool.{cond-false, cond-true}
use Rattle.cyp_goal.proofs.NumberedKeeps.{ints_stay, sets_stay, sorts_from}
use Rattle.cyp_goal.proofs.ReadyNodes.{keeps_numbered}
use Rattle.cyp_goal.proofs.Renumber.{no_set}
use Rattle.cyp_goal.specs.Named.{PartsFit}
use Rattle.cyp_goal.specs.Normal.{keep_limits}
use Rattle.cyp_goal.specs.Numbering.{renumber}
use Rattle.cyp_goal.specs.Ready.{IsReady}
use Rattle.cyp_heap.specs.Goals.{node_vars}
use Rattle.cyp_heap.specs.Keeps.{KeepsNode}
use Rattle.cyp_heap.specs.Limits.{is_within_limits}
use Rattle.cyp_heap.specs.declared.goal.Node.{Node}
use Rattle.cyp_term.specs.Terms.{is_set_var}
use Rattle.cyp_term.specs.declared.term.Var.{Var}

-- the node is the other one numbered anew
module _ (n d : Node) (is : d ≡ renumber n) where
  module _ (ready : IsReady n) (parts : PartsFit n) where
    pub ints_in_table : (vs : List Var) → vs ≡ node_vars n → length (filter no_set vs) ≡ length (filter no_set (node_vars d))
    ints_in_table vs e =
        ap (λ ws. length (filter no_set ws)) e ∙ sym (ints_stay n (sorts_from n ready.fits parts) ready.used) ∙ ap (λ m. length (filter no_set (node_vars m))) (sym is)

    pub sets_in_table : (vs : List Var) → vs ≡ node_vars n → length (filter is_set_var vs) ≡ length (filter is_set_var (node_vars d))
    sets_in_table vs e =
        ap (λ ws. length (filter is_set_var ws)) e ∙ sym (sets_stay n (sorts_from n ready.fits parts) ready.used) ∙ ap (λ m. length (filter is_set_var (node_vars m))) (sym is)

    pub keeps_node : is_within_limits d ≡ true → KeepsNode d
    keeps_node within = subst KeepsNode (sym is) (keeps_numbered n ready parts (ap is_within_limits (sym is) ∙ within))

  pub limits_passed : is_within_limits d ≡ false → keep_limits n ≡ None
  limits_passed past = cond-false (is_within_limits (renumber n)) (Some (record { node = renumber n; old = n.goal.program })) None (ap is_within_limits (sym is) ∙ past)

  pub limits_kept : is_within_limits d ≡ true → (old : List Var) → old ≡ n.goal.program → keep_limits n ≡ Some (record { node = d; old = old })
  limits_kept within old e =
      cond-true (is_within_limits (renumber n)) (Some (record { node = renumber n; old = n.goal.program })) None (ap is_within_limits (sym is) ∙ within)
      ∙ (λ i. Some (record { node = sym is i; old = sym e i }))
