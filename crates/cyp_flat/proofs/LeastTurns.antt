-- The least place where a rule is allowed, place by place.
use Rattle.std.proofs.Common.{◌≡◌, ◌∙◌, ◌+◌, ◌<◌, ◌∷◌, ℕ, [], Bool, List, None, Option, Some, ap, false, length, refl, sym, true}
use Rattle.std.specs.List.{list_any}
use Rattle.cyp_flat.proofs.PlaceTurns.{rules_from, rules_more}
use Rattle.cyp_heap.specs.declared.goal.Node.{Node}
use Rattle.cyp_step.specs.Rows.{least_allowed}
use Rattle.cyp_step.specs.Shown.{dead}
use Rattle.cyp_step.specs.Step.{premises}
use Rattle.cyp_step.specs.Trying.{tried, tried_with}
use Rattle.cyp_step.specs.declared.rows.Tried.{Tried}
use Rattle.cyp_step.specs.declared.rows.Tried.TheVariants.{Allowed, Dead, NotAllowed}
use Rattle.cyp_step.specs.declared.rule.Rule.{Rule}

module _ (n : Node) (r : Rule) (rs : List Rule) where
  -- the least of the rules, by what comes of the first
  abbrev pub least_by : Tried → List Rule
  least_by NotAllowed = least_allowed n rs
  least_by Dead = r ∷ []
  least_by (Allowed w) = r ∷ []

  abbrev by_test : List Node → Bool → Tried
  by_test ns b = elim b [ true ↦ Dead | false ↦ Allowed (record { rule = r; premises = ns }) ]

  some_by_test : (ns : List Node) (b : Bool) → r ∷ [] ≡ least_by (by_test ns b)
  some_by_test ns true = refl
  some_by_test ns false = refl

  -- and by its premises
  abbrev least_of : Option (List Node) → List Rule
  least_of o = elim o [ Some ns ↦ r ∷ [] | None ↦ least_allowed n rs ]

  by_premises : (o : Option (List Node)) → least_of o ≡ least_by (tried_with r o)
  by_premises None = refl
  by_premises (Some ns) = some_by_test ns (list_any (λ (m : Node). dead m.goal) ns)

  least_is : (t : Tried) → t ≡ tried n r → least_allowed n (r ∷ rs) ≡ least_by t
  least_is t e = by_premises (premises n r) ∙ ap least_by (sym e)

-- the rule isn't allowed at this place
pub least_passed : (n : Node) (f : ℕ → Rule) (i : ℕ) (r : Rule) (t : Tried) (all : List Rule) → i < length n.goal.pre.chunks → least_allowed n (rules_from n f i) ≡ all
    → r ≡ f i → t ≡ tried n r → t ≡ NotAllowed → least_allowed n (rules_from n f (i + 1)) ≡ all
least_passed n f i r t all lt h d e s =
    sym (least_is n r (rules_from n f (i + 1)) NotAllowed (sym s ∙ e))
    ∙ ap (λ q. least_allowed n (q ∷ rules_from n f (i + 1))) d
    ∙ sym (ap (least_allowed n) (rules_more n f i lt))
    ∙ h
