-- Whether a companion can be called, test by test.
use Rattle.std.proofs.Common.{◌≡◌, ◌∙◌, ◌&&◌, Bool, List, true, false, ap, is_some, map, refl, sym}
use Rattle.std.specs.List.{list_all}
use Rattle.cyp_heap.specs.declared.goal.Goal.{Goal}
use Rattle.cyp_heap.specs.declared.goal.Link.{Link}
use Rattle.cyp_heap.specs.declared.goal.Node.{Node}
use Rattle.cyp_step.specs.Calling.{are_shown, is_callable, is_lower}
use Rattle.cyp_step.specs.Mends.{writes_for}
use Rattle.cyp_step.specs.Shown.{is_program_expr, shown}
use Rattle.cyp_term.specs.Terms.{apply_lit, apply_term, var_term}
use Rattle.cyp_term.specs.declared.term.Var.{Var}
use Rattle.cyp_unify.specs.declared.found.Match.{Match}

in_turn : (a b c d e : Bool) → (a && (b && c) && d && e)
    ≡ elim a [ false ↦ false | true ↦ elim b [ false ↦ false | true ↦ elim c [ false ↦ false | true ↦ elim d [ false ↦ false | true ↦ e ] ] ] ]
in_turn false b c d e = refl
in_turn true false c d e = refl
in_turn true true false d e = refl
in_turn true true true false e = refl
in_turn true true true true e = refl

module _ (n : Node) (l : Link) (f : Match) where
  abbrev pub has_exprs : Bool
  has_exprs = list_all (λ v. is_program_expr n.goal (apply_term f.by (var_term v))) l.goal.program

  abbrev pub is_held : Bool
  is_held = shown n.goal f.need && are_shown n.goal (map (apply_lit f.by) l.goal.pure_pre)

  abbrev pub is_stored : Bool
  is_stored = is_some (writes_for n.goal f)

  pub callable_by : (a h d e : Bool) → a ≡ has_exprs → h ≡ is_held → d ≡ is_stored → e ≡ is_lower n l f → (a && h && d && e) ≡ is_callable n l f
  callable_by a h d e p q r s =
      (λ i. p i && q i && r i && s i)
      ∙ in_turn has_exprs (shown n.goal f.need) (are_shown n.goal (map (apply_lit f.by) l.goal.pure_pre)) is_stored (is_lower n l f)

  pub callable_in : (g q : Goal) (vs : List Var) (a h d : Bool) → g ≡ n.goal → q ≡ l.goal → vs ≡ q.program
      → a ≡ list_all (λ v. is_program_expr g (apply_term f.by (var_term v))) vs → a ≡ true
      → h ≡ (shown g f.need && are_shown g (map (apply_lit f.by) l.goal.pure_pre)) → h ≡ true
      → d ≡ is_some (writes_for g f) → d ≡ true → is_lower n l f ≡ is_callable n l f
  callable_in g q vs a h d e u v p x r y s z =
      callable_by true true true (is_lower n l f)
      (sym x ∙ p ∙ (λ i. list_all (λ w. is_program_expr (e i) (apply_term f.by (var_term w))) ((v ∙ ap (λ (k : Goal). k.program) u) i)))
      (sym y ∙ r ∙ ap (λ (k : Goal). shown k f.need && are_shown k (map (apply_lit f.by) l.goal.pure_pre)) e)
      (sym z ∙ s ∙ ap (λ (k : Goal). is_some (writes_for k f)) e)
      refl
