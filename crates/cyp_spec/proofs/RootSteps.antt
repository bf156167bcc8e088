-- What the code of a goal's limits knows at each step.
use Rattle.std.proofs.Common.{[], ◌≡◌, ◌∙◌, ◌&&◌, List, Option, Some, None, Bool, true, false, cond, length, map, ◌<◌, ◌≤◌, ap, sym, subst, inl, inr, arith}
use Rattle.std.specs.Prelude.{is_some}
use Rattle.std.specs.List.{All}
use Rattle.std.proofs.lemmas.Bool.{leb-true}
use Rattle.std.proofs.lemmas.List.{length-map}
use Rattle.cyp_goal.specs.Normal.{normal}
use Rattle.cyp_heap.specs.Formed.{insts_fit}
use Rattle.cyp_heap.specs.Limits.{is_goal_within}
use Rattle.cyp_heap.specs.PredsFormed.{IsFormedPreds}
use Rattle.cyp_heap.specs.PredsValue.{PredsValue}
use Rattle.cyp_heap.specs.declared.goal.Goal.{Goal}
use Rattle.cyp_heap.specs.declared.goal.Link.{Link}
use Rattle.cyp_heap.specs.declared.pred.Pred.{Pred}
use Rattle.cyp_lex.specs.declared.fault.FaultKind.TheVariants.{TooLarge}
use Rattle.cyp_spec.proofs.GoalsDressed.{insts_mended, normal_mended}
use Rattle.cyp_spec.proofs.GoalsReady.{goal_ready, many_names, within_mended}
use Rattle.cyp_spec.proofs.PredsAlone.{bare, bare_right, bare_within, no_body, preds_formed}
use Rattle.cyp_spec.proofs.TextsReadable.{preds_readable}
use Rattle.cyp_spec.specs.LimitParts.{preds_part, root_part}
use Rattle.cyp_reading.specs.Mended.{mended_text}
use Rattle.cyp_reading.specs.ReadableTexts.{GoalReadable, PredReadable}
use Rattle.cyp_spec.specs.Small.{BodySmall, TextSmall}
use Rattle.cyp_spec.specs.WrittenGoals.{IsWritten}
use Rattle.cyp_formed.specs.LimitFaults.{is_root_within, root_of}
use Rattle.cyp_names.specs.NameFaults.{fault_at, name_faults}
use Rattle.cyp_names.specs.ReadTerms.{Scope}
use Rattle.cyp_names.specs.FaultOrder.{least_fault}
use Rattle.cyp_names.specs.Specifications.{count_sort, goal_scope, read_goal, read_pred, read_preds, read_tree}
use Rattle.cyp_text.specs.declared.tree.TextTree.{TextTree}
use Rattle.cyp_term.specs.declared.term.Sort.TheVariants.{Int, Set}

nothing_small : BodySmall no_body
nothing_small = record { pure = tt; chunks = λ k d l. absurd (omega (arith, l)) }

module _ (t : TextTree) (right : name_faults t ≡ []) (none : preds_part t.preds ≡ []) (small : TextSmall t) where
  formed_here : IsFormedPreds (read_preds t.preds)
  formed_here = preds_formed t right none

  few_preds : length t.preds < 256
  few_preds = omega (arith, leb-true (length (read_preds t.preds).list) 16 formed_here.few, length-map t.preds (read_pred t.preds))

  -- ---- the goal as it is written

  pub readable_at : length t.pre.chunks ≤ 16 → (sc : Scope) → sc ≡ goal_scope t → count_sort Int sc ≤ 64 → count_sort Set sc ≤ 64 → GoalReadable t
  readable_at chunks sc is ints sets =
      goal_ready t right few_preds small chunks (subst (λ (s : Scope). count_sort Int s ≤ 64) is ints) (subst (λ (s : Scope). count_sort Set s ≤ 64) is sets)

  pub many_ints_at : (sc : Scope) → sc ≡ goal_scope t → 64 < count_sort Int sc → is_goal_within (read_goal t) ≡ false
  many_ints_at sc is h = many_names t right (inl (subst (λ (s : Scope). 64 < count_sort Int s) is h))

  pub many_sets_at : (sc : Scope) → sc ≡ goal_scope t → 64 < count_sort Set sc → is_goal_within (read_goal t) ≡ false
  many_sets_at sc is h = many_names t right (inr (subst (λ (s : Scope). 64 < count_sort Set s) is h))

  pub judged_at : (g : Goal) → g ≡ read_goal (mended_text t) → (b w : Bool) → b ≡ is_goal_within g → b ≡ w → is_goal_within (read_goal t) ≡ w
  judged_at g is b w e h = sym (within_mended t) ∙ sym (ap is_goal_within is) ∙ sym e ∙ h

  -- ---- the normal form

  pub readable_preds : All (PredReadable t.preds) t.preds
  readable_preds = preds_readable (bare t) (bare_right t right) (bare_within t none) (record { preds = small.preds; pre = nothing_small; post = nothing_small })

  pub formed_at : (qs : List Pred) → qs ≡ map (read_pred t.preds) t.preds → IsFormedPreds (record { list = qs })
  formed_at qs e = subst (λ (us : List Pred). IsFormedPreds (record { list = us })) (sym e) formed_here

  pub fits_at : (qs : List Pred) → qs ≡ map (read_pred t.preds) t.preds → (g : Goal) → g ≡ read_goal (mended_text t) → insts_fit (record { list = qs }) g ≡ true
  fits_at qs e g is = (λ i. insts_fit (record { list = e i }) (is i)) ∙ insts_mended t right

  -- the normal form of the node that is made
  pub normal_at : (preds : PredsValue) (g : Goal) → g ≡ read_goal (mended_text t) → (ks : List Link) → ks ≡ [] → (b : Bool) → is_some (normal (record { preds = preds; goal = g; links = ks })) ≡ b
      → b ≡ is_some (normal (root_of (read_tree t)))
  normal_at preds g is ks e b h = sym h ∙ (λ i. is_some (normal (record { preds = preds; goal = is i; links = e i }))) ∙ normal_mended t preds

  -- ---- both

  pub written_decides : (o : Option Goal) → IsWritten t o → o ≡ None → false ≡ is_root_within (read_tree t)
  written_decides o w e =
      let fails : is_goal_within (read_goal t) ≡ false = subst (λ (x : Option Goal). IsWritten t x) e w in
      sym (ap (λ (x : Bool). x && is_some (normal (root_of (read_tree t)))) fails)

  pub written_within : (o : Option Goal) → IsWritten t o → (g : Goal) → o ≡ Some g → is_goal_within (read_goal t) ≡ true
  written_within o w g e = let some : IsWritten t (Some g) = subst (λ (x : Option Goal). IsWritten t x) e w in some.0

  pub normal_decides : (b : Bool) → is_goal_within (read_goal t) ≡ true → b ≡ is_some (normal (root_of (read_tree t))) → b ≡ is_root_within (read_tree t)
  normal_decides b w e = e ∙ sym (ap (λ (x : Bool). x && is_some (normal (root_of (read_tree t)))) w)

  pub no_fault : is_root_within (read_tree t) ≡ true → None ≡ least_fault (root_part t)
  no_fault e = sym (ap (λ (b : Bool). least_fault (cond b [] (fault_at TooLarge t.name.place))) e)

  pub one_fault : is_root_within (read_tree t) ≡ false → least_fault (fault_at TooLarge t.name.place) ≡ least_fault (root_part t)
  one_fault e = sym (ap (λ (b : Bool). least_fault (cond b [] (fault_at TooLarge t.name.place))) e)
