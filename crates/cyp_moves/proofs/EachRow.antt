-- What holds of each row of some rules.
use Rattle.std.proofs.Common.{◌∷◌, ◌++◌, Bool, List, [], Option, Some, None, IfSome, map, true, false}
use Rattle.std.specs.List.{AllByRecursion, cons_option, list_any}
use Rattle.cyp_flat.specs.FlatRows.{candidates, heap_rows, lone_rows, pick_rows}
use Rattle.cyp_heap.specs.declared.goal.Node.{Node}
use Rattle.cyp_term.proofs.Lists.{Every-append}
use Rattle.cyp_step.specs.RuleKinds.{IsFlatRule}
use Rattle.cyp_step.specs.Rows.{first_of_all, least_allowed, pre_places, row, rows}
use Rattle.cyp_step.specs.Shown.{dead}
use Rattle.cyp_step.specs.Step.{premises}
use Rattle.cyp_step.specs.declared.rule.Row.{Row}
use Rattle.cyp_step.specs.declared.rule.Rule.{Rule}
use Rattle.cyp_step.specs.declared.rule.Rule.TheVariants.{ByAlloc, ByEmp, ByFrame, ByFree, ByInconsistent, ByPick, ByRead, ByWrite}

pub map_each : {A B : Type 0} (P : B → Type 0) (f : A → B) → ((a : A) → P (f a)) → (as' : List A) → AllByRecursion P (map f as')
map_each P f h [] = tt
map_each P f h (a ∷ as') = (h a, map_each P f h as')

module _ (Q : Row → Type 0) where
  row_when : (r : Rule) (ns : List Node) (b : Bool) → Q (record { rule = r; premises = ns })
      → IfSome {T = Row} (elim b [ true ↦ None | false ↦ Some (record { rule = r; premises = ns }) ]) Q
  row_when r ns true h = tt
  row_when r ns false h = h

  row_where : (r : Rule) (o : Option (List Node)) → IfSome o (λ (ns : List Node). Q (record { rule = r; premises = ns }))
      → IfSome {T = Row} (elim o [
        | None ↦ None
        | Some ns ↦ elim (list_any (λ (m : Node). dead m.goal) ns) [ true ↦ None | false ↦ Some (record { rule = r; premises = ns }) ]
      ]) Q
  row_where r None h = tt
  row_where r (Some ns) h = row_when r ns (list_any (λ (m : Node). dead m.goal) ns) h

  -- what holds of a rule with its premises holds of its row
  pub row_each : (n : Node) (r : Rule) → IfSome (premises n r) (λ (ns : List Node). Q (record { rule = r; premises = ns })) → IfSome (row n r) Q
  row_each n r h = row_where r (premises n r) h

  pub first_each : (xs : List Row) (later : Unit {0} → List Row) → AllByRecursion Q xs → AllByRecursion Q (later tt) → AllByRecursion Q (first_of_all xs later)
  first_each [] later h k = k
  first_each (x ∷ xs) later h k = h

  cons_each : (o : Option Row) (xs : List Row) → IfSome o Q → AllByRecursion Q xs → AllByRecursion Q (cons_option o xs)
  cons_each None xs h k = k
  cons_each (Some x) xs h k = (h, k)

  -- what holds of the row of each rule of a kind
  pub rows_each : (n : Node) (P : Rule → Type 0) → ((r : Rule) → P r → IfSome (row n r) Q) → (rs : List Rule) → AllByRecursion P rs → AllByRecursion Q (rows n rs)
  rows_each n P to [] h = tt
  rows_each n P to (r ∷ rs) h = cons_each (row n r) (rows n rs) (to r h.0) (rows_each n P to rs h.1)

module _ (n : Node) (P : Rule → Type 0) where
  least_by : (r : Rule) (o : Option (List Node)) (rs : List Rule) → P r → AllByRecursion P rs → AllByRecursion P (elim o [ Some ns ↦ r ∷ [] | None ↦ rs ])
  least_by r None rs h k = k
  least_by r (Some ns) rs h k = (h, tt)

  pub least_each : (rs : List Rule) → AllByRecursion P rs → AllByRecursion P (least_allowed n rs)
  least_each [] h = tt
  least_each (r ∷ rs) h = least_by r (premises n r) (least_allowed n rs) h.0 (least_each rs h.1)

-- ---- the rows that neither unfold nor call

module _ (n : Node) (Q : Row → Type 0) (to : (r : Rule) → IsFlatRule r → IfSome (row n r) Q) where
  flat_each : (rs : List Rule) → AllByRecursion IsFlatRule rs → AllByRecursion Q (rows n rs)
  flat_each rs h = rows_each Q n IsFlatRule to rs h

  reads_each : AllByRecursion Q (rows n (least_allowed n (map ByRead (pre_places n))))
  reads_each =
      flat_each (least_allowed n (map ByRead (pre_places n)))
      (least_each n IsFlatRule (map ByRead (pre_places n)) (map_each IsFlatRule ByRead (λ i. tt) (pre_places n)))

  pub lone_each : AllByRecursion Q (lone_rows n)
  lone_each =
      first_each Q (rows n (ByInconsistent ∷ [])) (λ _. first_of_all (rows n (ByEmp ∷ [])) (λ _. rows n (least_allowed n (map ByRead (pre_places n)))))
      (flat_each (ByInconsistent ∷ []) (tt, tt))
      (first_each Q (rows n (ByEmp ∷ [])) (λ _. rows n (least_allowed n (map ByRead (pre_places n)))) (flat_each (ByEmp ∷ []) (tt, tt)) reads_each)

  pub heap_each : AllByRecursion Q (heap_rows n)
  heap_each =
      let frames : List Row = rows n (map ByFrame (pre_places n)) in
      let writes : List Row = rows n (map ByWrite (pre_places n)) in
      let frees : List Row = rows n (least_allowed n (map ByFree (pre_places n))) in
      Every-append Q (frames ++ writes ++ frees) (rows n (ByAlloc ∷ []))
      (Every-append Q (frames ++ writes) frees
      (Every-append Q frames writes
      (flat_each (map ByFrame (pre_places n)) (map_each IsFlatRule ByFrame (λ i. tt) (pre_places n)))
      (flat_each (map ByWrite (pre_places n)) (map_each IsFlatRule ByWrite (λ i. tt) (pre_places n))))
      (flat_each (least_allowed n (map ByFree (pre_places n)))
      (least_each n IsFlatRule (map ByFree (pre_places n)) (map_each IsFlatRule ByFree (λ i. tt) (pre_places n)))))
      (flat_each (ByAlloc ∷ []) (tt, tt))

  pub pick_each : AllByRecursion Q (pick_rows n)
  pick_each = flat_each (map ByPick (candidates n.goal)) (map_each IsFlatRule ByPick (λ u. tt) (candidates n.goal))
