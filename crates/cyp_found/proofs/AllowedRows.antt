-- Each move of a node is a rule that is allowed there, with its premises: for the whole table, and for its rows of some kinds.
use Rattle.std.proofs.Common.{◌≡◌, ◌++◌, ℕ, Bool, List, [], ◌∷◌, Option, Some, None, true, false, map, refl, subst}
use Rattle.std.specs.Prelude.{take}
use Rattle.std.specs.List.{All, Contains, cons_option, list_any}
use Rattle.std.proofs.lemmas.List.Elements.{All-append, All-cons, All-contains, All-filter, All-map, All-nil, All-take}
use Rattle.std.proofs.lemmas.Option.{none-some, same_Some}
use Rattle.cyp_call.specs.CallRows.{call_rows, call_rules_at}
use Rattle.cyp_flat.specs.FlatRows.{candidates, heap_rows, lone_rows, pick_rows}
use Rattle.cyp_heap.specs.declared.goal.Node.{Node}
use Rattle.cyp_moves.specs.Moves.{moves_of_kinds, of_kinds, priced, table}
use Rattle.cyp_space.specs.Alts.{AltOf}
use Rattle.cyp_step.specs.Rows.{first_of_all, least_allowed, pre_places, row, rows}
use Rattle.cyp_step.specs.Shown.{dead}
use Rattle.cyp_step.specs.Step.{premises}
use Rattle.cyp_step.specs.declared.rule.Row.{Row}
use Rattle.cyp_step.specs.declared.rule.Rule.{Rule}
use Rattle.cyp_step.specs.declared.rule.Rule.TheVariants.{ByAlloc, ByClose, ByEmp, ByFrame, ByFree, ByInconsistent, ByOpen, ByPick, ByRead, ByWrite}
use Rattle.cyp_unfold.specs.UnfoldRows.{closable, close_rows, open_rows, openable}
use Rattle.cyp_unify.specs.Frames.{focus}

-- ---- one row

abbrev Allowed : Node → Row → Type 0
Allowed n a = premises n a.rule ≡ Some a.premises

unless_dead : (n : Node) (r : Rule) (ms : List Node) (b : Bool) (a : Row) → premises n r ≡ Some ms → elim b [ true ↦ None | false ↦ Some (record { rule = r; premises = ms }) ] ≡ Some a → Allowed n a
unless_dead n r ms true a e h = absurd (none-some a h)
unless_dead n r ms false a e h = let x : Row = record { rule = r; premises = ms } in subst (Allowed n) (same_Some x a h) e

with_premises : (n : Node) (r : Rule) (o : Option (List Node)) (a : Row) → premises n r ≡ o
    → elim o [
      | None ↦ None
      | Some ns ↦ elim (list_any (λ (m : Node). dead m.goal) ns) [ true ↦ None | false ↦ Some (record { rule = r; premises = ns }) ]
    ] ≡ Some a → Allowed n a
with_premises n r None a e h = absurd (none-some a h)
with_premises n r (Some ms) a e h = unless_dead n r ms (list_any (λ (m : Node). dead m.goal) ms) a e h

row_allowed : (n : Node) (r : Rule) (a : Row) → row n r ≡ Some a → Allowed n a
row_allowed n r a h = with_premises n r (premises n r) a refl h

-- ---- lists of rows

one_more : (n : Node) (o : Option Row) (rest : List Row) → ((a : Row) → o ≡ Some a → Allowed n a) → All (Allowed n) rest → All (Allowed n) (cons_option o rest)
one_more n None rest one all = all
one_more n (Some a) rest one all = All-cons (Allowed n) a rest (one a refl) all

rows_allowed : (n : Node) (rs : List Rule) → All (Allowed n) (rows n rs)
rows_allowed n [] = All-nil (Allowed n)
rows_allowed n (r ∷ rs) = one_more n (row n r) (rows n rs) (λ a e. row_allowed n r a e) (rows_allowed n rs)

of_first : (P : Row → Type 0) (rs : List Row) (later : Unit {0} → List Row) → All P rs → All P (later tt) → All P (first_of_all rs later)
of_first P [] later all then = then
of_first P (r ∷ rs) later all then = all

module _ (kinds : Rule → Bool) (n : Node) where
  both : (xs ys : List Row) → All (Allowed n) xs → All (Allowed n) ys → All (Allowed n) (xs ++ ys)
  both xs ys h k = All-append (Allowed n) xs ys h k

  lone_allowed : All (Allowed n) (lone_rows n)
  lone_allowed =
      of_first (Allowed n) (rows n (ByInconsistent ∷ [])) (λ _. first_of_all (rows n (ByEmp ∷ [])) (λ _. rows n (least_allowed n (map ByRead (pre_places n)))))
      (rows_allowed n (ByInconsistent ∷ []))
      (of_first (Allowed n) (rows n (ByEmp ∷ [])) (λ _. rows n (least_allowed n (map ByRead (pre_places n))))
      (rows_allowed n (ByEmp ∷ [])) (rows_allowed n (least_allowed n (map ByRead (pre_places n)))))

  heap_allowed : All (Allowed n) (heap_rows n)
  heap_allowed =
      both (rows n (map ByFrame (pre_places n)) ++ rows n (map ByWrite (pre_places n)) ++ rows n (least_allowed n (map ByFree (pre_places n)))) (rows n (ByAlloc ∷ []))
      (both (rows n (map ByFrame (pre_places n)) ++ rows n (map ByWrite (pre_places n))) (rows n (least_allowed n (map ByFree (pre_places n))))
      (both (rows n (map ByFrame (pre_places n))) (rows n (map ByWrite (pre_places n))) (rows_allowed n (map ByFrame (pre_places n))) (rows_allowed n (map ByWrite (pre_places n))))
      (rows_allowed n (least_allowed n (map ByFree (pre_places n)))))
      (rows_allowed n (ByAlloc ∷ []))

  all_allowed : (limit : ℕ) → All (Allowed n) (heap_rows n ++ call_rows n ++ open_rows n limit ++ close_rows n limit)
  all_allowed limit =
      both (heap_rows n ++ call_rows n ++ open_rows n limit) (close_rows n limit)
      (both (heap_rows n ++ call_rows n) (open_rows n limit)
      (both (heap_rows n) (call_rows n) heap_allowed (rows_allowed n (call_rules_at n 0 n.links)))
      (rows_allowed n (map ByOpen (openable limit 0 n.goal.pre.chunks))))
      (rows_allowed n (map ByClose (closable n limit (focus n.goal))))

  -- ---- the table

  kept : (rs : List Row) → All (Allowed n) rs → All (Allowed n) (of_kinds kinds rs)
  kept rs h = All-filter (λ (a : Row). kinds a.rule) (Allowed n) rs h

  table_allowed : (limit : ℕ) → All (Allowed n) (table kinds limit n)
  table_allowed limit =
      of_first (Allowed n) (of_kinds kinds (lone_rows n))
      (λ _. first_of_all (of_kinds kinds (heap_rows n ++ call_rows n ++ open_rows n limit ++ close_rows n limit)) (λ _. of_kinds kinds (pick_rows n)))
      (kept (lone_rows n) lone_allowed)
      (of_first (Allowed n) (of_kinds kinds (heap_rows n ++ call_rows n ++ open_rows n limit ++ close_rows n limit)) (λ _. of_kinds kinds (pick_rows n))
      (kept (heap_rows n ++ call_rows n ++ open_rows n limit ++ close_rows n limit) (all_allowed limit))
      (kept (pick_rows n) (rows_allowed n (map ByPick (candidates n.goal)))))

  abbrev IsStep : AltOf Rule Node → Type 0
  IsStep a = premises n a.rule ≡ Some a.premises

  moves_by : (limit : ℕ) (b : Bool) → All IsStep (elim b [ true ↦ [] | false ↦ map priced (take 48 (table kinds limit n)) ])
  moves_by limit true = All-nil IsStep
  moves_by limit false = All-map IsStep priced (take 48 (table kinds limit n)) (All-take (Allowed n) 48 (table kinds limit n) (table_allowed limit))

  -- a move is a rule that is allowed, with its premises
  pub move_is_step : (limit : ℕ) (a : AltOf Rule Node) → Contains (moves_of_kinds kinds limit n) a → premises n a.rule ≡ Some a.premises
  move_is_step limit a h = All-contains IsStep (moves_of_kinds kinds limit n) a (moves_by limit (dead n.goal)) h
