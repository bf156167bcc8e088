-- The table cut to the kinds that are built is the rows that are built.
use Rattle.std.proofs.Common.{◌≡◌, ◌∙◌, ◌++◌, ◌∷◌, ◌≤◌, ℕ, suc, Bool, List, [], Option, None, Some, IfSome, ap, append-nil, arith, cond, false, length, map, refl, sym, take, true}
use Rattle.std.specs.List.{AllByRecursion}
use Rattle.std.proofs.lemmas.List.{length-map, length-take}
use Rattle.std.proofs.lemmas.List.Elements.{filter-append}
use Rattle.cyp_call.specs.CallRows.{call_rows, call_rules_at}
use Rattle.cyp_flat.specs.FlatRows.{heap_rows, lone_rows, pick_rows}
use Rattle.cyp_heap.specs.declared.goal.Link.{Link}
use Rattle.cyp_heap.specs.declared.goal.Node.{Node}
use Rattle.cyp_moves.proofs.EachRow.{heap_each, lone_each, map_each, pick_each, row_each, rows_each}
use Rattle.cyp_moves.specs.BuiltRows.{built_rows}
use Rattle.cyp_moves.specs.Moves.{is_built, moves, of_kinds, priced, table}
use Rattle.cyp_space.specs.Alts.{AltOf}
use Rattle.cyp_term.proofs.Lists.{Every-append}
use Rattle.cyp_step.specs.RuleKinds.{IsFlatRule}
use Rattle.cyp_step.specs.Rows.{first_of_all, row}
use Rattle.cyp_step.specs.Shown.{dead}
use Rattle.cyp_step.specs.Step.{premises}
use Rattle.cyp_step.specs.declared.rule.Row.{Row}
use Rattle.cyp_step.specs.declared.rule.Rule.{Rule}
use Rattle.cyp_step.specs.declared.rule.Rule.TheVariants.{ByAlloc, ByCall, ByClose, ByEmp, ByFrame, ByFree, ByInconsistent, ByOpen, ByPick, ByRead, ByWrite}
use Rattle.cyp_unfold.specs.UnfoldRows.{closable, close_rows, open_rows, openable}
use Rattle.cyp_unify.specs.Frames.{focus}
use Rattle.cyp_unify.specs.Matches.{matches}
use Rattle.cyp_unify.specs.declared.found.Match.{Match}

-- ---- which kinds are built

flat_is_built : (r : Rule) → IsFlatRule r → is_built r ≡ true
flat_is_built ByInconsistent h = refl
flat_is_built ByEmp h = refl
flat_is_built (ByRead i) h = refl
flat_is_built (ByFrame i) h = refl
flat_is_built (ByWrite i) h = refl
flat_is_built (ByFree i) h = refl
flat_is_built ByAlloc h = refl
flat_is_built (ByCall c) h = absurd h
flat_is_built (ByOpen i) h = absurd h
flat_is_built (ByClose c) h = absurd h
flat_is_built (ByPick u) h = refl

-- the row is of a kind that is built, or of one that isn't
abbrev IsBuilt : Bool → Row → Type 0
IsBuilt b x = is_built x.rule ≡ b

-- the rule is
abbrev IsRuleBuilt : Bool → Rule → Type 0
IsRuleBuilt b r = is_built r ≡ b

whatever : {A : Type 0} (P : Type 0) (o : Option A) → P → IfSome o (λ _. P)
whatever P None h = tt
whatever P (Some a) h = h

kind_of_row : (b : Bool) (n : Node) (r : Rule) → is_built r ≡ b → IfSome (row n r) (IsBuilt b)
kind_of_row b n r h = row_each (IsBuilt b) n r (whatever (is_built r ≡ b) (premises n r) h)

flat_kind : (n : Node) (r : Rule) → IsFlatRule r → IfSome (row n r) (IsBuilt true)
flat_kind n r h = kind_of_row true n r (flat_is_built r h)

all_built : (rs : List Row) → AllByRecursion (IsBuilt true) rs → of_kinds is_built rs ≡ rs
all_built [] h = refl
all_built (x ∷ xs) h =
    ap (λ (b : Bool). cond b (x ∷ of_kinds is_built xs) (of_kinds is_built xs)) h.0 ∙ ap (λ (ys : List Row). x ∷ ys) (all_built xs h.1)

none_built : (rs : List Row) → AllByRecursion (IsBuilt false) rs → of_kinds is_built rs ≡ []
none_built [] h = refl
none_built (x ∷ xs) h = ap (λ (b : Bool). cond b (x ∷ of_kinds is_built xs) (of_kinds is_built xs)) h.0 ∙ none_built xs h.1

-- rows that aren't built change nothing
none_behind : (zs xs ys : List Row) → of_kinds is_built xs ≡ zs → AllByRecursion (IsBuilt false) ys → of_kinds is_built (xs ++ ys) ≡ zs
none_behind zs xs ys e h = filter-append (λ (r : Row). is_built r.rule) xs ys ∙ (λ i. e i ++ none_built ys h i) ∙ append-nil zs

-- ---- the rows that call and unfold

module _ (n : Node) where
  calls_not : (k : ℕ) (ls : List Link) → AllByRecursion (IsRuleBuilt false) (call_rules_at n k ls)
  calls_not k [] = tt
  calls_not k (l ∷ ls) =
      Every-append (IsRuleBuilt false) (map (λ (f : Match). ByCall (record { link = k; pairs = f.pairs })) (matches n l)) (call_rules_at n (suc k) ls)
      (map_each (IsRuleBuilt false) (λ (f : Match). ByCall (record { link = k; pairs = f.pairs })) (λ f. refl) (matches n l))
      (calls_not (suc k) ls)

  call_rows_not : AllByRecursion (IsBuilt false) (call_rows n)
  call_rows_not = rows_each (IsBuilt false) n (IsRuleBuilt false) (kind_of_row false n) (call_rules_at n 0 n.links) (calls_not 0 n.links)

  open_rows_not : (limit : ℕ) → AllByRecursion (IsBuilt false) (open_rows n limit)
  open_rows_not limit =
      rows_each (IsBuilt false) n (IsRuleBuilt false) (kind_of_row false n) (map ByOpen (openable limit 0 n.goal.pre.chunks))
      (map_each (IsRuleBuilt false) ByOpen (λ i. refl) (openable limit 0 n.goal.pre.chunks))

  close_rows_not : (limit : ℕ) → AllByRecursion (IsBuilt false) (close_rows n limit)
  close_rows_not limit =
      rows_each (IsBuilt false) n (IsRuleBuilt false) (kind_of_row false n) (map ByClose (closable n limit (focus n.goal)))
      (map_each (IsRuleBuilt false) ByClose (λ i. refl) (closable n limit (focus n.goal)))

  -- ---- the table

  lone_built : of_kinds is_built (lone_rows n) ≡ lone_rows n
  lone_built = all_built (lone_rows n) (lone_each n (IsBuilt true) (flat_kind n))

  pick_built : of_kinds is_built (pick_rows n) ≡ pick_rows n
  pick_built = all_built (pick_rows n) (pick_each n (IsBuilt true) (flat_kind n))

  heap_built : (limit : ℕ) → of_kinds is_built (heap_rows n ++ call_rows n ++ open_rows n limit ++ close_rows n limit) ≡ heap_rows n
  heap_built limit =
      none_behind (heap_rows n) (heap_rows n ++ call_rows n ++ open_rows n limit) (close_rows n limit)
      (none_behind (heap_rows n) (heap_rows n ++ call_rows n) (open_rows n limit)
      (none_behind (heap_rows n) (heap_rows n) (call_rows n) (all_built (heap_rows n) (heap_each n (IsBuilt true) (flat_kind n))) call_rows_not)
      (open_rows_not limit))
      (close_rows_not limit)

  joined : (xs ys zs : List Row) → first_of_all xs (λ _. first_of_all ys (λ _. zs)) ≡ first_of_all (first_of_all xs (λ _. ys)) (λ _. zs)
  joined [] ys zs = refl
  joined (x ∷ xs) ys zs = refl

  pub table_built : (limit : ℕ) → table is_built limit n ≡ built_rows n
  table_built limit =
      (λ i. first_of_all (lone_built i) (λ _. first_of_all (heap_built limit i) (λ _. pick_built i))) ∙ joined (lone_rows n) (heap_rows n) (pick_rows n)

  -- ---- the moves

  abbrev moves_where : ℕ → Bool → List (AltOf Rule Node)
  moves_where limit b = elim b [ true ↦ [] | false ↦ map priced (take 48 (table is_built limit n)) ]

  pub moves_alive : (limit : ℕ) → dead n.goal ≡ false → map priced (take 48 (built_rows n)) ≡ moves limit n
  moves_alive limit e = sym (ap (moves_where limit) e ∙ ap (λ (rs : List Row). map priced (take 48 rs)) (table_built limit))

-- they are at most 48
pub few_priced : (rs : List Row) → length (map priced (take 48 rs)) ≤ 48
few_priced rs = rw (length-map (take 48 rs) priced, length-take 48 rs) (omega arith)
