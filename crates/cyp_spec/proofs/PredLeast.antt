-- The least fault of a predicate, of its guards, and of a whole text.
use Rattle.std.proofs.Common.{◌≡◌, ◌∙◌, [], ◌∷◌, ◌++◌, List, Option, Some, None, Bool, true, false, cond, drop, get_or, length, ◌+◌, ◌<◌, ◌≤◌, ℕ, append_assoc, append-nil, ap, sym, arith}
use Rattle.cyp_lex.specs.declared.fault.Fault.{Fault}
use Rattle.cyp_lex.specs.declared.fault.FaultKind.TheVariants.{GuardsOverlap, TooLarge}
use Rattle.cyp_spec.proofs.FaultPlaces.{bodies_behind, guards_part, inner_later, owners_part, preds_before, sizes_part}
use Rattle.cyp_spec.proofs.LeastFaults.{last_stands_first, least_first}
use Rattle.cyp_names.proofs.LesserFaults.{least_fault-append, lesser_of-assoc}
use Rattle.cyp_spec.specs.InOrder.{IsInOrder, is_name_first}
use Rattle.cyp_names.specs.LeastFaults.{lesser_of}
use Rattle.cyp_spec.specs.LimitParts.{preds_part, root_part}
use Rattle.cyp_term.proofs.Turns.{drop_here}
use Rattle.cyp_term.specs.declared.lit.Lit.{Lit}
use Rattle.cyp_formed.specs.LimitFaults.{limit_faults}
use Rattle.cyp_names.specs.PredFaults.{is_pred_within, overlap_faults, overlaps, pred_limit_faults, size_faults}
use Rattle.cyp_names.specs.NameFaults.{fault_at, lit_place}
use Rattle.cyp_names.specs.FaultOrder.{least_fault}
use Rattle.cyp_names.specs.Specifications.{read_pred}
use Rattle.cyp_text.specs.declared.tree.ClauseTree.{ClauseTree}
use Rattle.cyp_text.specs.declared.tree.PredTree.{PredTree}
use Rattle.cyp_text.specs.declared.tree.TextTree.{TextTree}

-- ---- guards

-- that of one clause
abbrev pub guard_part : List Lit → Lit → ClauseTree → List Fault
guard_part seen g c = cond (overlaps seen g) (fault_at GuardsOverlap (lit_place c.guard)) []

-- a turn of the loop over clauses
pub guards_turn : (guard : ClauseTree → Lit) (cs : List ClauseTree) (i : ℕ) (d : ClauseTree) (seen : List Lit) (g : Lit) (old new whole : Option Fault) → i < length cs → d ≡ get_or cs i d → g ≡ guard d
    → new ≡ lesser_of old (least_fault (guard_part seen g d)) → lesser_of old (least_fault (overlap_faults guard seen (drop i cs))) ≡ whole
    → lesser_of new (least_fault (overlap_faults guard (seen ++ g ∷ []) (drop (i + 1) cs))) ≡ whole
guards_turn guard cs i d seen g old new whole l at is taken h =
    let rest : Lit → List Fault = λ f. overlap_faults guard (seen ++ f ∷ []) (drop (i + 1) cs) in
    let here : overlap_faults guard seen (drop i cs) ≡ guard_part seen g d ++ rest g =
    ap (overlap_faults guard seen) (drop_here cs i d l) ∙ ap (λ (c : ClauseTree). guard_part seen (guard c) c ++ rest (guard c)) (sym at) ∙ ap (λ (f : Lit). guard_part seen f d ++ rest f) (sym is) in
    ap (λ (o : Option Fault). lesser_of o (least_fault (rest g))) taken ∙ lesser_of-assoc old (least_fault (guard_part seen g d)) (least_fault (rest g))
    ∙ ap (lesser_of old) (sym (ap least_fault here ∙ least_fault-append (guard_part seen g d) (rest g))) ∙ h

-- ---- a predicate

module _ (qs : List PredTree) (q : PredTree) where
  abbrev inner : List Fault
  inner = guards_part qs q ++ owners_part qs q ++ sizes_part qs q

  abbrev limit_part : Bool → List Fault
  limit_part within = cond within [] (fault_at TooLarge q.name.place)

  -- a limit that is passed decides
  pub limit_decides : is_pred_within (read_pred qs q) ≡ false → is_name_first q ≡ true → least_fault (fault_at TooLarge q.name.place) ≡ least_fault (pred_limit_faults qs q)
  limit_decides e first =
      sym (ap (λ (b : Bool). least_fault (inner ++ limit_part b)) e ∙ last_stands_first inner (record { kind = TooLarge; place = q.name.place }) (inner_later qs q first))

  -- else the other faults do
  pub inner_decides : is_pred_within (read_pred qs q) ≡ true → (g o s : Option Fault) → g ≡ least_fault (guards_part qs q) → o ≡ least_fault (owners_part qs q) → s ≡ least_fault (sizes_part qs q)
      → lesser_of (lesser_of g o) s ≡ least_fault (pred_limit_faults qs q)
  inner_decides e g o s eg eo es =
      (λ i. lesser_of (lesser_of (eg i) (eo i)) (es i))
      ∙ sym (ap (λ (b : Bool). least_fault (inner ++ limit_part b)) e ∙ ap least_fault (append-nil inner)
      ∙ least_fault-append (guards_part qs q ++ owners_part qs q) (sizes_part qs q)
      ∙ ap (λ (x : Option Fault). lesser_of x (least_fault (sizes_part qs q))) (least_fault-append (guards_part qs q) (owners_part qs q)))

-- ---- the whole text

module _ (t : TextTree) (order : IsInOrder t) where
  abbrev front : List Fault
  front = preds_part t.preds

  abbrev root : List Fault
  root = root_part t

  parts : limit_faults t ≡ front ++ (size_faults t.pre ++ (size_faults t.post ++ root))
  parts = append_assoc (front ++ size_faults t.pre) (size_faults t.post) root ∙ append_assoc front (size_faults t.pre) (size_faults t.post ++ root)

  -- a fault of the predicates decides
  pub preds_decide : (f : Fault) → least_fault front ≡ Some f → Some f ≡ least_fault (limit_faults t)
  preds_decide f e =
      sym (ap least_fault parts ∙ least_first front (size_faults t.pre ++ (size_faults t.post ++ root)) f e (λ x y m n. apart x y (preds_before t order x m) (bodies_behind t order y n)))
    where
      apart : (x y : Fault) → x.place < t.name.place → t.name.place ≤ y.place → x.place < y.place
      apart x y l k = omega (arith, l, k)

  -- else the procedure does
  pub procedure_decides : least_fault front ≡ None → (a b c : Option Fault) → a ≡ least_fault (size_faults t.pre) → b ≡ least_fault (size_faults t.post) → c ≡ least_fault root
      → lesser_of (lesser_of a b) c ≡ least_fault (limit_faults t)
  procedure_decides e a b c ea eb ec =
      (λ i. lesser_of (lesser_of (ea i) (eb i)) (ec i))
      ∙ sym (ap least_fault parts ∙ least_fault-append front (size_faults t.pre ++ (size_faults t.post ++ root))
      ∙ ap (λ (o : Option Fault). lesser_of o (least_fault (size_faults t.pre ++ (size_faults t.post ++ root)))) e
      ∙ least_fault-append (size_faults t.pre) (size_faults t.post ++ root)
      ∙ ap (lesser_of (least_fault (size_faults t.pre))) (least_fault-append (size_faults t.post) root)
      ∙ sym (lesser_of-assoc (least_fault (size_faults t.pre)) (least_fault (size_faults t.post)) (least_fault root)))
