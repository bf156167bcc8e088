-- Where the faults of predicates and limits stand.
use Rattle.std.proofs.Common.{◌≡◌, [], ◌∷◌, ◌++◌, List, Bool, true, false, cond, flat_map, ℕ, ◌<◌, ◌≤◌, ◌&&◌, not, refl, ap, inl, inr, zero, suc, arith}
use Rattle.std.specs.Prelude.{nat_le, nat_lt, slice_get}
use Rattle.std.specs.List.{list_any}
use Rattle.std.proofs.lemmas.Bool.{ltb-true}
use Rattle.cyp_lex.specs.declared.fault.Fault.{Fault}
use Rattle.cyp_lex.specs.declared.fault.FaultKind.{FaultKind}
use Rattle.cyp_lex.specs.declared.fault.FaultKind.TheVariants.{GuardsOverlap, TooLarge, Unproductive}
use Rattle.cyp_spec.specs.InOrder.{IsInOrder, body_places, clause_places, inner_places, is_name_first, is_pred_before, pred_places, size_place}
use Rattle.cyp_spec.specs.LimitParts.{preds_part, root_part}
use Rattle.cyp_term.proofs.Lists.{Among, Among-cases, Among-left, Among-right, each_at, flat_in, flat_out}
use Rattle.cyp_term.specs.declared.lit.Lit.{Lit}
use Rattle.cyp_names.specs.Bodies.{is_cell, is_instance}
use Rattle.cyp_formed.specs.LimitFaults.{is_root_within}
use Rattle.cyp_names.specs.PredFaults.{extra_pred_fault, guard_of, is_pred_within, overlap_faults, overlaps, pred_limit_faults, size_fault, size_faults, unproductive_fault}
use Rattle.cyp_names.specs.NameFaults.{clauses, fault_at, lit_place}
use Rattle.cyp_names.specs.Specifications.{read_pred, read_tree}
use Rattle.cyp_text.specs.declared.tree.BodyTree.{BodyTree}
use Rattle.cyp_text.specs.declared.tree.ChunkTree.{ChunkTree}
use Rattle.cyp_text.specs.declared.tree.ChunkTree.TheVariants.{BlockOf, InstanceOf, NamedCell, TermCell}
use Rattle.cyp_text.specs.declared.tree.ClauseTree.{ClauseTree}
use Rattle.cyp_text.specs.declared.tree.PredTree.{PredTree}
use Rattle.cyp_text.specs.declared.tree.TextTree.{TextTree}

-- ---- single faults

place_if : (b : Bool) (k : FaultKind) (p : ℕ) (x : Fault) → Among x (cond b (fault_at k p) []) → x.place ≡ p
place_if true k p x (inl e) = ap (λ (f : Fault). f.place) e
place_if true k p x (inr m) = absurd m
place_if false k p x m = absurd m

place_unless : (b : Bool) (k : FaultKind) (p : ℕ) (x : Fault) → Among x (cond b [] (fault_at k p)) → x.place ≡ p
place_unless false k p x (inl e) = ap (λ (f : Fault). f.place) e
place_unless false k p x (inr m) = absurd m
place_unless true k p x m = absurd m

-- ---- a clause

-- it stands at the guard of one of the clauses
overlap_place : (guard : ClauseTree → Lit) (seen : List Lit) (cs : List ClauseTree) (x : Fault) → Among x (overlap_faults guard seen cs) → Among x.place (flat_map clause_places cs)
overlap_place guard seen [] x m = absurd m
overlap_place guard seen (c ∷ cs) x m = elim (Among-cases x (cond (overlaps seen (guard c)) (fault_at GuardsOverlap (lit_place c.guard)) []) (overlap_faults guard (seen ++ guard c ∷ []) cs) m) [
  | inl a ↦ Among-left x.place (clause_places c) (flat_map clause_places cs) (inr (inl (place_if (overlaps seen (guard c)) GuardsOverlap (lit_place c.guard) x a)))
  | inr b ↦ Among-right x.place (clause_places c) (flat_map clause_places cs) (overlap_place guard (seen ++ guard c ∷ []) cs x b)
]

owner_place : (c : ClauseTree) (x : Fault) → Among x (unproductive_fault c) → Among x.place (clause_places c)
owner_place c x m = inl (place_if (list_any is_instance c.body.chunks && not (list_any is_cell c.body.chunks)) Unproductive c.place x m)

chunk_place : (c : ChunkTree) (x : Fault) → Among x (size_fault c) → Among x.place (size_place c)
chunk_place (BlockOf a p n) x m = inl (place_unless (nat_le 1 n && nat_le n 8) TooLarge p x m)
chunk_place (InstanceOf i xs) x m = absurd m
chunk_place (NamedCell i t) x m = absurd m
chunk_place (TermCell a t) x m = absurd m

pub size_faults_at : (b : BodyTree) (x : Fault) → Among x (size_faults b) → Among x.place (flat_map size_place b.chunks)
size_faults_at b x m = let o = flat_out size_fault x b.chunks m in flat_in size_place x.place o.0 b.chunks o.1 (chunk_place o.0 x o.2)

-- ---- a predicate

module _ (qs : List PredTree) (q : PredTree) where
  abbrev pub guards_part : List Fault
  guards_part = overlap_faults (guard_of qs q.params) [] (clauses q)

  abbrev pub owners_part : List Fault
  owners_part = flat_map unproductive_fault (clauses q)

  abbrev pub sizes_part : List Fault
  sizes_part = flat_map (λ (c : ClauseTree). size_faults c.body) (clauses q)

  pub inner_at : (x : Fault) → Among x (guards_part ++ owners_part ++ sizes_part) → Among x.place (inner_places q)
  inner_at x m = elim (Among-cases x (guards_part ++ owners_part) sizes_part m) [
    | inl a ↦ elim (Among-cases x guards_part owners_part a) [
      | inl g ↦ overlap_place (guard_of qs q.params) [] (clauses q) x g
      | inr u ↦ (let o = flat_out unproductive_fault x (clauses q) u in flat_in clause_places x.place o.0 (clauses q) o.1 (owner_place o.0 x o.2))
    ]
    | inr s ↦ (let o = flat_out (λ (c : ClauseTree). size_faults c.body) x (clauses q) s in flat_in clause_places x.place o.0 (clauses q) o.1 (inr (inr (size_faults_at o.0.body x o.2))))
  ]

  pred_at : (x : Fault) → Among x (pred_limit_faults qs q) → Among x.place (pred_places q)
  pred_at x m = elim (Among-cases x (guards_part ++ owners_part ++ sizes_part) (cond (is_pred_within (read_pred qs q)) [] (fault_at TooLarge q.name.place)) m) [
    | inl a ↦ inr (inner_at x a)
    | inr b ↦ inl (place_unless (is_pred_within (read_pred qs q)) TooLarge q.name.place x b)
  ]

  -- the name stands before all other faults
  pub inner_later : is_name_first q ≡ true → (x : Fault) → Among x (guards_part ++ owners_part ++ sizes_part) → q.name.place < x.place
  inner_later first x m = ltb-true q.name.place x.place (each_at (nat_lt q.name.place) x.place (inner_places q) first (inner_at x m))

-- ---- the whole text

some_pred : (n : ℕ) (qs : List PredTree) (x : Fault) → Among x (extra_pred_fault (slice_get qs n)) → (q : PredTree) × Among q qs × (x.place ≡ q.name.place)
some_pred n [] x m = absurd m
some_pred zero (q ∷ qs) x (inl e) = (q, inl refl, ap (λ (f : Fault). f.place) e)
some_pred zero (q ∷ qs) x (inr m) = absurd m
some_pred (suc n) (q ∷ qs) x m = let o = some_pred n qs x m in (o.0, inr o.1, o.2)

module _ (t : TextTree) (order : IsInOrder t) where
  before_name : (q : PredTree) → Among q t.preds → (p : ℕ) → Among p (pred_places q) → p < t.name.place
  before_name q m p k =
      ltb-true p t.name.place (each_at (λ (n : ℕ). nat_lt n t.name.place) p (pred_places q) (each_at (is_pred_before t.name.place) q t.preds order.preds_first m) k)

  pub preds_before : (x : Fault) → Among x (preds_part t.preds) → x.place < t.name.place
  preds_before x m = elim (Among-cases x (flat_map (pred_limit_faults t.preds) t.preds) (extra_pred_fault (slice_get t.preds 16)) m) [
    | inl a ↦ (let o = flat_out (pred_limit_faults t.preds) x t.preds a in before_name o.0 o.1 x.place (pred_at t.preds o.0 x o.2))
    | inr b ↦ (let o = some_pred 16 t.preds x b in before_name o.0 o.1 x.place (inl o.2))
  ]

  pub bodies_behind : (x : Fault) → Among x (size_faults t.pre ++ (size_faults t.post ++ root_part t)) → t.name.place ≤ x.place
  bodies_behind x m = elim (Among-cases x (size_faults t.pre) (size_faults t.post ++ root_part t) m) [
    | inl a ↦ behind (Among-left x.place (flat_map size_place t.pre.chunks) (flat_map size_place t.post.chunks) (size_faults_at t.pre x a))
    | inr b ↦ elim (Among-cases x (size_faults t.post) (root_part t) b) [
      | inl c ↦ behind (Among-right x.place (flat_map size_place t.pre.chunks) (flat_map size_place t.post.chunks) (size_faults_at t.post x c))
      | inr d ↦ (let e : x.place ≡ t.name.place = place_unless (is_root_within (read_tree t)) TooLarge t.name.place x d in omega (arith, e))
    ]
  ]
    where
      behind : Among x.place (body_places t) → t.name.place ≤ x.place
      behind k = let l : t.name.place < x.place = ltb-true t.name.place x.place (each_at (nat_lt t.name.place) x.place (body_places t) order.bodies_last k) in omega (arith, l)
