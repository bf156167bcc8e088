-- The stores before a call.
use Rattle.std.proofs.Common.{◌≡◌, refl, sym, ap, ◌∙◌, ℕ, zero, suc, inl, inr, Bool, true, false, ◌&&◌, List, [], ◌∷◌, Option, Some, None, ℤ, subst}
use Rattle.std.specs.FinMap.{get}
use Rattle.std.specs.Prelude.{is_some, slice_get, slice_set}
use Rattle.std.proofs.lemmas.Bool.{and_parts, false≢true}
use Rattle.std.proofs.lemmas.Option.{none-some, same_Some}
use Rattle.cyp_heap.specs.Instances.{Instances}
use Rattle.cyp_heap.specs.Stores.{Store}
use Rattle.cyp_heap.specs.declared.chunk.CellAt.{CellAt}
use Rattle.cyp_heap.specs.declared.chunk.Chunk.{Chunk}
use Rattle.cyp_heap.specs.declared.chunk.Chunk.TheVariants.{Block, Cell, Inst}
use Rattle.cyp_heap.specs.declared.goal.Goal.{Goal}
use Rattle.cyp_heap.specs.declared.goal.Node.{Node}
use Rattle.cyp_heap.specs.declared.pred.Preds.{Preds}
use Rattle.cyp_kernel.proofs.BodyRuns.{begun_run, less_suc, no_fault_there}
use Rattle.cyp_kernel.proofs.ChunkOrder.{AllHold}
use Rattle.cyp_kernel.proofs.GuardTests.{GoesRight}
use Rattle.cyp_kernel.proofs.HeapCells.{cards_set, cell_there, write_cell, written}
use Rattle.cyp_kernel.proofs.NamedValues.{expr_is}
use Rattle.cyp_kernel.specs.Meets.{AreNamed, body_state}
use Rattle.cyp_kernel.specs.Naming.{Names, expr_of}
use Rattle.cyp_kernel.specs.Statements.{chunk_address, pre_cell_at, stores}
use Rattle.cyp_machine.specs.Runs.{Run}
use Rattle.cyp_machine.specs.States.{State}
use Rattle.cyp_machine.specs.Values.{Values, expr_value}
use Rattle.cyp_machine.specs.declared.cause.Cause.TheVariants.{WriteMissing}
use Rattle.cyp_prog.specs.Programs.{Body, Procedure, Storing, Then}
use Rattle.cyp_prog.specs.declared.stmt.Expr.{Expr}
use Rattle.cyp_step.specs.Changes.{pre_of}
use Rattle.cyp_step.specs.Mends.{address_of, is_writable}
use Rattle.cyp_step.specs.Shown.{is_program_expr}
use Rattle.cyp_term.proofs.Lists.{Among}
use Rattle.cyp_term.specs.Meaning.{Assignment, value}
use Rattle.cyp_term.specs.declared.term.Term.{Term}
use Rattle.cyp_unify.specs.declared.found.Mend.{Mend}

-- a store into a cell that is there, and what follows
pub store_right : (ps : List Procedure) (preds : Preds) (g : Goal) (s : Assignment) (h : Store) (vs : Values) (k : ℕ) (x y : Expr) (at content : ℤ) (b : Body)
    → expr_value vs x ≡ at → expr_value vs y ≡ content → is_some (get h.cells at) ≡ true → GoesRight ps preds g s (written h at content) vs k b
    → GoesRight ps preds g s h vs k (Then (Storing x y) b)
store_right ps preds g s h vs k x y at content b p q there after zero t le r =
    begun_run preds g s h vs (Storing x y) b t (no_fault_there (is_some (get h.cells (expr_value vs x))) WriteMissing (ap (λ (z : ℤ). is_some (get h.cells z)) p ∙ there)) r
store_right ps preds g s h vs k x y at content b p q there after (suc j) t le r =
    after j t (less_suc j k le)
    (subst (λ (z : ℤ). Run ps j (body_state (written h at z) vs b) t) q
    (subst (λ (z : ℤ). Run ps j (body_state (written h z (expr_value vs y)) vs b) t) p
    (subst (λ (u : State). Run ps j u t) r.1.1 r.2)))

-- ---- contents that are stored

-- the chunks with this content in the cell at the place
abbrev pub put_content : List Chunk → ℕ → Term → List Chunk
put_content [] i x = []
put_content (Cell c ∷ cs) zero x = Cell (record { at = c.at; content = x }) ∷ cs
put_content (Inst j ∷ cs) zero x = Inst j ∷ cs
put_content (Block b ∷ cs) zero x = Block b ∷ cs
put_content (d ∷ cs) (suc i) x = d ∷ put_content cs i x

-- the chunks after these stores in order
abbrev pub mended : List Chunk → List Mend → List Chunk
mended cs [] = cs
mended cs (m ∷ ms) = mended (put_content cs m.cell m.value) ms

pub put_content-cell : (cs : List Chunk) (i : ℕ) (c : CellAt) (x : Term) → slice_get cs i ≡ Some (Cell c) → slice_set cs i (Cell (record { at = c.at; content = x })) ≡ put_content cs i x
put_content-cell [] i c x e = absurd (none-some (Cell c) e)
put_content-cell (Cell d ∷ cs) zero c x e = ap (λ (o : Option Term). content_at o ∷ cs) (ap address_of (sym e))
  where
    content_at : Option Term → Chunk
    content_at None = Cell d
    content_at (Some a) = Cell (record { at = a; content = x })
put_content-cell (Inst j ∷ cs) zero c x e = cc
put_content-cell (Block b ∷ cs) zero c x e = cc
put_content-cell (d ∷ cs) (suc i) c x e = ap (λ ds. d ∷ ds) (put_content-cell cs i c x e)

-- no address changes
pub addresses_kept : (cs : List Chunk) (i : ℕ) (x : Term) (k : ℕ) → address_of (slice_get (put_content cs i x) k) ≡ address_of (slice_get cs k)
addresses_kept [] i x k = refl
addresses_kept (Cell c ∷ cs) zero x zero = refl
addresses_kept (Cell c ∷ cs) zero x (suc k) = refl
addresses_kept (Inst j ∷ cs) zero x k = refl
addresses_kept (Block b ∷ cs) zero x k = refl
addresses_kept (d ∷ cs) (suc i) x zero = refl
addresses_kept (d ∷ cs) (suc i) x (suc k) = addresses_kept cs i x k

pub cell_with : (o : Option Chunk) (a : Term) → address_of o ≡ Some a → (c : CellAt) × (o ≡ Some (Cell c)) × (c.at ≡ a)
cell_with None a e = absurd (none-some a e)
cell_with (Some (Inst i)) a e = absurd (none-some a e)
cell_with (Some (Block b)) a e = absurd (none-some a e)
cell_with (Some (Cell c)) a e = (c, refl, same_Some c.at a e)

pub by_address : (o : Option Term) (f : Term → Bool) → elim o [ None ↦ false | Some a ↦ f a ] ≡ true → (a : Term) × (o ≡ Some a) × (f a ≡ true)
by_address None f e = absurd (false≢true e)
by_address (Some a) f e = (a, refl, e)

module _ (inst : Instances) (ps : List Procedure) (n : Node) (g : Goal) (names : Names) (s : Assignment) (vs : Values) (k : ℕ) (b : Body) (named : AreNamed names vs s n.goal.program) where
  -- where what follows goes right after the stores, the stores and it go right
  pub stores_right : (ms : List Mend) → ((m : Mend) → Among m ms → is_writable n.goal m ≡ true) → (cs : List Chunk) (h : Store)
      → ((i : ℕ) → address_of (slice_get cs i) ≡ address_of (slice_get (pre_of n) i)) → AllHold inst s cs h
      → ((large : Store) → AllHold inst s (mended cs ms) large → GoesRight ps n.preds g s large vs k b) → GoesRight ps n.preds g s h vs k (stores n names ms b)
  stores_right [] f cs h same a after = after h a
  stores_right (m ∷ ms) f cs h same a after =
      let w = by_address (address_of (slice_get (pre_of n) m.cell)) (λ x. is_program_expr n.goal x && is_program_expr n.goal m.value) (f m (inl refl)) in
      let exprs = and_parts (is_program_expr n.goal w.0) (is_program_expr n.goal m.value) w.2 in
      let first = cell_with (slice_get (pre_of n) m.cell) w.0 w.1 in
      let cell = cell_with (slice_get cs m.cell) w.0 (same m.cell ∙ w.1) in
      let c : CellAt = cell.0 in
      let at : expr_value vs (expr_of names (pre_cell_at n m.cell)) ≡ value s c.at =
      ap (λ (o : Option Chunk). expr_value vs (expr_of names (chunk_address o))) first.1 ∙ ap (λ (x : Term). expr_value vs (expr_of names x)) first.2
      ∙ expr_is names vs s n.goal w.0 named exprs.0 ∙ ap (value s) (sym cell.2) in
      let put = put_content-cell cs m.cell c m.value cell.1 in
      let next : AllHold inst s (put_content cs m.cell m.value) (written h (value s c.at) (value s m.value)) =
      subst (λ (xs : List Chunk). AllHold inst s xs (written h (value s c.at) (value s m.value))) put
      (a.0, write_cell inst s cs m.cell c m.value h a.0 cell.1 a.1, cards_set inst s cs m.cell c (record { at = c.at; content = m.value }) a.0 cell.1 a.2) in
      store_right ps n.preds g s h vs k (expr_of names (pre_cell_at n m.cell)) (expr_of names m.value) (value s c.at) (value s m.value) (stores n names ms b) at
      (expr_is names vs s n.goal m.value named exprs.1) (ap is_some (cell_there inst s cs m.cell c h a.0 cell.1 a.1))
      (stores_right ms (λ x y. f x (inr y)) (put_content cs m.cell m.value) (written h (value s c.at) (value s m.value)) (λ i. addresses_kept cs m.cell m.value i ∙ same i) next after)
