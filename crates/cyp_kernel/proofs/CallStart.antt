-- A callable companion's precondition holds in a part of the heap after the stores.
use Rattle.std.proofs.Common.{◌≡◌, refl, sym, ap, ◌∙◌, ℕ, Bool, true, false, cond, List, [], ◌∷◌, map, filter, Some, None, is_some, subst}
use Rattle.std.specs.List.{AllByRecursion, list_all, list_any}
use Rattle.std.proofs.lemmas.Bool.{and_parts, false≢true}
use Rattle.cyp_goal.proofs.LinksFit.{sides_fit}
use Rattle.cyp_goal.specs.Facts.{facts}
use Rattle.cyp_heap.specs.Assertions.{SideHolds}
use Rattle.cyp_heap.specs.Instances.{InstanceHolds, Instances}
use Rattle.cyp_heap.specs.Stores.{IsUnion, Store}
use Rattle.cyp_heap.specs.declared.chunk.Chunk.{Chunk}
use Rattle.cyp_heap.specs.declared.goal.Link.{Link}
use Rattle.cyp_heap.specs.declared.goal.Node.{Node}
use Rattle.cyp_kernel.proofs.AppliedSides.{lits_applied}
use Rattle.cyp_kernel.proofs.ChunkOrder.{AllHold}
use Rattle.cyp_kernel.proofs.FoundMatch.{found}
use Rattle.cyp_kernel.proofs.FreePositions.{positions_free}
use Rattle.cyp_kernel.proofs.GoalFacts.{facts_true, shown_true}
use Rattle.cyp_kernel.proofs.MendedCells.{beside_after, ordered_out, places_after}
use Rattle.cyp_kernel.proofs.MendsFound.{contents_at, mend_of_content, mend_taken}
use Rattle.cyp_kernel.proofs.NamedValues.{expr_is}
use Rattle.cyp_kernel.proofs.Offsets.{plus-zero}
use Rattle.cyp_kernel.proofs.PairedChunks.{their_places}
use Rattle.cyp_kernel.proofs.PairsHold.{are_made, pairs_hold}
use Rattle.cyp_kernel.proofs.PairsOut.{pairs_out}
use Rattle.cyp_kernel.proofs.SteadyParts.{pre_apart, pre_chunk_fits}
use Rattle.cyp_kernel.proofs.StoreRuns.{mended}
use Rattle.cyp_kernel.proofs.WalkFinds.{PositionHolds, walk_holds}
use Rattle.cyp_kernel.specs.Correct.{unlinked}
use Rattle.cyp_kernel.specs.Meets.{AreNamed}
use Rattle.cyp_kernel.specs.Naming.{Names, expr_of}
use Rattle.cyp_kernel.specs.Statements.{in_cell_order}
use Rattle.cyp_kernel.specs.Steady.{IsSteady}
use Rattle.cyp_machine.specs.Values.{Values, expr_value}
use Rattle.cyp_step.specs.Calling.{are_shown, chunks_beside, is_callable}
use Rattle.cyp_step.specs.Changes.{pre_of}
use Rattle.cyp_step.specs.Mends.{is_needed, is_writable, writes_for}
use Rattle.cyp_step.specs.Shown.{is_program_expr, shown}
use Rattle.cyp_term.proofs.Lists.{Among, each_at}
use Rattle.cyp_term.proofs.Substitution.{value-apply_term}
use Rattle.cyp_term.specs.Meaning.{AllTrue, Assignment, under}
use Rattle.cyp_term.specs.Terms.{apply_lit, apply_term, var_term, wide_lit}
use Rattle.cyp_term.specs.declared.term.Var.{Var}
use Rattle.cyp_unify.specs.Matches.{Walk, match_at, no_walk, walk}
use Rattle.cyp_unify.specs.declared.found.Match.{Match}
use Rattle.cyp_unify.specs.declared.found.Mend.{Mend}

-- ---- what a callable companion tells

-- the tests that were passed
pub record Callable (n : Node) (l : Link) (f : Match) : Type 0 where
  pub program : list_all (λ v. is_program_expr n.goal (apply_term f.by (var_term v))) l.goal.program ≡ true
  pub need : shown n.goal f.need ≡ true
  pub pure_pre : shown n.goal (map (apply_lit f.by) l.goal.pure_pre) ≡ true
  pub writable : list_all (is_writable n.goal) (filter (is_needed n.goal) f.mends) ≡ true
  pub writes : writes_for n.goal f ≡ Some (filter (is_needed n.goal) f.mends)

passed : (a b : Bool) → elim a [ false ↦ false | true ↦ b ] ≡ true → (a ≡ true) × (b ≡ true)
passed true b e = (refl, e)
passed false b e = absurd (false≢true e)

not_passed : (a b : Bool) → elim a [ true ↦ false | false ↦ b ] ≡ true → b ≡ true
not_passed true b e = absurd (false≢true e)
not_passed false b e = e

written_true : {A : Type 0} (b : Bool) (x : A) → is_some (cond b (Some x) None) ≡ true → b ≡ true
written_true true x e = refl
written_true false x e = absurd (false≢true e)

pub callable : (n : Node) (l : Link) (f : Match) → is_callable n l f ≡ true → Callable n l f
callable n l f e =
    let a = passed (list_all (λ v. is_program_expr n.goal (apply_term f.by (var_term v))) l.goal.program) _ e in
    let b = passed (shown n.goal f.need) _ a.1 in
    let c = passed (are_shown n.goal (map (apply_lit f.by) l.goal.pure_pre)) _ b.1 in
    let d = passed (is_some (writes_for n.goal f)) _ c.1 in
    let kept : List Mend = filter (is_needed n.goal) f.mends in
    let w = written_true (list_all (is_writable n.goal) kept) kept d.0 in
    record {
      program = a.0;
      need = b.0;
      pure_pre = not_passed (list_any wide_lit (map (apply_lit f.by) l.goal.pure_pre)) (shown n.goal (map (apply_lit f.by) l.goal.pure_pre)) c.0;
      writable = w;
      writes = ap (λ (x : Bool). cond x (Some kept) None) w;
    }

-- ---- the companion's precondition

module _ (n : Node) (steady : IsSteady n) (l : Link) (inner : IsSteady (unlinked n.preds l.goal)) (ks : List ℕ) (f : Match) (match : match_at n l ks ≡ Some f) (calls : Callable n l f)
    (s : Assignment) (h : Store) (ns : List ℕ) (pre : SideHolds n.preds s n.goal.pure_pre n.goal.pre.chunks h ns) where
  abbrev pub inst : Instances
  inst = InstanceHolds n.preds

  -- the companion's variables have the values of what they are bound to
  abbrev pub callee_values : Assignment
  callee_values = under f.by s

  abbrev pub call_stores : List Mend
  call_stores = in_cell_order (filter (is_needed n.goal) f.mends)

  -- the companion's precondition has a part of the heap, and the chunks that aren't paired have the rest
  pub record CallStart (large : Store) : Type 0 where
    pub part : Store
    pub rest : Store
    pub union : IsUnion large part rest
    pub heights : List ℕ
    pub holds : SideHolds n.preds callee_values l.goal.pure_pre l.goal.pre.chunks part heights
    pub others : AllHold inst s (chunks_beside 0 ks (pre_of n)) rest

  pub call_start : (large : Store) → AllHold inst s (mended (pre_of n) call_stores) large → CallStart large
  call_start large all =
      let known : AllTrue s (facts n.goal) = facts_true n.preds n.goal s h ns pre in
      let o = found n l ks f match in
      let need : AllTrue s f.need = shown_true n.goal f.need calls.need s known in
      let free = positions_free l.goal.exist (pre_of n) l.goal.pre.chunks ks o.steps o.paired (pre_apart (unlinked n.preds l.goal) inner) in
      let w : Walk = walk l.goal.exist no_walk o.steps in
      let holds = walk_holds l.goal.exist no_walk o.steps free s f.by o.extends (o.true_walk s need) in
      let positions_hold = subst (λ (ms : List Mend). AllByRecursion (PositionHolds s callee_values ms) o.steps) (sym o.mends_are) holds in
      let made = are_made n.goal s f.mends known in
      let of_content = λ (m : Mend) (a : Among m f.mends). mend_of_content l.goal.exist o.steps free s f.by o.extends m (subst (λ (ms : List Mend). Among m ms) o.mends_are a) in
      let taken = λ (m : Mend) (a : Among m call_stores). mend_taken (pre_of n) l.goal.pre.chunks ks o.steps o.paired s callee_values m (of_content m (made.among m a)) in
      let places = places_after call_stores (pre_of n) ks (their_places (pre_of n) l.goal.pre.chunks ks o.steps o.paired) in
      let out = pairs_out inst s ks (mended (pre_of n) call_stores) large places all in
      let callee = pairs_hold n.preds s callee_values (pre_of n) f.mends call_stores made o.steps of_content (pre_chunk_fits n steady) l.goal.pre.chunks ks o.steps o.paired
      (sides_fit n.preds l.goal inner.fits).pre (contents_at (pre_of n) l.goal.pre.chunks ks o.steps o.paired) positions_hold out.part out.paired in
      record {
        part = out.part;
        rest = out.rest;
        union = out.union;
        heights = callee.0;
        holds = ((lits_applied f.by s l.goal.pure_pre).1 (shown_true n.goal (map (apply_lit f.by) l.goal.pure_pre) calls.pure_pre s known), callee.1, callee.2);
        others = subst (λ (xs : List Chunk). AllHold inst s xs out.rest) (beside_after ks call_stores (pre_of n) taken) out.others;
      }

  pub stores_writable : (m : Mend) → Among m call_stores → is_writable n.goal m ≡ true
  stores_writable m a = each_at (is_writable n.goal) m (filter (is_needed n.goal) f.mends) calls.writable (ordered_out m (filter (is_needed n.goal) f.mends) a)

  -- ---- the values that are passed

  args_are : (names : Names) (vs : Values) → AreNamed names vs s n.goal.program → (xs : List Var) → list_all (λ v. is_program_expr n.goal (apply_term f.by (var_term v))) xs ≡ true
      → map (expr_value vs) (map (λ v. expr_of names (apply_term f.by (var_term v))) xs) ≡ map callee_values.number xs
  args_are names vs named [] e = refl
  args_are names vs named (v ∷ xs) e =
      let both = and_parts (is_program_expr n.goal (apply_term f.by (var_term v))) (list_all (λ w. is_program_expr n.goal (apply_term f.by (var_term w))) xs) e in
      let here = expr_is names vs s n.goal (apply_term f.by (var_term v)) named both.0 ∙ value-apply_term f.by s (var_term v) ∙ plus-zero (callee_values.number v) in
      let rest = args_are names vs named xs both.1 in
      λ i. here i ∷ rest i

  pub args_passed : (names : Names) (vs : Values) → AreNamed names vs s n.goal.program
      → map (expr_value vs) (map (λ v. expr_of names (apply_term f.by (var_term v))) l.goal.program) ≡ map callee_values.number l.goal.program
  args_passed names vs named = args_are names vs named l.goal.program calls.program
