-- The statements of a rule fit where the bodies of its premises do.
use Rattle.cyp_compile.proofs.Keeping.NamesBound.{IsCalled, bound_name}
use Rattle.cyp_compile.specs.Rules.{SizesFit}
use Rattle.cyp_heap.specs.BlockValue.{BlockValue}
use Rattle.cyp_heap.specs.declared.chunk.CellAt.{CellAt}
use Rattle.cyp_heap.specs.declared.chunk.Chunk.{Chunk}
use Rattle.cyp_heap.specs.declared.chunk.Chunk.TheVariants.{Block, Cell, Inst}
use Rattle.cyp_heap.specs.declared.goal.Link.{Link}
use Rattle.cyp_heap.specs.declared.goal.Node.{Node}
use Rattle.cyp_kernel.proofs.CallStart.{Callable, callable}
use Rattle.cyp_kernel.proofs.RuleCall.{called}
use Rattle.cyp_kernel.proofs.RuleFree.{free_parts}
use Rattle.cyp_kernel.proofs.RuleOpen.{open_parts}
use Rattle.cyp_kernel.proofs.RuleRead.{read_parts}
use Rattle.cyp_kernel.proofs.RuleWrite.{write_parts}
use Rattle.cyp_kernel.specs.Compile.{bound_count}
use Rattle.cyp_kernel.specs.Naming.{Names, base_name, expr_of, test_of}
use Rattle.cyp_kernel.specs.Statements.{by_cell, chunk_address, chunk_content, choose, first_body, guards, in_cell_order, kept_mends, linked_call, matched_call, rule_body, stores}
use Rattle.cyp_pred.specs.Unfold.{unfold_inst}
use Rattle.cyp_pred.specs.declared.unfolded.Unfolded.{Unfolded}
use Rattle.cyp_prog.specs.Programs.{Body, Invoking, Procedure, Then}
use Rattle.cyp_prog.specs.Rules.{BodyFits, ExprFits, ExprsFit, HasParams, IsBound}
use Rattle.cyp_step.specs.Calling.{raw_call}
use Rattle.cyp_step.specs.Changes.{next_of, pre_of}
use Rattle.cyp_step.specs.Mends.{address_of, is_needed, is_writable}
use Rattle.cyp_step.specs.Shown.{is_program_base, is_program_expr}
use Rattle.cyp_step.specs.Step.{raws}
use Rattle.cyp_step.specs.Unfolding.{is_testable, raw_open}
use Rattle.cyp_step.specs.declared.rule.CallBy.{CallBy}
use Rattle.cyp_step.specs.declared.rule.Rule.{Rule}
use Rattle.cyp_step.specs.declared.rule.Rule.TheVariants.{ByAlloc, ByCall, ByClose, ByEmp, ByFrame, ByFree, ByInconsistent, ByOpen, ByPick, ByRead, ByWrite}
use Rattle.cyp_term.specs.Terms.{apply_term, var_term}
use Rattle.cyp_term.specs.declared.lit.Lit.{Lit}
use Rattle.cyp_term.specs.declared.lit.Lit.TheVariants.{Eq, Le, Lt, Member, Ne, NotMember, NotSame, NotSub, Same, Sub}
use Rattle.cyp_term.specs.declared.term.Term.{Term}
use Rattle.cyp_term.specs.declared.term.Var.{Var}
use Rattle.cyp_unify.specs.Frames.{focus}
use Rattle.cyp_unify.specs.declared.found.Match.{Match}
use Rattle.cyp_unify.specs.declared.found.Mend.{Mend}
use Rattle.std.proofs.Common.{◌≡◌, refl, sym, ℕ, suc, Bool, true, false, ◌&&◌, cond, length, List, [], ◌∷◌, map, Option, Some, None, subst}
use Rattle.std.proofs.lemmas.Bool.{and_parts, false≢true}
use Rattle.std.proofs.lemmas.List.{length-map}
use Rattle.std.specs.List.{AllByRecursion, list_all}
use Rattle.std.specs.Prelude.{IfSome, filter, nat_lt, slice_get, slice_index}

-- where its sizes fit, the body fits
abbrev pub Fits : List Procedure → ℕ → Body → Type 0
Fits ps m b = SizesFit b → BodyFits ps m b

-- the procedure that a call runs has so many parameters as the companion's goal has program variables
abbrev pub CalleeTakes : List Procedure → Node → List ℕ → Rule → Type 0
CalleeTakes ps n procs (ByCall c) = (l : Link) → slice_get n.links c.link ≡ Some l → HasParams (length l.goal.program) (slice_get ps (slice_index procs c.link))
CalleeTakes ps n procs r = Unit {0}

all_true : {A : Type 0} (f : A → Bool) (xs : List A) → list_all f xs ≡ true → AllByRecursion (λ (x : A). f x ≡ true) xs
all_true f [] h = tt
all_true f (x ∷ xs) h = let b = and_parts (f x) (list_all f xs) h in (b.0, all_true f xs b.1)

module _ (ps : List Procedure) (n : Node) (names : Names) (m : ℕ) (w : IsCalled names n.goal.program m) where
  -- ---- expressions

  base_fits : (b : Option Var) → is_program_base n.goal b ≡ true → IfSome (base_name names b) (IsBound m)
  base_fits None e = tt
  base_fits (Some v) e = bound_name names n.goal.program m v w e

  expr_fits : (t : Term) → is_program_expr n.goal t ≡ true → ExprFits m (expr_of names t)
  expr_fits t e = base_fits t.base e

  pub exprs_fit : (f : Var → Term) (vs : List Var) → list_all (λ (v : Var). is_program_expr n.goal (f v)) vs ≡ true → ExprsFit m (map (λ (v : Var). expr_of names (f v)) vs)
  exprs_fit f [] h = tt
  exprs_fit f (v ∷ vs) h =
      let b = and_parts (is_program_expr n.goal (f v)) (list_all (λ (x : Var). is_program_expr n.goal (f x)) vs) h in
      (expr_fits (f v) b.0, exprs_fit f vs b.1)

  -- ---- bodies of premises

  first_fits : (k : ℕ) (bs : List Body) → AllByRecursion (Fits ps k) bs → Fits ps k (first_body bs)
  first_fits k [] h z = tt
  first_fits k (b ∷ bs) h z = h.0 z

  both_sides : (a b : Term) → (is_program_expr n.goal a && is_program_expr n.goal b) ≡ true → ExprFits m (expr_of names a) × ExprFits m (expr_of names b)
  both_sides a b e = let p = and_parts (is_program_expr n.goal a) (is_program_expr n.goal b) e in (expr_fits a p.0, expr_fits b p.1)

  test_fits : (g : Lit) → is_testable n.goal g ≡ true → ExprFits m (test_of names g).left × ExprFits m (test_of names g).right
  test_fits (Eq a b) e = both_sides a b e
  test_fits (Ne a b) e = both_sides a b e
  test_fits (Le a b) e = both_sides a b e
  test_fits (Lt a b) e = both_sides a b e
  test_fits (Member a b) e = (tt, tt)
  test_fits (NotMember a b) e = (tt, tt)
  test_fits (Same a b) e = (tt, tt)
  test_fits (NotSame a b) e = (tt, tt)
  test_fits (Sub a b) e = (tt, tt)
  test_fits (NotSub a b) e = (tt, tt)

  choose_fits : (gs : List Lit) (bs : List Body) → AllByRecursion (λ (g : Lit). is_testable n.goal g ≡ true) gs → AllByRecursion (Fits ps m) bs → Fits ps m (choose names gs bs)
  choose_fits [] bs t h z = first_fits m bs h z
  choose_fits (g ∷ []) bs t h z = first_fits m bs h z
  choose_fits (g ∷ k ∷ gs) [] t h z = tt
  choose_fits (g ∷ k ∷ gs) (b ∷ bs) t h z =
      let e = test_fits g t.0 in
      ((e.0, e.1, h.0 z.0.0, choose_fits (k ∷ gs) bs t.1 h.1 z.0.1), tt)

  -- ---- stores and calls

  store_fits : (o : Option Chunk) (v : Term) → elim (address_of o) [ None ↦ false | Some a ↦ is_program_expr n.goal a && is_program_expr n.goal v ] ≡ true
      → ExprFits m (expr_of names (chunk_address o)) × ExprFits m (expr_of names v)
  store_fits None v e = absurd (false≢true e)
  store_fits (Some (Cell c)) v e = both_sides c.at v e
  store_fits (Some (Block b)) v e = absurd (false≢true e)
  store_fits (Some (Inst j)) v e = absurd (false≢true e)

  stores_fit : (ms : List Mend) (b : Body) → AllByRecursion (λ (k : Mend). is_writable n.goal k ≡ true) ms → Fits ps m b → Fits ps m (stores n names ms b)
  stores_fit [] b h f z = f z
  stores_fit (k ∷ ks) b h f z = (store_fits (slice_get (pre_of n) k.cell) k.value h.0, stores_fit ks b h.1 f z.1)

  placed : (P : Mend → Type 0) (k : Mend) (ks : List Mend) → P k → AllByRecursion P ks → AllByRecursion P (by_cell k ks)
  placed P k [] p h = (p, tt)
  placed P k (j ∷ js) p h = at (nat_lt k.cell j.cell) (placed P k js p h.1)
    where
      at : (c : Bool) → AllByRecursion P (by_cell k js) → AllByRecursion P (cond c (k ∷ j ∷ js) (j ∷ by_cell k js))
      at true later = (p, h)
      at false later = (h.0, later)

  in_order : (P : Mend → Type 0) (ks : List Mend) → AllByRecursion P ks → AllByRecursion P (in_cell_order ks)
  in_order P [] h = tt
  in_order P (k ∷ ks) h = placed P k (in_cell_order ks) h.0 (in_order P ks h.1)

  invoking_fits : (p : ℕ) (l : Link) (f : Var → Term) → HasParams (length l.goal.program) (slice_get ps p) → list_all (λ (v : Var). is_program_expr n.goal (f v)) l.goal.program ≡ true
      → HasParams (length (map (λ (v : Var). expr_of names (f v)) l.goal.program)) (slice_get ps p) × ExprsFit m (map (λ (v : Var). expr_of names (f v)) l.goal.program)
  invoking_fits p l f h e = (subst (λ (k : ℕ). HasParams k (slice_get ps p)) (sym (length-map l.goal.program (λ (v : Var). expr_of names (f v)))) h, exprs_fit f l.goal.program e)

  matched_fits : (procs : List ℕ) (c : CallBy) (b : Body) (l : Link) (f : Match) → HasParams (length l.goal.program) (slice_get ps (slice_index procs c.link)) → Callable n l f → Fits ps m b
      → Fits ps m (matched_call n names procs c b l (Some f))
  matched_fits procs c b l f takes k fits =
      let kept : List Mend = filter (is_needed n.goal) f.mends in
      let rest : Body = Then (Invoking (slice_index procs c.link) (map (λ v. expr_of names (apply_term f.by (var_term v))) l.goal.program)) b in
      subst (λ (o : Option (List Mend)). Fits ps m (stores n names (in_cell_order (kept_mends o)) rest)) (sym k.writes)
      (stores_fit (in_cell_order kept) rest (in_order (λ (j : Mend). is_writable n.goal j ≡ true) kept (all_true (is_writable n.goal) kept k.writable))
      (λ z. (invoking_fits (slice_index procs c.link) l (λ v. apply_term f.by (var_term v)) takes k.program, fits z.1)))

  -- ---- every rule

  call_fits : (procs : List ℕ) (c : CallBy) (b : Body) (o : Option Link) (ms : List Node) → raw_call n c.pairs o ≡ Some ms
      → ((l : Link) → o ≡ Some l → HasParams (length l.goal.program) (slice_get ps (slice_index procs c.link))) → Fits ps m b
      → Fits ps m (linked_call n names procs c b o)
  call_fits procs c b o ms e takes fits =
      let w = called n c.pairs o ms e in
      let k : Callable n w.link w.found_match = callable n w.link w.found_match w.passes in
      subst (λ (x : Option Link). Fits ps m (linked_call n names procs c b x)) (sym w.link_is)
      (subst (λ (x : Option Match). Fits ps m (matched_call n names procs c b w.link x)) (sym w.match_is) (matched_fits procs c b w.link w.found_match (takes w.link w.link_is) k fits))

  cell_fits : (o : Option Chunk) (c : CellAt) → o ≡ Some (Cell c) → is_program_expr n.goal c.at ≡ true → ExprFits m (expr_of names (chunk_address o))
  cell_fits o c e h = subst (λ (x : Option Chunk). ExprFits m (expr_of names (chunk_address x))) (sym e) (expr_fits c.at h)

  block_fits : (o : Option Chunk) (b : BlockValue) → o ≡ Some (Block b) → is_program_expr n.goal b.at ≡ true → ExprFits m (expr_of names (chunk_address o))
  block_fits o b e h = subst (λ (x : Option Chunk). ExprFits m (expr_of names (chunk_address x))) (sym e) (expr_fits b.at h)

  content_fits : (o : Option Chunk) (c : CellAt) → o ≡ Some (Cell c) → is_program_expr n.goal c.content ≡ true → ExprFits m (expr_of names (chunk_content o))
  content_fits o c e h = subst (λ (x : Option Chunk). ExprFits m (expr_of names (chunk_content x))) (sym e) (expr_fits c.content h)

  guards_fit : (us : List Unfolded) → list_all (λ (u : Unfolded). is_testable n.goal u.guard) us ≡ true
      → AllByRecursion (λ (g : Lit). is_testable n.goal g ≡ true) (map (λ (u : Unfolded). u.guard) us)
  guards_fit [] h = tt
  guards_fit (u ∷ us) h = let b = and_parts (is_testable n.goal u.guard) (list_all (λ (x : Unfolded). is_testable n.goal x.guard) us) h in (b.0, guards_fit us b.1)

  open_fits : (i : ℕ) (o : Option Chunk) (bs : List Body) (ms : List Node) → raw_open n i o ≡ Some ms → AllByRecursion (Fits ps m) bs → Fits ps m (choose names (guards n o) bs)
  open_fits i o bs ms e all =
      let w = open_parts n i o ms e in
      subst (λ (x : Option Chunk). Fits ps m (choose names (guards n x) bs)) (sym w.1)
      (choose_fits (map (λ (u : Unfolded). u.guard) (unfold_inst n.preds w.0 (next_of n))) bs (guards_fit (unfold_inst n.preds w.0 (next_of n)) w.2) all)

  -- the rule's own statements, and the bodies of its premises among them
  pub rule_fits : (r : Rule) (procs : List ℕ) (bs : List Body) (ms : List Node) → raws n r ≡ Some ms → CalleeTakes ps n procs r → AllByRecursion (Fits ps (bound_count r m)) bs
      → Fits ps m (rule_body n names procs (suc m) r bs)
  rule_fits ByInconsistent procs bs ms e takes all z = (tt, tt)
  rule_fits ByEmp procs bs ms e takes all z = tt
  rule_fits (ByRead i) procs bs ms e takes all z =
      let w = read_parts n i (slice_get (pre_of n) i) ms e in
      ((refl, cell_fits (slice_get (pre_of n) i) w.0 w.1 w.2), first_fits (suc m) bs all z.1)
  rule_fits (ByFrame i) procs bs ms e takes all z = first_fits m bs all z
  rule_fits (ByWrite i) procs bs ms e takes all z =
      let w = write_parts n i (focus n.goal) (slice_get (pre_of n) i) ms e in
      ((cell_fits (slice_get (pre_of n) i) w.cell w.cell_is w.address, content_fits (focus n.goal) w.focus w.focus_is w.content), first_fits m bs all z.1)
  rule_fits (ByFree i) procs bs ms e takes all z =
      let w = free_parts n i (slice_get (pre_of n) i) ms e in
      (block_fits (slice_get (pre_of n) i) w.block w.block_is w.address, first_fits m bs all z.1)
  rule_fits ByAlloc procs bs ms e takes all z = ((refl, z.0.0, z.0.1), first_fits (suc m) bs all z.1)
  rule_fits (ByCall c) procs bs ms e takes all z = call_fits procs c (first_body bs) (slice_get n.links c.link) ms e takes (first_fits m bs all) z
  rule_fits (ByOpen i) procs bs ms e takes all z = open_fits i (slice_get (pre_of n) i) bs ms e all z
  rule_fits (ByClose c) procs bs ms e takes all z = first_fits m bs all z
  rule_fits (ByPick u) procs bs ms e takes all z = first_fits m bs all z
