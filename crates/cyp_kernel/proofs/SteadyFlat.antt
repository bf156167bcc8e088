-- The rules that unfold nothing leave what the rules ask.
use Rattle.std.proofs.Common.{◌≡◌, refl, sym, ap, ℕ, zero, suc, ◌<◌, ◌≤◌, arith, true, false, not, ◌&&◌, ◌==◌, List, [], ◌∷◌, ◌++◌, IfSome, Option, Some, None, inl, inr, length, map, subst, ◌||◌, ◌∙◌}
use Rattle.std.specs.List.{AllByRecursion, list_all}
use Rattle.std.proofs.lemmas.Bool.{and_from, and_parts, cond_both, false_from_ne_true, not-true, or_from}
use Rattle.std.proofs.lemmas.List.Folds.{list_any-append}
use Rattle.cyp_goal.proofs.EachVar.{Each, first, second}
use Rattle.cyp_goal.proofs.Live.{in_among}
use Rattle.cyp_goal.specs.Raw.{arg_fits, set_fits, term_fits}
use Rattle.cyp_heap.specs.Chunks.{insts, put, without}
use Rattle.cyp_heap.specs.Formed.{all_differ}
use Rattle.cyp_heap.specs.declared.chunk.Arg.{Arg}
use Rattle.cyp_heap.specs.declared.chunk.Arg.TheVariants.{Int as IntArg, Set as SetArg}
use Rattle.cyp_heap.specs.declared.chunk.Chunk.{Chunk}
use Rattle.cyp_heap.specs.declared.chunk.Chunk.TheVariants.{Block, Cell, Inst}
use Rattle.cyp_heap.specs.declared.goal.Goal.{Goal}
use Rattle.cyp_heap.specs.declared.goal.Node.{Node}
use Rattle.cyp_kernel.proofs.AgreeVars.{is_number_var}
use Rattle.cyp_kernel.proofs.AppliedVars.{joined}
use Rattle.cyp_kernel.proofs.FramePairs.{pair_of_focus}
use Rattle.cyp_kernel.proofs.NewNumber.{first_new, int_var, old_parts}
use Rattle.cyp_kernel.proofs.OldVars.{IsOld}
use Rattle.cyp_kernel.proofs.SteadyNodes.{ChunkClear, ChunkSorted, Clear, IsSettled, LinkClear, LitClear, LitSorted, new_clear, settled_node}
use Rattle.cyp_kernel.specs.SteadyLaws.{IsSteadyNode}
use Rattle.cyp_pred.specs.Unfold.{new_ints}
use Rattle.cyp_step.proofs.ChunkLists.{Every-put, Every-put_all, Every-slice_get, Every-slice_set, Every-without, IfSome-map}
use Rattle.cyp_step.proofs.RawNodes.{by_option, by_test}
use Rattle.cyp_step.specs.Changes.{Raws, add_pre, new_int, next_of, post_of, pre_of}
use Rattle.cyp_step.specs.FlatRules.{block_cells, equal_vars, first_exist, first_place, has_exist, is_bare_open, is_cell_at, is_place, is_universal, is_written_at, new_cells, occurs_elsewhere, pair_at, raw_alloc, raw_frame, raw_free, raw_pick, raw_read, raw_write, without_cells}
use Rattle.cyp_step.specs.Shown.{is_open, is_program_base, is_program_expr, shown}
use Rattle.cyp_term.proofs.Equality.{Decides-sort_eq}
use Rattle.cyp_term.proofs.Lists.{Among, Every-append}
use Rattle.cyp_term.specs.Terms.{base_vars, is_set_var, sort_eq, term_vars, var_eq, var_in, var_term}
use Rattle.cyp_term.specs.declared.lit.Lit.{Lit}
use Rattle.cyp_term.specs.declared.lit.Lit.TheVariants.{Eq, Same}
use Rattle.cyp_term.specs.declared.term.Sort.{Sort}
use Rattle.cyp_term.specs.declared.term.Sort.TheVariants.{Int, Set}
use Rattle.cyp_term.specs.declared.term.Term.{Term}
use Rattle.cyp_term.specs.declared.term.Var.{Var}
use Rattle.cyp_unify.specs.Frames.{arg_equalities, arg_equality, focus, frame_lits, frame_pairs}
use Rattle.cyp_unify.specs.declared.found.Pair.{Pair}

-- what a rule leaves, where it is allowed
abbrev pub AreSettled : Raws → Type 0
AreSettled r = IfSome r (AllByRecursion IsSettled)

-- ---- program variables

-- integers that differ, none of which is an existential
pub record ProgramRight (exist program : List Var) : Type 0 where
  pub int : list_all (λ (v : Var). sort_eq v.sort Int) program ≡ true
  pub differs : all_differ program ≡ true
  pub clear : Each (Clear exist) program

pub differ_join : (xs ys : List Var) → all_differ xs ≡ true → all_differ ys ≡ true → Each (λ v. var_in v ys ≡ false) xs → all_differ (xs ++ ys) ≡ true
differ_join [] ys a b e = b
differ_join (x ∷ xs) ys a b e =
    let both = and_parts (not (var_in x xs)) (all_differ xs) a in
    and_from (not (var_in x (xs ++ ys))) (all_differ (xs ++ ys))
    (ap not (list_any-append (var_eq x) xs ys ∙ or_from (var_in x xs) (var_in x ys) (not-true (var_in x xs) both.0) (e x (inl refl))))
    (differ_join xs ys both.1 b (λ v k. e v (inr k)))

int_join : (xs ys : List Var) → list_all (λ (v : Var). sort_eq v.sort Int) xs ≡ true → list_all (λ (v : Var). sort_eq v.sort Int) ys ≡ true
    → list_all (λ (v : Var). sort_eq v.sort Int) (xs ++ ys) ≡ true
int_join [] ys a b = b
int_join (x ∷ xs) ys a b =
    let both = and_parts (sort_eq x.sort Int) (list_all (λ (v : Var). sort_eq v.sort Int) xs) a in
    and_from (sort_eq x.sort Int) (list_all (λ (v : Var). sort_eq v.sort Int) (xs ++ ys)) both.0 (int_join xs ys both.1 b)

-- a term that is sorted and without existentials
abbrev pub TermClear : List Var → Term → Type 0
TermClear exist t = (term_fits is_number_var t ≡ true) × Each (Clear exist) (term_vars t)

-- ---- literals of a frame

args_sorted : (xs ys : List Arg) → list_all (arg_fits is_number_var is_set_var) xs ≡ true → list_all (arg_fits is_number_var is_set_var) ys ≡ true
    → AllByRecursion LitSorted (arg_equalities xs ys)
args_sorted [] ys a b = tt
args_sorted (x ∷ xs) [] a b = tt
args_sorted (x ∷ xs) (y ∷ ys) a b =
    let p = and_parts (arg_fits is_number_var is_set_var x) (list_all (arg_fits is_number_var is_set_var) xs) a in
    let q = and_parts (arg_fits is_number_var is_set_var y) (list_all (arg_fits is_number_var is_set_var) ys) b in
    Every-append LitSorted (arg_equality x y) (arg_equalities xs ys) (one x y p.0 q.0) (args_sorted xs ys p.1 q.1)
  where
    one : (x y : Arg) → arg_fits is_number_var is_set_var x ≡ true → arg_fits is_number_var is_set_var y ≡ true → AllByRecursion LitSorted (arg_equality x y)
    one (IntArg t) (IntArg r) h k = (and_from (term_fits is_number_var t) (term_fits is_number_var r) h k, tt)
    one (SetArg u) (SetArg r) h k = (and_from (set_fits is_number_var is_set_var u) (set_fits is_number_var is_set_var r) h k, tt)
    one _ _ h k = tt

frame_sorted : (f c : Chunk) → ChunkSorted f → ChunkSorted c → AllByRecursion LitSorted (frame_lits f c)
frame_sorted (Inst i) (Inst j) a b = args_sorted i.args j.args (and_parts _ _ a).0 (and_parts _ _ b).0
frame_sorted (Block x) (Block y) a b = (and_from (term_fits is_number_var x.at) (term_fits is_number_var y.at) a b, tt)
frame_sorted (Cell x) (Cell y) a b =
    let p = and_parts (term_fits is_number_var x.at) (term_fits is_number_var x.content) a in
    let q = and_parts (term_fits is_number_var y.at) (term_fits is_number_var y.content) b in
    (and_from (term_fits is_number_var x.at) (term_fits is_number_var y.at) p.0 q.0, (and_from (term_fits is_number_var x.content) (term_fits is_number_var y.content) p.1 q.1, tt))
frame_sorted _ _ a b = tt

-- ---- cells taken

pub cells_kept : (P : Chunk → Type 0) (ts : List Term) (cs : List Chunk) → AllByRecursion P cs → IfSome (without_cells ts cs) (AllByRecursion P)
cells_kept P [] cs h = h
cells_kept P (t ∷ ts) cs h =
    by_option (first_place (is_written_at t) 0 cs) (λ e. rw (e, without_cells) tt) (λ k e. rw (e, without_cells) (cells_kept P ts (without cs k) (Every-without P cs k h)))

-- ---- an existential taken to be a variable

equal_sorted : (v u : Var) → sort_eq u.sort v.sort ≡ true → LitSorted (equal_vars v u)
equal_sorted v u e =
    let same : u.sort ≡ v.sort = (Decides-sort_eq u.sort v.sort).0 e in
    cond_both (is_set_var v) (Same _ _) (Eq (var_term v) (var_term u)) LitSorted
    (λ d. let k : is_set_var u ≡ true = ap (λ (s : Sort). sort_eq s Set) same ∙ d in rw (d, k) refl)
    (λ d. let k : is_set_var u ≡ false = ap (λ (s : Sort). sort_eq s Set) same ∙ d in rw (d, k) refl)

module _ (n : Node) (w : IsSteadyNode n) where
  abbrev pub exist : List Var
  exist = n.goal.exist

  abbrev pub s : IsSettled n
  s = settled_node n w

  pub same_program : ProgramRight exist n.goal.program
  same_program = record { int = s.program_int; differs = s.program_differs; clear = s.program }

  one_new : (k : ℕ) → first_new n ≤ k → Each (Clear exist) (int_var k ∷ [])
  one_new k l v (inl e) = subst (Clear exist) (sym e) (new_clear n w k l)
  one_new k l v (inr m) = absurd m

  self : (m : ℕ) → m ≤ m
  self m = omega arith

  up : (m k : ℕ) → m ≤ k → m ≤ suc k
  up m k l = omega arith

  with_new : ProgramRight exist (n.goal.program ++ new_int n ∷ [])
  with_new = record {
    int = int_join n.goal.program (new_int n ∷ []) s.program_int refl;
    differs = differ_join n.goal.program (new_int n ∷ []) s.program_differs refl (λ v k. false_from_ne_true (var_in v (new_int n ∷ [])) (λ e. among_new v (old_parts n).program v k (in_among v (new_int n ∷ []) e)));
    clear = joined (Clear exist) n.goal.program (new_int n ∷ []) s.program (one_new (first_new n) (self (first_new n)));
  }
    where
      among_new : (v : Var) → Each (IsOld (next_of n)) n.goal.program → (v : Var) → Among v n.goal.program → Among v (new_int n ∷ []) → ⊥
      among_new u old v k (inl e) = less (first_new n) (subst (IsOld (next_of n)) e (old v k))
        where
          less : (m : ℕ) → m < m → ⊥
          less m l = omega arith
      among_new u old v k (inr m) = absurd m

  -- one premise with the same existentials and companions
  pub one : (g : Goal) → exist ≡ g.exist → ProgramRight exist g.program → AllByRecursion (LitClear exist) g.pure_pre → AllByRecursion (ChunkClear exist) g.pre.chunks
      → AllByRecursion LitSorted g.pure_post → AllByRecursion ChunkSorted g.post.chunks → AreSettled (Some (record n { goal = g } ∷ []))
  one g e p a b c d = (
    record {
      program_int = p.int;
      program_differs = p.differs;
      exist_differs = subst (λ (vs : List Var). all_differ vs ≡ true) e s.exist_differs;
      program = subst (λ (vs : List Var). Each (Clear vs) g.program) e p.clear;
      pure_pre = subst (λ (vs : List Var). AllByRecursion (LitClear vs) g.pure_pre) e a;
      pre = subst (λ (vs : List Var). AllByRecursion (ChunkClear vs) g.pre.chunks) e b;
      pure_post = c;
      post = d;
      links = subst (λ (vs : List Var). AllByRecursion (LinkClear vs) n.links) e s.links;
      companions = s.companions;
    },
    tt,
  )

  pub lits_and : (ls : List Lit) → AllByRecursion (LitClear exist) ls → AllByRecursion (LitClear exist) (n.goal.pure_pre ++ ls)
  lits_and ls h = Every-append (LitClear exist) n.goal.pure_pre ls s.pure_pre h

  post_and : (ls : List Lit) → AllByRecursion LitSorted ls → AllByRecursion LitSorted (n.goal.pure_post ++ ls)
  post_and ls h = Every-append LitSorted n.goal.pure_post ls s.pure_post h

  -- a program expression has no existential
  program_clear : (b : Option Var) → is_program_base n.goal b ≡ true → Each (Clear exist) (base_vars b)
  program_clear None h v k = absurd k
  program_clear (Some u) h v (inl e) = s.program v (in_among v n.goal.program (subst (λ (x : Var). var_in x n.goal.program ≡ true) (sym e) h))
  program_clear (Some u) h v (inr k) = absurd k

  pub read_steady : (i : ℕ) (o : Option Chunk) → IfSome o (ChunkClear exist) → AreSettled (raw_read n i o)
  read_steady i (Some (Cell c)) h =
      let y : Var = new_int n in
      let fit = and_parts (term_fits is_number_var c.at) (term_fits is_number_var c.content) h.0 in
      let at = first (Clear exist) (term_vars c.at) (term_vars c.content) h.1 in
      let content = second (Clear exist) (term_vars c.at) (term_vars c.content) h.1 in
      let new = one_new (first_new n) (self (first_new n)) in
      by_test (is_program_expr n.goal c.at && not (is_program_expr n.goal c.content) && occurs_elsewhere n.goal c.content)
      (λ e. rw e
      (one _ refl with_new (lits_and _ ((fit.1, joined (Clear exist) (y ∷ []) (term_vars c.content) new content), tt))
      (Every-slice_set (ChunkClear exist) (pre_of n) i (Cell (record { at = c.at; content = var_term y })) (and_from (term_fits is_number_var c.at) true fit.0 refl, joined (Clear exist) (term_vars c.at) (y ∷ []) at new) s.pre)
      s.pure_post s.post))
      (λ e. rw e tt)
  read_steady i _ h = tt

  pub frame_steady : (i : ℕ) → AreSettled (raw_frame n i)
  frame_steady i =
      by_option (pair_at i (frame_pairs n.goal)) (λ e. rw (e, raw_frame) tt)
      (λ p e. rw (e, raw_frame)
      (by_test (list_all (λ l. is_open n.goal l || shown n.goal (l ∷ [])) p.lits)
      (λ d. rw d
      (one _ refl same_program (lits_and [] tt) (Every-without (ChunkClear exist) (pre_of n) i s.pre) (post_and p.lits (paired p e))
      (Every-without ChunkSorted (post_of n) 0 s.post)))
      (λ d. rw d tt)))
    where
      paired : (p : Pair) → pair_at i (frame_pairs n.goal) ≡ Some p → AllByRecursion LitSorted p.lits
      paired p e =
          let q = pair_of_focus (focus n.goal) (pre_of n) i p e in
          subst (AllByRecursion LitSorted) (sym q.5)
          (frame_sorted q.0 q.1
          (subst (λ (o : Option Chunk). IfSome o ChunkSorted) q.2 (Every-slice_get ChunkSorted (post_of n) 0 s.post))
          (subst (λ (o : Option Chunk). IfSome o (ChunkClear exist)) q.3 (Every-slice_get (ChunkClear exist) (pre_of n) i s.pre)).0)

  pub write_steady : (i : ℕ) (o p : Option Chunk) → IfSome o ChunkSorted → IfSome p (ChunkClear exist) → AreSettled (raw_write n i o p)
  write_steady i (Some (Cell f)) (Some (Cell c)) h k =
      by_test (not (has_exist n.goal f.at) && is_program_expr n.goal c.at && is_program_expr n.goal f.content)
      (λ e. rw (e, raw_write)
      (by_test (is_place i (first_place (is_cell_at n.goal f.at) 0 (pre_of n)))
      (λ d. rw d
      (by_test (shown n.goal (Eq f.content c.content ∷ []))
      (λ b. rw b tt)
      (λ b. rw b (one _ refl same_program (lits_and [] tt) (Every-slice_set (ChunkClear exist) (pre_of n) i (Cell (record { at = c.at; content = f.content })) (written (and_parts _ _ e).1) s.pre) s.pure_post s.post))))
      (λ d. rw d tt)))
      (λ e. rw (e, raw_write) tt)
    where
      written : is_program_expr n.goal f.content ≡ true → ChunkClear exist (Cell (record { at = c.at; content = f.content }))
      written e = (
        and_from (term_fits is_number_var c.at) (term_fits is_number_var f.content) (and_parts _ _ k.0).0 (and_parts (term_fits is_number_var f.at) _ h).1,
        joined (Clear exist) (term_vars c.at) (term_vars f.content) (first (Clear exist) (term_vars c.at) (term_vars c.content) k.1) (program_clear f.content.base e),
      )
  write_steady i _ _ h k = tt

  pub free_steady : (i : ℕ) (o : Option Chunk) → AreSettled (raw_free n i o)
  free_steady i (Some (Block b)) =
      by_test (length (post_of n) == 0 && is_program_expr n.goal b.at)
      (λ e. rw (e, raw_free)
      (IfSome-map (AllByRecursion (ChunkClear exist)) (AllByRecursion IsSettled) (λ (cs : List Chunk). add_pre n [] cs ∷ [])
      (λ cs h. one _ refl same_program (lits_and [] tt) h s.pure_post s.post)
      (without_cells (block_cells b.at b.size) (without (pre_of n) i))
      (cells_kept (ChunkClear exist) (block_cells b.at b.size) (without (pre_of n) i) (Every-without (ChunkClear exist) (pre_of n) i s.pre))))
      (λ e. rw (e, raw_free) tt)
  free_steady i _ = tt

  new_terms : (a m : ℕ) → first_new n ≤ a → AllByRecursion (TermClear exist) (map var_term (new_ints a m))
  new_terms a zero l = tt
  new_terms a (suc m) l = ((refl, one_new a l), new_terms (suc a) m (up (first_new n) a l))

  cells_clear : (t : Term) (j : ℕ) (vs : List Term) → TermClear exist t → AllByRecursion (TermClear exist) vs → AllByRecursion (ChunkClear exist) (new_cells t j vs)
  cells_clear t j [] a h = tt
  cells_clear t j (v ∷ vs) a h = (
    (and_from (term_fits is_number_var t) (term_fits is_number_var v) a.0 h.0.0, joined (Clear exist) (term_vars t) (term_vars v) a.1 h.0.1),
    cells_clear t (suc j) vs a h.1,
  )

  pub alloc_steady : (o : Option Chunk) → IfSome o ChunkSorted → AreSettled (raw_alloc n o)
  alloc_steady (Some (Block f)) h =
      let z : Var = new_int n in
      let contents : List Term = map var_term (new_ints (suc z.number) f.size) in
      let block : Chunk = Block (record { at = var_term z; size = f.size }) in
      let new : TermClear exist (var_term z) = (refl, one_new (first_new n) (self (first_new n))) in
      by_test (is_bare_open n.goal f.at)
      (λ e. rw e
      (one _ refl with_new (lits_and [] tt)
      (Every-put_all (ChunkClear exist) (put (pre_of n) block) (new_cells (var_term z) 0 contents)
      (cells_clear (var_term z) 0 contents new (new_terms (suc z.number) f.size (up (first_new n) (first_new n) (self (first_new n)))))
      (Every-put (ChunkClear exist) (pre_of n) block new s.pre))
      (post_and _ (and_from (term_fits is_number_var f.at) true h refl, tt)) s.post))
      (λ e. rw e tt)
  alloc_steady _ h = tt

  pub pick_steady : (u : Var) → AreSettled (raw_pick n u)
  pick_steady u =
      by_option (first_exist n.goal) (λ e. rw (e, raw_pick) tt)
      (λ v e. rw (e, raw_pick)
      (by_test (length (insts (post_of n)) == 0 && is_universal n.goal v.sort u)
      (λ d. rw d (one _ refl same_program s.pure_pre s.pre (post_and (equal_vars v u ∷ []) (equal_sorted v u (same v (and_parts _ _ d).1), tt)) s.post))
      (λ d. rw d tt)))
    where
      same : (v : Var) → is_universal n.goal v.sort u ≡ true → sort_eq u.sort v.sort ≡ true
      same v e = (and_parts _ _ (and_parts _ _ (and_parts _ _ e).0).0).0
