-- The law of each rule at a small node: its premises are met there.
use Rattle.std.proofs.Common.{◌≡◌, refl, ℕ, zero, suc, ◌<◌, ◌&&◌, Bool, true, false, cond, not, List, [], ◌∷◌, ◌++◌, None, Some, ℤ, pos, arith, subst}
use Rattle.std.specs.Prelude.{IsTrue, is_none, slice_get}
use Rattle.std.specs.List.{list_all}
use Rattle.std.proofs.lemmas.Bool.{false≢true}
use Rattle.std.proofs.lemmas.Option.{none-some, same_Some}
use Rattle.cyp_goal.specs.Raw.{is_sorted}
use Rattle.cyp_heap.specs.Assertions.{SideHolds}
use Rattle.cyp_heap.specs.Chunks.{chunks_vars}
use Rattle.cyp_heap.specs.Formed.{all_differ, insts_fit}
use Rattle.cyp_heap.specs.PredsFormed.{IsFormedPreds}
use Rattle.cyp_heap.specs.Stores.{IsCell, Store}
use Rattle.cyp_heap.specs.declared.chunk.Chunk.{Chunk}
use Rattle.cyp_heap.specs.declared.chunk.Chunk.TheVariants.{Block, Cell, Inst}
use Rattle.cyp_heap.specs.declared.chunk.InstOf.{InstOf}
use Rattle.cyp_heap.specs.declared.goal.Goal.{Goal}
use Rattle.cyp_heap.specs.declared.goal.Link.{Link}
use Rattle.cyp_heap.specs.declared.goal.Node.{Node}
use Rattle.cyp_heap.specs.declared.pred.Preds.{Preds}
use Rattle.cyp_kernel.proofs.BodyRuns.{ended_run}
use Rattle.cyp_kernel.proofs.Examples.{empty_goal, empty_node}
use Rattle.cyp_kernel.proofs.ForgetVars.{agree_self, mixed, mixed_out}
use Rattle.cyp_kernel.proofs.RuleAlloc.{by_alloc}
use Rattle.cyp_kernel.proofs.RuleCall.{by_call}
use Rattle.cyp_kernel.proofs.RuleClose.{by_close}
use Rattle.cyp_kernel.proofs.RuleEmp.{by_emp}
use Rattle.cyp_kernel.proofs.RuleFrame.{by_frame}
use Rattle.cyp_kernel.proofs.RuleFree.{by_free}
use Rattle.cyp_kernel.proofs.RuleInconsistent.{by_inconsistent}
use Rattle.cyp_kernel.proofs.RuleOpen.{by_open}
use Rattle.cyp_kernel.proofs.RulePick.{by_pick}
use Rattle.cyp_kernel.proofs.RuleRead.{by_read}
use Rattle.cyp_kernel.proofs.RuleWrite.{by_write}
use Rattle.cyp_kernel.specs.Correct.{MeetsPost}
use Rattle.cyp_kernel.specs.Meets.{BodyMeets, IsNaming, ProcedureMeets}
use Rattle.cyp_kernel.specs.Naming.{Names}
use Rattle.cyp_kernel.specs.Steady.{IsSteady}
use Rattle.cyp_kernel.specs.SteadyLinks.{HasSteadyLinks}
use Rattle.cyp_prog.specs.Programs.{End, Failing, Giving, Invoking, Loading, Procedure, Storing, Taking, Then}
use Rattle.cyp_prog.specs.declared.stmt.Expr.{Expr}
use Rattle.cyp_step.specs.Step.{raws}
use Rattle.cyp_step.specs.Unfolding.{open_link}
use Rattle.cyp_step.specs.declared.rule.CallBy.{CallBy}
use Rattle.cyp_step.specs.declared.rule.Rule.TheVariants.{ByAlloc, ByCall, ByClose, ByEmp, ByFrame, ByFree, ByInconsistent, ByOpen, ByPick, ByRead, ByWrite}
use Rattle.cyp_term.specs.Entailment.{arrangement_fits, arrangements, class_literals, entailed, satisfiable}
use Rattle.cyp_term.specs.Integers.{all_cases, both, eliminate, eliminate_all, feasible, ints_fit, joined}
use Rattle.cyp_term.specs.Meaning.{Assignment, value}
use Rattle.cyp_term.specs.Regions.{all_set_vars, all_terms, regions_fit}
use Rattle.cyp_term.specs.Terms.{int_image, lits_vars, number_term, set_image, sort_eq, var_eq, var_in, var_term}
use Rattle.cyp_term.specs.declared.lit.Lit.TheVariants.{Eq, Lt}
use Rattle.cyp_term.specs.declared.term.Sort.TheVariants.{Card, Int}
use Rattle.cyp_term.specs.declared.term.Term.{Term}
use Rattle.cyp_term.specs.declared.term.Var.{Var}

abbrev x : Var
x = record { sort = Int; number = 0 }

abbrev y : Var
y = record { sort = Int; number = 1 }

abbrev number : ℕ → Term
number n = number_term (pos n)

abbrev cell : Term → Term → Chunk
cell a b = Cell (record { at = a; content = b })

abbrev block : Term → ℕ → Chunk
block a n = Block (record { at = a; size = n })

abbrev v1 : Expr
v1 = record { var = Some 1; offset = pos 0 }

-- one program variable, x, named v1
abbrev names : Names
names = (x, 1) ∷ []

below_two : (b : Bool) → cond b 1 0 < 2
below_two true = omega arith
below_two false = omega arith

named : IsNaming names (x ∷ []) 2
named = record { keys = refl; below = λ v h. below_two _ }

no_names : IsNaming [] [] 1
no_names = record { keys = refl; below = λ v h. absurd (false≢true h) }

no_image : {A : Type 0} (k : Link) (i : ℕ) → slice_get [] i ≡ Some k → A
no_image k i e = absurd (none-some k e)

no_preds : IsFormedPreds empty_node.preds
no_preds = record {
  few = refl;
  has_clauses = refl;
  few_clauses = refl;
  few_params = refl;
  params_sorted = refl;
  guards_plain = refl;
  guards_apart = refl;
  params_counted = refl;
  closed = refl;
  instances_plain = refl;
  productive = refl;
  clauses_within = refl;
}

-- a goal without companions, where the tests pass
unlinked_steady : (preds : Preds) (g : Goal) → IsTrue (is_sorted (record { preds = preds; goal = g; links = [] })) → IsTrue (insts_fit preds g)
    → IsTrue (list_all (λ (v : Var). sort_eq v.sort Int) g.program) → IsTrue (all_differ g.program) → IsTrue (all_differ g.exist)
    → IsTrue (list_all (λ v. not (var_in v (g.program ++ lits_vars g.pure_pre ++ chunks_vars g.pre.chunks))) g.exist)
    → IsSteady (record { preds = preds; goal = g; links = [] })
unlinked_steady preds g a b c d e f = record {
  sorted = a;
  fits = b;
  program_int = c;
  program_differs = d;
  exist_differs = e;
  exist_apart = f;
  exist_images = λ l i v p h. no_image l i p;
}

-- the node of a goal over no predicates
abbrev plain : Goal → Node
plain g = record empty_node { goal = g }

module _ (ps : List Procedure) (k : ℕ) where
  -- nothing is to be done where the precondition gives the postcondition
  end_meets : (preds : Preds) (g : Goal) (ns : Names) → ((s : Assignment) (h : Store) (ms : List ℕ) → SideHolds preds s g.pure_pre g.pre.chunks h ms → MeetsPost preds g s h) → BodyMeets ps preds g ns k End
  end_meets preds g ns f s h ms vs pre n m t l r = ended_run ps preds g s h vs m t (f s h ms pre) r

  -- ---- Inconsistent: { 0 < 0 } { 0 < 0 }

  abbrev never : Goal
  never = record empty_goal { pure_pre = Lt (number 0) (number 0) ∷ [] }

  no_premises : raws (plain never) ByInconsistent ≡ Some []
  unfolding joined eliminate eliminate_all feasible both all_cases ints_fit arrangements class_literals arrangement_fits satisfiable regions_fit all_terms all_set_vars
  no_premises = refl

  never_steady : IsSteady (plain never)
  never_steady = unlinked_steady empty_node.preds never refl refl refl refl refl refl

  failing_meets : BodyMeets ps empty_node.preds never [] k (Then Failing End)
  failing_meets = by_inconsistent ps (plain never) [] [] [] [] 1 k never_steady no_preds no_names no_premises tt tt

  -- ---- Emp: { emp } { emp }

  empty_steady : IsSteady empty_node
  empty_steady = unlinked_steady empty_node.preds empty_goal refl refl refl refl refl refl

  emp_premises : raws empty_node ByEmp ≡ Some []
  unfolding entailed
  emp_premises = refl

  empty_meets : BodyMeets ps empty_node.preds empty_goal [] k End
  empty_meets = by_emp ps empty_node [] [] [] [] 1 k empty_steady no_preds no_names emp_premises tt tt

  -- ---- Frame: { x :-> 0 } { x :-> 0 }

  abbrev kept : Goal
  kept = record empty_goal { program = x ∷ []; pre = record { chunks = cell (var_term x) (number 0) ∷ [] }; post = record { chunks = cell (var_term x) (number 0) ∷ [] } }

  -- what is left when the cell is framed
  abbrev framed : Goal
  framed = record empty_goal { program = x ∷ []; pure_post = Eq (var_term x) (var_term x) ∷ Eq (number 0) (number 0) ∷ [] }

  kept_premises : raws (plain kept) (ByFrame 0) ≡ Some (plain framed ∷ [])
  unfolding joined eliminate eliminate_all feasible both all_cases ints_fit arrangements class_literals arrangement_fits satisfiable regions_fit all_terms all_set_vars entailed
  kept_premises = refl

  kept_meets : BodyMeets ps empty_node.preds kept names k End
  kept_meets =
      by_frame 0 ps (plain kept) (plain framed ∷ []) (End ∷ []) names [] 2 k (unlinked_steady empty_node.preds kept refl refl refl refl refl refl) no_preds named kept_premises tt
      (end_meets empty_node.preds framed names (λ s h ms pre. (s, ms, (λ v e. agree_self v.sort s v), ((refl, (refl, tt)), pre.1, pre.2))), tt)

  -- ---- Write: { x :-> 0 } { x :-> 1 }

  abbrev changed : Goal
  changed = record kept { post = record { chunks = cell (var_term x) (number 1) ∷ [] } }

  abbrev written : Goal
  written = record changed { pre = record { chunks = cell (var_term x) (number 1) ∷ [] } }

  changed_premises : raws (plain changed) (ByWrite 0) ≡ Some (plain written ∷ [])
  unfolding joined eliminate eliminate_all feasible both all_cases ints_fit arrangements class_literals arrangement_fits satisfiable regions_fit all_terms all_set_vars entailed
  changed_premises = refl

  changed_meets : BodyMeets ps empty_node.preds changed names k (Then (Storing v1 (record { var = None; offset = pos 1 })) End)
  changed_meets =
      by_write 0 ps (plain changed) (plain written ∷ []) (End ∷ []) names [] 2 k (unlinked_steady empty_node.preds changed refl refl refl refl refl refl) no_preds named changed_premises tt
      (end_meets empty_node.preds written names (λ s h ms pre. (s, ms, (λ v e. agree_self v.sort s v), (tt, pre.1, pre.2))), tt)

  -- ---- Read: { x :-> y } { x :-> y }, where y is no program variable

  abbrev unread : Goal
  unread = record empty_goal { program = x ∷ []; pre = record { chunks = cell (var_term x) (var_term y) ∷ [] }; post = record { chunks = cell (var_term x) (var_term y) ∷ [] } }

  abbrev z : Var
  z = record { sort = Int; number = 2 }

  abbrev read : Goal
  read = record unread { program = x ∷ z ∷ []; pure_pre = Eq (var_term z) (var_term y) ∷ []; pre = record { chunks = cell (var_term x) (var_term z) ∷ [] } }

  unread_premises : raws (plain unread) (ByRead 0) ≡ Some (plain read ∷ [])
  unread_premises = refl

  unread_meets : BodyMeets ps empty_node.preds unread names k (Then (Loading 2 v1) End)
  unread_meets =
      by_read 0 ps (plain unread) (plain read ∷ []) (End ∷ []) names [] 2 k (unlinked_steady empty_node.preds unread refl refl refl refl refl refl) no_preds named unread_premises tt (
        end_meets empty_node.preds read (names ++ (z, 2) ∷ []) (λ s h ms pre. (
          s,
          ms,
          (λ v e. agree_self v.sort s v),
          (tt, (pre.1.0, pre.1.1, pre.1.2, subst (λ (o : ℤ). IsCell pre.1.0 (value s (var_term x)) o) pre.0.0 pre.1.3, pre.1.4), tt),
        )),
        tt,
      )

  -- ---- Free: { [x, 1] ** x :-> 0 } { emp }

  abbrev owned : Goal
  owned = record empty_goal { program = x ∷ []; pre = record { chunks = block (var_term x) 1 ∷ cell (var_term x) (number 0) ∷ [] } }

  abbrev freed : Goal
  freed = record empty_goal { program = x ∷ [] }

  owned_premises : raws (plain owned) (ByFree 0) ≡ Some (plain freed ∷ [])
  owned_premises = refl

  owned_meets : BodyMeets ps empty_node.preds owned names k (Then (Giving v1) End)
  owned_meets =
      by_free 0 ps (plain owned) (plain freed ∷ []) (End ∷ []) names [] 2 k (unlinked_steady empty_node.preds owned refl refl refl refl refl refl) no_preds named owned_premises tt
      (end_meets empty_node.preds freed names (λ s h ms pre. (s, ms, (λ v e. agree_self v.sort s v), (tt, pre.1, pre.2))), tt)

  -- ---- Alloc: { emp } { exists y, z: [y, 1] ** y :-> z }

  abbrev wanted : Goal
  wanted = record empty_goal { program = x ∷ []; exist = y ∷ z ∷ []; post = record { chunks = block (var_term y) 1 ∷ cell (var_term y) (var_term z) ∷ [] } }

  -- the new base and the new content
  abbrev base : Var
  base = record { sort = Int; number = 3 }

  abbrev content : Var
  content = record { sort = Int; number = 4 }

  abbrev taken : Goal
  taken = record wanted {
    program = x ∷ base ∷ [];
    pre = record { chunks = block (var_term base) 1 ∷ cell (var_term base) (var_term content) ∷ [] };
    pure_post = Eq (var_term y) (var_term base) ∷ [];
  }

  wanted_premises : raws (plain wanted) ByAlloc ≡ Some (plain taken ∷ [])
  wanted_premises = refl

  -- y is the base, and z is the content
  abbrev chosen : Assignment → Assignment
  chosen s = mixed (y ∷ z ∷ []) s (record { number = λ v. cond (var_eq v y) (s.number base) (s.number content); members = s.members })

  wanted_meets : BodyMeets ps empty_node.preds wanted names k (Then (Taking 2 1) End)
  wanted_meets =
      by_alloc ps (plain wanted) (plain taken ∷ []) (End ∷ []) names [] 2 k (unlinked_steady empty_node.preds wanted refl refl refl refl refl refl) no_preds named wanted_premises tt (
        end_meets empty_node.preds taken (names ++ (base, 2) ∷ []) (λ s h ms pre. (
          chosen s,
          ms,
          (λ v e. mixed_out (y ∷ z ∷ []) s (record { number = λ v. cond (var_eq v y) (s.number base) (s.number content); members = s.members }) v.sort v e),
          ((refl, tt), pre.1, pre.2),
        )),
        tt,
      )

  -- ---- Pick: { emp } { exists y: y == x }

  abbrev equal : Goal
  equal = record empty_goal { program = x ∷ []; exist = y ∷ []; pure_post = Eq (var_term y) (var_term x) ∷ [] }

  abbrev picked : Goal
  picked = record equal { pure_post = Eq (var_term y) (var_term x) ∷ Eq (var_term y) (var_term x) ∷ [] }

  equal_premises : raws (plain equal) (ByPick x) ≡ Some (plain picked ∷ [])
  equal_premises = refl

  equal_meets : BodyMeets ps empty_node.preds equal names k End
  equal_meets =
      by_pick x ps (plain equal) (plain picked ∷ []) (End ∷ []) names [] 2 k (unlinked_steady empty_node.preds equal refl refl refl refl refl refl) no_preds named equal_premises tt (
        end_meets empty_node.preds picked names (λ s h ms pre. (
          mixed (y ∷ []) s (record { number = λ v. s.number x; members = s.members }),
          ms,
          (λ v e. mixed_out (y ∷ []) s (record { number = λ v. s.number x; members = s.members }) v.sort v e),
          ((refl, (refl, tt)), pre.1, pre.2),
        )),
        tt,
      )

  -- ---- Close and Open, with the predicate `q() { 0 == 0 => { emp } }`

  abbrev preds : Preds
  preds = record {
    list = record { name = []; params = []; clauses = record { guard = Eq (number 0) (number 0); lits = []; heap = record { chunks = [] }; ints = 0; sets = 0 } ∷ [] } ∷ [];
  }

  preds_formed : IsFormedPreds preds
  preds_formed = record {
    few = refl;
    has_clauses = refl;
    few_clauses = refl;
    few_params = refl;
    params_sorted = refl;
    guards_plain = refl;
    guards_apart = refl;
    params_counted = refl;
    closed = refl;
    instances_plain = refl;
    productive = refl;
    clauses_within = refl;
  }

  abbrev over : Goal → Node
  over g = record { preds = preds; goal = g; links = [] }

  -- { emp } { q() }
  abbrev folded : Goal
  folded = record empty_goal { post = record { chunks = Inst (record { pred = 0; args = []; card = None; tag = 0 }) ∷ [] } }

  abbrev closed : Goal
  closed = record empty_goal { pure_post = Eq (number 0) (number 0) ∷ [] }

  folded_premises : raws (over folded) (ByClose 0) ≡ Some (over closed ∷ [])
  folded_premises = refl

  folded_meets : BodyMeets ps preds folded [] k End
  folded_meets =
      by_close 0 ps (over folded) (over closed ∷ []) (End ∷ []) [] [] 1 k (unlinked_steady preds folded refl refl refl refl refl refl) preds_formed no_names folded_premises tt
      (end_meets preds closed [] (λ s h ms pre. (s, ms, (λ v e. agree_self v.sort s v), ((refl, tt), pre.1, pre.2))), tt)

  -- { q() } { emp }
  abbrev instance : InstOf
  instance = record { pred = 0; args = []; card = Some (record { sort = Card; number = 0 }); tag = 0 }

  abbrev unfolded : Goal
  unfolded = record empty_goal { pre = record { chunks = Inst instance ∷ [] } }

  abbrev emptied : Goal
  emptied = record empty_goal { pure_pre = Eq (number 0) (number 0) ∷ [] }

  abbrev emptied_node : Node
  emptied_node = record { preds = preds; goal = emptied; links = open_link (over unfolded) 0 instance ∷ [] }

  unfolded_premises : raws (over unfolded) (ByOpen 0) ≡ Some (emptied_node ∷ [])
  unfolded_premises = refl

  unfolded_meets : BodyMeets ps preds unfolded [] k End
  unfolded_meets =
      by_open 0 ps (over unfolded) (emptied_node ∷ []) (End ∷ []) [] [] 1 k (unlinked_steady preds unfolded refl refl refl refl refl refl) preds_formed no_names unfolded_premises tt
      (end_meets preds emptied [] (λ s h ms pre. (s, ms, (λ v e. agree_self v.sort s v), (tt, pre.1, pre.2))), tt)

  -- ---- Call: { a1 < a0, q() at a1 } { emp }, where a companion is { q() at a0 } { emp }

  abbrev companion : Link
  companion = open_link (over unfolded) 0 instance

  abbrev smaller : Var
  smaller = record { sort = Card; number = 1 }

  abbrev repeated : Goal
  repeated = record empty_goal {
    pure_pre = Lt (var_term smaller) (var_term (record { sort = Card; number = 0 })) ∷ [];
    pre = record { chunks = Inst (record instance { card = Some smaller }) ∷ [] };
  }

  abbrev repeated_node : Node
  repeated_node = record { preds = preds; goal = repeated; links = companion ∷ [] }

  abbrev left_node : Node
  left_node = record repeated_node { goal = record repeated { pre = record { chunks = [] } } }

  abbrev call : CallBy
  call = record { link = 0; pairs = 0 ∷ [] }

  repeated_premises : raws repeated_node (ByCall call) ≡ Some (left_node ∷ [])
  unfolding joined eliminate eliminate_all feasible both all_cases ints_fit arrangements class_literals arrangement_fits satisfiable regions_fit all_terms all_set_vars entailed
  repeated_premises = refl

  only_link : (P : Link → Type 0) → P companion → (i : ℕ) (l : Link) → slice_get (companion ∷ []) i ≡ Some l → P l
  only_link P p zero l e = subst P (same_Some companion l e) p
  only_link P p (suc i) l e = absurd (none-some l e)

  repeated_steady : IsSteady repeated_node
  repeated_steady = record { sorted = refl; fits = refl; program_int = refl; program_differs = refl; exist_differs = refl; exist_apart = refl; exist_images = λ l i v p h. refl }

  repeated_links : HasSteadyLinks repeated_node
  repeated_links = record {
    goals = only_link (λ (l : Link). IsSteady (over l.goal)) (unlinked_steady preds unfolded refl refl refl refl refl refl);
    exist_free = only_link (λ (l : Link). IsTrue (list_all (λ v. is_none (int_image l.map.ints v) && is_none (set_image l.map.sets v)) l.goal.exist)) refl;
  }

  repeated_meets : ProcedureMeets ps preds unfolded 0 k → BodyMeets ps preds repeated [] k (Then (Invoking 0 []) End)
  repeated_meets callee =
      by_call call ps repeated_node (left_node ∷ []) (End ∷ []) [] (0 ∷ []) 1 k repeated_steady repeated_links preds_formed no_names repeated_premises
      (only_link (λ (l : Link). ProcedureMeets ps preds l.goal 0 k) callee 0)
      (end_meets preds left_node.goal [] (λ s h ms pre. (s, ms, (λ v e. agree_self v.sort s v), (tt, pre.1, pre.2))), tt)
