-- A program that is read calls no procedure that isn't there.
use Rattle.std.proofs.Common.{[], ◌++◌, ◌==◌, Bool, List, None, Option, Some, ap, false, flat_map, length, map, refl, slice_get, subst, sym, true, ℕ, ◌∙◌, ◌∷◌, ◌≡◌}
use Rattle.std.proofs.lemmas.Bool.{and_from, eqb-true, lt-ltb}
use Rattle.std.proofs.lemmas.List.{length-map}
use Rattle.std.proofs.lemmas.Option.{slice_get-map, slice_get_within}
use Rattle.std.specs.List.{list_all}
use Rattle.std.specs.Option.{option_map}
use Rattle.std.specs.Prelude.{nat_lt}
use Rattle.cyp_lex.specs.declared.ident.Ident.{Ident}
use Rattle.cyp_machine.specs.Closed.{IsClosed, calls_below, statement_calls_below}
use Rattle.cyp_machine.specs.ClosedLaws.{EntryIsThere, InputIsClosed, SpelledIsClosed}
use Rattle.cyp_machine.specs.RunInput.{InputTree, NumTree, RunInput, StartTree, input_faults, input_of, num_of, piece_faults, range_faults, start_faults}
use Rattle.cyp_prog.specs.Bindings.{arity_faults, block_faults, bound_behind, call_faults, count_faults, expr_vars, name_faults, param_faults, proc_faults, program_faults, stmt_faults, use_faults}
use Rattle.cyp_prog.specs.Faults.{earlier, least_fault, unless}
use Rattle.cyp_prog.specs.Programs.{Procedure}
use Rattle.cyp_prog.specs.TreePrograms.{block_of, let_of, proc_named, proc_of, proc_place, program_of_tree, stmt_of}
use Rattle.cyp_prog.specs.Trees.{BlockTree, CallStmt, ErrorStmt, FreeStmt, IfStmt, LetStmt, NoStmts, ProcTree, ProgramTree, StmtTree, Stmts, StoreStmt, procs_of}
use Rattle.cyp_prog.specs.declared.fault.ProgFault.{ProgFault}
use Rattle.cyp_prog.specs.declared.fault.ProgKind.{ProgKind}
use Rattle.cyp_prog.specs.declared.fault.ProgKind.TheVariants.{WrongArity}
use Rattle.cyp_prog.specs.declared.tree.SourceTree.{SourceTree}
use Rattle.cyp_prog.specs.declared.tree.SourceTree.TheVariants.{FromCell, FromMalloc}
use Rattle.cyp_prog.specs.declared.tree.VarTree.{VarTree}

-- ---- no faults

earlier_some : (a : ProgFault) (o : Option ProgFault) → earlier a o ≡ None → ⊥
earlier_some a None e = cc
earlier_some a (Some b) e = cc

no_faults : (fs : List ProgFault) → least_fault fs ≡ None → fs ≡ []
no_faults [] e = refl
no_faults (a ∷ fs) e = absurd (earlier_some a (least_fault fs) e)

nil_parts : {A : Type 0} (xs ys : List A) → xs ++ ys ≡ [] → (xs ≡ []) × (ys ≡ [])
nil_parts [] ys e = (refl, e)
nil_parts (x ∷ xs) ys e = cc

held : (b : Bool) (k : ProgKind) (p : ℕ) → unless b k p ≡ [] → b ≡ true
held true k p e = refl
held false k p e = cc

-- ---- calls

-- a procedure of this name is there, and has so many parameters
abbrev IsThere : List ProcTree → Option ProcTree → ℕ → Type 0
IsThere qs o n = (q : ProcTree) × (o ≡ Some q) × ((length q.params == n) ≡ true)

there_by : (qs : List ProcTree) (o : Option ProcTree) (n p : ℕ) → arity_faults o n p ≡ [] → IsThere qs o n
there_by qs None n p e = cc
there_by qs (Some q) n p e = (q, refl, held (length q.params == n) WrongArity p e)

call_there : (qs : List ProcTree) (i : Ident) (n : ℕ) → call_faults qs i n ≡ [] → IsThere qs (proc_named i.text qs) n
call_there qs i n e = there_by qs (proc_named i.text qs) n i.place e

call_below : (qs : List ProcTree) (i : Ident) (n : ℕ) → call_faults qs i n ≡ [] → nat_lt (proc_place i.text qs) (length qs) ≡ true
call_below qs i n e =
    let q = call_there qs i n e in lt-ltb (proc_place i.text qs) (length qs) (slice_get_within qs (proc_place i.text qs) q.0 q.1)

-- ---- bodies

let_calls : (n : ℕ) (v : VarTree) (s : SourceTree) → statement_calls_below n (let_of v s) ≡ true
let_calls n v (FromCell p) = refl
let_calls n v (FromMalloc p k) = refl

module _ (qs : List ProcTree) where
  mutual
    stmt_closed : (m : ℕ) (s : StmtTree) → stmt_faults qs m s ≡ [] → statement_calls_below (length qs) (stmt_of qs s) ≡ true
    stmt_closed m (LetStmt v s) e = let_calls (length qs) v s
    stmt_closed m (StoreStmt p x) e = refl
    stmt_closed m (FreeStmt x) e = refl
    stmt_closed m (CallStmt i es) e = call_below qs i (length es) (nil_parts (call_faults qs i (length es)) (use_faults m (flat_map expr_vars es)) e).0
    stmt_closed m (IfStmt a s b x y) e =
        let tests : List ProgFault = use_faults m (expr_vars a) ++ use_faults m (expr_vars b) in
        let last = nil_parts (tests ++ block_faults qs m x) (block_faults qs m y) e in
        let first = nil_parts tests (block_faults qs m x) last.0 in
        and_from (calls_below (length qs) (block_of qs x)) (calls_below (length qs) (block_of qs y)) (block_closed m x first.1) (block_closed m y last.1)
    stmt_closed m ErrorStmt e = refl

    block_closed : (m : ℕ) (b : BlockTree) → block_faults qs m b ≡ [] → calls_below (length qs) (block_of qs b) ≡ true
    block_closed m NoStmts e = refl
    block_closed m (Stmts s b) e =
        let parts = nil_parts (stmt_faults qs m s) (block_faults qs (bound_behind m s) b) e in
        and_from (statement_calls_below (length qs) (stmt_of qs s)) (calls_below (length qs) (block_of qs b)) (stmt_closed m s parts.0) (block_closed (bound_behind m s) b parts.1)

  procs_closed : (rs : List ProcTree) → flat_map (proc_faults qs) rs ≡ [] → list_all (λ (q : Procedure). calls_below (length qs) q.body) (map (proc_of qs) rs) ≡ true
  procs_closed [] e = refl
  procs_closed (r ∷ rs) e =
      let parts = nil_parts (proc_faults qs r) (flat_map (proc_faults qs) rs) e in
      and_from (calls_below (length qs) (block_of qs r.body)) (list_all (λ (q : Procedure). calls_below (length qs) q.body) (map (proc_of qs) rs))
      (block_closed (length r.params) r.body (nil_parts (param_faults 1 r.params) (block_faults qs (length r.params) r.body) parts.0).1)
      (procs_closed rs parts.1)

-- ---- programs

tree_closed : (t : ProgramTree) → program_faults t ≡ [] → IsClosed (program_of_tree t)
tree_closed t e =
    let qs : List ProcTree = procs_of t in
    let front = nil_parts (name_faults [] qs ++ flat_map (proc_faults qs) qs) (count_faults qs) e in
    let procs = nil_parts (name_faults [] qs) (flat_map (proc_faults qs) qs) front.0 in
    subst (λ (n : ℕ). list_all (λ (q : Procedure). calls_below n q.body) (map (proc_of qs) qs) ≡ true) (sym (length-map qs (proc_of qs))) (procs_closed qs qs procs.1)

pub spelled_is_closed : SpelledIsClosed
spelled_is_closed bytes ps r = subst IsClosed r.said (tree_closed r.tree (no_faults (program_faults r.tree) r.faultless))

-- ---- inputs

-- the start line without a fault calls what is there
line_calls : (qs : List ProcTree) (t : StartTree) → start_faults qs t ≡ [] → call_faults qs t.name (length t.args) ≡ []
line_calls qs t e =
    let calls : List ProgFault = call_faults qs t.name (length t.args) in
    let args : List ProgFault = flat_map (λ (a : NumTree). range_faults a.place a.n) t.args in
    (nil_parts calls args (nil_parts (calls ++ args) (piece_faults [] [] t.pieces) e).0).0

-- the program of the tree has no fault, and the start line calls what is there
start_there : (t : InputTree) → input_faults t ≡ [] → (program_faults t.program ≡ []) × (call_faults (procs_of t.program) t.start.name (length t.start.args) ≡ [])
start_there t e =
    let parts = nil_parts (program_faults t.program) (start_faults (procs_of t.program) t.start) e in
    (parts.0, line_calls (procs_of t.program) t.start parts.1)

pub input_is_closed : InputIsClosed
input_is_closed bytes i r =
    subst (λ (j : RunInput). IsClosed j.program) r.said (tree_closed r.tree.program (start_there r.tree (no_faults (input_faults r.tree) r.faultless)).0)

-- the called procedure of the input
abbrev IsEntry : RunInput → Type 0
IsEntry i = (q : Procedure) × (slice_get i.program i.entry ≡ Some q) × (q.params ≡ length i.args)

tree_entry : (t : InputTree) → call_faults (procs_of t.program) t.start.name (length t.start.args) ≡ [] → IsEntry (input_of t)
tree_entry t e =
    let qs : List ProcTree = procs_of t.program in
    let k : ℕ = proc_place t.start.name.text qs in
    let q = call_there qs t.start.name (length t.start.args) e in (
      proc_of qs q.0,
      slice_get-map (proc_of qs) qs k ∙ ap (option_map (proc_of qs)) q.1,
      eqb-true (length q.0.params) (length t.start.args) q.2 ∙ sym (length-map t.start.args num_of),
    )

pub entry_is_there : EntryIsThere
entry_is_there bytes i r = subst IsEntry r.said (tree_entry r.tree (start_there r.tree (no_faults (input_faults r.tree) r.faultless)).1)
