-- The body at the place of a called companion: a call of its procedure on the values of its program variables.
use Rattle.cyp_heap.proofs.Unions.{empty_beside}
use Rattle.cyp_heap.specs.Stores.{IsUnion, Store, no_store}
use Rattle.cyp_heap.specs.declared.goal.Goal.{Goal}
use Rattle.cyp_heap.specs.declared.pred.Preds.{Preds}
use Rattle.cyp_kernel.proofs.BodyRuns.{ended_run}
use Rattle.cyp_kernel.proofs.CallRuns.{call_right}
use Rattle.cyp_kernel.proofs.GuardTests.{GoesRight}
use Rattle.cyp_kernel.proofs.HeapParts.{union_sym, union_with_none}
use Rattle.cyp_kernel.proofs.Offsets.{plus-zero}
use Rattle.cyp_kernel.specs.Correct.{MeetsPost}
use Rattle.cyp_kernel.specs.Meets.{BodyMeets, ProcedureMeets}
use Rattle.cyp_kernel.specs.Naming.{Names, expr_of, name_of}
use Rattle.cyp_machine.specs.Values.{Values, expr_value, lookup}
use Rattle.cyp_prog.specs.Programs.{End, Invoking, Procedure, Then}
use Rattle.cyp_term.proofs.Equality.{Decides-var_eq}
use Rattle.cyp_term.specs.Meaning.{Assignment}
use Rattle.cyp_term.specs.Terms.{var_eq, var_in, var_term}
use Rattle.cyp_term.specs.declared.term.Var.{Var}
use Rattle.std.proofs.Common.{◌≡◌, refl, sym, ◌∙◌, ℕ, true, List, [], ◌∷◌, map, subst}
use Rattle.std.proofs.lemmas.Bool.{or_left, or_right}

-- the heap is itself and nothing else
pub with_nothing : (h : Store) → IsUnion h h no_store
with_nothing h = union_sym h no_store h (empty_beside h.cells, empty_beside h.blocks)

pub nothing_beside : (large g : Store) → IsUnion large g no_store → large ≡ g
nothing_beside large g u =
    let v = union_sym large g no_store u in
    let cells = union_with_none large.cells g.cells v.0 in
    let blocks = union_with_none large.blocks g.blocks v.1 in
    λ i. record { cells = cells i; blocks = blocks i }

-- the arguments are the values of the variables
pub passed_values : (names : Names) (vs : Values) (s : Assignment) (xs : List Var) → ((v : Var) → var_in v xs ≡ true → lookup vs (name_of names v) ≡ s.number v)
    → map (expr_value vs) (map (λ v. expr_of names (var_term v)) xs) ≡ map s.number xs
passed_values names vs s [] named = refl
passed_values names vs s (x ∷ xs) named =
    let here = plus-zero (lookup vs (name_of names x)) ∙ named x (or_left (var_eq x x) (var_in x xs) ((Decides-var_eq x x).1 refl)) in
    let rest = passed_values names vs s xs (λ v k. named v (or_right (var_eq v x) (var_in v xs) k)) in
    λ i. here i ∷ rest i

pub called_body : (ps : List Procedure) (preds : Preds) (g : Goal) (names : Names) (p k : ℕ) → ProcedureMeets ps preds g p k
    → BodyMeets ps preds g names k (Then (Invoking p (map (λ v. expr_of names (var_term v)) g.program)) End)
called_body ps preds g names p k works s h ns vs pre named =
    call_right ps p preds g s h h no_store (with_nothing h) k (works s h ns pre) g s vs (map (λ v. expr_of names (var_term v)) g.program) End
    (passed_values names vs s g.program named) after
  where
    after : (f large : Store) → MeetsPost preds g s f → IsUnion large f no_store → GoesRight ps preds g s large vs k End
    after f large met u m t l r = ended_run ps preds g s large vs m t (subst (λ (x : Store). MeetsPost preds g s x) (sym (nothing_beside large f u)) met) r
