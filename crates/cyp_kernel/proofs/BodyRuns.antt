-- Runs of the body of a rule: where the run ends at once, and the body of its first premise.
use Rattle.std.proofs.Common.{◌≡◌, refl, ℕ, zero, suc, ◌≤◌, Bool, true, false, List, [], ◌∷◌, None, arith, subst}
use Rattle.std.proofs.lemmas.Bool.{false≢true}
use Rattle.cyp_heap.specs.Stores.{Store}
use Rattle.cyp_heap.specs.declared.goal.Goal.{Goal}
use Rattle.cyp_heap.specs.declared.goal.Node.{Node}
use Rattle.cyp_heap.specs.declared.pred.Preds.{Preds}
use Rattle.cyp_kernel.specs.Correct.{MeetsPost}
use Rattle.cyp_kernel.specs.Meets.{BodyMeets, MeetsSoFar, body_state}
use Rattle.cyp_kernel.specs.Naming.{Names}
use Rattle.cyp_kernel.specs.RuleLaws.{AllMeet}
use Rattle.cyp_kernel.specs.Statements.{first_body}
use Rattle.cyp_machine.specs.Faults.{unless_there}
use Rattle.cyp_machine.specs.Runs.{Run}
use Rattle.cyp_machine.specs.States.{State}
use Rattle.cyp_machine.specs.Values.{Values}
use Rattle.cyp_machine.specs.declared.cause.Cause.{Cause}
use Rattle.cyp_prog.specs.Programs.{Body, End, Procedure, Statement, Then}
use Rattle.cyp_machine.specs.Faults.{statement_fault}
use Rattle.cyp_term.specs.Meaning.{Assignment}

pub less_suc : (j k : ℕ) → suc j ≤ k → j ≤ k
less_suc j k h = omega arith

pub no_fault_there : (b : Bool) (c : Cause) → b ≡ true → unless_there b c ≡ None
no_fault_there true c h = refl
no_fault_there false c h = absurd (false≢true h)

pub one_premise : (ps : List Procedure) (names : Names) (k : ℕ) (m : Node) (bs : List Body) → AllMeet ps names k (m ∷ []) bs → BodyMeets ps m.preds m.goal names k (first_body bs)
one_premise ps names k m [] h = absurd h
one_premise ps names k m (b ∷ bs) h = h.0

-- what is met of a goal is met of one whose postcondition asks no more
pub same_post : (preds : Preds) (g d : Goal) (s u : Assignment) (t : State) → (MeetsPost preds g s t.store → MeetsPost preds d u t.store) → MeetsSoFar preds g s t → MeetsSoFar preds d u t
same_post preds g d s u t f k = record { no_fault = k.no_fault; meets_post = λ b. f (k.meets_post b) }

pub ended_run : (ps : List Procedure) (preds : Preds) (g : Goal) (s : Assignment) (h : Store) (vs : Values) (m : ℕ) (t : State)
    → MeetsPost preds g s h → Run ps m (body_state h vs End) t → MeetsSoFar preds g s t
ended_run ps preds g s h vs zero t meets r = subst (λ (u : State). MeetsSoFar preds g s u) r (record { no_fault = refl; meets_post = λ x. meets })
ended_run ps preds g s h vs (suc m) t meets r = absurd r.1

-- before its first step a body that has a statement hasn't ended
pub begun_run : (preds : Preds) (g : Goal) (s : Assignment) (h : Store) (vs : Values) (c : Statement) (b : Body) (t : State)
    → statement_fault h vs c ≡ None → body_state h vs (Then c b) ≡ t → MeetsSoFar preds g s t
begun_run preds g s h vs c b t fine r = subst (λ (u : State). MeetsSoFar preds g s u) r (record { no_fault = fine; meets_post = λ x. absurd (false≢true x) })
