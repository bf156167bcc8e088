-- What a statement does to the heap and to the running bodies, whatever its rest and its callers are.
use Rattle.std.proofs.Common.{List, cond, refl, ◌∷◌, ◌≡◌}
use Rattle.std.specs.FinMap.{insert, remove}
use Rattle.cyp_heap.specs.Stores.{Store}
use Rattle.cyp_machine.specs.Parts.{callee, frame, state}
use Rattle.cyp_machine.specs.States.{Frame, State}
use Rattle.cyp_machine.specs.Steps.{StatementStep, addresses, any_pick, followed_by, insert_all, remove_all}
use Rattle.cyp_machine.specs.Values.{Values, expr_value, test_value}
use Rattle.cyp_prog.specs.Programs.{Body, Choosing, End, Failing, Giving, Invoking, Loading, Procedure, Statement, Storing, Taking}

-- the body goes on with this heap, these variables and this body before its rest, or waits for a called one
pub data Effect : Type 0 where
  Goes : Store → Values → Body → Effect
  Calls : Store → Frame → Values → Effect

abbrev pub after : Effect → Body → List Frame → State
after (Goes g ws x) rest below = state g (frame ws (followed_by x rest) ∷ below)
after (Calls g k ws) rest below = state g (k ∷ frame ws rest ∷ below)

module _ (ps : List Procedure) where
  -- the step has an effect, and that is one of the statement before each rest and above all callers
  abbrev pub HasEffect : Statement → Store → Values → Body → List Frame → State → Type 0
  HasEffect c h vs rest below t =
      (e : Effect) × (t ≡ after e rest below) × ((b : Body) (fs : List Frame) → StatementStep any_pick ps c h vs b fs (after e b fs))

  pub effect : (c : Statement) (h : Store) (vs : Values) (rest : Body) (below : List Frame) (t : State)
      → StatementStep any_pick ps c h vs rest below t → HasEffect c h vs rest below t
  effect (Loading v e) h vs rest below t s = (Goes h ((v, s.0) ∷ vs) End, s.2, λ b fs. (s.0, s.1, refl))
  effect (Storing a e) h vs rest below t s =
      (Goes (record { cells = insert h.cells (expr_value vs a) (expr_value vs e); blocks = h.blocks }) vs End, s.1, λ b fs. (s.0, refl))
  effect (Taking v n) h vs rest below t s = (
    Goes (record { cells = insert_all h.cells s.0 s.1; blocks = insert h.blocks s.0 n }) ((v, s.0) ∷ vs) End,
    s.5,
    λ b fs. (s.0, s.1, s.2, s.3, tt, refl),
  )
  effect (Giving e) h vs rest below t s = (
    Goes (record { cells = remove_all h.cells (addresses (expr_value vs e) s.0); blocks = remove h.blocks (expr_value vs e) }) vs End,
    s.3,
    λ b fs. (s.0, s.1, s.2, refl),
  )
  effect (Invoking p es) h vs rest below t s = (Calls h (callee vs es s.0) vs, s.2, λ b fs. (s.0, s.1, refl))
  effect (Choosing c x y) h vs rest below t s = (Goes h vs (cond (test_value vs c) x y), s, λ b fs. refl)
  effect Failing h vs rest below t s = absurd s
