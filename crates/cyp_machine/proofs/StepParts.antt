-- What the first running body does is what the state does.
use Rattle.std.proofs.Common.{[], IsTrue, List, None, Some, ap, pos, refl, replicate, subst, sym, ℕ, ℤ, ◌∙◌, ◌∷◌, ◌≡◌, ◌≤ℤ◌}
use Rattle.std.proofs.lemmas.List.{length-replicate}
use Rattle.std.specs.FinMap.{insert}
use Rattle.cyp_heap.specs.Stores.{Store}
use Rattle.cyp_machine.proofs.FreeBases.{zeros_zero}
use Rattle.cyp_machine.proofs.Rests.{end_of, then_of}
use Rattle.cyp_machine.specs.Faults.{body_fault, fault, statement_fault}
use Rattle.cyp_machine.specs.Parts.{state}
use Rattle.cyp_machine.specs.Rests.{first_of, rest_of}
use Rattle.cyp_machine.specs.States.{Frame, State, has_ended, is_end}
use Rattle.cyp_machine.specs.Steps.{BodyStep, IsFree, StatementStep, StepBy, insert_all, least_pick}
use Rattle.cyp_machine.specs.declared.cause.Cause.{Cause}
use Rattle.cyp_prog.specs.Programs.{Body, Procedure, Statement, Taking}

module _ (s : Statement) (h : Store) (f : Frame) (below : List Frame) (at : first_of f.rest ≡ Some s) where
  pub steps : (ps : List Procedure) (t : State) → StatementStep least_pick ps s h f.values (rest_of f.rest) below t → StepBy least_pick ps (state h (f ∷ below)) t
  steps ps t st = subst (λ (b : Body). BodyStep least_pick ps h f.values b below t) (sym (then_of f.rest s at)) st

  pub faults : (c : Cause) → statement_fault h f.values s ≡ Some c → fault (state h (f ∷ below)) ≡ Some c
  faults c e = ap (body_fault h f.values) (then_of f.rest s at) ∙ e

module _ (h : Store) (f : Frame) (below : List Frame) (at : first_of f.rest ≡ None) where
  pub returned : (ps : List Procedure) (g : Frame) (more : List Frame) → below ≡ g ∷ more → StepBy least_pick ps (state h (f ∷ below)) (state h (g ∷ more))
  returned ps g more e =
      subst (λ (fs : List Frame). StepBy least_pick ps (state h (f ∷ fs)) (state h (g ∷ more))) (sym e)
      (subst (λ (b : Body). BodyStep least_pick ps h f.values b (g ∷ more) (state h (g ∷ more))) (sym (end_of f.rest at)) refl)

  pub ended : below ≡ [] → IsTrue (has_ended (state h (f ∷ below)))
  ended e =
      subst (λ (fs : List Frame). IsTrue (has_ended (state h (f ∷ fs)))) (sym e)
      (ap is_end (end_of f.rest at))

-- the least free base is taken, and the variable bound to it; the program's base is this number
pub takes : (v n : ℕ) (h g k : Store) (f bound behind : Frame) (below : List Frame) (a b : ℤ) → first_of f.rest ≡ Some (Taking v n) → b ≡ a → IsFree h a n
    → ((z : ℤ) → IsFree h z n → a ≤ℤ z) → g ≡ h → k ≡ record { cells = insert_all g.cells b (replicate n (pos 0)); blocks = insert g.blocks b n }
    → bound ≡ record { values = (v, b) ∷ f.values; rest = f.rest } → behind ≡ record { values = bound.values; rest = rest_of bound.rest }
    → (ps : List Procedure) → StepBy least_pick ps (state h (f ∷ below)) (state k (behind ∷ below))
takes v n h g k f bound behind below a b at e free least same made is goes ps =
    steps (Taking v n) h f below at ps (state k (behind ∷ below)) (
      a,
      replicate n (pos 0),
      length-replicate n (pos 0),
      free,
      (least, zeros_zero n),
      λ i. record {
        store =
            (made ∙ (λ j. record {
              cells = insert_all (same j).cells (e j) (replicate n (pos 0));
              blocks = insert (same j).blocks (e j) n;
            })) i;
        frames =
            (goes ∙ ap (λ (x : Frame). let y : Frame = record { values = x.values; rest = rest_of x.rest } in y) is
            ∙ (λ j. record { values = (v, e j) ∷ f.values; rest = rest_of f.rest })) i
            ∷ below;
      },
    )
