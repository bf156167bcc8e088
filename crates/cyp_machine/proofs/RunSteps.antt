-- A run, and the answer of one step more.
use Rattle.std.proofs.Common.{IsTrue, List, Some, ap, arith, subst, suc, sym, ℕ, ◌+◌, ◌∙◌, ◌≡◌}
use Rattle.cyp_machine.proofs.LeastRuns.{run_extended}
use Rattle.cyp_machine.specs.Faults.{fault}
use Rattle.cyp_machine.specs.Machine.{IsStepped, IsUnderWay, made}
use Rattle.cyp_machine.specs.Runs.{RunBy}
use Rattle.cyp_machine.specs.States.{State, has_ended}
use Rattle.cyp_machine.specs.Steps.{least_pick}
use Rattle.cyp_machine.specs.declared.cause.Cause.{Cause}
use Rattle.cyp_machine.specs.declared.stepped.Stepped.{Stepped}
use Rattle.cyp_machine.specs.declared.stepped.Stepped.TheVariants.{Ended, Faulted, Moved}
use Rattle.cyp_prog.specs.Programs.{Procedure}

module _ (ps : List Procedure) where
  pub under_way_at : (s t : State) (k : ℕ) → t ≡ s → k ≡ 0 → IsUnderWay ps 0 s → IsUnderWay ps k t
  under_way_at s t k e z u = subst (λ (j : ℕ). IsUnderWay ps j t) (sym z) (subst (λ (v : State). IsUnderWay ps 0 v) (sym e) u)

  module _ (t u : State) (r : Stepped) (st : IsStepped r ps t u) where
    pub run_more : (m : ℕ) (s : State) → r ≡ Moved → RunBy least_pick ps m s t → RunBy least_pick ps (m + 1) s u
    run_more m s e run =
        let next : suc m ≡ m + 1 = omega arith in
        subst (λ (k : ℕ). RunBy least_pick ps k s u) next (run_extended ps m s t u run (subst (λ (q : Stepped). IsStepped q ps t u) e st))

    pub ended_at : r ≡ Ended → IsTrue (has_ended t) × (u ≡ t)
    ended_at e = subst (λ (q : Stepped). IsStepped q ps t u) e st

    pub faulted_at : (c : Cause) → r ≡ Faulted c → (fault t ≡ Some c) × (u ≡ t)
    faulted_at c e = subst (λ (q : Stepped). IsStepped q ps t u) e st

pub counted : (k m n : ℕ) (r : Stepped) → r ≡ Moved → n ≡ k + made r → k ≡ m → n ≡ m + 1
counted k m n r e c i = c ∙ ap (λ (q : Stepped). k + made q) e ∙ ap (λ (j : ℕ). j + 1) i
