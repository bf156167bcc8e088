-- States of runs lead to states of runs.
use Rattle.std.proofs.Common.{List, Some, ap, arith, length, refl, subst, sym, true, ℕ, ℤ, ◌+◌, ◌<◌, ◌^◌, ◌∙◌, ◌∷◌, ◌≡◌}
use Rattle.std.proofs.lemmas.Bool.{and_parts}
use Rattle.cyp_heap.specs.Stores.{Store}
use Rattle.cyp_machine.proofs.Bounded.{state_more, step_bounded}
use Rattle.cyp_machine.proofs.Going.{least_is_a_step}
use Rattle.cyp_machine.proofs.Kept.{start_kept, step_kept}
use Rattle.cyp_machine.proofs.Rests.{then_of}
use Rattle.cyp_machine.specs.Bounds.{IsBounded, bound}
use Rattle.cyp_machine.specs.InRange.{body_in_range, frames_in_range, program_in_range, statement_in_range, test_in_range}
use Rattle.cyp_machine.specs.Machine.{IsStepped, IsUnderWay, made}
use Rattle.cyp_machine.specs.Rests.{first_of, rest_of}
use Rattle.cyp_machine.specs.States.{Frame, State, start}
use Rattle.cyp_machine.specs.Steps.{StepBy, least_pick}
use Rattle.cyp_machine.specs.declared.stepped.Stepped.{Stepped}
use Rattle.cyp_machine.specs.declared.stepped.Stepped.TheVariants.{Ended, Faulted, Moved}
use Rattle.cyp_prog.specs.Programs.{Body, Procedure, Statement}
use Rattle.cyp_prog.specs.declared.stmt.Test.{Test}
use Rattle.std.specs.Prelude.{◌&&◌}

blocks_of : (n : ℕ) (c : Test) (a b : Body) → (test_in_range c && (body_in_range n a && body_in_range n b)) ≡ true → (body_in_range n a ≡ true) × (body_in_range n b ≡ true)
blocks_of n c a b h = and_parts (body_in_range n a) (body_in_range n b) (and_parts (test_in_range c) (body_in_range n a && body_in_range n b) h).1

next_bound : (k : ℕ) → bound k + 4294967296 ≡ bound (k + 1)
next_bound k = omega arith

moved : (ps : List Procedure) (k : ℕ) (s t : State) → IsUnderWay ps k s → StepBy least_pick ps s t → IsUnderWay ps (k + 1) t
moved ps k s t u st = record {
  of_program = record {
    program = u.of_program.program;
    running =
        step_kept (body_in_range (length ps)) (statement_in_range (length ps)) refl (λ c b. refl) (blocks_of (length ps)) ps u.of_program.program
        s.frames s.store t (least_is_a_step ps s t st) u.of_program.running;
  };
  bounded = subst (λ (b : ℕ). IsBounded b t) (next_bound k) (step_bounded (bound k) ps s t st u.of_program.running u.bounded);
}

-- a state of a run, after the answer of a step
pub stepped_under_way : (ps : List Procedure) (k : ℕ) (r : Stepped) (s t : State) → IsUnderWay ps k s → IsStepped r ps s t → IsUnderWay ps (k + made r) t
stepped_under_way ps k Moved s t u st = moved ps k s t u st
stepped_under_way ps k Ended s t u st = subst (λ (v : State). IsUnderWay ps (k + 0) v) (sym st.1) (subst (λ (j : ℕ). IsUnderWay ps j s) (none k) u)
  where
    none : (k : ℕ) → k ≡ k + 0
    none k = omega arith
stepped_under_way ps k (Faulted c) s t u st = subst (λ (v : State). IsUnderWay ps (k + 0) v) (sym st.1) (subst (λ (j : ℕ). IsUnderWay ps j s) (none k) u)
  where
    none : (k : ℕ) → k ≡ k + 0
    none k = omega arith

pub first_under_way : (ps : List Procedure) (p : ℕ) (args : List ℤ) (h : Store) → program_in_range ps ≡ true → IsBounded (2 ^ 33) (start ps p args h) → IsUnderWay ps 0 (start ps p args h)
first_under_way ps p args h r b = record {
  of_program = record {
    program = r;
    running = start_kept (body_in_range (length ps)) (statement_in_range (length ps)) refl (λ c x. refl) (blocks_of (length ps)) ps r p args h;
  };
  bounded = b;
}

pub bounded_after : (k : ℕ) (s : State) → k < 1000000 → IsBounded (bound k) s → IsBounded (2 ^ 59) s
bounded_after k s l b = state_more (bound k) (2 ^ 59) s (omega arith) b

pub first_in_range : (n : ℕ) (f : Frame) (below : List Frame) (s : Statement) → frames_in_range n (f ∷ below) ≡ true → first_of f.rest ≡ Some s → statement_in_range n s ≡ true
first_in_range n f below s r at =
    let body : body_in_range n f.rest ≡ true = (and_parts (body_in_range n f.rest) (frames_in_range n below) r).0 in
    (and_parts (statement_in_range n s) (body_in_range n (rest_of f.rest)) (sym (ap (body_in_range n) (then_of f.rest s at)) ∙ body)).0
