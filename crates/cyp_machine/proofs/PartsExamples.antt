-- The laws of runs in larger heaps, of calls and of allocations at small programs.
use Rattle.std.proofs.Common.{[], List, ap, arith, false, pos, refl, suc, sym, zero, ◌∙◌, ◌∷◌, ◌≡◌, ◌⊎◌}
use Rattle.cyp_heap.proofs.Unions.{beside_empty, empty_beside}
use Rattle.cyp_heap.specs.Stores.{no_store}
use Rattle.cyp_machine.proofs.Calls.{call}
use Rattle.cyp_machine.proofs.Examples.{bare, begun, calling, in_call, one_cell, procedure, read_there, reading, returned, v1}
use Rattle.cyp_machine.proofs.FramedRuns.{framing}
use Rattle.cyp_machine.specs.Allocations.{AllocatesWithin, allocated, allocates_within}
use Rattle.cyp_machine.specs.Faults.{fault}
use Rattle.cyp_machine.specs.Framing.{Beside, RunsSafely}
use Rattle.cyp_machine.specs.Parts.{IsInCall, IsPastCall, callee, frame}
use Rattle.cyp_machine.specs.Runs.{Run}
use Rattle.cyp_machine.specs.States.{State}
use Rattle.cyp_prog.specs.Programs.{Body, End, Procedure, Taking, Then}

-- ---- a read of the cell at 5, in a heap that has a block at 5 too

abbrev program : List Procedure
program = procedure reading ∷ []

abbrev small : State
small = begun reading (pos 5) one_cell

abbrev large : State
large = begun reading (pos 5) (record { cells = one_cell.cells; blocks = bare.blocks })

large_beside : Beside bare large small
large_beside = ((beside_empty one_cell.cells, empty_beside bare.blocks), refl)

small_safe : RunsSafely program 1 small
small_safe zero t le r = ap fault (sym r) ∙ read_there
small_safe (suc zero) t le r = ap fault (sym r.2 ∙ r.1.2)
small_safe (suc (suc m)) t le r = absurd (omega arith)

large_safe : RunsSafely program 1 large
large_safe = (framing program 1 bare large small large_beside small_safe).0

-- ---- a call and its return

called : IsInCall calling 1 0 no_store (callee ((1, pos 4) ∷ []) (v1 ∷ []) (procedure End)) (frame ((1, pos 4) ∷ []) End ∷ []) returned
    ⊎ IsPastCall calling 1 0 no_store (callee ((1, pos 4) ∷ []) (v1 ∷ []) (procedure End)) (frame ((1, pos 4) ∷ []) End ∷ []) returned
called = call calling 1 0 no_store ((1, pos 4) ∷ []) 1 (v1 ∷ []) End [] returned (procedure End) refl
    ((in_call, (procedure End, refl, refl), (returned, refl, refl)), refl)

-- ---- let v2 = malloc(2)

abbrev taking : Body
taking = Then (Taking 2 2) End

two_within : AllocatesWithin 8 (procedure taking ∷ [])
two_within = refl

two_not_within : allocates_within 1 taking ≡ false
two_not_within = refl

two_allocated : (t : State) (run : Run (procedure taking ∷ []) 1 (begun taking (pos 4) no_store) t)
    → allocated (procedure taking ∷ []) 1 (begun taking (pos 4) no_store) t run ≡ 2
two_allocated t run = refl
