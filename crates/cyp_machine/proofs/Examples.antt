-- Steps and faults of small programs.
use Rattle.std.proofs.Common.{[], ◌&&◌, List, None, Option, Some, ap, false, int_cmp, is_some, pos, refl, true, ℤ, ◌∙◌, ◌∷◌, ◌≡◌}
use Rattle.std.proofs.lemmas.Cmp.{int_cmp_total}
use Rattle.std.proofs.lemmas.Option.{none-some}
use Rattle.std.specs.FinMap.{empty, get, get-empty, get-insert, insert}
use Rattle.cyp_heap.specs.Stores.{Store, no_store}
use Rattle.cyp_machine.specs.Faults.{fault, is_whole, unless_there}
use Rattle.cyp_machine.specs.Runs.{Run}
use Rattle.cyp_machine.specs.States.{State, has_ended, start}
use Rattle.cyp_machine.specs.Steps.{Step}
use Rattle.cyp_machine.specs.declared.cause.Cause.TheVariants.{ErrorReached, FreeMissing, ReadMissing}
use Rattle.cyp_prog.specs.Programs.{Body, Choosing, End, Failing, Giving, Invoking, Loading, Procedure, Then}
use Rattle.cyp_prog.specs.declared.stmt.Expr.{Expr}
use Rattle.cyp_prog.specs.declared.stmt.TestSign.TheVariants.{Equal}

abbrev pub v1 : Expr
v1 = record { var = Some 1; offset = pos 0 }

abbrev nought : Expr
nought = record { var = None; offset = pos 0 }

abbrev pub procedure : Body → Procedure
procedure b = record { name = []; params = 1; body = b }

-- the program of one procedure, at an argument
abbrev pub begun : Body → ℤ → Store → State
begun b z h = start (procedure b ∷ []) 0 (z ∷ []) h

-- ---- free(v1), where the block is there but its cells aren't

-- a block of two cells at 5, and no cell
abbrev pub bare : Store
bare = record { cells = empty; blocks = insert empty (pos 5) 2 }

bare_block : get bare.blocks (pos 5) ≡ Some 2
bare_block = get-insert int_cmp_total empty (pos 5) 2 (pos 5)

free_missing : fault (begun (Then (Giving v1) End) (pos 5) bare) ≡ Some FreeMissing
free_missing =
    ap (λ o. unless_there (is_whole bare (pos 5) o) FreeMissing) bare_block
    ∙ ap (λ (o : Option ℤ). unless_there (is_some o && (is_some (get bare.cells (pos 6)) && true)) FreeMissing) (get-empty int_cmp (pos 5))

-- ---- let v2 = *v1

abbrev pub reading : Body
reading = Then (Loading 2 v1) End

-- the cell at 5 contains 7
abbrev pub one_cell : Store
one_cell = record { cells = insert empty (pos 5) (pos 7); blocks = empty }

the_cell : get one_cell.cells (pos 5) ≡ Some (pos 7)
the_cell = get-insert int_cmp_total empty (pos 5) (pos 7) (pos 5)

read_missing : fault (begun reading (pos 5) no_store) ≡ Some ReadMissing
read_missing = ap (λ (o : Option ℤ). unless_there (is_some o) ReadMissing) (get-empty int_cmp (pos 5))

pub read_there : fault (begun reading (pos 5) one_cell) ≡ None
read_there = ap (λ (o : Option ℤ). unless_there (is_some o) ReadMissing) the_cell

read_step : Step (procedure reading ∷ []) (begun reading (pos 5) one_cell)
    (record { store = one_cell; frames = record { values = (2, pos 7) ∷ (1, pos 5) ∷ []; rest = End } ∷ [] })
read_step = (pos 7, the_cell, refl)

-- ---- if (v1 == 0) { } else { error; }

abbrev testing : Body
testing = Then (Choosing (record { left = v1; sign = Equal; right = nought }) End (Then Failing End)) End

abbrev after_test : Body → ℤ → State
after_test b z = record { store = no_store; frames = record { values = (1, z) ∷ []; rest = b } ∷ [] }

test_holds : Run (procedure testing ∷ []) 1 (begun testing (pos 0) no_store) (after_test End (pos 0))
test_holds = (after_test End (pos 0), refl, refl)

test_fails : Run (procedure testing ∷ []) 1 (begun testing (pos 3) no_store) (after_test (Then Failing End) (pos 3))
test_fails = (after_test (Then Failing End) (pos 3), refl, refl)

error_reached : fault (after_test (Then Failing End) (pos 3)) ≡ Some ErrorReached
error_reached = refl

-- ---- a call of an empty procedure, and the return: two steps

abbrev pub calling : List Procedure
calling = procedure (Then (Invoking 1 (v1 ∷ [])) End) ∷ procedure End ∷ []

abbrev pub in_call : State
in_call = record { store = no_store; frames = record { values = (1, pos 4) ∷ []; rest = End } ∷ record { values = (1, pos 4) ∷ []; rest = End } ∷ [] }

abbrev pub returned : State
returned = record { store = no_store; frames = record { values = (1, pos 4) ∷ []; rest = End } ∷ [] }

call_and_return : Run calling 2 (start calling 0 (pos 4 ∷ []) no_store) returned
call_and_return = (in_call, (procedure End, refl, refl), (returned, refl, refl))

not_ended : has_ended in_call ≡ false
not_ended = refl

ended : has_ended returned ≡ true
ended = refl

-- ---- a call of a procedure that isn't there has neither a next step nor a fault

abbrev lost : State
lost = begun (Then (Invoking 7 []) End) (pos 4) no_store

lost_goes_on : has_ended lost ≡ false
lost_goes_on = refl

lost_no_fault : fault lost ≡ None
lost_no_fault = refl

lost_no_step : (t : State) → Step (procedure (Then (Invoking 7 []) End) ∷ []) lost t → ⊥
lost_no_step t st = none-some st.0 st.1
