-- What each atomic step tells the seat that makes it.
use Rattle.std.specs.Prelude.{◌≡◌, ℕ, suc, ◌*◌, Some, None, List}
use Rattle.atomic_table.specs.Table.{Step, Me}
use Rattle.cyp_cancel.specs.Words.{Word, number_of}
use Rattle.cyp_cancel.specs.Views.{WorkerView, View, Maker, Worker, new_worker, with_found, after_stopping}
use Rattle.cyp_cancel.specs.Kinds.{Kind, Begin, Poll, End, StopOf}
use Rattle.cyp_cancel.specs.Kept.{Kept}

module _ {S : Type 0} where
  -- a step of this kind, which kept the rule, found this word at a worker, and the seat has the next view
  abbrev pub Turns : Kind → ℕ → Word → WorkerView → WorkerView → List (ℕ × S) → Me S View → Type 0
  Turns k w x v next held after = (after ≡ (Worker next, held)) × Kept k w x v next

  -- the seat runs the serial whose number was stored
  abbrev pub Began : Step S → Me S View → ℕ → Me S View → Type 0
  Began t me found after =
      (x : Word) × (number_of x ≡ found)
      × ((v : WorkerView) (s : ℕ) → me.0 ≡ Worker v → t.first ≡ 2 * s → Turns (Begin s) t.word x v (record v { serial = Some s }) me.1 after)

  -- the seat found a word at this place
  abbrev pub Polled : Step S → Me S View → ℕ → Me S View → Type 0
  Polled t me found after = (x : Word) × (number_of x ≡ found) × ((v : WorkerView) → me.0 ≡ Worker v → Turns Poll t.word x v (with_found t.word x v) me.1 after)

  -- the seat is idle
  abbrev pub Ended : Step S → Me S View → ℕ → Me S View → Type 0
  Ended t me found after = (x : Word) × (number_of x ≡ found) × ((v : WorkerView) → me.0 ≡ Worker v → Turns End t.word x v (record v { serial = None }) me.1 after)

  -- the seat found a word at this place, and the claim of the serial whose number was expected is told to stop where it ran
  abbrev pub Told : Step S → Me S View → ℕ → Me S View → Type 0
  Told t me found after =
      (x : Word) × (number_of x ≡ found)
      × ((v : WorkerView) (s : ℕ) → me.0 ≡ Worker v → t.first ≡ 2 * s → Turns (StopOf t.word s) t.word x v (after_stopping t.word s x v) me.1 after)

-- the maker has made one worker more
abbrev pub one_more : View → View
one_more (Maker m) = Maker (suc m)
one_more (Worker v) = Worker v

-- the worker that the maker makes
abbrev pub made_worker : View → View
made_worker (Maker m) = Worker (new_worker m)
made_worker (Worker v) = Worker v
