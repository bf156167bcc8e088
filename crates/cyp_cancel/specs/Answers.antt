-- What a poll answers.
use Rattle.std.specs.Prelude.{◌≡◌, ℕ, ◌+◌, ◌-◌, ◌^◌, min, Bool, MatchBool, Some}
use Rattle.cyp_cancel.specs.Words.{Word, Stop}
use Rattle.cyp_cancel.specs.Views.{WorkerView}
use Rattle.cyp_cancel.specs.declared.seen.Poll.{Poll}
use Rattle.cyp_cancel.specs.declared.seen.Poll.TheVariants as poll

-- the word tells the worker of this view to stop its claim
abbrev pub TellsToStop : WorkerView → Word → Type 0
TellsToStop v x = (s : ℕ) × (v.serial ≡ Some s) × (x ≡ Stop s)

-- Stop exactly where the word that was read tells the worker to stop its claim, with the worker's number and serial
abbrev pub Answers : Poll → WorkerView → Word → Type 0
Answers poll.Run v x = TellsToStop v x → ⊥
Answers (poll.Stop seen) v x = (seen.worker ≡ v.number) × (v.serial ≡ Some seen.serial) × (x ≡ Stop seen.serial)

-- true exactly where the word that was read tells the worker to stop its claim; the count rises or stands at its end then, and else stays
abbrev pub Hears : Bool → WorkerView → Word → ℕ → ℕ → Type 0
Hears answer v x before now = MatchBool answer (TellsToStop v x × (now ≡ min (before + 1) (2 ^ 64 - 1))) ((TellsToStop v x → ⊥) × (now ≡ before))
