-- The steps of a worker's seat, and what the seat is after them.
use Rattle.std.proofs.Common.{◌≡◌, refl, sym, ◌∙◌, ap, subst, ℕ, ◌+◌, ◌*◌, ◌^◌, ◌==◌, ◌<◌, ◌≤◌, Bool, true, false, cond, [], Option, Some, None, arith}
use mathlib.Core.Option.{none}
use prog.Atomic.{either}
use Rattle.atomic_table.specs.Table.{Me, step, Allows}
use Rattle.atomic_table.specs.Seated.{TableId}
use Rattle.cyp_cancel.specs.Words.{Word, Idle, Run, Stop, number_of, is_run, IsSerial}
use Rattle.cyp_cancel.specs.Views.{WorkerView, View, Worker, with_found, with_stopped, after_stopping}
use Rattle.cyp_cancel.specs.Kinds.{Kind}
use Rattle.cyp_cancel.specs.Kept.{Kept}
use Rattle.cyp_cancel.specs.Stands.{Stands}
use Rattle.cyp_cancel.specs.Seats.{WordsValue, SeatValue, IsSeat, worker_of, serial_number}
use Rattle.cyp_cancel.specs.Answers.{TellsToStop}
use Rattle.cyp_cancel.specs.Plays.{Began, Polled, Ended, Told, Turns}
use Rattle.cyp_cancel.proofs.Allowed.{begin_allows, poll_allows, end_allows, stop_allows}

-- a seat that fits the words is of the same table, by the fields of both
pub same_table : {a b : SeatValue} {w v : WordsValue} → a ≡ b → b.table ≡ v.table → w ≡ v → a.table ≡ w.table
same_table seat fits words = ap (λ (s : SeatValue). s.table) seat ∙ fits ∙ sym (ap (λ (u : WordsValue). u.table) words)

module _ {S : Type 0} {number serial : ℕ} {t : TableId} {me : Me S View} (seated : IsSeat t me number serial) where
  abbrev mine : WorkerView
  mine = worker_of me.0

  pub is_worker : me.0 ≡ Worker mine
  is_worker = ap (λ (m : Me S View). m.0) seated.worker

  -- what is so of the worker's view, of its own word
  from : (P : Me S View → ℕ → Type 0) → P (Worker mine, []) mine.number → P me number
  from P p = subst (λ (m : Me S View). P m number) (sym seated.worker) (subst (λ (n : ℕ). P (Worker mine, []) n) (sym seated.number_is) p)

  module _ {u : TableId} (same : t ≡ u) where
    pub there : number < u.words
    there = subst (λ (z : TableId). number < z.words) same seated.there

    module _ {key : ℕ} (sized : key ≡ u.words) (slots id : ℕ) where
      below : mine.number < key
      below = subst (λ (n : ℕ). n < key) seated.number_is (subst (λ (n : ℕ). number < n) (sym sized) there)

      pub begin_at : (s : ℕ) → IsSerial s → Allows (Stands key) slots id me number (λ _. 2 * s) (Began (step slots number (2 * s) 0 none) me)
      begin_at s is = from (λ m n. Allows (Stands key) slots id m n (λ _. 2 * s) (Began (step slots n (2 * s) 0 none) m)) (begin_allows key slots id mine [] s below is)

      pub poll_at : Allows (Stands key) slots id me number (λ n. n) (Polled (step slots number 0 0 none) me)
      poll_at = from (λ m n. Allows (Stands key) slots id m n (λ k. k) (Polled (step slots n 0 0 none) m)) (poll_allows key slots id mine [] below)

      pub end_at : Allows (Stands key) slots id me number (λ _. 0) (Ended (step slots number 0 0 none) me)
      end_at = from (λ m n. Allows (Stands key) slots id m n (λ _. 0) (Ended (step slots n 0 0 none) m)) (end_allows key slots id mine [] below)

      pub stop_at : (w s : ℕ) → w < u.words → IsSerial s → Allows (Stands key) slots id me w (λ n. either (n == 2 * s) (2 * s + 1) n) (Told (step slots w (2 * s) (2 * s + 1) none) me)
      stop_at w s low is =
          from (λ m _. Allows (Stands key) slots id m w (λ n. either (n == 2 * s) (2 * s + 1) n) (Told (step slots w (2 * s) (2 * s + 1) none) m))
          (stop_allows key slots id mine [] w s (subst (λ (n : ℕ). w < n) (sym sized) low) is)

  -- a seat after a step, where its number stays and its serial is known
  pub seated_after : {u : TableId} {after : Me S View} → u ≡ t → (next : ℕ) (w : WorkerView) → after ≡ (Worker w, me.1) → w.number ≡ mine.number → next ≡ serial_number w.serial → next < 2 ^ 63
      → ((s : ℕ) → w.serial ≡ Some s → 1 ≤ s) → IsSeat u after number next
  seated_after {u} {after} same next w e n is small some =
      let to : after ≡ (Worker w, []) = e ∙ ap (λ (m : Me S View). (Worker w, m.1)) seated.worker in
      subst (λ (m : Me S View). IsSeat u m number next) (sym to)
      (record { worker = refl; number_is = seated.number_is ∙ sym n; serial_is = is; small = small; some = some; there = subst (λ (z : TableId). number < z.words) (sym same) seated.there })

  pub view_after : {after : Me S View} (w : WorkerView) → after ≡ (Worker w, me.1) → worker_of after.0 ≡ w
  view_after w e = ap (λ (m : Me S View). worker_of m.0) e

  -- the step kept the rule, said of the seat's views by their other names
  pub kept_at : {after : Me S View} (k : Kind) (n : ℕ) (x : Word) (w : WorkerView) → Turns k n x mine w me.1 after → {z : TableId} {old : SeatValue} → record { table = z; view = mine } ≡ old
      → Kept k n x old.view (worker_of after.0)
  kept_at {after} k n x w p e =
      subst (λ (s : SeatValue). Kept k n x s.view (worker_of after.0)) e (subst (λ (v : WorkerView). Kept k n x mine v) (sym (view_after w p.0)) p.1)

  pub kept_own : {after : Me S View} (k : Kind) (x : Word) (w : WorkerView) → Turns k number x mine w me.1 after → {z : TableId} {old : SeatValue} → record { table = z; view = mine } ≡ old
      → Kept k old.view.number x old.view (worker_of after.0)
  kept_own {after} k x w p {z} {old} e =
      subst (λ (n : ℕ). Kept k n x old.view (worker_of after.0)) (seated.number_is ∙ ap (λ (s : SeatValue). s.view.number) e) (kept_at k number x w p e)

-- a serial of a view, by its number
some_serial : (o : Option ℕ) (n : ℕ) → n ≡ serial_number o → 0 < n → o ≡ Some n
some_serial None n e h = absurd (omega (arith, e))
some_serial (Some s) n e h = ap Some (sym e)

stop_word : (n : ℕ) (x : Word) → number_of x ≡ 2 * n + 1 → x ≡ Stop n
stop_word n Idle e = absurd (omega arith)
stop_word n (Run s) e = absurd (omega arith)
stop_word n (Stop s) e = ap Stop (let one : s ≡ n = omega arith in one)

stopping_number : (w s : ℕ) (x : Word) (v : WorkerView) (b : Bool) → (with_found w x (cond b (with_stopped w s v) v)).number ≡ v.number
stopping_number w s x v true = refl
stopping_number w s x v false = refl

stopping_serial : (w s : ℕ) (x : Word) (v : WorkerView) (b : Bool) → (with_found w x (cond b (with_stopped w s v) v)).serial ≡ v.serial
stopping_serial w s x v true = refl
stopping_serial w s x v false = refl

pub after_stopping-number : (w s : ℕ) (x : Word) (v : WorkerView) → (after_stopping w s x v).number ≡ v.number
after_stopping-number w s x v = stopping_number w s x v (is_run s x)

pub after_stopping-serial : (w s : ℕ) (x : Word) (v : WorkerView) → (after_stopping w s x v).serial ≡ v.serial
after_stopping-serial w s x v = stopping_serial w s x v (is_run s x)

-- where the number found is that of a stop of the seat's own serial, the word is that stop, and otherwise not
pub stop_found : (v : WorkerView) (n found : ℕ) (x : Word) → n ≡ serial_number v.serial → 0 < n → number_of x ≡ found → found ≡ 2 * n + 1 → (v.serial ≡ Some n) × (x ≡ Stop n)
stop_found v n found x is h e q = (some_serial v.serial n is h, stop_word n x (e ∙ q))

pub no_stop_found : (v : WorkerView) (n found : ℕ) (x : Word) → n ≡ serial_number v.serial → ((s : ℕ) → v.serial ≡ Some s → 1 ≤ s) → number_of x ≡ found
    → (0 < n → found ≡ 2 * n + 1 → ⊥) → TellsToStop v x → ⊥
no_stop_found v n found x is some e none_so (s, os, xs) =
    let one : n ≡ s = is ∙ ap serial_number os in
    let least : 1 ≤ s = some s os in
    let number : number_of x ≡ 2 * s + 1 = ap number_of xs in
    none_so (omega arith) (omega (arith, e, number, one))
