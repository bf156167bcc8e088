use Rattle.std.proofs.Common.{◌≡◌, refl, sym, ◌∙◌, ap, subst, ℕ, ◌<◌, ◌+◌, ◌*◌, arith}
use Rattle.cyp_cancel.specs.Words.{Word}
use Rattle.cyp_cancel.specs.Views.{WorkerView, with_found}
use Rattle.cyp_cancel.specs.Kinds.{Poll as polls}
use Rattle.cyp_cancel.specs.Seats.{SeatValue, worker_of}
use Rattle.cyp_cancel.specs.Answers.{Answers}
use Rattle.cyp_cancel.specs.declared.seen.Poll.{Poll}
use Rattle.cyp_cancel.proofs.Seated.{same_table, there, poll_at, is_worker, seated_after, view_after, kept_own, stop_found, no_stop_found}
use Rattle.cyp_cancel.proofs.words.Words.poll.Goals as goal
use Rattle.cyp_cancel.proofs.words.Words.poll.Goals.{then-seat-gt0+then-found-seat, else-seat-gt0, else-seat-gt0-via-then-seat-gt0+else-found-seat, else-seat-gt0-via-else-seat-gt0}

pub load-found-requires : goal.load-found-requires
load-found-requires c =
    let t = c.self.inside.table.shared.table_id in
    let same = same_table c.seat.view_is c.requires.fits c.self.view_is in (
      same,
      there c.seat.invariant same,
      poll_at c.seat.invariant same c.self.invariant.sized t.slots c.seat.inside.seat.id,
    )

pub invariant_of-seat : goal.invariant_of-seat
invariant_of-seat c =
    let i = c.seat.inside in
    let f = c.load-found in
    let old : WorkerView = worker_of i.seat.me.0 in
    let made = f.ensures.2.2 old (is_worker c.seat.invariant) in
    seated_after c.seat.invariant f.ensures.0 i.serial (with_found i.number f.ensures.2.0 old) made.0 refl c.seat.invariant.serial_is c.seat.invariant.small c.seat.invariant.some

pub returns-clause-word : goal.returns-clause-word
returns-clause-word c =
    let i = c.seat.inside in
    let f = c.load-found in
    let x : Word = f.ensures.2.0 in
    let number = f.ensures.2.1 in
    let old : WorkerView = worker_of i.seat.me.0 in
    let made = f.ensures.2.2 old (is_worker c.seat.invariant) in (
      x,
      kept_own c.seat.invariant polls x (with_found i.number x old) made c.seat.view_is,
      view_after c.seat.invariant (with_found i.number x old) made.0
          ∙ ap (λ (n : ℕ). with_found n x old) c.seat.invariant.number_is
          ∙ ap (λ (s : SeatValue). with_found s.view.number x s.view) c.seat.view_is,
      subst (λ (s : SeatValue). Answers c.if-seat-gt0.result s.view x) c.seat.view_is (elim c.if-seat-gt0.branch [
        | then-seat-gt0+then-found-seat w ↦
            let said = stop_found old i.serial f.result x c.seat.invariant.serial_is w.if-seat-gt0.true number w.if-found-seat.true in
            subst (λ (r : Poll). Answers r old x) (sym w.result-is) (c.seat.invariant.number_is, said.0, said.1)
        | else-seat-gt0 w ↦
            subst (λ (r : Poll). Answers r old x) (sym w.result-is)
            (no_stop_found old i.serial f.result x c.seat.invariant.serial_is c.seat.invariant.some number
            (λ (h : 0 < i.serial) (q : f.result ≡ 2 * i.serial + 1). elim w.else-seat-gt0.branch [
              | else-seat-gt0-via-then-seat-gt0+else-found-seat u ↦ absurd (u.if-found-seat.false q)
              | else-seat-gt0-via-else-seat-gt0 u ↦ omega (arith, h, u.if-seat-gt0.false)
            ]))
      ]),
    )
