use Rattle.std.proofs.Common.{◌≡◌, refl, sym, ◌∙◌, ap, subst, ℕ, ◌<◌, ◌*◌, ◌==◌}
use Rattle.cyp_cancel.specs.Words.{Word}
use Rattle.cyp_cancel.specs.Views.{WorkerView, after_stopping}
use Rattle.cyp_cancel.specs.Kinds.{StopOf}
use Rattle.cyp_cancel.specs.Seats.{WordsValue, SeatValue, worker_of, serial_number}
use Rattle.cyp_cancel.proofs.Allowed.{is_run_number}
use Rattle.cyp_cancel.proofs.Seated.{same_table, stop_at, is_worker, seated_after, view_after, kept_at, after_stopping-number, after_stopping-serial}
use Rattle.cyp_cancel.proofs.words.Words.stop.Goals as goal

pub compare_exchange-found-requires : goal.compare_exchange-found-requires
compare_exchange-found-requires c =
    let t = c.self.inside.table.shared.table_id in
    let same = same_table c.seat.view_is c.requires.fits c.self.view_is in
    let low : c.args.worker < t.words = subst (λ (w : WordsValue). c.args.worker < w.workers) (sym c.self.view_is) c.requires.worker in (
      same,
      low,
      stop_at c.seat.invariant same c.self.invariant.sized t.slots c.seat.inside.seat.id c.args.worker c.args.serial low c.requires.serial,
    )

pub invariant_of-seat : goal.invariant_of-seat
invariant_of-seat c =
    let i = c.seat.inside in
    let f = c.compare_exchange-found in
    let old : WorkerView = worker_of i.seat.me.0 in
    let new : WorkerView = after_stopping c.args.worker c.args.serial f.ensures.2.0 old in
    let serial : new.serial ≡ old.serial = after_stopping-serial c.args.worker c.args.serial f.ensures.2.0 old in
    let made = f.ensures.2.2 old c.args.serial (is_worker c.seat.invariant) refl in
    seated_after c.seat.invariant f.ensures.0 i.serial new made.0 (after_stopping-number c.args.worker c.args.serial f.ensures.2.0 old) (c.seat.invariant.serial_is ∙ ap serial_number (sym serial))
    c.seat.invariant.small (λ s e. c.seat.invariant.some s (sym serial ∙ e))

pub returns-clause-word : goal.returns-clause-word
returns-clause-word c =
    let f = c.compare_exchange-found in
    let x : Word = f.ensures.2.0 in
    let old : WorkerView = worker_of c.seat.inside.seat.me.0 in
    let new : WorkerView = after_stopping c.args.worker c.args.serial x old in
    let made = f.ensures.2.2 old c.args.serial (is_worker c.seat.invariant) refl in (
      x,
      kept_at c.seat.invariant (StopOf c.args.worker c.args.serial) c.args.worker x new made c.seat.view_is,
      view_after c.seat.invariant new made.0 ∙ ap (λ (s : SeatValue). after_stopping c.args.worker c.args.serial x s.view) c.seat.view_is,
      ap (λ (n : ℕ). n == 2 * c.args.serial) (sym f.ensures.2.1) ∙ is_run_number c.args.serial x c.requires.serial.some,
    )
