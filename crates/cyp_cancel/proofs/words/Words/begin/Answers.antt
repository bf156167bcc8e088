use Rattle.std.proofs.Common.{refl, ◌∙◌, ap, subst, ℕ, ◌≤◌, Some, arith}
use Rattle.std.proofs.lemmas.Option.{same_Some}
use Rattle.cyp_cancel.specs.Views.{WorkerView}
use Rattle.cyp_cancel.specs.Kinds.{Begin}
use Rattle.cyp_cancel.specs.Seats.{SeatValue, worker_of}
use Rattle.cyp_cancel.proofs.Seated.{same_table, there, begin_at, is_worker, seated_after, view_after, kept_own}
use Rattle.cyp_cancel.proofs.words.Words.begin.Goals as goal

pub swap-requires : goal.swap-requires
swap-requires c =
    let t = c.self.inside.table.shared.table_id in
    let same = same_table c.seat.view_is c.requires.fits c.self.view_is in (
      same,
      there c.seat.invariant same,
      begin_at c.seat.invariant same c.self.invariant.sized t.slots c.seat.inside.seat.id c.args.serial c.requires.serial,
    )

pub invariant_of-seat : goal.invariant_of-seat
invariant_of-seat c =
    let old : WorkerView = worker_of c.seat.inside.seat.me.0 in
    let made = c.swap.ensures.2.2 old c.args.serial (is_worker c.seat.invariant) refl in
    seated_after c.seat.invariant c.swap.ensures.0 c.args.serial (record old { serial = Some c.args.serial }) made.0 refl refl (omega (arith, c.requires.serial.most))
    (λ s e. subst (λ (n : ℕ). 1 ≤ n) (same_Some c.args.serial s e) c.requires.serial.some)

pub returns-clause-view : goal.returns-clause-view
returns-clause-view c =
    let old : WorkerView = worker_of c.seat.inside.seat.me.0 in
    let made = c.swap.ensures.2.2 old c.args.serial (is_worker c.seat.invariant) refl in
    view_after c.seat.invariant (record old { serial = Some c.args.serial }) made.0 ∙ ap (λ (s : SeatValue). record s.view { serial = Some c.args.serial }) c.seat.view_is

pub returns-clause-rule : goal.returns-clause-rule
returns-clause-rule c =
    let old : WorkerView = worker_of c.seat.inside.seat.me.0 in
    let made = c.swap.ensures.2.2 old c.args.serial (is_worker c.seat.invariant) refl in (
      c.swap.ensures.2.0,
      kept_own c.seat.invariant (Begin c.args.serial) c.swap.ensures.2.0 (record old { serial = Some c.args.serial }) made c.seat.view_is,
    )
