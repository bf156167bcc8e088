use Rattle.std.proofs.Common.{refl, ◌∙◌, ap, None, arith}
use Rattle.cyp_cancel.specs.Views.{WorkerView}
use Rattle.cyp_cancel.specs.Kinds.{End}
use Rattle.cyp_cancel.specs.Seats.{SeatValue, worker_of}
use Rattle.cyp_cancel.proofs.Seated.{same_table, there, end_at, is_worker, seated_after, view_after, kept_own}
use Rattle.cyp_cancel.proofs.words.Words.end.Goals as goal

pub swap-requires : goal.swap-requires
swap-requires c =
    let t = c.self.inside.table.shared.table_id in
    let same = same_table c.seat.view_is c.requires.fits c.self.view_is in (
      same,
      there c.seat.invariant same,
      end_at c.seat.invariant same c.self.invariant.sized t.slots c.seat.inside.seat.id,
    )

pub invariant_of-seat : goal.invariant_of-seat
invariant_of-seat c =
    let old : WorkerView = worker_of c.seat.inside.seat.me.0 in
    let made = c.swap.ensures.2.2 old (is_worker c.seat.invariant) in
    seated_after c.seat.invariant c.swap.ensures.0 0 (record old { serial = None }) made.0 refl refl (omega arith) (λ s e. cc)

pub returns-clause-view : goal.returns-clause-view
returns-clause-view c =
    let old : WorkerView = worker_of c.seat.inside.seat.me.0 in
    let made = c.swap.ensures.2.2 old (is_worker c.seat.invariant) in
    view_after c.seat.invariant (record old { serial = None }) made.0 ∙ ap (λ (s : SeatValue). record s.view { serial = None }) c.seat.view_is

pub returns-clause-rule : goal.returns-clause-rule
returns-clause-rule c =
    let old : WorkerView = worker_of c.seat.inside.seat.me.0 in
    let made = c.swap.ensures.2.2 old (is_worker c.seat.invariant) in
    (c.swap.ensures.2.0, kept_own c.seat.invariant End c.swap.ensures.2.0 (record old { serial = None }) made c.seat.view_is)
