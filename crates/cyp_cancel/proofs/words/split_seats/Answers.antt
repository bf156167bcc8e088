use Rattle.std.proofs.Common.{rules, sym, ap, subst, [], None}
use Rattle.atomic_table.specs.Table.{Splits}
use Rattle.cyp_cancel.specs.Views.{View}
use Rattle.cyp_cancel.specs.Stands.{Stands}
use Rattle.cyp_cancel.specs.Plays.{one_more, made_worker}
use Rattle.cyp_cancel.proofs.Allowed.{split_allows}
use Rattle.cyp_cancel.proofs.NewSeats.{none_new}
use Rattle.cyp_cancel.proofs.words.split_seats.Goals as goal

pub loop-number-init : goal.loop-number-init
loop-number-init c = record { fits = c.requires.fits; maker = c.requires.maker; count = search rules; seats = search (none_new, rules) }

pub split_seat-seat-requires : goal.split_seat-seat-requires
split_seat-seat-requires c =
    let t = c.args.table.now.shared in (
      search rules,
      search rules,
      subst (λ (v : View). Splits (Stands t.key) c.loop-number.maker.id v (one_more v) (made_worker v)) (sym (ap (λ m. m.0) c.loop-number.invariant.maker)) (split_allows t.key t.table_id.slots c.loop-number.maker.id (record { number = 0; serial = None; stopped = []; found = [] }) [] c.loop-number.number),
    )
