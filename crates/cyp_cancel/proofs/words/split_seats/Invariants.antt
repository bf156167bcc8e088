use Rattle.std.proofs.Common.{◌≡◌, [], length}
use Rattle.cyp_cancel.specs.Views.{Maker}
use Rattle.cyp_cancel.specs.Seats.{AreNew}
use Rattle.cyp_cancel.proofs.words.split_seats.Given as goal

abbrev pub invariant-loop-number : goal.invariant-loop-number
invariant-loop-number l = record {
  fits : l.maker.table_id ≡ l.table.shared.table_id;
  maker : l.maker.me ≡ (Maker l.number, []);
  count : length l.seats.items ≡ l.number;
  seats : AreNew l.table.shared.table_id l.seats.items;
}
