-- What contracts see of the words and of a worker's seat.
use Rattle.std.specs.Prelude.{◌≡◌, refl, ℕ, ◌^◌, ◌≤◌, ◌<◌, List, [], Option, Some, None, slice_get}
use Rattle.std.specs.Coded.{Coded, code_by, coded×, coded_ℕ}
use Rattle.atomic_table.specs.Table.{Me}
use Rattle.atomic_table.specs.Seated.{TableId, table_id_coded}
use Rattle.cyp_cancel.specs.Codes.{worker_code}
use Rattle.cyp_cancel.specs.Views.{WorkerView, View, Maker, Worker, new_worker}

-- the words of so many workers, in the table of this name
pub record WordsValue : Type 0 where
  pub table : TableId
  pub workers : ℕ

-- a seat at the words in the table of this name, with its view
pub record SeatValue : Type 0 where
  pub table : TableId
  pub view : WorkerView

-- the worker's view of a seat
abbrev pub worker_of : View → WorkerView
worker_of (Maker m) = new_worker m
worker_of (Worker v) = v

-- a serial as a number that is 0 where there is none
abbrev pub serial_number : Option ℕ → ℕ
serial_number None = 0
serial_number (Some s) = s

-- the table's key is the number of its words, of which there are 1 to 32
pub record IsWords (table : TableId) (key : ℕ) : Type 0 where
  pub sized : key ≡ table.words
  pub some : 1 ≤ table.words
  pub few : table.words ≤ 32

-- a seat's own number and serial are those of its view, and its word is one of the table's
pub record IsSeat {S : Type 0} (table : TableId) (me : Me S View) (number serial : ℕ) : Type 0 where
  pub worker : me ≡ (Worker (worker_of me.0), [])
  pub number_is : number ≡ (worker_of me.0).number
  pub serial_is : serial ≡ serial_number (worker_of me.0).serial
  pub small : serial < 2 ^ 63
  pub some : (s : ℕ) → (worker_of me.0).serial ≡ Some s → 1 ≤ s
  pub there : number < table.words

-- seats of this table, each with the view of a worker that was just made, in the order of their numbers
abbrev pub AreNew : TableId → List SeatValue → Type 0
AreNew t seats = (i : ℕ) (s : SeatValue) → slice_get seats i ≡ Some s → (s.table ≡ t) × (s.view ≡ new_worker i)

-- words, and a seat, coded as their two parts
abbrev pub words_code : Coded WordsValue
words_code = code_by (TableId × ℕ) (coded× table_id_coded coded_ℕ) (λ w. (w.table, w.workers)) (λ p. record { table = p.0; workers = p.1 }) (λ _. refl)

-- a seat coded as its table and its view
abbrev pub seat_code : Coded SeatValue
seat_code = code_by (TableId × WorkerView) (coded× table_id_coded worker_code) (λ s. (s.table, s.view)) (λ p. record { table = p.0; view = p.1 }) (λ _. refl)
