-- The seats that are made one by one.
use Rattle.std.proofs.Common.{◌≡◌, refl, sym, ◌∙◌, ap, subst, ℕ, ◌<◌, inl, inr, List, [], ◌∷◌, ◌++◌, length, arith}
use Rattle.atomic_table.specs.Seated.{TableId}
use Rattle.atomic_table.specs.Table.{Me}
use Rattle.cyp_cancel.specs.Views.{View, Worker, new_worker}
use Rattle.cyp_cancel.specs.Seats.{SeatValue, IsSeat, AreNew}
use Rattle.cyp_cancel.proofs.Places.{at_push, push_before, push_last}

pub none_new : (t : TableId) → AreNew t []
none_new t i s e = cc

pub one_new : (t : TableId) (seats : List SeatValue) (x : SeatValue) (n : ℕ) → length seats ≡ n → AreNew t seats → x.table ≡ t → x.view ≡ new_worker n → AreNew t (seats ++ x ∷ [])
one_new t seats x n len are at is i s e = elim (at_push seats x s i e) [
  | inl k ↦ are i s k
  | inr p ↦ (ap (λ (y : SeatValue). y.table) (sym p.1) ∙ at, ap (λ (y : SeatValue). y.view) (sym p.1) ∙ is ∙ ap new_worker (sym len ∙ sym p.0))
]

-- the seat of a worker that was just made
pub seated_new : {S : Type 0} (t : TableId) (me : Me S View) (n : ℕ) → me ≡ (Worker (new_worker n), []) → n < t.words → IsSeat t me n 0
seated_new {S} t me n e low =
    subst (λ (m : Me S View). IsSeat t m n 0) (sym e) (record { worker = refl; number_is = refl; serial_is = refl; small = omega arith; some = λ s q. cc; there = low })

-- the last of new seats, and those before it
pub last_is_new : (t : TableId) (seats : List SeatValue) (x : SeatValue) → AreNew t (seats ++ x ∷ []) → (x.table ≡ t) × (x.view ≡ new_worker (length seats)) × AreNew t seats
last_is_new t seats x are =
    let last = are (length seats) x (push_last seats x) in
    (last.0, last.1, λ i s e. are i s (push_before seats x s i e))
