-- The steps that the table of words allows.
use Rattle.std.proofs.Common.{◌≡◌, refl, sym, ◌∙◌, ap, subst, ℕ, zero, suc, ◌+◌, ◌*◌, ◌==◌, ◌<◌, ◌≤◌, Bool, true, false, cond, List, [], ◌∷◌, ◌++◌, map, replicate, length, Some, None, slice_get, slice_set, slice_index, eq-eqb, ne_eqb, arith}
use Rattle.std.proofs.lemmas.List.{length-set}
use mathlib.Core.Option.{some, none, some-injective, some-ne-none}
use mathlib.Core.Logic.{dite}
use native.Mathlib.Decide.{ℕ_discrete}
use prog.Atomic.{either}
use lib.ListN.{get_elem?}
use Rattle.atomic_table.specs.Table.{State, Me, step, Allows, keeps, stepped, opening}
use Rattle.atomic_table.specs.Table as table
use Rattle.cyp_cancel.specs.Words.{Word, Idle, Run, Stop, number_of, is_run, after_stop, IsSerial, IsWord}
use Rattle.cyp_cancel.specs.Views.{WorkerView, View, Maker, Worker, Table, new_worker, with_found, after_stopping}
use Rattle.cyp_cancel.specs.Kinds.{Kind, Begin, Poll, End, StopOf, Split, HasSerial, Changes, Makes}
use Rattle.cyp_cancel.specs.Kept.{Kept}
use Rattle.cyp_cancel.specs.Stands.{Stands}
use Rattle.cyp_cancel.specs.Plays.{Began, Polled, Ended, Told, Turns}
use Rattle.cyp_cancel.proofs.Changed.{next_after}
use Rattle.cyp_cancel.proofs.KindsKeep.{kinds_keep}
use Rattle.cyp_cancel.proofs.KindsLeaveWords.{start_words, kinds_leave_words}
use Rattle.cyp_cancel.proofs.Same.{same_Worker}
use Rattle.cyp_cancel.proofs.Start.{start_meets}

pub get_seen : {A : Type 0} (l : List A) (i : ℕ) (a : A) → get_elem? l i ≡ some a → slice_get l i ≡ Some a
get_seen [] i a e = absurd (some-ne-none a (sym e))
get_seen (x ∷ xs) zero a e = ap Some (some-injective x a e)
get_seen (x ∷ xs) (suc i) a e = get_seen xs i a e

-- the word at a place, and its number
pub word_at : (ws : List Word) (i : ℕ) → i < length ws → (x : Word) × (slice_get ws i ≡ Some x) × (slice_index (map number_of ws) i ≡ number_of x)
word_at [] i h = absurd (omega arith)
word_at (x ∷ xs) zero h = (x, refl, refl)
word_at (x ∷ xs) (suc i) h = word_at xs i (omega arith)

pub map_set : (ws : List Word) (i : ℕ) (y : Word) → slice_set (map number_of ws) i (number_of y) ≡ map number_of (slice_set ws i y)
map_set [] i y = refl
map_set (x ∷ xs) zero y = refl
map_set (x ∷ xs) (suc i) y = ap (λ (l : List ℕ). number_of x ∷ l) (map_set xs i y)

pub all_zero : (n : ℕ) → replicate n 0 ≡ map number_of (replicate n Idle)
all_zero zero = refl
all_zero (suc n) = ap (λ (l : List ℕ). 0 ∷ l) (all_zero n)

pub length_idle : (n : ℕ) → length (replicate n Idle) ≡ n
length_idle zero = refl
length_idle (suc n) = ap suc (length_idle n)

module _ {S : Type 0} where
  -- what a kind of step does to a word and a view, and what it tells
  abbrev pub Does : Kind → ℕ → WorkerView → List (ℕ × S) → (ℕ → ℕ) → (ℕ → Me S View → Type 0) → Word → Type 0
  Does k i v held f then x =
      (y : Word) × (next : WorkerView) × (f (number_of x) ≡ number_of y)
      × ((before after : Table) → Changes before after i x y v next → Makes k before after)
      × (Kept k i x v next → then (number_of x) (Worker next, held))

  module _ (count slots id i : ℕ) (v : WorkerView) (held : List (ℕ × S)) (k : Kind) (f : ℕ → ℕ) (then : ℕ → Me S View → Type 0) (there : i < count) (serial : HasSerial k)
      (does : (x : Word) → IsWord x → Does k i v held f then x) where
    module _ (s : State S View) (st : Stands count s) (at : get_elem? s.views id ≡ some (Worker v)) where
      abbrev before : Table
      before = record { words = st.words; views = s.views }

      abbrev here : (x : Word) × (slice_get st.words i ≡ Some x) × (slice_index (map number_of st.words) i ≡ number_of x)
      here = word_at st.words i (subst (λ (n : ℕ). i < n) (sym st.counted) there)

      abbrev done : Does k i v held f then here.0
      done = does here.0 (st.are i here.0 here.1)

      abbrev after : Table
      after = record { words = slice_set st.words i done.0; views = slice_set s.views id (Worker done.1) }

      change : Changes before after i here.0 done.0 v done.1
      change = record { seat = id; found = here.1; held = get_seen s.views id (Worker v) at; words = refl; views = refl }

      makes : Makes k before after
      makes = done.3 before after change

      kept : Kept k i here.0 v done.1
      unfolding change
      kept = record {
        before = before;
        after = after;
        met = st.rule;
        meets = kinds_keep k before after st.rule makes;
        made = makes;
        read = here.1;
        is_word = st.are i here.0 here.1;
        seat = id;
        was = change.held;
        is = next_after before after i here.0 done.0 v done.1 change;
      }

      number : slice_index s.words i ≡ number_of here.0
      number = ap (λ (l : List ℕ). slice_index l i) st.kept ∙ here.2

      stored : slice_set s.words i (f (slice_index s.words i)) ≡ map number_of (slice_set st.words i done.0)
      stored = ap (λ (l : List ℕ). slice_set l i (f (slice_index s.words i))) st.kept ∙ ap (λ (n : ℕ). slice_set (map number_of st.words) i n) (ap f number ∙ done.2) ∙ map_set st.words i done.0

      pub stands_after : Stands count (stepped s i (f (slice_index s.words i)) id held (Worker done.1) keeps)
      stands_after = record {
        words = slice_set st.words i done.0;
        kept = stored;
        counted = length-set st.words i done.0 ∙ st.counted;
        are = kinds_leave_words k before after serial st.are makes;
        rule = kinds_keep k before after st.rule makes;
      }

      pub told_after : then (slice_index s.words i) (Worker done.1, held)
      told_after = subst (λ (n : ℕ). then n (Worker done.1, held)) (sym number) (done.4 kept)

    pub allows : Allows (Stands count) slots id (Worker v, held) i f then
    allows s st homes at small = (Worker (done s st at).1, keeps, tt, stands_after s st at, told_after s st at)

  module _ (count slots id : ℕ) (v : WorkerView) (held : List (ℕ × S)) where
    pub begin_allows : (s : ℕ) → v.number < count → IsSerial s → Allows (Stands count) slots id (Worker v, held) v.number (λ _. 2 * s) (Began (step slots v.number (2 * s) 0 none) (Worker v, held))
    begin_allows s there is =
        allows count slots id v.number v held (Begin s) (λ _. 2 * s) (Began (step slots v.number (2 * s) 0 none) (Worker v, held)) there is
        (λ x _. (
          Run s,
          record v { serial = Some s },
          refl,
          (λ b a c. (v, x, c)),
          (λ kept. (
            x,
            refl,
            (λ u r e q.
                let same : v ≡ u = same_Worker v u e in
                let one : s ≡ r = omega arith in
                subst (λ (p : WorkerView × ℕ). Turns (Begin p.1) v.number x p.0 (record p.0 { serial = Some p.1 }) held (Worker (record v { serial = Some s }), held)) (λ k. (same k, one k)) (refl, kept)),
          )),
        ))

    pub poll_allows : v.number < count → Allows (Stands count) slots id (Worker v, held) v.number (λ n. n) (Polled (step slots v.number 0 0 none) (Worker v, held))
    poll_allows there =
        allows count slots id v.number v held Poll (λ n. n) (Polled (step slots v.number 0 0 none) (Worker v, held)) there tt
        (λ x _. (
          x,
          with_found v.number x v,
          refl,
          (λ b a c. (v, x, c)),
          (λ kept. (
            x,
            refl,
            (λ u e.
                subst (λ (p : WorkerView). Turns Poll v.number x p (with_found v.number x p) held (Worker (with_found v.number x v), held)) (same_Worker v u e) (refl, kept)),
          )),
        ))

    pub end_allows : v.number < count → Allows (Stands count) slots id (Worker v, held) v.number (λ _. 0) (Ended (step slots v.number 0 0 none) (Worker v, held))
    end_allows there =
        allows count slots id v.number v held End (λ _. 0) (Ended (step slots v.number 0 0 none) (Worker v, held)) there tt
        (λ x _. (
          Idle,
          record v { serial = None },
          refl,
          (λ b a c. (v, x, c)),
          (λ kept. (
            x,
            refl,
            (λ u e.
                subst (λ (p : WorkerView). Turns End v.number x p (record p { serial = None }) held (Worker (record v { serial = None }), held)) (same_Worker v u e) (refl, kept)),
          )),
        ))

-- a word has the number of this serial's Run exactly where it is that
pub is_run_number : (s : ℕ) (x : Word) → 1 ≤ s → (number_of x == 2 * s) ≡ is_run s x
is_run_number s Idle h = ne_eqb 0 (2 * s) (λ e. omega arith)
is_run_number s (Run r) h = dite (ℕ_discrete r s) (λ e. eq-eqb (2 * r) (2 * s) (ap (λ (n : ℕ). 2 * n) e) ∙ sym (eq-eqb r s e)) (λ ne. ne_eqb (2 * r) (2 * s) (λ e. ne (omega arith)) ∙ sym (ne_eqb r s ne))
is_run_number s (Stop r) h = ne_eqb (2 * r + 1) (2 * s) (λ e. omega arith)

either_number : (s : ℕ) (x : Word) (b : Bool) → either b (2 * s + 1) (number_of x) ≡ number_of (cond b (Stop s) x)
either_number s x true = refl
either_number s x false = refl

pub stopped_number : (s : ℕ) (x : Word) → 1 ≤ s → either (number_of x == 2 * s) (2 * s + 1) (number_of x) ≡ number_of (after_stop s x)
stopped_number s x h = ap (λ (b : Bool). either b (2 * s + 1) (number_of x)) (is_run_number s x h) ∙ either_number s x (is_run s x)

module _ {S : Type 0} (count slots id : ℕ) (v : WorkerView) (held : List (ℕ × S)) where
  pub stop_allows : (w s : ℕ) → w < count → IsSerial s
      → Allows (Stands count) slots id (Worker v, held) w (λ n. either (n == 2 * s) (2 * s + 1) n) (Told (step slots w (2 * s) (2 * s + 1) none) (Worker v, held))
  stop_allows w s there is =
      allows count slots id w v held (StopOf w s) (λ n. either (n == 2 * s) (2 * s + 1) n) (Told (step slots w (2 * s) (2 * s + 1) none) (Worker v, held)) there is
      (λ x _. (
        after_stop s x,
        after_stopping w s x v,
        stopped_number s x is.some,
        (λ b a c. (v, x, c)),
        (λ kept. (
          x,
          refl,
          (λ u r e q.
              let same : v ≡ u = same_Worker v u e in
              let one : s ≡ r = omega arith in
              subst (λ (p : WorkerView × ℕ). Turns (StopOf w p.1) w x p.0 (after_stopping w p.1 x p.0) held (Worker (after_stopping w s x v), held)) (λ k. (same k, one k)) (refl, kept)),
        )),
      ))

  -- the maker may make a worker
  pub split_allows : (m : ℕ) → table.Splits {S = S} (Stands count) id (Maker m) (Maker (suc m)) (Worker (new_worker m))
  split_allows m s st at =
      let before : Table = record { words = st.words; views = s.views } in
      let after : Table = record { words = st.words; views = slice_set s.views id (Maker (suc m)) ++ Worker (new_worker m) ∷ [] } in
      let makes : Makes Split before after = record { seat = id; made = m; held = get_seen s.views id (Maker m) at; words = refl; views = refl } in
      record {
        words = st.words;
        kept = st.kept;
        counted = st.counted;
        are = kinds_leave_words Split before after tt st.are makes;
        rule = kinds_keep Split before after st.rule makes;
      }

-- a table of so many idle words stands at the start
pub opens : {S : Type 0} (n : ℕ) (xs : List S) → Stands n (opening (replicate n 0) xs (Maker 0))
opens n xs = record {
  words = replicate n Idle;
  kept = all_zero n;
  counted = length_idle n;
  are = start_words n;
  rule = start_meets n;
}
