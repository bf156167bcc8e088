-- How many steps a run may take: the measure of the numbers of a precondition's instances, and the bound on steps at a measure.
use Rattle.std.specs.Prelude.{[], ◌+◌, List, None, Option, Some, length, max, replicate, slice_get, suc, zero, ℕ, ◌∷◌}
use Rattle.cyp_heap.specs.Chunks.{without}
use Rattle.cyp_measure.specs.Levels.{levels}
use Rattle.cyp_prog.specs.Programs.{Body, Choosing, End, Failing, Giving, Invoking, Loading, Procedure, Statement, Storing, Taking, Then}

-- ---- the measure

-- the number, where there is one, before the others
abbrev pub put_first : Option ℕ → List ℕ → List ℕ
put_first None ns = ns
put_first (Some n) ns = n ∷ ns

-- the number at this place, and then the others in order
abbrev pub led_by : ℕ → List ℕ → List ℕ
led_by i ns = put_first (slice_get ns i) (without ns i)

-- the measure of the numbers of the precondition's instances: with a lead it is that of one tuple, the lead's number before the others
abbrev pub measure : Option ℕ → List ℕ → List ℕ
measure None ns = levels []
measure (Some i) ns = levels (led_by i ns ∷ [])

-- ---- lengths of bodies

abbrev mutual
  -- how many statements a body has, those inside conditionals counted, and each conditional once for its test
  pub body_length : Body → ℕ
  body_length End = 0
  body_length (Then s b) = statement_length s + body_length b

  pub statement_length : Statement → ℕ
  statement_length (Loading v e) = 1
  statement_length (Storing a e) = 1
  statement_length (Taking v n) = 1
  statement_length (Giving e) = 1
  statement_length (Invoking p es) = 1
  statement_length (Choosing c a b) = 1 + body_length a + body_length b
  statement_length Failing = 1

-- the length of the longest body
abbrev pub longest : List Procedure → ℕ
longest [] = 0
longest (p ∷ ps) = max (body_length p.body) (longest ps)

-- ---- the bound

-- the function applied so many times
abbrev pub times : ℕ → (ℕ → ℕ) → ℕ → ℕ
times zero g y = y
times (suc k) g y = times k g (g y)

-- the first number, and 0 where there is none
abbrev pub first_number : List ℕ → ℕ
first_number [] = 0
first_number (n ∷ ns) = n

-- the numbers but the first
abbrev pub later_numbers : List ℕ → List ℕ
later_numbers [] = []
later_numbers (n ∷ ns) = ns

-- The measures are gone through from the first place on. `above z` is what is needed, from z on, at the measures that are less at
-- a place before, and `tail` is the bound once the present place has its number.

-- the number of the present place may fall to each smaller number, and then each later place starts again from z
abbrev pub bound_by_first : ((ℕ → ℕ) → List ℕ → ℕ → ℕ) → ℕ → ℕ → (ℕ → ℕ) → List ℕ → ℕ → ℕ
bound_by_first tail places zero above ms y = tail above ms y
bound_by_first tail places (suc a) above ms y =
    tail (λ z. max (above z) (bound_by_first tail places a above (replicate places z) (suc z))) ms y

-- the bound of so many steps at a measure of so many places
abbrev pub bound_by_places : ℕ → ℕ → (ℕ → ℕ) → List ℕ → ℕ → ℕ
bound_by_places steps zero above m y = times steps (λ z. max (z + 9) (above z)) y
bound_by_places steps (suc places) above m y = bound_by_first (bound_by_places steps places) places (first_number m) above (later_numbers m) y

-- the bound on what a body of so many steps comes to at this measure, from y on. The law of the bound says it in one line
abbrev pub bound : ℕ → List ℕ → ℕ → ℕ
bound steps m y = bound_by_places steps (length m) (λ z. 0) m y

-- the bound for a program at this measure: its longest body and one step more, the return
abbrev pub step_bound : List Procedure → List ℕ → ℕ → ℕ
step_bound ps m y = bound (suc (longest ps)) m y
