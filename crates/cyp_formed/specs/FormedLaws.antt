-- Laws: what is read is formed.
use Rattle.std.specs.Prelude.{IsTrue, List, Ok, ℕ}
use Rattle.cyp_goal.specs.Raw.{IsRegular, is_sorted}
use Rattle.cyp_heap.specs.Formed.{IsFormed}
use Rattle.cyp_heap.specs.PredsFormed.{IsFormedPreds}
use Rattle.cyp_formed.specs.LimitFaults.{is_root_within, root_of}
use Rattle.cyp_formed.specs.Reading.{IsReading}
use Rattle.cyp_names.specs.Specifications.{Specification}

-- a specification that is read has a formed goal, which is within the limits as it is written and in its normal form
abbrev pub ReadIsFormed : Type 0
ReadIsFormed = (bytes : List ℕ) (s : Specification) → IsReading bytes (Ok s) → IsFormed s.preds s.goal × IsTrue (is_root_within s)

-- in a goal that is read no set variable stands in the place of an integer or a cardinality, and no other variable in that of a set
abbrev pub ReadIsSorted : Type 0
ReadIsSorted = (bytes : List ℕ) (s : Specification) → IsReading bytes (Ok s) → IsTrue (is_sorted (root_of s))

-- a goal that is read is as the law of normal forms asks: besides, no part of a set term stands twice in a literal, and no existential in the pure precondition
abbrev pub ReadIsRegular : Type 0
ReadIsRegular = (bytes : List ℕ) (s : Specification) → IsReading bytes (Ok s) → IsRegular (root_of s)

-- the predicates of a specification that is read are formed
abbrev pub ReadPredsAreFormed : Type 0
ReadPredsAreFormed = (bytes : List ℕ) (s : Specification) → IsReading bytes (Ok s) → IsFormedPreds s.preds
