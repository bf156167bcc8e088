-- The rule of the words, of a table of atomic words in which each word is kept as its number.
use Rattle.std.specs.Prelude.{◌≡◌, ℕ, List, length, map}
use Rattle.atomic_table.specs.Table.{State}
use Rattle.cyp_cancel.specs.Words.{Word, number_of}
use Rattle.cyp_cancel.specs.Views.{View}
use Rattle.cyp_cancel.specs.Kinds.{AreWords}
use Rattle.cyp_cancel.specs.Rule.{KeepsRule}

-- there are so many words, they are kept as their numbers, and they meet the rule with the views of all seats
pub record Stands {S : Type 0} (count : ℕ) (s : State S View) : Type 0 where
  pub words : List Word
  pub kept : s.words ≡ map number_of words
  pub counted : length words ≡ count
  pub are : AreWords (record { words = words; views = s.views })
  pub rule : KeepsRule (record { words = words; views = s.views })
