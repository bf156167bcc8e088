-- That a step of a seat kept the rule.
use Rattle.std.specs.Prelude.{ℕ}
use Rattle.cyp_cancel.specs.Words.{Word, IsWord}
use Rattle.cyp_cancel.specs.Views.{WorkerView, Worker, Table}
use Rattle.cyp_cancel.specs.Kinds.{Kind, HasWord, HasView, Makes}
use Rattle.cyp_cancel.specs.Rule.{KeepsRule}

-- a step of this kind led from a table that met the rule to one that meets it, found this word at the worker, and changed the view of the seat that made it from old to new
pub record Kept (kind : Kind) (worker : ℕ) (found : Word) (old new : WorkerView) : Type 0 where
  pub before : Table
  pub after : Table
  pub met : KeepsRule before
  pub meets : KeepsRule after
  pub made : Makes kind before after
  pub read : HasWord before worker found
  pub is_word : IsWord found
  pub seat : ℕ
  pub was : HasView before seat (Worker old)
  pub is : HasView after seat (Worker new)
