-- What is asked of an instance that is unfolded, and the answer for one clause alone.
use Rattle.std.specs.Prelude.{Bool, IsTrue, None, Option, Some, false, nat_lt, true, ◌&&◌, ◌<◌}
use Rattle.std.specs.List.{list_all}
use Rattle.cyp_heap.specs.Formed.{inst_fits}
use Rattle.cyp_heap.specs.declared.chunk.InstOf.{InstOf}
use Rattle.cyp_heap.specs.declared.pred.Preds.{Preds}
use Rattle.cyp_pred.specs.Unfold.{unfold_inst, wide_unfolded}
use Rattle.cyp_pred.specs.declared.unfolded.Next.{Next}
use Rattle.cyp_pred.specs.declared.unfolded.Unfolded.{Unfolded}
use Rattle.cyp_term.specs.Terms.{sort_eq}
use Rattle.cyp_term.specs.declared.term.Sort.TheVariants.{Card}
use Rattle.cyp_term.specs.declared.term.Var.{Var}

-- a cardinality that is there is a variable of sort Card
abbrev pub card_fits : Option Var → Bool
card_fits None = true
card_fits (Some v) = sort_eq v.sort Card

-- the next free numbers are below 256, and so all numbers of new variables are
abbrev pub is_numbered : Next → Bool
is_numbered next = nat_lt next.ints 256 && nat_lt next.cards 256 && nat_lt next.sets 256

-- the instance fits its predicate, its cardinality is one, and there is a next tag and a number for each new variable
pub record CanUnfold (preds : Preds) (i : InstOf) (next : Next) : Type 0 where
  pub fits : IsTrue (inst_fits preds i)
  pub card : IsTrue (card_fits i.card)
  pub tag : i.tag < 255
  pub numbers : IsTrue (list_all (λ (u : Unfolded). is_numbered u.next) (unfold_inst preds i next))

-- there is such an entry, and an offset of it passes 2 ^ 32
abbrev pub wide_entry : Option Unfolded → Bool
wide_entry None = false
wide_entry (Some u) = wide_unfolded u
