-- The parts of Open and Close, as the rules make them one by one.
use Rattle.std.specs.Prelude.{[], ◌&&◌, ◌++◌, ◌-◌, Bool, IfSome, IsTrue, List, None, Option, Some, length, nat_lt, true, ℕ, ◌∷◌, ◌≡◌}
use Rattle.std.specs.List.{list_any}
use Rattle.cyp_heap.specs.Chunks.{put_all, without}
use Rattle.cyp_heap.specs.Formed.{insts_fit, is_card_var}
use Rattle.cyp_heap.specs.declared.chunk.Chunk.{Chunk}
use Rattle.cyp_heap.specs.declared.chunk.Chunk.TheVariants.{Inst}
use Rattle.cyp_heap.specs.declared.chunk.InstOf.{InstOf}
use Rattle.cyp_heap.specs.declared.goal.Goal.{Goal}
use Rattle.cyp_heap.specs.declared.goal.Node.{Node}
use Rattle.cyp_pred.specs.Unfold.{new_ints, new_sets, wide_unfolded}
use Rattle.cyp_pred.specs.declared.unfolded.Next.{Next}
use Rattle.cyp_pred.specs.declared.unfolded.Unfolded.{Unfolded}
use Rattle.cyp_step.specs.Unfolding.{card_terms}
use Rattle.cyp_term.specs.Terms.{set_var, var_term}
use Rattle.cyp_term.specs.declared.subst.IntBind.{IntBind}
use Rattle.cyp_term.specs.declared.subst.SetBind.{SetBind}
use Rattle.cyp_term.specs.declared.term.Term.{Term}
use Rattle.cyp_term.specs.declared.term.Var.{Var}

-- the chunk, where it is an instance
abbrev pub inst_in : Option Chunk → Option InstOf
inst_in (Some (Inst i)) = Some i
inst_in _ = None

-- an instance has a cardinality
abbrev pub HasCard : Chunk → Type 0
HasCard (Inst i) = IsTrue (is_card_var i.card)
HasCard _ = Unit {0}

-- the cardinality of an instance; blocks and cells have none
abbrev pub cards_in : Chunk → List Term
cards_in (Inst i) = card_terms i.card
cards_in _ = []

-- a link and a tag more can be had
abbrev pub has_room : Node → InstOf → Bool
has_room n j = nat_lt (length n.links) 4 && nat_lt j.tag 255

-- the entries, or none where an offset passes 2 ^ 32
abbrev pub AreUnfolded : List Unfolded → Option (List Unfolded) → Type 0
AreUnfolded us (Some vs) = us ≡ vs
AreUnfolded us None = list_any wide_unfolded us ≡ true

-- the entry, or none where there is none or an offset of it passes 2 ^ 32
abbrev pub IsUnfolded : Option Unfolded → Option Unfolded → Type 0
IsUnfolded o (Some u) = o ≡ Some u
IsUnfolded o None = IfSome o (λ u. wide_unfolded u ≡ true)

-- the instances of the raw node fit
abbrev pub HasFits : Node → Type 0
HasFits m = IsTrue (insts_fit m.preds m.goal)

-- a clause's own variables: the numbers that the entry took
abbrev pub own_vars : Next → Next → List Var
own_vars next after = new_ints next.ints (after.ints - next.ints) ++ new_sets next.sets (after.sets - next.sets)

-- the goal after the focus is folded by the clause of this entry
abbrev pub closed_goal : Goal → Next → Unfolded → Goal
closed_goal g next u = record g {
  exist = g.exist ++ own_vars next u.next;
  pure_post = g.pure_post ++ (u.guard ∷ u.lits);
  post = record { chunks = put_all (without g.post.chunks 0) u.heap.chunks };
}

-- the goal after the clause of this entry takes the place of the instance at this place
abbrev pub opened_goal : Goal → ℕ → Unfolded → Goal
opened_goal g i u = record g {
  pure_pre = g.pure_pre ++ (u.guard ∷ u.lits);
  pre = record { chunks = put_all (without g.pre.chunks i) u.heap.chunks };
}

-- the integer variable to itself
abbrev pub same_int : Var → IntBind
same_int v = record { var = v; to = var_term v }

-- the set variable to itself
abbrev pub same_set : Var → SetBind
same_set v = record { var = v; to = set_var v }
