-- Which companions of a derivation are called.
use Rattle.std.specs.Prelude.{◌+◌, ◌==◌, Bool, cond, false, length, suc, ◌||◌, ℕ}
use Rattle.cyp_heap.specs.declared.goal.Node.{Node}
use Rattle.cyp_tree.specs.Derivations.{Derivation, Derivations, Derived, More, NoMore}
use Rattle.cyp_step.specs.declared.rule.Rule.{Rule}
use Rattle.cyp_step.specs.declared.rule.Rule.TheVariants.{ByCall, ByOpen}

-- a derivation of goals
abbrev pub Proof : Type 0
Proof = Derivation Rule Node

-- the derivations of a rule's premises in order
abbrev pub Proofs : Type 0
Proofs = Derivations Rule Node

abbrev mutual
  -- some call names the link
  pub calls : ℕ → Proof → Bool
  calls k (Derived n (ByCall c) ps) = (c.link == k) || calls_in k ps
  calls k (Derived n r ps) = calls_in k ps

  pub calls_in : ℕ → Proofs → Bool
  calls_in k NoMore = false
  calls_in k (More d ds) = calls k d || calls_in k ds

-- the node is a companion, and it is called below
abbrev pub is_called : Node → Rule → Proofs → Bool
is_called n (ByOpen i) ps = calls_in (length n.links) ps
is_called n r ps = false

abbrev mutual
  -- how many called companions there are
  pub called_count : Proof → ℕ
  called_count (Derived n r ps) = cond (is_called n r ps) (suc (called_counts ps)) (called_counts ps)

  pub called_counts : Proofs → ℕ
  called_counts NoMore = 0
  called_counts (More d ds) = called_count d + called_counts ds
