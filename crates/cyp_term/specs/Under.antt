-- What a negation and the parts that a substitution gives mean. Each fact is a record, so that callers' proofs meet it closed.
use Rattle.std.specs.Prelude.{◌↔◌, ◌≡◌}
use Rattle.cyp_term.specs.Meaning.{Assignment, SameMembers, Truth, set_value, under, value}
use Rattle.cyp_term.specs.declared.lit.Lit.{Lit}
use Rattle.cyp_term.specs.declared.lit.SetTerm.{SetTerm}
use Rattle.cyp_term.specs.declared.subst.Subst.{Subst}
use Rattle.cyp_term.specs.declared.term.Term.{Term}

-- the second literal is true exactly where the first is false
pub record IsOpposite (l m : Lit) : Type 0 where
  pub turned : (s : Assignment) → Truth s m ↔ (¬ (Truth s l))

-- the second term has in each assignment the value that the first one has under the substitution
pub record ValueUnder (by : Subst) (t u : Term) : Type 0 where
  pub same : (s : Assignment) → value s u ≡ value (under by s) t

-- the second set term stands in each assignment for the set that the first one stands for under the substitution
pub record MembersUnder (by : Subst) (u v : SetTerm) : Type 0 where
  pub same : (s : Assignment) → SameMembers (set_value s v) (set_value (under by s) u)

-- the second literal says of each assignment what the first one says of it under the substitution
pub record TruthUnder (by : Subst) (l m : Lit) : Type 0 where
  pub same : (s : Assignment) → Truth s m ↔ Truth (under by s) l
